use Rattle.std.proofs.Common.{◌∙◌, ◌+◌, sym, subst}
use Rattle.node_store.specs.Chunks.{store_of}
use Rattle.segment_parser.specs.Settling.{IsBetween, IsLooking}
use Rattle.segment_parser.proofs.HeldLemmas.{grows_then}
use Rattle.segment_parser.proofs.ReadLemmas.{looks_next}
use Rattle.segment_parser.proofs.ReduceLemmas.{at_entry}
use Rattle.segment_parser.proofs.leaf.Leaf.read_all.Goals as goal

pub read-requires-clause-at : goal.read-requires-clause-at
read-requires-clause-at c =
    let tokens = c.args.tokens.now in
    let index = c.loop-index.index in
    let token = c.index-tokens-index.result in
    let looking = looks_next tokens index token c.index-tokens-index.is c.loop-index-test.true c.loop-index.invariant.3 in
    (tokens, index, c.requires.few, subst (λ t. IsLooking t (store_of c.loop-index.store) c.loop-index.arrows.1 c.loop-index.self tokens index token) (sym c.loop-index.invariant.0) looking)

pub loop-index-preserved : goal.loop-index-preserved
loop-index-preserved c =
    let tokens = c.args.tokens.now in
    let index = c.loop-index.index in
    let token = c.index-tokens-index.result in
    let before = c.loop-index.invariant in
    let store = store_of c.read.new.store in
    let looking = looks_next tokens index token c.index-tokens-index.is c.loop-index-test.true before.3 in
    let here : IsLooking c.loop-index.arrows.0 (store_of c.loop-index.store) c.loop-index.arrows.1 c.loop-index.self tokens index token = subst (λ t. IsLooking t (store_of c.loop-index.store) c.loop-index.arrows.1 c.loop-index.self tokens index token) (sym before.0) looking in
    let read : IsBetween c.read.new.arrows.0 store c.read.new.arrows.1 c.read.new.self tokens (index + 1) = subst (λ t. IsBetween t store c.read.new.arrows.1 c.read.new.self tokens (index + 1)) (sym c.read.ensures.tables) (c.in_ok-read.ensures.at tokens index here) in
    let next : IsBetween c.read.new.arrows.0 store c.flush.new.arrows.1 c.flush.new.self tokens (index + 1) = c.in_ok-flush.ensures.between store tokens (index + 1) read in (
      c.flush.ensures.tables ∙ c.read.ensures.tables ∙ before.0,
      grows_then c.args.arrows.now.1 c.read.new.arrows.1 c.flush.new.arrows.1 (grows_then c.args.arrows.now.1 c.loop-index.arrows.1 c.read.new.arrows.1 before.1 c.read.ensures.grows) c.flush.ensures.grows,
      c.in_ok-read.ensures.chunks ∙ before.2,
      subst (λ t. IsBetween t store c.flush.new.arrows.1 c.flush.new.self tokens (index + 1)) (c.read.ensures.tables ∙ before.0) next,
      c.in_ok-flush.ensures.stand,
    )

pub flush-requires-clause-some : goal.flush-requires-clause-some
flush-requires-clause-some c =
    let tokens = c.args.tokens.now in
    let index = c.loop-index.index in
    let token = c.index-tokens-index.result in
    let before = c.loop-index.invariant in
    let looking = looks_next tokens index token c.index-tokens-index.is c.loop-index-test.true before.3 in
    let here : IsLooking c.loop-index.arrows.0 (store_of c.loop-index.store) c.loop-index.arrows.1 c.loop-index.self tokens index token = subst (λ t. IsLooking t (store_of c.loop-index.store) c.loop-index.arrows.1 c.loop-index.self tokens index token) (sym before.0) looking in
    at_entry (c.in_ok-read.ensures.at tokens index here).at

pub flush-requires-clause-maps : goal.flush-requires-clause-maps
flush-requires-clause-maps c =
    let tokens = c.args.tokens.now in
    let index = c.loop-index.index in
    let token = c.index-tokens-index.result in
    let before = c.loop-index.invariant in
    let looking = looks_next tokens index token c.index-tokens-index.is c.loop-index-test.true before.3 in
    let here : IsLooking c.loop-index.arrows.0 (store_of c.loop-index.store) c.loop-index.arrows.1 c.loop-index.self tokens index token = subst (λ t. IsLooking t (store_of c.loop-index.store) c.loop-index.arrows.1 c.loop-index.self tokens index token) (sym before.0) looking in
    (c.in_ok-read.ensures.at tokens index here).at.has
