use Rattle.std.proofs.Common.{◌≡◌, ◌∙◌, ◌≤◌, ◌+◌, ◌++◌, ◌∷◌, [], ℕ, List, Bool, Contains, length, drop, true, false, refl, sym, ap, append-nil, subst, arith}
use Rattle.std.proofs.Math.ListN.{drop_of_length-le}
use Rattle.lawful_theory.specs.Lawful.{IsLawful}
use Rattle.context_laws.specs.Contexts.{LeadFromStates}
use Rattle.use_theory.proofs.KeptLemmas.{kept_none, kept_then}
use Rattle.grammar_data.specs.declared.token.Token.{Token as TextToken}
use Rattle.piece_theory.specs.Pieces.{Piece}
use Rattle.bare_theory.specs.Bare.{bares}
use Rattle.piece_lists.specs.Lists.{pieces_of}
use Rattle.node_store.specs.Chunks.{store_of}
use Rattle.piece_blocks.specs.Blocks.{Filling}
use Rattle.stack_join.specs.Joining.{IsAtSeam}
use Rattle.stack_join.specs.Putting.{IsPut}
use Rattle.stack_join.proofs.StandingLemmas.{more_then}
use Rattle.stack_join.proofs.PartLemmas.{next_piece, none_left, read_piece}
use Rattle.stack_join.proofs.absorbing.absorb_part.Goals as goal

pub loop-index-init : goal.loop-index-init
loop-index-init c = record {
  tables = refl;
  base = refl;
  stand = c.requires.stand;
  grows = ([], sym (append-nil c.args.arrows.now.1));
  chunks = refl;
  closed = refl;
  kept = kept_none (store_of c.args.store.now);
  block = refl;
  skipped = refl;
  at = λ front pieces rest w same at. (pieces, same, at);
}

pub put-requires-clause-lawful : goal.put-requires-clause-lawful
put-requires-clause-lawful c = subst IsLawful (sym c.loop-index.invariant.tables) c.requires.lawful

pub put-requires-clause-lead : goal.put-requires-clause-lead
put-requires-clause-lead c = subst (λ t. LeadFromStates t) (sym c.loop-index.invariant.tables) c.requires.lead

pub put-requires-clause-chunk : goal.put-requires-clause-chunk
put-requires-clause-chunk c = subst (λ l. Contains {X = ℕ} l c.args.chunk) (sym c.loop-index.invariant.chunks) c.requires.chunk

pub put-requires-clause-at : goal.put-requires-clause-at
put-requires-clause-at c =
    let front = c.requires.at.0 in
    let pieces = c.requires.at.1 in
    let rest = c.requires.at.2 in
    let w = c.requires.at.3 in
    let same = c.requires.at.5 in
    let at = c.requires.at.6 in
    let closed = c.loop-index.part.block.closed in
    let i = c.loop-index.index in
    let same_block : closed ≡ c.args.part.now.block.closed = ap (λ (b : Filling). b.closed) c.loop-index.invariant.block in
    let left = c.loop-index.invariant.at front pieces rest w same at in
    let test = c.loop-index-test.true in
    let long = c.count-index-end.ensures in
    let count = ap length same_block in
    let next = next_piece closed i left.0 (omega (arith, test, long, count)) (left.1 ∙ ap (λ l. drop i l) (sym same_block)) in
    let is = next.is ∙ read_piece closed i c.first.ensures c.tokens.ensures c.floors.ensures c.kids.ensures in
    let here : IsAtSeam c.args.arrows.now.0 (store_of c.loop-index.store) c.loop-index.arrows.1 c.loop-index.leaf front (next.piece ∷ (next.later ++ rest)) w = subst (λ l. IsAtSeam c.args.arrows.now.0 (store_of c.loop-index.store) c.loop-index.arrows.1 c.loop-index.leaf front (l ++ rest) w) next.parts left.2 in
    let before : IsAtSeam c.loop-index.arrows.0 (store_of c.loop-index.store) c.loop-index.arrows.1 c.loop-index.leaf front (next.piece ∷ (next.later ++ rest)) w = subst (λ x. IsAtSeam x (store_of c.loop-index.store) c.loop-index.arrows.1 c.loop-index.leaf front (next.piece ∷ (next.later ++ rest)) w) (sym c.loop-index.invariant.tables) here in
    (front, next.piece, next.later ++ rest, w, c.requires.at.4, is, before)

pub returns-then-not-is_put-clause-kept : goal.returns-then-not-is_put-clause-kept
returns-then-not-is_put-clause-kept c = kept_then (store_of c.args.store.now) (store_of c.loop-index.store) (store_of c.put.new.store) c.loop-index.invariant.kept c.in_ok-is_put.ensures.kept

pub returns-then-not-is_put-clause-at : goal.returns-then-not-is_put-clause-at
returns-then-not-is_put-clause-at c front pieces rest w same at =
    let closed = c.loop-index.part.block.closed in
    let i = c.loop-index.index in
    let same_block : closed ≡ c.args.part.now.block.closed = ap (λ (b : Filling). b.closed) c.loop-index.invariant.block in
    let left = c.loop-index.invariant.at front pieces rest w same at in
    let test = c.loop-index-test.true in
    let long = c.count-index-end.ensures in
    let count = ap length same_block in
    let next = next_piece closed i left.0 (omega (arith, test, long, count)) (left.1 ∙ ap (λ l. drop i l) (sym same_block)) in
    let is = next.is ∙ read_piece closed i c.first.ensures c.tokens.ensures c.floors.ensures c.kids.ensures in
    let here : IsAtSeam c.args.arrows.now.0 (store_of c.loop-index.store) c.loop-index.arrows.1 c.loop-index.leaf front (next.piece ∷ (next.later ++ rest)) w = subst (λ l. IsAtSeam c.args.arrows.now.0 (store_of c.loop-index.store) c.loop-index.arrows.1 c.loop-index.leaf front (l ++ rest) w) next.parts left.2 in
    let before : IsAtSeam c.loop-index.arrows.0 (store_of c.loop-index.store) c.loop-index.arrows.1 c.loop-index.leaf front (next.piece ∷ (next.later ++ rest)) w = subst (λ x. IsAtSeam x (store_of c.loop-index.store) c.loop-index.arrows.1 c.loop-index.leaf front (next.piece ∷ (next.later ++ rest)) w) (sym c.loop-index.invariant.tables) here in
    let after : IsPut c.loop-index.arrows.0 (store_of c.put.new.store) c.put.new.arrows.1 c.put.new.leaf front next.piece (next.later ++ rest) w false = subst (λ (b : Bool). IsPut c.loop-index.arrows.0 (store_of c.put.new.store) c.put.new.arrows.1 c.put.new.leaf front next.piece (next.later ++ rest) w b) c.if-not-is_put.true (c.in_ok-is_put.ensures.at front next.piece (next.later ++ rest) w is before) in
    let stuck : IsPut c.args.arrows.now.0 (store_of c.put.new.store) c.put.new.arrows.1 c.put.new.leaf front next.piece (next.later ++ rest) w false = subst (λ x. IsPut x (store_of c.put.new.store) c.put.new.arrows.1 c.put.new.leaf front next.piece (next.later ++ rest) w false) c.loop-index.invariant.tables after in
    record {
      right = next.piece;
      others = next.later;
      same = ap bares (sym next.parts) ∙ left.1 ∙ ap (λ l. drop i l) (sym same_block) ∙ ap (λ n. drop n closed) (sym c.loop-index.invariant.skipped);
      at = stuck.0;
      stuck = stuck.1;
    }

pub loop-index-preserved : goal.loop-index-preserved
loop-index-preserved c = record {
  tables = c.put.ensures.tables ∙ c.loop-index.invariant.tables;
  base = c.put.ensures.base ∙ c.loop-index.invariant.base;
  stand = c.in_ok-is_put.ensures.stand;
  grows = more_then c.args.arrows.now.1 c.loop-index.arrows.1 c.put.new.arrows.1 c.loop-index.invariant.grows c.put.ensures.grows;
  chunks = c.in_ok-is_put.ensures.chunks ∙ c.loop-index.invariant.chunks;
  closed = c.in_ok-is_put.ensures.closed ∙ c.loop-index.invariant.closed;
  kept = kept_then (store_of c.args.store.now) (store_of c.loop-index.store) (store_of c.put.new.store) c.loop-index.invariant.kept c.in_ok-is_put.ensures.kept;
  block = c.loop-index.invariant.block;
  skipped = refl;
  at = λ front pieces rest w same at. put_on front pieces rest w same at;
}
  where
    put_on : (front pieces rest : List Piece) (w : List TextToken) → bares pieces ≡ pieces_of c.args.part.now → IsAtSeam c.args.arrows.now.0 (store_of c.args.store.now) c.args.arrows.now.1 c.args.leaf.now front (pieces ++ rest) w → (left : List Piece) × (bares left ≡ drop (c.loop-index.index + 1) c.args.part.now.block.closed) × IsAtSeam c.args.arrows.now.0 (store_of c.put.new.store) c.put.new.arrows.1 c.put.new.leaf front (left ++ rest) w
    put_on front pieces rest w same at =
        let closed = c.loop-index.part.block.closed in
        let i = c.loop-index.index in
        let same_block : closed ≡ c.args.part.now.block.closed = ap (λ (b : Filling). b.closed) c.loop-index.invariant.block in
        let left = c.loop-index.invariant.at front pieces rest w same at in
        let test = c.loop-index-test.true in
        let long = c.count-index-end.ensures in
        let count = ap length same_block in
        let next = next_piece closed i left.0 (omega (arith, test, long, count)) (left.1 ∙ ap (λ l. drop i l) (sym same_block)) in
        let is = next.is ∙ read_piece closed i c.first.ensures c.tokens.ensures c.floors.ensures c.kids.ensures in
        let here : IsAtSeam c.args.arrows.now.0 (store_of c.loop-index.store) c.loop-index.arrows.1 c.loop-index.leaf front (next.piece ∷ (next.later ++ rest)) w = subst (λ l. IsAtSeam c.args.arrows.now.0 (store_of c.loop-index.store) c.loop-index.arrows.1 c.loop-index.leaf front (l ++ rest) w) next.parts left.2 in
        let before : IsAtSeam c.loop-index.arrows.0 (store_of c.loop-index.store) c.loop-index.arrows.1 c.loop-index.leaf front (next.piece ∷ (next.later ++ rest)) w = subst (λ x. IsAtSeam x (store_of c.loop-index.store) c.loop-index.arrows.1 c.loop-index.leaf front (next.piece ∷ (next.later ++ rest)) w) (sym c.loop-index.invariant.tables) here in
        let after : IsPut c.loop-index.arrows.0 (store_of c.put.new.store) c.put.new.arrows.1 c.put.new.leaf front next.piece (next.later ++ rest) w true = subst (λ (b : Bool). IsPut c.loop-index.arrows.0 (store_of c.put.new.store) c.put.new.arrows.1 c.put.new.leaf front next.piece (next.later ++ rest) w b) c.if-not-is_put.false (c.in_ok-is_put.ensures.at front next.piece (next.later ++ rest) w is before) in
        (next.later, next.rest ∙ ap (λ l. drop (c.loop-index.index + 1) l) same_block, subst (λ x. IsAtSeam x (store_of c.put.new.store) c.put.new.arrows.1 c.put.new.leaf front (next.later ++ rest) w) c.loop-index.invariant.tables after)

pub returns-clause-at : goal.returns-clause-at
returns-clause-at c front pieces rest w same at =
    let closed = c.loop-index.part.block.closed in
    let i = c.loop-index.index in
    let same_block : closed ≡ c.args.part.now.block.closed = ap (λ (b : Filling). b.closed) c.loop-index.invariant.block in
    let left = c.loop-index.invariant.at front pieces rest w same at in
    let test = c.loop-index-test.false in
    let long = c.count-index-end.ensures in
    let count = ap length same_block in
    let past : length closed ≤ i = omega (arith, test, long, count) in
    let none = none_left closed i left.0 past (left.1 ∙ ap (λ l. drop i l) (sym same_block)) in
    (ap (λ n. drop n closed) c.loop-index.invariant.skipped ∙ drop_of_length-le closed past, subst (λ l. IsAtSeam c.args.arrows.now.0 (store_of c.loop-index.store) c.loop-index.arrows.1 c.loop-index.leaf front (l ++ rest) w) none left.2)
