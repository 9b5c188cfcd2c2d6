use Rattle.std.proofs.Common.{◌≡◌, ◌∙◌, ◌+◌, ◌<◌, ◌≤◌, ◌++◌, [], ℕ, List, Bool, Contains, true, false, length, drop, take, set, get_or, refl, sym, append-nil, subst, arith}
use Rattle.grammar_data.specs.declared.token.Token.{Token as TextToken}
use Rattle.lawful_theory.specs.Lawful.{IsLawful}
use Rattle.context_laws.specs.Contexts.{LeadFromStates}
use Rattle.piece_theory.specs.Pieces.{Piece}
use Rattle.bare_theory.specs.Bare.{bares}
use Rattle.use_theory.proofs.KeptLemmas.{kept_none, kept_then}
use Rattle.node_store.specs.Chunks.{store_of}
use Rattle.piece_lists.specs.Lists.{pieces_in, pieces_of}
use Rattle.stack_join.specs.Joining.{IsAtSeam}
use Rattle.stack_join.specs.Putting.{IsPartPut}
use Rattle.stack_join.proofs.AbsorbLemmas.{ArePutTo, all_put, put_next, some_left}
use Rattle.stack_join.proofs.PartLemmas.{bares_split, none_next, part_ahead}
use Rattle.stack_join.proofs.StandingLemmas.{more_then}
use Rattle.stack_join.proofs.absorbing.absorb_all.Goals as goal

pub loop-part-init : goal.loop-part-init
loop-part-init c = record {
  tables = refl;
  base = refl;
  stand = c.requires.stand;
  grows = ([], sym (append-nil c.args.arrows.now.1));
  chunks = refl;
  closed = refl;
  kept = kept_none (store_of c.args.store.now);
  none = refl;
  at = λ front rest w same at. record { left = rest; same = same; at = at };
}

pub absorb_part-requires-clause-lawful : goal.absorb_part-requires-clause-lawful
absorb_part-requires-clause-lawful c = subst IsLawful (sym c.loop-part.invariant.tables) c.requires.lawful

pub absorb_part-requires-clause-lead : goal.absorb_part-requires-clause-lead
absorb_part-requires-clause-lead c = subst (λ t. LeadFromStates t) (sym c.loop-part.invariant.tables) c.requires.lead

pub absorb_part-requires-clause-chunk : goal.absorb_part-requires-clause-chunk
absorb_part-requires-clause-chunk c = subst (λ l. Contains {X = ℕ} l c.args.chunk) (sym c.loop-part.invariant.chunks) c.requires.chunk

-- what the part in turn and those behind it have
pub absorb_part-requires-clause-at : goal.absorb_part-requires-clause-at
absorb_part-requires-clause-at c =
    let front = c.requires.at.0 in
    let rest = c.requires.at.1 in
    let w = c.requires.at.2 in
    let t = c.args.arrows.now.0 in
    let store = store_of c.loop-part.store in
    let maps = c.loop-part.arrows.1 in
    let parts = c.loop-part.parts in
    let i = c.loop-part.part-index in
    let part = get_or parts i c.part-item.result in
    let inside : i < length parts = (let test = c.loop-part-test.true in let long = c.loop-part.auto.parts in omega (arith, test, long)) in
    let left = c.loop-part.invariant.at front rest w c.requires.at.4 c.requires.at.5 in
    let two = bares_split left.left (pieces_of part) (pieces_in (drop (i + 1) parts)) (left.same ∙ part_ahead parts i c.part-item.result inside) in
    let here : IsAtSeam t store maps c.loop-part.leaf front (two.first ++ two.rest) w = subst (λ l. IsAtSeam t store maps c.loop-part.leaf front l w) two.parts left.at in
    let before : IsAtSeam c.loop-part.arrows.0 store maps c.loop-part.leaf front (two.first ++ two.rest) w = subst (λ x. IsAtSeam x store maps c.loop-part.leaf front (two.first ++ two.rest) w) (sym c.loop-part.invariant.tables) here in
    (front, two.first, two.rest, w, c.requires.at.3, two.of_first, before)

-- pieces of the part are left
pub returns-then-not-branch-clause-kept : goal.returns-then-not-branch-clause-kept
returns-then-not-branch-clause-kept c = kept_then (store_of c.args.store.now) (store_of c.loop-part.store) (store_of c.absorb_part.new.store) c.loop-part.invariant.kept c.in_ok-absorb_part.ensures.kept

pub returns-then-not-branch-clause-at : goal.returns-then-not-branch-clause-at
returns-then-not-branch-clause-at c front rest w same at =
    let t = c.args.arrows.now.0 in
    let store = store_of c.loop-part.store in
    let maps = c.loop-part.arrows.1 in
    let parts = c.loop-part.parts in
    let i = c.loop-part.part-index in
    let part = get_or parts i c.part-item.result in
    let inside : i < length parts = (let test = c.loop-part-test.true in let long = c.loop-part.auto.parts in omega (arith, test, long)) in
    let left = c.loop-part.invariant.at front rest w same at in
    let two = bares_split left.left (pieces_of part) (pieces_in (drop (i + 1) parts)) (left.same ∙ part_ahead parts i c.part-item.result inside) in
    let here : IsAtSeam t store maps c.loop-part.leaf front (two.first ++ two.rest) w = subst (λ l. IsAtSeam t store maps c.loop-part.leaf front l w) two.parts left.at in
    let before : IsAtSeam c.loop-part.arrows.0 store maps c.loop-part.leaf front (two.first ++ two.rest) w = subst (λ x. IsAtSeam x store maps c.loop-part.leaf front (two.first ++ two.rest) w) (sym c.loop-part.invariant.tables) here in
    let new = store_of c.absorb_part.new.store in
    let after = c.absorb_part.new.part in
    let put : IsPartPut c.loop-part.arrows.0 new c.absorb_part.new.arrows.1 c.absorb_part.new.leaf front two.rest w after false = subst (λ (b : Bool). IsPartPut c.loop-part.arrows.0 new c.absorb_part.new.arrows.1 c.absorb_part.new.leaf front two.rest w after b) c.if-not-branch.true (c.in_ok-absorb_part.ensures.at front two.first two.rest w two.of_first before) in
    let stuck : IsPartPut t new c.absorb_part.new.arrows.1 c.absorb_part.new.leaf front two.rest w after false = subst (λ x. IsPartPut x new c.absorb_part.new.arrows.1 c.absorb_part.new.leaf front two.rest w after false) c.loop-part.invariant.tables put in
    some_left t new c.absorb_part.new.arrows.1 c.absorb_part.new.leaf front two.rest parts i after w inside c.loop-part.invariant.none two.of_rest stuck

-- all pieces of the part are put on
pub loop-part-preserved : goal.loop-part-preserved
loop-part-preserved c = record {
  tables = c.absorb_part.ensures.tables ∙ c.loop-part.invariant.tables;
  base = c.absorb_part.ensures.base ∙ c.loop-part.invariant.base;
  stand = c.in_ok-absorb_part.ensures.stand;
  grows = more_then c.args.arrows.now.1 c.loop-part.arrows.1 c.absorb_part.new.arrows.1 c.loop-part.invariant.grows c.absorb_part.ensures.grows;
  chunks = c.in_ok-absorb_part.ensures.chunks ∙ c.loop-part.invariant.chunks;
  closed = c.in_ok-absorb_part.ensures.closed ∙ c.loop-part.invariant.closed;
  kept = kept_then (store_of c.args.store.now) (store_of c.loop-part.store) (store_of c.absorb_part.new.store) c.loop-part.invariant.kept c.in_ok-absorb_part.ensures.kept;
  none = none_on;
  at = λ front rest w same at. put_on front rest w same at;
}
  where
    put_all : (front rest : List Piece) (w : List TextToken) → bares rest ≡ pieces_in c.args.parts.now → IsAtSeam c.args.arrows.now.0 (store_of c.args.store.now) c.args.arrows.now.1 c.args.leaf.now front rest w → (later : List Piece) × (bares later ≡ pieces_in (drop (c.loop-part.part-index + 1) c.loop-part.parts)) × IsPartPut c.args.arrows.now.0 (store_of c.absorb_part.new.store) c.absorb_part.new.arrows.1 c.absorb_part.new.leaf front later w c.absorb_part.new.part true
    put_all front rest w same at =
        let t = c.args.arrows.now.0 in
        let store = store_of c.loop-part.store in
        let maps = c.loop-part.arrows.1 in
        let parts = c.loop-part.parts in
        let i = c.loop-part.part-index in
        let part = get_or parts i c.part-item.result in
        let inside : i < length parts = (let test = c.loop-part-test.true in let long = c.loop-part.auto.parts in omega (arith, test, long)) in
        let left = c.loop-part.invariant.at front rest w same at in
        let two = bares_split left.left (pieces_of part) (pieces_in (drop (i + 1) parts)) (left.same ∙ part_ahead parts i c.part-item.result inside) in
        let here : IsAtSeam t store maps c.loop-part.leaf front (two.first ++ two.rest) w = subst (λ l. IsAtSeam t store maps c.loop-part.leaf front l w) two.parts left.at in
        let before : IsAtSeam c.loop-part.arrows.0 store maps c.loop-part.leaf front (two.first ++ two.rest) w = subst (λ x. IsAtSeam x store maps c.loop-part.leaf front (two.first ++ two.rest) w) (sym c.loop-part.invariant.tables) here in
        let new = store_of c.absorb_part.new.store in
        let put : IsPartPut c.loop-part.arrows.0 new c.absorb_part.new.arrows.1 c.absorb_part.new.leaf front two.rest w c.absorb_part.new.part true = subst (λ (b : Bool). IsPartPut c.loop-part.arrows.0 new c.absorb_part.new.arrows.1 c.absorb_part.new.leaf front two.rest w c.absorb_part.new.part b) c.if-not-branch.false (c.in_ok-absorb_part.ensures.at front two.first two.rest w two.of_first before) in
        (two.rest, two.of_rest, subst (λ x. IsPartPut x new c.absorb_part.new.arrows.1 c.absorb_part.new.leaf front two.rest w c.absorb_part.new.part true) c.loop-part.invariant.tables put)

    put_on : (front rest : List Piece) (w : List TextToken) → bares rest ≡ pieces_in c.args.parts.now → IsAtSeam c.args.arrows.now.0 (store_of c.args.store.now) c.args.arrows.now.1 c.args.leaf.now front rest w → ArePutTo c.args.arrows.now.0 (store_of c.absorb_part.new.store) c.absorb_part.new.arrows.1 c.absorb_part.new.leaf front (set c.loop-part.parts c.loop-part.part-index c.absorb_part.new.part) (c.loop-part.part-index + 1) w
    put_on front rest w same at =
        let inside : c.loop-part.part-index < length c.loop-part.parts = (let test = c.loop-part-test.true in let long = c.loop-part.auto.parts in omega (arith, test, long)) in
        let done = put_all front rest w same at in
        put_next c.args.arrows.now.0 (store_of c.absorb_part.new.store) c.absorb_part.new.arrows.1 c.absorb_part.new.leaf front done.0 c.loop-part.parts c.loop-part.part-index c.absorb_part.new.part w inside done.1 done.2

    none_on : pieces_in (take (c.loop-part.part-index + 1) (set c.loop-part.parts c.loop-part.part-index c.absorb_part.new.part)) ≡ []
    none_on =
        let inside : c.loop-part.part-index < length c.loop-part.parts = (let test = c.loop-part-test.true in let long = c.loop-part.auto.parts in omega (arith, test, long)) in
        let done = put_all c.requires.at.0 c.requires.at.1 c.requires.at.2 c.requires.at.4 c.requires.at.5 in
        none_next c.loop-part.parts c.loop-part.part-index c.absorb_part.new.part inside c.loop-part.invariant.none done.2.0

-- and of all parts
pub returns-clause-at : goal.returns-clause-at
returns-clause-at c front rest w same at =
    let past : length c.loop-part.parts ≤ c.loop-part.part-index = (let test = c.loop-part-test.false in let long = c.loop-part.auto.parts in omega (arith, test, long)) in
    all_put c.args.arrows.now.0 (store_of c.loop-part.store) c.loop-part.arrows.1 c.loop-part.leaf front c.loop-part.parts c.loop-part.part-index w past c.loop-part.invariant.none (c.loop-part.invariant.at front rest w same at)
