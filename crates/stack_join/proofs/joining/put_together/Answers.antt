use Rattle.std.proofs.Common.{◌∙◌, ◌+◌, ◌≤◌, ◌++◌, [], length, refl, sym, ap, append-nil, subst, arith}
use Rattle.std.proofs.lemmas.List.{length-append}
use Rattle.bare_theory.specs.Bare.{AreBarePiecesOf}
use Rattle.lr_base.specs.declared.limits.TheConstants.{TEXT_BYTES}
use Rattle.use_theory.proofs.KeptLemmas.{kept_none}
use Rattle.node_store.specs.Chunks.{store_of}
use Rattle.piece_lists.specs.declared.part.Part.{Part}
use Rattle.piece_lists.specs.Lists.{pieces_in}
use Rattle.stack_join.proofs.BeginLemmas.{begun, ended, left_alone, right_alone}
use Rattle.stack_join.proofs.PartLemmas.{some_last}
use Rattle.stack_join.proofs.joining.put_together.Goals as goal

-- the right list has no piece
pub returns-then-not-has_piece-clause-grows : goal.returns-then-not-has_piece-clause-grows
returns-then-not-has_piece-clause-grows c = ([], sym (append-nil c.args.arrows.now.1))

pub returns-then-not-has_piece-clause-kept : goal.returns-then-not-has_piece-clause-kept
returns-then-not-has_piece-clause-kept c = kept_none (store_of c.args.store.now)

pub returns-then-not-has_piece-clause-pieces : goal.returns-then-not-has_piece-clause-pieces
returns-then-not-has_piece-clause-pieces c first second tokens more unites left right =
    let t = c.args.arrows.now.0 in
    let store = store_of c.args.store.now in
    let none = c.has_piece.ensures.none c.if-not-has_piece.true in
    let nothing : AreBarePiecesOf t second [] more = subst (λ l. AreBarePiecesOf t second l more) none right in
    subst (λ l. AreBarePiecesOf t store l (tokens ++ more)) (sym (ap (λ l. pieces_in c.args.parts.now.items ++ l) none ∙ append-nil (pieces_in c.args.parts.now.items))) (left_alone t first second store (pieces_in c.args.parts.now.items) tokens more unites left nothing)

pub returns-then-not-has_piece-clause-empty : goal.returns-then-not-has_piece-clause-empty
returns-then-not-has_piece-clause-empty c = (
  λ none. ap (λ l. l ++ pieces_in c.args.others.now) none,
  λ none. ap (λ l. pieces_in c.args.parts.now.items ++ l) none ∙ append-nil (pieces_in c.args.parts.now.items),
)

-- the left list has no piece
pub returns-in_default-clause-grows : goal.returns-in_default-clause-grows
returns-in_default-clause-grows c = ([], sym (append-nil c.args.arrows.now.1))

pub returns-in_default-clause-kept : goal.returns-in_default-clause-kept
returns-in_default-clause-kept c = kept_none (store_of c.args.store.now)

pub returns-in_default-clause-pieces : goal.returns-in_default-clause-pieces
returns-in_default-clause-pieces c first second tokens more unites left right =
    let t = c.args.arrows.now.0 in
    let store = store_of c.args.store.now in
    let none = c.in_default.ensures.none in
    let nothing : AreBarePiecesOf t first [] tokens = subst (λ l. AreBarePiecesOf t first l tokens) none.0 left in
    subst (λ l. AreBarePiecesOf t store (pieces_in l ++ pieces_in c.args.others.now) (tokens ++ more)) (sym none.1) (right_alone t first second store (pieces_in c.args.others.now) tokens more unites nothing right)

pub returns-in_default-clause-empty : goal.returns-in_default-clause-empty
returns-in_default-clause-empty c = (
  λ none. ap (λ l. pieces_in l ++ pieces_in c.args.others.now) c.in_default.ensures.none.1,
  λ none. ap (λ l. pieces_in l ++ pieces_in c.args.others.now) c.in_default.ensures.none.1 ∙ none ∙ sym c.in_default.ensures.none.0,
)

-- both have pieces
pub absorb-requires-clause-at : goal.absorb-requires-clause-at
absorb-requires-clause-at c =
    let t = c.args.arrows.now.0 in
    let first = c.requires.pieces.0 in
    let second = c.requires.pieces.1 in
    let tokens = c.requires.pieces.2 in
    let more = c.requires.pieces.3 in
    let found = c.in-Some.ensures.some in
    let begin = begun t first second (store_of c.args.store.now) (pieces_in c.args.parts.now.items) (pieces_in c.args.others.now) c.last_part.new.parts.items c.in-Some.part tokens more c.requires.pieces.5 found.1 found.0 c.requires.pieces.6 c.requires.pieces.7 in
    let few : length tokens + length more ≤ TEXT_BYTES = c.requires.pieces.4 in
    let long : length (tokens ++ more) ≤ TEXT_BYTES = omega (arith, few, length-append tokens more) in
    (begin.front, begin.last, begin.rest, begin.lower, tokens ++ more, long, begin.closed, begin.same_rest, begin.seam)

pub returns-clause-pieces : goal.returns-clause-pieces
returns-clause-pieces c first second tokens more unites left right =
    let t = c.args.arrows.now.0 in
    let found = c.in-Some.ensures.some in
    let before = c.last_part.new.parts.items in
    let after : Part = record { block = c.in_ok-block.block; skipped = c.in-Some.part.skipped } in
    let begin = begun t first second (store_of c.args.store.now) (pieces_in c.args.parts.now.items) (pieces_in c.args.others.now) before c.in-Some.part tokens more unites found.1 found.0 left right in
    let absorbed = c.in_ok-block.ensures.pieces begin.front begin.last begin.rest begin.lower (tokens ++ more) begin.closed begin.same_rest begin.seam in
    subst (λ l. AreBarePiecesOf t (store_of c.absorb.new.store) (pieces_in l ++ pieces_in c.absorb.new.parts) (tokens ++ more)) (sym c.in_ok-push.ensures.items) (ended t (store_of c.args.store.now) (store_of c.absorb.new.store) before c.in-Some.part after (pieces_in c.args.others.now) c.absorb.new.parts (tokens ++ more) begin refl absorbed)

pub returns-clause-empty : goal.returns-clause-empty
returns-clause-empty c = (
  λ none. absurd (some_last c.last_part.new.parts.items c.in-Some.part c.in-Some.ensures.some.1 (sym c.in-Some.ensures.some.0 ∙ none)),
  λ none. absurd (c.has_piece.ensures.some c.if-not-has_piece.false none),
)
