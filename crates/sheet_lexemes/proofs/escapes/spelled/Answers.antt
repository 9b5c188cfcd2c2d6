use Rattle.std.proofs.Common.{ℕ, List, length, sym, subst}
use Rattle.lexeme_theory.specs.Escapes.{Spells}
use Rattle.sheet_lexemes.proofs.Spelled.{so_far_more, so_far_all, so_far_wrong}
use Rattle.sheet_lexemes.proofs.Steps.{nonempty, empty}
use Rattle.sheet_lexemes.proofs.escapes.spelled.Goals as goal

pub returns-in_default : goal.returns-in_default
returns-in_default c = λ all spells. so_far_wrong c.args.text.now c.loop-left.bytes.items c.loop-left.left.now (nonempty (length c.loop-left.left.now) c.loop-left-test.ensures) (sym c.in_default.ensures.front) c.loop-left.invariant all spells

pub loop-left-preserved : goal.loop-left-preserved
loop-left-preserved c = so_far_more c.args.text.now c.loop-left.bytes.items c.loop-left.left.now c.push.new.self.items c.in-Some.rest.now c.in-Some.byte c.loop-left.invariant (sym c.in-Some.ensures.front) c.in_ok-push.ensures.items

pub returns : goal.returns
returns c =
    let P : List ℕ → Type 0 = λ l. Spells c.args.text.now l in
    subst P (sym c.from_vec.ensures) (so_far_all c.args.text.now c.loop-left.bytes.items c.loop-left.left.now (empty (length c.loop-left.left.now) c.loop-left-test.ensures) c.loop-left.invariant)
