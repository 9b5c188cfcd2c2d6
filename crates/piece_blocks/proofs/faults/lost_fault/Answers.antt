use Rattle.std.proofs.Common.{rules, ◌≡◌, true, false, Some, None, refl, sym, ap, ◌∙◌}
use Rattle.std.specs.Prelude.{is_some}
use Rattle.map_theory.specs.Maps.{target}
use Rattle.piece_blocks.proofs.FaultLemmas.{found_as}
use Rattle.piece_blocks.proofs.faults.lost_fault.Goals as goal

pub returns-then-is_some : goal.returns-then-is_some
returns-then-is_some c = found_as c.args.after.now c.args.token c.args.index c.args.before.now c.args.start true (target c.args.before.now c.args.start) (ap is_some (sym c.target.ensures) ∙ sym c.is_some.ensures ∙ c.if-is_some.true) refl

pub returns-in_err-state : goal.returns-in_err-state
returns-in_err-state c =
    let none : c.from_residual.result ≡ None = search rules in
    none ∙ found_as c.args.after.now c.args.token c.args.index c.args.before.now c.args.start false None (ap is_some (sym c.target.ensures) ∙ sym c.is_some.ensures ∙ c.if-is_some.false) (sym c.in_err-state.ensures)

pub returns : goal.returns
returns c = found_as c.args.after.now c.args.token c.args.index c.args.before.now c.args.start false (Some c.in_ok-state.state) (ap is_some (sym c.target.ensures) ∙ sym c.is_some.ensures ∙ c.if-is_some.false) (sym c.in_ok-state.ensures)
