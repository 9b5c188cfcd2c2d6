use Rattle.std.proofs.Common.{[], ◌∷◌, ◌++◌, true, false, take, sym, ap, ◌∙◌, append_assoc, append-nil}
use Rattle.std.specs.Prelude.{is_some}
use Rattle.piece_theory.specs.Pieces.{Fault}
use Rattle.piece_blocks.specs.Faults.{lost}
use Rattle.piece_blocks.proofs.FaultLemmas.{lost_more}
use Rattle.piece_blocks.proofs.faults.add_lost.Goals as goal

pub loop-i-preserved-then-is_some : goal.loop-i-preserved-then-is_some
loop-i-preserved-then-is_some c =
    let so_far = lost (take c.loop-i.i c.args.before.now) c.args.after.now c.args.token.now c.args.index in
    c.loop-i.invariant
    ∙ ap (λ l. c.args.faults.now.items ++ l) (sym (append-nil so_far) ∙ sym (lost_more c.args.after.now c.args.token.now c.args.index c.args.before.now c.loop-i.i c.pair-start.result true c.pair-start.ensures (ap is_some (sym c.target.ensures) ∙ sym c.is_some.ensures ∙ c.if-is_some.true)))

pub loop-i-preserved : goal.loop-i-preserved
loop-i-preserved c =
    let so_far = lost (take c.loop-i.i c.args.before.now) c.args.after.now c.args.token.now c.args.index in
    let fault : Fault = record { start = c.pair-start.result.0; index = c.args.index; token = c.args.token.now; state = c.pair-start.result.1 } in
    c.in_ok-push.ensures.items ∙ ap (λ l. l ++ fault ∷ []) c.loop-i.invariant ∙ append_assoc c.args.faults.now.items so_far (fault ∷ [])
    ∙ ap (λ l. c.args.faults.now.items ++ l) (sym (lost_more c.args.after.now c.args.token.now c.args.index c.args.before.now c.loop-i.i c.pair-start.result false c.pair-start.ensures (ap is_some (sym c.target.ensures) ∙ sym c.is_some.ensures ∙ c.if-is_some.false)))
