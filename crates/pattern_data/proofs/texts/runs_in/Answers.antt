use Rattle.std.proofs.Common.{◌≡◌, ◌-◌, ◌∙◌, reverse, ap, sym, refl}
use Rattle.std.proofs.lemmas.Bool.{false≢true}
use Rattle.pattern_data.specs.Texts.{runs_from, run_before}
use Rattle.pattern_data.proofs.RunLemmas.{runs_taken_in, runs_taken_out}
use Rattle.pattern_data.proofs.texts.runs_in.Goals as goal
use Rattle.pattern_data.proofs.texts.runs_in.Goals.{then-has+in_ok-add, else-has}

pub loop-taken-init : goal.loop-taken-init
unfolding runs_from
loop-taken-init c = ap reverse c.new-runs.ensures.items

pub loop-taken-preserved : goal.loop-taken-preserved
loop-taken-preserved c =
    elim c.if-has.branch [
      | then-has+in_ok-add w ↦ let grown : reverse c.if-has.runs.items ≡ reverse w.add.new.runs.items = ap (λ v. reverse v.items) w.runs-is in
          let added : reverse w.add.new.runs.items ≡ run_before (255 - c.loop-taken.taken) (reverse c.loop-taken.runs.items) = w.in_ok-add.ensures in
          grown ∙ added ∙ ap (run_before (255 - c.loop-taken.taken)) c.loop-taken.invariant
          ∙ sym (runs_taken_in c.args.set.now c.loop-taken.taken (255 - c.loop-taken.taken) c.loop-taken-test.true refl (c.has.ensures.0 w.if-has.true))
      | else-has w ↦ let same : reverse c.if-has.runs.items ≡ reverse c.loop-taken.runs.items = ap (λ v. reverse v.items) w.runs-is in
          same ∙ c.loop-taken.invariant
          ∙ sym (runs_taken_out c.args.set.now c.loop-taken.taken (255 - c.loop-taken.taken) c.loop-taken-test.true refl (λ member. false≢true (sym w.if-has.false ∙ c.has.ensures.1 member)))
    ]
