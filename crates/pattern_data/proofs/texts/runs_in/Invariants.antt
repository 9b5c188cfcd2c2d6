use Rattle.std.proofs.Common.{◌≡◌, ◌-◌, reverse}
use Rattle.pattern_data.specs.Texts.{runs_from}
use Rattle.pattern_data.proofs.texts.runs_in.Given as goal

abbrev pub invariant-loop-taken : goal.invariant-loop-taken
invariant-loop-taken l = reverse l.runs.items ≡ runs_from l.set (256 - l.taken) l.taken
