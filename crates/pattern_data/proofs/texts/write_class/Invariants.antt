use Rattle.std.proofs.Common.{◌≡◌, ◌++◌, take}
use Rattle.std.specs.List.{flat_map}
use Rattle.pattern_data.specs.Texts.{run_text}
use Rattle.pattern_data.proofs.texts.write_class.Given as goal

abbrev pub invariant-loop-run : goal.invariant-loop-run
invariant-loop-run l = l.text.items ≡ l.initial.text.items ++ flat_map run_text (take l.run-index l.runs)
