use Rattle.std.proofs.Common.{◌≤◌, length}
use Rattle.grammar_data.specs.declared.rule.Sym.TheVariants.{Token}
use Rattle.table_data.specs.Tables.{step_by}
use Rattle.state_sets.specs.Parts.{AreClassed, pairs_of}
use Rattle.state_sets.specs.Within.{AreWithin}
use Rattle.state_sets.proofs.MakingLemmas.{IsMadeTo}
use Rattle.state_sets.proofs.making.shift_starts.Given as goal

abbrev pub invariant-loop-number : goal.invariant-loop-number
invariant-loop-number l = record {
  classed : AreClassed l.building.starts.items l.building.classes.items l.building.targets.keys;
  made : IsMadeTo (λ q. step_by l.t q (Token l.fn.token)) l.number (pairs_of l.building.starts.items l.building.classes.items l.building.targets.keys);
  within : AreWithin l.t.states (pairs_of l.building.starts.items l.building.classes.items l.building.targets.keys);
  few : length l.building.starts.items ≤ l.number;
}
