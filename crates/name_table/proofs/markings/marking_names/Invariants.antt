use Rattle.std.proofs.Common.{◌≡◌, length}
use Rattle.name_table.specs.Markings.{unmarking}
use Rattle.name_table.proofs.markings.marking_names.Given as goal

abbrev pub invariant-loop : goal.invariant-loop
invariant-loop l = length l.marking.items ≡ l.sheet.grammar.names

abbrev pub decreases-loop : goal.decreases-loop
decreases-loop l = unmarking l.marking.items
