use Rattle.std.proofs.Common.{take, length, ◌≤◌}
use Rattle.lr_base.specs.IsGrammar.{symbols_of}
use Rattle.first_sets.specs.Openings.{AreOpenings}
use Rattle.first_sets.proofs.opening.openings_of.Given as goal

abbrev pub invariant-loop-rule : goal.invariant-loop-rule
invariant-loop-rule l = record {
  openings : AreOpenings l.nullable (take l.rule-index l.grammar.rules) l.openings.items;
  few : length l.openings.items ≤ symbols_of (take l.rule-index l.grammar.rules);
}
