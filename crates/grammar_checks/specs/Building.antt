-- What `build_grammar` answers: the canonical collection and the canonical tables of a grammar that has no fault. The tables
-- are lawful for the grammar, since its names are all productive and reachable.
use Rattle.grammar_data.specs.Grammar.{Grammar}
use Rattle.lawful_theory.specs.Lawful.{IsLawfulFor}
use Rattle.grammar_faults.specs.Building.{IsBuildable, AreBuiltOf}
use Rattle.grammar_checks.specs.declared.building.Built.{Built}

pub record IsBuilt (g : Grammar) (built : Built) : Type 0 where
  pub buildable : IsBuildable g
  pub parts : AreBuiltOf g built.collection built.tables
  pub lawful : IsLawfulFor g built.tables
