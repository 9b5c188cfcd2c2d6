use Rattle.std.proofs.Common.{sym, subst}
use Rattle.first_sets.specs.NameFacts.{AreFirsts}
use Rattle.first_sets.proofs.FactLemmas.{small_all, facts_of}
use Rattle.first_sets.proofs.analysis.analyse.Goals as goal

pub returns-clause-useful : goal.returns-clause-useful
returns-clause-useful c = record {
  productive = c.in_ok-check_productive.ensures;
  reachable = c.in_ok-check_reachable.ensures;
  small = small_all c.args.grammar.now c.in_ok-sizes.sizes.items c.in_ok-sizes.ensures;
}

pub returns-clause-facts : goal.returns-clause-facts
returns-clause-facts c =
    subst (λ facts. AreFirsts c.args.grammar.now facts) (sym c.new.ensures)
    (facts_of c.args.grammar.now c.in_ok-sets.sets.items c.in_ok-sizes.sizes.items c.in_ok-sizes.ensures c.in_ok-sets.ensures.count c.in_ok-sets.ensures.sets c.in_ok-sets.ensures.tokens)
