use Rattle.first_sets.proofs.RelationLemmas.{IsPushing}
use Rattle.first_sets.proofs.relation.Relation.push_all.Given as goal

abbrev pub invariant-loop-place : goal.invariant-loop-place
invariant-loop-place l = IsPushing l.self.pairs l.key l.place l.fn.values.items l.values.items

abbrev pub decreases-loop-place : goal.decreases-loop-place
decreases-loop-place l = l.place
