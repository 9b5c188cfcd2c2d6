use Rattle.std.proofs.Common.{Contains, refl, sym, subst, set, true}
use Rattle.std.proofs.lemmas.List.{length-set}
use Rattle.core_theory.specs.Tree.{whole_range}
use Rattle.core_theory.specs.Core.{CoreState}
use Rattle.core_theory.specs.Events.{Finishes}
use Rattle.core_theory.specs.Runs.{Finished}
use Rattle.join_core.specs.declared.held.Held.TheVariants.{NoRange}
use Rattle.join_core.specs.Ranges.{kept_state}
use Rattle.join_core.proofs.KeptLemmas.{kept_after, ends}
use Rattle.join_core.proofs.protocol.Core.finish.Goals as goal

pub invariant_of-self : goal.invariant_of-self
invariant_of-self c =
    let i = c.self.inside in
    let P : CoreState → Type 0 = λ s. Contains s.carried (whole_range s.leaves) in
    kept_after Finished c.self.invariant refl (length-set i.held.items 0 NoRange) (ends c.self.invariant (subst P (sym c.self.view_is) c.requires))

pub returns-clause-finishes : goal.returns-clause-finishes
returns-clause-finishes c =
    let i = c.self.inside in
    let P : CoreState → Type 0 = λ s. Contains s.carried (whole_range s.leaves) in
    let Q : CoreState → Type 0 = λ s. Finishes s (kept_state i.leaves i.counter i.words.items (set i.held.items 0 NoRange) true) in
    subst Q c.self.view_is (ends c.self.invariant (subst P (sym c.self.view_is) c.requires))

pub returns-clause-covered : goal.returns-clause-covered
returns-clause-covered c = (invariant_of-self c).covered
