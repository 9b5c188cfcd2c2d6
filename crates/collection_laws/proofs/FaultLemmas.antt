-- It is refuted that a grammar has no fault and yet isn't one that has tables: the faults are gone through in their order.
use Rattle.std.proofs.Common.{◌≢◌, ⊎_elim}
use Rattle.grammar_data.specs.Grammar.{Grammar}
use Rattle.grammar_theory.specs.Rules.{IsInRange}
use Rattle.item_theory.specs.Items.{HasConflict}
use Rattle.item_theory.specs.Collections.{HasMoreStates}
use Rattle.grammar_theory.specs.UselessNames.{IsUseful}
use Rattle.grammar_faults.specs.declared.fault.GrammarFault.{GrammarFault}
use Rattle.grammar_faults.specs.declared.fault.GrammarFault.TheVariants.{TooManyStates, Conflict, NoMemory}
use Rattle.grammar_faults.specs.Building.{IsSmall, IsBuildable, IsFaultOf}
use Rattle.table_data.specs.declared.limits.TheConstants.{MOST_STATES}
use Rattle.state_laws.proofs.RefutedLemmas.{decided}
use Rattle.state_laws.proofs.FirstLemmas.{some_conflict}
use Rattle.collection_laws.specs.Laws.{SomeFaultLaw}
use Rattle.collection_laws.proofs.UselessLemmas.{some_useless}

module _ (g : Grammar) (range : IsInRange g) (faultless : (fault : GrammarFault) → fault ≢ NoMemory → ¬ (IsFaultOf g fault)) (unbuildable : ¬ (IsBuildable g)) where
  with_few : IsSmall g → ⊥
  with_few small = decided (HasConflict g) (λ d. ⊎_elim
      (λ conflict. some_conflict g range MOST_STATES small.few conflict
      (λ q a first second is. faultless (Conflict (record { state = q; token = a; first = first; second = second })) (λ e. absurd (cc)) (small, is)))
      (λ free. unbuildable (record { small = small; free = free }))
      d)

  with_useful : IsUseful g → ⊥
  with_useful useful = decided (HasMoreStates g MOST_STATES) (λ d. ⊎_elim
      (λ more. faultless TooManyStates (λ e. absurd (cc)) (useful, more))
      (λ few. with_few (record { useful = useful; few = few }))
      d)

  refuted : ⊥
  refuted = some_useless g with_useful faultless

pub some_fault : SomeFaultLaw
some_fault g range faultless unbuildable = refuted g range faultless unbuildable
