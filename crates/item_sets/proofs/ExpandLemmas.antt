-- The steps from one state: what the kernels of its successors are for the search.
use Rattle.std.proofs.Common.{◌≡◌, ◌≢◌, ℕ, ◌+◌, ◌<◌, ◌≤◌, List, [], ◌∷◌, ◌++◌, length, get_or, slice_get, Option, Some, All, sym, subst, ◌∙◌, arith}
use Rattle.std.proofs.lemmas.Option.{slice_get-get_or}
use Rattle.grammar_data.specs.Grammar.{Grammar}
use Rattle.item_theory.specs.Collections.{HasMoreStates}
use Rattle.collection_data.specs.declared.entry.Entry.{Entry}
use Rattle.item_sets.specs.Successors.{moved_entries}
use Rattle.item_sets.specs.Searching.{AreKernelsOf, IsNewKernel, IsSearchAt, IsStateSet, IsStepFound, IsStepKernel}
use Rattle.item_sets.proofs.StateFinding.{set_at_state}
use Rattle.item_sets.proofs.StepLemmas.{search_step, more_states}
use Rattle.item_sets.proofs.SettingLemmas.{kernel_at, step_kernel}

-- the grammar of the states stays, and so does the state; `here` is where it is now
module _ (g h : Grammar) (same : h ≡ g) (states now : List (List Entry)) (sets : All (IsStateSet h) now) (p : ℕ) (less : p < length states) (here : slice_get now p ≡ slice_get states p)
    (kernels : List (List Entry)) (by : AreKernelsOf g (get_or states p []) kernels) (k : ℕ) (within : k < length kernels) (kernel : List Entry) (is : kernel ≡ get_or kernels k kernel) where
  all : All (IsStateSet g) now
  all = subst (λ (f : Grammar). All (IsStateSet f) now) same sets

  abbrev Set : List Entry
  Set = get_or states p []

  at : slice_get now p ≡ Some Set
  at = here ∙ slice_get-get_or states p [] less

  column : k < g.tokens + g.names
  column = let count = by.successors.count in omega arith

  moved : kernel ≡ moved_entries by.rows k Set
  moved = kernel_at by.rows (g.tokens + g.names) Set kernels by.successors k within kernel is

  pub kernel_of_step : IsStepKernel h kernel
  kernel_of_step =
      subst (λ (f : Grammar). IsStepKernel f kernel) (sym same)
      (step_kernel g by.rows by.fronts by.setting Set (set_at_state g now all p Set at).are k column kernel moved)

  module _ (steps : List (Option ℕ)) (search : IsSearchAt g now steps p k) where
    pub search_on : (new : List (List Entry)) (o : Option ℕ) → IsStepFound h kernel now new o → IsSearchAt g new (steps ++ o ∷ []) p (k + 1)
    search_on new o step =
        search_step g by.rows by.fronts by.setting now all steps p k column search Set at new o (subst (λ (l : List Entry). IsStepFound g l now new o) moved (subst (λ (f : Grammar). IsStepFound f kernel now new o) same step))

    pub too_many : (limit : ℕ) → limit ≤ length now → kernel ≢ [] → IsNewKernel now kernel → HasMoreStates g limit
    too_many limit le some fresh =
        more_states g by.rows by.fronts by.setting now all steps p k column search Set at limit le (subst (λ (l : List Entry). l ≢ []) moved some)
        (subst (λ (l : List Entry). IsNewKernel now l) moved fresh)
