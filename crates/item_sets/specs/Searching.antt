-- The search of the states: what is known of the states and the steps while the search stands at a state and a column.
use Rattle.std.specs.Prelude.{◌≡◌, ◌≢◌, ℕ, ◌+◌, ◌*◌, ◌<◌, ◌≤◌, ◌↔◌, ◌⊎◌, ◌==◌, nat_lt, IsTrue, List, [], ◌∷◌, ◌++◌, length, slice_get, All, Option, Some, None}
use Rattle.std.specs.List.{filter}
use Rattle.std.specs.HashMap.{HashMap}
use Rattle.std.specs.Global.{Vec}
use Rattle.grammar_data.specs.declared.rule.Sym.{Sym}
use Rattle.grammar_data.specs.Grammar.{Grammar}
use Rattle.grammar_data.specs.TokenSet.{IsTokenSet, has_token}
use Rattle.item_theory.specs.Items.{Item}
use Rattle.item_theory.specs.Chains.{Closure}
use Rattle.item_theory.specs.Search.{IsSearchedTo}
use Rattle.collection_data.specs.declared.entry.Entry.{Entry}
use Rattle.collection_data.specs.Entries.{entries_have, AreEntries}
use Rattle.collection_data.specs.Rows.{symbol_at, AreRowsOf, AreAllRowsOf}
use Rattle.table_data.specs.declared.limits.TheConstants.{MOST_STATES}
use Rattle.item_sets.specs.declared.spot.Spot.{Spot}
use Rattle.item_sets.specs.Closing.{IsSetting}
use Rattle.item_sets.specs.Layout.{IsClosureOf, IsKernel}
use Rattle.item_sets.specs.Successors.{key_of, AreSuccessors}
use Rattle.item_sets.specs.Found.{state_at}

-- the kernel of a state: the entries with the dot behind a symbol; that of state 0 is empty
abbrev pub kernel_of : List Entry → List Entry
kernel_of entries = filter (λ (e : Entry). nat_lt 0 e.dot) entries

-- entries that are the closure of their kernel, unless that is empty
pub record IsStateSet (g : Grammar) (entries : List Entry) : Type 0 where
  pub are : AreEntries g entries
  pub closed : kernel_of entries ≢ [] → (i : Item) → IsTrue (entries_have entries i) ↔ Closure g (λ j. IsTrue (entries_have (kernel_of entries) j)) i

-- the state has this kernel
abbrev pub HasKernel : List (List Entry) → List Entry → ℕ → Type 0
HasKernel states kernel q = (entries : List Entry) × (slice_get states q ≡ Some entries) × (kernel_of entries ≡ kernel)

-- the map finds the states by the keys of their kernels, and nothing else
abbrev pub FindsStates : {S : Type 0} → HashMap (Vec ℕ) ℕ S → List (List Entry) → Type 0
FindsStates found states = (key : Vec ℕ) (q : ℕ) → (state_at found key.items ≡ Some q) ↔ ((entries : List Entry) × (slice_get states q ≡ Some entries) × (key.items ≡ key_of (kernel_of entries)))

-- no state has the kernel
abbrev pub IsNewKernel : List (List Entry) → List Entry → Type 0
IsNewKernel states kernel = (q : ℕ) → HasKernel states kernel q → ⊥

-- the state has the kernel; it was there, or is put last as the closure of the kernel
abbrev pub IsFoundOrAdded : Grammar → List Entry → List (List Entry) → List (List Entry) → ℕ → Type 0
IsFoundOrAdded g kernel old new q = (HasKernel old kernel q × (new ≡ old)) ⊎ (IsNewKernel old kernel × ((entries : List Entry) × IsClosureOf g kernel entries × (new ≡ old ++ entries ∷ []) × (q ≡ length old)))

-- there is no step where the kernel is empty
abbrev pub IsStepFound : Grammar → List Entry → List (List Entry) → List (List Entry) → Option ℕ → Type 0
IsStepFound g kernel old new None = (kernel ≡ []) × (new ≡ old)
IsStepFound g kernel old new (Some q) = (kernel ≢ []) × IsFoundOrAdded g kernel old new q

-- a kernel whose entries all have the dot behind a symbol
pub record IsStepKernel (g : Grammar) (kernel : List Entry) : Type 0 where
  pub is : IsKernel g kernel
  pub moved : All (λ (e : Entry). 0 < e.dot) kernel

-- the kernels of the successors of some entries, column by column, by a table of the grammar
pub record AreKernelsOf (g : Grammar) (entries : List Entry) (kernels : List (List Entry)) : Type 0 where
  pub rows : List (List Spot)
  pub fronts : List (List Spot)
  pub setting : IsSetting g rows fronts
  pub successors : AreSuccessors rows (g.tokens + g.names) entries kernels

-- a grammar, and the entries of the states of its collection that are found so far
pub record FoundStates : Type 0 where
  pub grammar : Grammar
  pub states : List (List Entry)

-- the table is one of the grammar; no more states are found than there may be, each is a closed set of entries, and the
-- map finds them by their kernels
pub record AreFoundSoFar {S : Type 0} (g : Grammar) (rows fronts : List (List Spot)) (sets : List (List Entry)) (found : HashMap (Vec ℕ) ℕ S) : Type 0 where
  pub setting : IsSetting g rows fronts
  pub few : length sets ≤ MOST_STATES
  pub each : All (IsStateSet g) sets
  pub finds : FindsStates found sets

-- the search stands at a state and a column
pub record IsSearchAt (g : Grammar) (states : List (List Entry)) (steps : List (Option ℕ)) (p column : ℕ) : Type 0 where
  pub words : List (List Sym)
  pub top : List Sym
  pub searched : IsSearchedTo g words p top (symbol_at g column)
  pub rows : AreRowsOf g words states steps
  pub size : length steps ≡ p * (g.tokens + g.names) + column

-- before a state the search stands at its first column, and after the last one it is at its end
pub record IsSearchBefore (g : Grammar) (states : List (List Entry)) (steps : List (Option ℕ)) (p : ℕ) : Type 0 where
  pub within : p < length states → IsSearchAt g states steps p 0
  pub end : p ≡ length states → AreAllRowsOf g states steps

-- the entry is that of the augmented item with the dot in front
pub record IsFirstEntry (g : Grammar) (e : Entry) : Type 0 where
  pub rule : e.rule ≡ length g.rules
  pub dot : e.dot ≡ 0
  pub set : IsTokenSet e.ahead
  pub ahead : (a : ℕ) → has_token e.ahead a ≡ (a == g.tokens)
