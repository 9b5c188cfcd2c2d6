-- How a closure is laid out: rule by rule the entry with the dot in front, and then those of the kernel.
use Rattle.std.specs.Prelude.{◌≡◌, ◌≢◌, ℕ, suc, ◌<◌, ◌≤◌, ◌↔◌, ◌⊎◌, false, IsTrue, List, [], ◌∷◌, ◌++◌, length, drop, slice_index_or, All}
use Rattle.grammar_data.specs.Grammar.{Grammar}
use Rattle.grammar_data.specs.TokenSet.{has_token}
use Rattle.item_theory.specs.Items.{Item}
use Rattle.item_theory.specs.Chains.{Closure}
use Rattle.collection_data.specs.declared.entry.Entry.{Entry}
use Rattle.collection_data.specs.Entries.{entries_have, AreEntries}
use Rattle.item_sets.specs.Closing.{IsOpenedItem}

-- each entry has its dot behind a symbol, or is of the augmented rule
pub record IsKernel (g : Grammar) (kernel : List Entry) : Type 0 where
  pub entries : AreEntries g kernel
  pub moved : All (λ (e : Entry). (0 < e.dot) ⊎ (e.rule ≡ length g.rules)) kernel

-- the entries are those of the kernel's closure
pub record IsClosureOf (g : Grammar) (kernel entries : List Entry) : Type 0 where
  pub are : AreEntries g entries
  pub have : (i : Item) → IsTrue (entries_have entries i) ↔ Closure g (λ j. IsTrue (entries_have kernel j)) i

-- the entry of the rule with the dot in front
abbrev pub front_entry : ℕ → List ℕ → Entry
front_entry r ahead = record { rule = r; dot = 0; ahead = ahead }

-- it is put last where it has a lookahead
abbrev pub IsFrontLaid : ℕ → List ℕ → List Entry → List Entry → Type 0
IsFrontLaid r ahead old new = (((a : ℕ) × IsTrue (has_token ahead a)) × (new ≡ old ++ front_entry r ahead ∷ [])) ⊎ (((a : ℕ) → has_token ahead a ≡ false) × (new ≡ old))

-- the kernel's entries of the rule, from a place on, are put last; the next of the kernel is of another rule
pub record IsMovedLaid (r : ℕ) (kernel : List Entry) (at : ℕ) (old : List Entry) (next : ℕ) (new : List Entry) : Type 0 where
  pub on : at ≤ next
  pub within : next ≤ length kernel
  pub same : new ++ drop next kernel ≡ old ++ drop at kernel
  pub below : All (λ (e : Entry). e.rule < suc r) old → All (λ (e : Entry). e.rule < suc r) new
  pub other : (d : Entry) → next < length kernel → (slice_index_or kernel next d).rule ≢ r

-- what is laid out and what is left of the kernel have the kernel's items and those of the first rules that are opened
pub record IsLaid (g : Grammar) (kernel : List Entry) (aheads : List (List ℕ)) (done left next : ℕ) (entries : List Entry) : Type 0 where
  pub within : next ≤ length kernel
  pub whole : AreEntries g (entries ++ drop next kernel)
  pub old : (i : Item) → IsTrue (entries_have kernel i) → IsTrue (entries_have (entries ++ drop next kernel) i)
  pub opened : (i : Item) → i.rule < done → IsOpenedItem g aheads i → IsTrue (entries_have (entries ++ drop next kernel) i)
  pub only : (i : Item) → IsTrue (entries_have (entries ++ drop next kernel) i) → IsTrue (entries_have kernel i) ⊎ IsOpenedItem g aheads i
  pub below : All (λ (e : Entry). e.rule < done) entries
  pub above : All (λ (e : Entry). left ≤ e.rule) (drop next kernel)

-- the entries have exactly the kernel's items and those that are opened
pub record IsLaidOut (g : Grammar) (kernel : List Entry) (aheads : List (List ℕ)) (entries : List Entry) : Type 0 where
  pub are : AreEntries g entries
  pub old : (i : Item) → IsTrue (entries_have kernel i) → IsTrue (entries_have entries i)
  pub opened : (i : Item) → IsOpenedItem g aheads i → IsTrue (entries_have entries i)
  pub only : (i : Item) → IsTrue (entries_have entries i) → IsTrue (entries_have kernel i) ⊎ IsOpenedItem g aheads i
