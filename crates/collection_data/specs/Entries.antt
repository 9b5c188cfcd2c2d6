-- Entries: the items of a set that have one rule and one dot are held together, with the set of their lookaheads.
use Rattle.std.specs.Prelude.{◌≡◌, ℕ, ◌<◌, ◌≤◌, ◌⊎◌, ◌↔◌, Bool, ◌==◌, ◌&&◌, IsTrue, List, length, All, AllPairs, Contains}
use Rattle.std.specs.List.{list_any}
use Rattle.grammar_data.specs.declared.rule.Sym.{Sym}
use Rattle.grammar_data.specs.Grammar.{Grammar}
use Rattle.grammar_data.specs.TokenSet.{IsTokenSet, has_token}
use Rattle.grammar_theory.specs.Rules.{IsRule}
use Rattle.item_theory.specs.Items.{Item, all_rules}
use Rattle.collection_data.specs.declared.entry.Entry.{Entry}

-- the item is one of the entry's
abbrev pub entry_has : Entry → Item → Bool
entry_has e i = (e.rule == i.rule) && ((e.dot == i.dot) && has_token e.ahead i.ahead)

-- the item is one of some entry's
abbrev pub entries_have : List Entry → Item → Bool
entries_have entries i = list_any (λ e. entry_has e i) entries

-- by rule, then by dot
abbrev pub IsEntryBefore : Entry → Entry → Type 0
IsEntryBefore d e = (d.rule < e.rule) ⊎ ((d.rule ≡ e.rule) × (d.dot < e.dot))

-- the entry is of a rule of the grammar, or of the augmented one, with the dot within the right side, and has a
-- lookahead
pub record IsEntry (g : Grammar) (e : Entry) : Type 0 where
  pub name : ℕ
  pub right : List Sym
  pub rule : IsRule (all_rules g) e.rule name right
  pub dot : e.dot ≤ length right
  pub set : IsTokenSet e.ahead
  pub ahead : ℕ
  pub has : IsTrue (has_token e.ahead ahead)

-- each stands once for its rule and dot, rising by rule and then by dot
pub record AreEntries (g : Grammar) (entries : List Entry) : Type 0 where
  pub rising : AllPairs IsEntryBefore entries
  pub each : All (IsEntry g) entries

-- entries have an item exactly where one of them has its rule, its dot and its lookahead
abbrev pub EntriesLaw : Type 0
EntriesLaw = (entries : List Entry) (i : Item) → IsTrue (entries_have entries i) ↔ ((e : Entry) × Contains entries e × (e.rule ≡ i.rule) × (e.dot ≡ i.dot) × IsTrue (has_token e.ahead i.ahead))
