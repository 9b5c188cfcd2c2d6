-- What the items of an entry do, as one thing: they have one rule and one dot.
use Rattle.std.specs.Prelude.{◌≡◌, ℕ, ◌<◌, ◌↔◌, IsTrue, List, length, Option, Some, None}
use Rattle.grammar_data.specs.Grammar.{Grammar}
use Rattle.grammar_theory.specs.Rules.{end_mark}
use Rattle.item_theory.specs.Items.{Item, Deed, Does, Shift as to_shift, Reduce as to_reduce, Accept as to_accept}
use Rattle.collection_data.specs.declared.entry.Entry.{Entry}
use Rattle.collection_data.specs.Entries.{entry_has, entries_have}
use Rattle.lr_tables.specs.declared.deed.EntryDeed.{EntryDeed}
use Rattle.lr_tables.specs.declared.deed.EntryDeed.TheVariants.{Shift, Reduce, Accept}

-- the items of an entry
abbrev pub HasItem : Entry → Item → Type 0
HasItem e i = IsTrue (entry_has e i)

-- the items of some entries
abbrev pub HaveItem : List Entry → Item → Type 0
HaveItem entries i = IsTrue (entries_have entries i)

-- the deed of the entry's items
abbrev pub deed_in : EntryDeed → Deed
deed_in (Shift b) = to_shift
deed_in (Reduce r) = to_reduce r
deed_in Accept = to_accept

-- the deed that is known, if one is
abbrev pub known_deed : Option EntryDeed → Option Deed
known_deed None = None
known_deed (Some d) = Some (deed_in d)

-- an item with this lookahead does this deed on this token
abbrev pub IsDone : Grammar → EntryDeed → ℕ → ℕ → Deed → Type 0
IsDone g (Shift b) ahead a deed = (a ≡ b) × (deed ≡ to_shift)
IsDone g (Reduce r) ahead a deed = (ahead ≡ a) × (deed ≡ to_reduce r)
IsDone g Accept ahead a deed = (a ≡ end_mark g) × (deed ≡ to_accept)

-- each item of the entry does exactly this
abbrev pub IsDeedOf : Grammar → Entry → EntryDeed → Type 0
IsDeedOf g e d = (i : Item) → HasItem e i → (a : ℕ) (deed : Deed) → Does g i a deed ↔ IsDone g d i.ahead a deed

-- no item of the entry does anything
abbrev pub IsIdle : Grammar → Entry → Type 0
IsIdle g e = (i : Item) → HasItem e i → (a : ℕ) (deed : Deed) → Does g i a deed → ⊥

-- the token is one of the grammar's, and the rule is the entry's and one of the grammar's
abbrev pub IsDeedIn : Grammar → Entry → EntryDeed → Type 0
IsDeedIn g e (Shift b) = b < g.tokens
IsDeedIn g e (Reduce r) = (r ≡ e.rule) × (r < length g.rules)
IsDeedIn g e Accept = Unit {0}

-- it is done on the token, if it is a shift
abbrev pub IsOn : EntryDeed → ℕ → Type 0
IsOn (Shift b) a = b ≡ a
IsOn (Reduce r) a = Unit {0}
IsOn Accept a = Unit {0}
