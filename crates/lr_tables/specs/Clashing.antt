-- The least items of some entries that act on a token, and that do something else on it than is known.
use Rattle.std.specs.Prelude.{◌≡◌, ◌≢◌, ℕ, ◌<◌, false, IsTrue, List, Option, Some}
use Rattle.grammar_data.specs.Grammar.{Grammar}
use Rattle.grammar_data.specs.TokenSet.{has_token}
use Rattle.item_theory.specs.Items.{Item, Deed, Does}
use Rattle.collection_data.specs.declared.entry.Entry.{Entry}
use Rattle.table_theory.specs.Deeds.{IsItemUpTo, IsLeastToAct, IsLeastToDiffer}
use Rattle.lr_tables.specs.declared.deed.EntryDeed.{EntryDeed}
use Rattle.lr_tables.specs.declared.deed.EntryDeed.TheVariants.{Shift, Reduce, Accept}
use Rattle.lr_tables.specs.EntryDeeds.{HaveItem, IsOn, deed_in, known_deed}

-- the token is the least of the set
pub record IsLeastToken (tokens : List ℕ) (a : ℕ) : Type 0 where
  pub has : IsTrue (has_token tokens a)
  pub first : (b : ℕ) → b < a → has_token tokens b ≡ false

-- the lookahead with which the entry's least item acts on the token
abbrev pub IsLeastAhead : Entry → EntryDeed → ℕ → ℕ → Type 0
IsLeastAhead e (Shift b) a ahead = IsLeastToken e.ahead ahead
IsLeastAhead e (Reduce r) a ahead = ahead ≡ a
IsLeastAhead e Accept a ahead = IsLeastToken e.ahead ahead

-- no item does anything else on the token than what is known
abbrev pub HasNoneBeside : Grammar → List Entry → ℕ → Option EntryDeed → Type 0
HasNoneBeside g entries a known = (i : Item) (deed : Deed) → HaveItem entries i → Does g i a deed → known_deed known ≢ Some deed → ⊥

-- the least item that does something else on the token
pub record IsLeastBeside (g : Grammar) (entries : List Entry) (a : ℕ) (known : Option EntryDeed) (item : Item) (deed : EntryDeed) : Type 0 where
  pub on : IsOn deed a
  pub has : HaveItem entries item
  pub does : Does g item a (deed_in deed)
  pub differs : known_deed known ≢ Some (deed_in deed)
  pub least : (i : Item) (other : Deed) → HaveItem entries i → Does g i a other → known_deed known ≢ Some other → IsItemUpTo item i

-- the least item that acts on the token, and the least whose deed on it is another
pub record IsClashOn (g : Grammar) (entries : List Entry) (a : ℕ) (first second : Item) : Type 0 where
  pub deed : Deed
  pub other : Deed
  pub first_has : HaveItem entries first
  pub second_has : HaveItem entries second
  pub first_does : Does g first a deed
  pub second_does : Does g second a other
  pub differ : deed ≢ other
  pub least_first : IsLeastToAct g (HaveItem entries) a first
  pub least_second : IsLeastToDiffer g (HaveItem entries) a deed second
