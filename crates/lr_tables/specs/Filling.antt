-- How tables are filled, entry after entry and state after state.
use Rattle.std.specs.Prelude.{◌≡◌, ◌≢◌, ℕ, ◌<◌, ◌≤◌, ◌↔◌, ◌⊎◌, Bool, true, false, ◌==◌, ◌&&◌, nat_lt, IsTrue, List, Some, None}
use Rattle.grammar_data.specs.declared.rule.Sym.TheVariants.{Token, Name}
use Rattle.grammar_data.specs.Grammar.{Grammar}
use Rattle.grammar_data.specs.TokenSet.{has_token}
use Rattle.grammar_theory.specs.Rules.{IsInRange, end_mark}
use Rattle.item_theory.specs.Items.{Item, Deed}
use Rattle.collection_data.specs.declared.entry.Entry.{Entry}
use Rattle.collection_data.specs.Collection.{CollectionParts, IsCollectionOf, has_item, state_count, step_in}
use Rattle.table_data.specs.declared.act.Act.{Act}
use Rattle.table_data.specs.declared.act.Act.TheVariants.{Shift, Reduce, Error}
use Rattle.table_data.specs.Tables.{Tables, act_in, goto_in}
use Rattle.table_theory.specs.Deeds.{HasDeed}
use Rattle.table_theory.specs.Clashes.{HasClash, ItemsOf}
use Rattle.table_theory.specs.Canonical.{deed_of, IsCanonicalAct}
use Rattle.lr_tables.specs.EntryDeeds.{HasItem, HaveItem}

-- the tables have the grammar's parts, and a row for each state of its collection
pub record IsSetting (g : Grammar) (c : CollectionParts) (t : Tables) : Type 0 where
  pub range : IsInRange g
  pub collection : IsCollectionOf g c
  pub states : t.states ≡ state_count c
  pub tokens : t.tokens ≡ g.tokens
  pub names : t.names ≡ g.names
  pub rules : t.rules ≡ g.rules

-- there is another action already
abbrev pub IsTaken : Act → Act → Type 0
IsTaken act old = (old ≢ Error) × (old ≢ act)

-- the state got the action on some tokens, where it had it already or erred, and nothing else changed
pub record IsPut (on : ℕ → Bool) (q : ℕ) (act : Act) (old new : Tables) : Type 0 where
  pub has : (a : ℕ) → on a ≡ true → act_in new q a ≡ act
  pub free : (a : ℕ) → on a ≡ true → (act_in old q a ≡ Error) ⊎ (act_in old q a ≡ act)
  pub others : (p a : ℕ) → (p ≢ q) ⊎ (on a ≡ false) → act_in new p a ≡ act_in old p a
  pub rest : new ≡ record old { acts = new.acts }

-- on this token alone
abbrev pub only : ℕ → ℕ → Bool
only a b = b == a

-- on the tokens of a set that are below a bound
abbrev pub below : ℕ → List ℕ → ℕ → Bool
below bound tokens a = nat_lt a bound && has_token tokens a

-- a reduction was put on the tokens of the set below the bound
abbrev pub AreReducesPut : ℕ → List ℕ → ℕ → ℕ → Tables → Tables → Type 0
AreReducesPut bound tokens q r old new = IsPut (below bound tokens) q (Reduce r) old new

-- on one of the tokens there is another action already
abbrev pub IsReduceTaken : ℕ → List ℕ → ℕ → ℕ → Tables → Type 0
IsReduceTaken bound tokens q r old = (a : ℕ) × (a < bound) × IsTrue (has_token tokens a) × IsTaken (Reduce r) (act_in old q a)

-- the shifts of the state lead along its steps
abbrev pub AreShiftsSteps : CollectionParts → ℕ → Tables → Type 0
AreShiftsSteps c q t = (a p : ℕ) → act_in t q a ≡ Shift p → step_in c q (Token a) ≡ Some p

-- the items of the entry are the state's
abbrev pub AreItemsOf : CollectionParts → ℕ → Entry → Type 0
AreItemsOf c q e = (i : Item) → HasItem e i → IsTrue (has_item c q i)

-- what the items of the entry do was added to what the state does
pub record IsEntryPut (g : Grammar) (c : CollectionParts) (e : Entry) (q : ℕ) (old new : Tables) : Type 0 where
  pub has : (a : ℕ) (deed : Deed) → a ≤ end_mark g → HasDeed g (HasItem e) a deed → deed_of (act_in new q a) ≡ Some deed
  pub kept : (a : ℕ) (deed : Deed) → deed_of (act_in old q a) ≡ Some deed → deed_of (act_in new q a) ≡ Some deed
  pub from : (a : ℕ) (deed : Deed) → deed_of (act_in new q a) ≡ Some deed → (deed_of (act_in old q a) ≡ Some deed) ⊎ HasDeed g (HasItem e) a deed
  pub shifts : AreShiftsSteps c q new
  pub others : (p a : ℕ) → p ≢ q → act_in new p a ≡ act_in old p a
  pub rest : new ≡ record old { acts = new.acts }

-- an item of the entry does something else on a token than the state does
abbrev pub IsInTheWay : Grammar → Entry → ℕ → Tables → Type 0
IsInTheWay g e q old = (a : ℕ) × (a ≤ end_mark g) × (deed : Deed) × (other : Deed) × (deed_of (act_in old q a) ≡ Some deed) × HasDeed g (HasItem e) a other × (deed ≢ other)

-- the state does exactly what the items of the entries do
pub record IsRow (g : Grammar) (c : CollectionParts) (entries : List Entry) (q : ℕ) (t : Tables) : Type 0 where
  pub deeds : (a : ℕ) (deed : Deed) → a ≤ end_mark g → (deed_of (act_in t q a) ≡ Some deed) ↔ HasDeed g (HaveItem entries) a deed
  pub shifts : AreShiftsSteps c q t

-- the actions of the state are those of its items, and nothing else changed
pub record AreActsSet (g : Grammar) (c : CollectionParts) (q : ℕ) (old new : Tables) : Type 0 where
  pub acts : (a : ℕ) → a ≤ end_mark g → IsCanonicalAct g (has_item c) (step_in c) q a (act_in new q a)
  pub others : (p a : ℕ) → p ≢ q → act_in new p a ≡ act_in old p a
  pub rest : new ≡ record old { acts = new.acts }

-- two items of the state do different things on a token or on the end mark
abbrev pub HasClashWithin : Grammar → CollectionParts → ℕ → Type 0
HasClashWithin g c q = (a : ℕ) × (a ≤ end_mark g) × HasClash g (ItemsOf (has_item c) q) a

-- the gotos of the state are its steps, and nothing else changed
pub record AreGotosSet (g : Grammar) (c : CollectionParts) (q : ℕ) (old new : Tables) : Type 0 where
  pub gotos : (n : ℕ) → n < g.names → goto_in new q n ≡ step_in c q (Name n)
  pub others : (p n : ℕ) → p ≢ q → goto_in new p n ≡ goto_in old p n
  pub rest : new ≡ record old { gotos = new.gotos }

-- the first rows are those of the collection, and the others are empty
pub record IsFilledTo (g : Grammar) (c : CollectionParts) (k : ℕ) (t : Tables) : Type 0 where
  pub setting : IsSetting g c t
  pub acts : (q a : ℕ) → q < k → a ≤ end_mark g → IsCanonicalAct g (has_item c) (step_in c) q a (act_in t q a)
  pub gotos : (q n : ℕ) → q < k → n < g.names → goto_in t q n ≡ step_in c q (Name n)
  pub errors : (q a : ℕ) → k ≤ q → act_in t q a ≡ Error
  pub empty : (q n : ℕ) → k ≤ q → goto_in t q n ≡ None
