-- The canonical LR(1) tables: what the items of each state do on each token, and the steps along the names.
-- Source: Knuth, On the Translation of Languages from Left to Right, 1965; Aho and Ullman, The Theory of Parsing,
-- Translation, and Compiling, volume 1, section 5.2.
use Rattle.std.specs.Prelude.{◌≡◌, ℕ, ◌<◌, ◌≤◌, ◌↔◌, Bool, List, Option, Some, None}
use Rattle.grammar_data.specs.declared.rule.Sym.{Sym}
use Rattle.grammar_data.specs.declared.rule.Sym.TheVariants.{Token, Name}
use Rattle.grammar_data.specs.Grammar.{Grammar}
use Rattle.grammar_theory.specs.Rules.{IsInRange, end_mark}
use Rattle.item_theory.specs.Items.{Item, IsValid, IsViable, HasConflict, Deed, Shift as to_shift, Reduce as to_reduce, Accept as to_accept}
use Rattle.item_theory.specs.Search.{walk}
use Rattle.item_theory.specs.Collections.{IsCollection}
use Rattle.table_data.specs.declared.act.Act.{Act}
use Rattle.table_data.specs.declared.act.Act.TheVariants.{Shift, Reduce, Accept, Error}
use Rattle.table_data.specs.Tables.{Tables, act_in, goto_in, step_by}
use Rattle.table_theory.specs.Deeds.{HasDeed, IsIdle}
use Rattle.table_theory.specs.Clashes.{ItemsOf}

-- what an action does; an error is no deed
abbrev pub deed_of : Act → Option Deed
deed_of (Shift p) = Some to_shift
deed_of (Reduce r) = Some (to_reduce r)
deed_of Accept = Some to_accept
deed_of Error = None

-- the action does exactly what some item of the state does on the token, and a shift goes along the step
pub record IsCanonicalAct (g : Grammar) (has : ℕ → Item → Bool) (step : ℕ → Sym → Option ℕ) (q a : ℕ) (act : Act) : Type 0 where
  pub deed : (deed : Deed) → (deed_of act ≡ Some deed) ↔ HasDeed g (ItemsOf has q) a deed
  pub target : (p : ℕ) → act ≡ Shift p → step q (Token a) ≡ Some p

-- the tables are the canonical ones of a collection
pub record AreCanonical (g : Grammar) (states : ℕ) (has : ℕ → Item → Bool) (step : ℕ → Sym → Option ℕ) (t : Tables) : Type 0 where
  pub count : t.states ≡ states
  pub tokens : t.tokens ≡ g.tokens
  pub names : t.names ≡ g.names
  pub rules : t.rules ≡ g.rules
  pub acts : (q a : ℕ) → q < states → a ≤ end_mark g → IsCanonicalAct g has step q a (act_in t q a)
  pub gotos : (q n : ℕ) → q < states → n < g.names → goto_in t q n ≡ step q (Name n)

-- the action is an error exactly where no item of the state does anything on the token
abbrev pub CanonicalErrorLaw : Type 0
CanonicalErrorLaw = (g : Grammar) (has : ℕ → Item → Bool) (step : ℕ → Sym → Option ℕ) (q a : ℕ) (act : Act) → IsCanonicalAct g has step q a act → (act ≡ Error) ↔ IsIdle g (ItemsOf has q) a

-- the items and steps of a state give one action at most on a token
abbrev pub CanonicalOnceLaw : Type 0
CanonicalOnceLaw = (g : Grammar) (has : ℕ → Item → Bool) (step : ℕ → Sym → Option ℕ) (q a : ℕ) (act other : Act) → IsCanonicalAct g has step q a act → IsCanonicalAct g has step q a other → act ≡ other

-- a grammar that has canonical tables has no conflict
abbrev pub NoConflictLaw : Type 0
NoConflictLaw = (g : Grammar) → IsInRange g → (states : ℕ) (has : ℕ → Item → Bool) (step : ℕ → Sym → Option ℕ) (t : Tables) → IsCollection g states has step → AreCanonical g states has step t → HasConflict g → ⊥

-- canonical tables lead from state to state as the collection does
abbrev pub CanonicalStepLaw : Type 0
CanonicalStepLaw = (g : Grammar) → IsInRange g → (states : ℕ) (has : ℕ → Item → Bool) (step : ℕ → Sym → Option ℕ) (t : Tables) → IsCollection g states has step → AreCanonical g states has step t → (q : ℕ) (x : Sym) → q < states → step_by t q x ≡ step q x

-- so a walk by them is the walk by the collection
abbrev pub CanonicalWalkLaw : Type 0
CanonicalWalkLaw = (g : Grammar) → IsInRange g → (states : ℕ) (has : ℕ → Item → Bool) (step : ℕ → Sym → Option ℕ) (t : Tables) → IsCollection g states has step → AreCanonical g states has step t → (xs : List Sym) → walk (step_by t) (Some 0) xs ≡ walk step (Some 0) xs

-- where they lead from state 0 over a list, the state's action on a token is exactly what some item that is valid for the
-- list does on it; beyond the end mark there is nothing of either
abbrev pub CanonicalDeedLaw : Type 0
CanonicalDeedLaw = (g : Grammar) → IsInRange g → (states : ℕ) (has : ℕ → Item → Bool) (step : ℕ → Sym → Option ℕ) (t : Tables) → IsCollection g states has step → AreCanonical g states has step t → (xs : List Sym) (q a : ℕ) → walk (step_by t) (Some 0) xs ≡ Some q → (deed : Deed) → (deed_of (act_in t q a) ≡ Some deed) ↔ HasDeed g (IsValid g xs) a deed

-- a list is a viable prefix exactly where they lead to a state over it
abbrev pub CanonicalViableLaw : Type 0
CanonicalViableLaw = (g : Grammar) → IsInRange g → (states : ℕ) (has : ℕ → Item → Bool) (step : ℕ → Sym → Option ℕ) (t : Tables) → IsCollection g states has step → AreCanonical g states has step t → (xs : List Sym) → IsViable g xs ↔ ((q : ℕ) × (q < states) × (walk (step_by t) (Some 0) xs ≡ Some q))

-- so they lead nowhere over a list exactly where it is none
abbrev pub CanonicalStopLaw : Type 0
CanonicalStopLaw = (g : Grammar) → IsInRange g → (states : ℕ) (has : ℕ → Item → Bool) (step : ℕ → Sym → Option ℕ) (t : Tables) → IsCollection g states has step → AreCanonical g states has step t → (xs : List Sym) → (walk (step_by t) (Some 0) xs ≡ None) ↔ (¬ (IsViable g xs))
