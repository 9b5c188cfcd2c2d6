-- Lawful tables. Tables are lawful for a grammar with useful names alone where every state is the top of a valid stack,
-- and each valid stack does what the valid items of its symbols do: it is a viable prefix, a step along a symbol exists
-- exactly where the list with that symbol is one, and the action on a token is a shift, a reduction or an acceptance
-- exactly where some valid item does this on the token, so that it is an error exactly where none does anything. The
-- start is the one name whose goto from state 0 is a state that accepts the end mark.
-- Source: Knuth, On the Translation of Languages from Left to Right, 1965; Aho and Ullman, The Theory of Parsing,
-- Translation, and Compiling, volume 1, section 5.2.
use Rattle.std.specs.Prelude.{◌≡◌, ℕ, ◌<◌, ◌↔◌, List, [], ◌∷◌, ◌++◌, Some}
use Rattle.grammar_data.specs.declared.rule.Sym.{Sym}
use Rattle.grammar_data.specs.Grammar.{Grammar}
use Rattle.grammar_theory.specs.Rules.{IsInRange}
use Rattle.grammar_theory.specs.UsefulNames.{AllProductive}
use Rattle.grammar_theory.specs.UselessNames.{AllReachable}
use Rattle.item_theory.specs.Items.{IsValid, IsViable, Deed}
use Rattle.table_data.specs.declared.act.Act.TheVariants.{Accept}
use Rattle.table_data.specs.Tables.{Tables, act_in, goto_in, step_by}
use Rattle.table_theory.specs.Deeds.{HasDeed}
use Rattle.table_theory.specs.Canonical.{deed_of}
use Rattle.machine_theory.specs.Machine.{Entry, top, symbols, IsStack}

-- the tables go from state 0 along the name to a state that accepts the end mark
pub record IsStartOf (t : Tables) (n : ℕ) : Type 0 where
  pub state : ℕ
  pub goes : goto_in t 0 n ≡ Some state
  pub accepts : act_in t state t.tokens ≡ Accept

-- the tables are lawful for this grammar
pub record IsLawfulFor (g : Grammar) (t : Tables) : Type 0 where
  pub tokens : t.tokens ≡ g.tokens
  pub names : t.names ≡ g.names
  pub rules : t.rules ≡ g.rules
  pub range : IsInRange g
  pub productive : AllProductive g
  pub reachable : AllReachable g
  pub start : IsStartOf t g.start
  pub one_start : (n : ℕ) → IsStartOf t n → n ≡ g.start
  pub covered : (q : ℕ) → q < t.states → (s : List Entry) × IsStack t 0 s × (top 0 s ≡ q)
  pub within : (s : List Entry) → IsStack t 0 s → top 0 s < t.states
  pub prefixes : (s : List Entry) → IsStack t 0 s → IsViable g (symbols s)
  pub steps : (s : List Entry) (x : Sym) → IsStack t 0 s → ((p : ℕ) × (step_by t (top 0 s) x ≡ Some p)) ↔ IsViable g (symbols s ++ x ∷ [])
  pub acts : (s : List Entry) (a : ℕ) → IsStack t 0 s → (deed : Deed) → (deed_of (act_in t (top 0 s) a) ≡ Some deed) ↔ HasDeed g (IsValid g (symbols s)) a deed

-- the grammar that has the tables' tokens, names and rules, and this start
abbrev pub grammar_with : Tables → ℕ → Grammar
grammar_with t start = record { tokens = t.tokens; names = t.names; rules = t.rules; start = start }

-- the tables are lawful: for the grammar of their own with some start
abbrev pub IsLawful : Tables → Type 0
IsLawful t = (start : ℕ) × IsLawfulFor (grammar_with t start) t
