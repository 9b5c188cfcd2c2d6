-- The laws of lawful tables.
use Rattle.std.specs.Prelude.{◌≡◌, ◌≢◌, ℕ, Bool, List, ◌++◌, Option, Some}
use Rattle.grammar_data.specs.declared.rule.Sym.{Sym}
use Rattle.grammar_data.specs.declared.token.Token.{Token as TextToken}
use Rattle.grammar_data.specs.Grammar.{Grammar}
use Rattle.grammar_theory.specs.Rules.{IsRule, IsInRange}
use Rattle.grammar_theory.specs.UsefulNames.{AllProductive}
use Rattle.grammar_theory.specs.UselessNames.{AllReachable}
use Rattle.item_theory.specs.Items.{Item}
use Rattle.item_theory.specs.Collections.{IsCollection}
use Rattle.table_data.specs.declared.act.Act.TheVariants.{Reduce, Error}
use Rattle.table_data.specs.Tables.{Tables, act_in, goto_in}
use Rattle.table_theory.specs.Canonical.{AreCanonical}
use Rattle.machine_theory.specs.Machine.{Entry, top, symbols, IsStack, Reduces, Reaches, Settles}
use Rattle.lawful_theory.specs.Lawful.{IsLawfulFor, IsLawful}

-- canonical tables of a grammar with useful names alone are lawful
abbrev pub CanonicalLawfulLaw : Type 0
CanonicalLawfulLaw = (g : Grammar) → IsInRange g → AllProductive g → AllReachable g → (states : ℕ) (has : ℕ → Item → Bool) (step : ℕ → Sym → Option ℕ) (t : Tables) → IsCollection g states has step → AreCanonical g states has step t → IsLawfulFor g t

-- tables are lawful for one grammar at most
abbrev pub OneGrammarLaw : Type 0
OneGrammarLaw = (g h : Grammar) (t : Tables) → IsLawfulFor g t → IsLawfulFor h t → g ≡ h

-- tables that are lawful for a grammar are lawful
abbrev pub LawfulLaw : Type 0
LawfulLaw = (g : Grammar) (t : Tables) → IsLawfulFor g t → IsLawful t

-- the stack fits a reduction by the rule: the symbols on top are the rule's right side, and the state below them goes on
-- along the rule's name
pub record Fits (t : Tables) (s : List Entry) (r : ℕ) : Type 0 where
  pub name : ℕ
  pub right : List Sym
  pub taken : List Entry
  pub rest : List Entry
  pub state : ℕ
  pub rule : IsRule t.rules r name right
  pub parts : s ≡ taken ++ rest
  pub same : symbols taken ≡ right
  pub goes : goto_in t (top 0 rest) name ≡ Some state

-- where the action is a reduction, the stack fits it
abbrev pub FitLaw : Type 0
FitLaw = (g : Grammar) (t : Tables) → IsLawfulFor g t → (s : List Entry) (a r : ℕ) → IsStack t 0 s → act_in t (top 0 s) a ≡ Reduce r → Fits t s r

-- moves keep valid stacks
abbrev pub StacksStayLaw : Type 0
StacksStayLaw = (g : Grammar) (t : Tables) → IsLawfulFor g t → (s last : List Entry) (u v : List TextToken) → IsStack t 0 s → Reaches t 0 s u last v → IsStack t 0 last

-- where the action on a token isn't an error, finitely many reductions lead to a shift of the token or to an acceptance
abbrev pub ReductionsEndLaw : Type 0
ReductionsEndLaw = (g : Grammar) (t : Tables) → IsLawfulFor g t → (s : List Entry) (a : ℕ) → IsStack t 0 s → act_in t (top 0 s) a ≢ Error → Settles t 0 a s

-- no error follows a reduction under the same token
abbrev pub NoLateErrorLaw : Type 0
NoLateErrorLaw = (g : Grammar) (t : Tables) → IsLawfulFor g t → (s next : List Entry) (a : ℕ) → IsStack t 0 s → Reduces t 0 a s next → act_in t (top 0 next) a ≢ Error
