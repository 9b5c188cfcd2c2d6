-- What is chosen for a name, and what the choices are made from.
use Rattle.std.specs.Prelude.{◌≡◌, ℕ, suc, ◌<◌, ◌≤◌, List, length, slice_get, Option, Some}
use Rattle.std.specs.Global.{Vec}
use Rattle.grammar_data.specs.declared.rule.Sym.{Sym}
use Rattle.grammar_data.specs.Grammar.{Grammar}
use Rattle.grammar_theory.specs.Rules.{IsRule}
use Rattle.sample_theory.specs.ClosingRules.{IsClosingRule}
use Rattle.sample_text.specs.declared.closing.Closing.{Closing}
use Rattle.sample_text.specs.Closings.{HaveClosings}
use Rattle.sample_theory.specs.Choices.{picked, rules_of, IsDrawn}

-- a list of rules for each name, in the order of their numbers, and its closing rule
pub record CanChoose (g : Grammar) (lists : List (Vec ℕ)) (closings : List (Option Closing)) : Type 0 where
  pub count : length lists ≡ g.names
  pub lists_are : (n : ℕ) (list : Vec ℕ) → slice_get lists n ≡ Some list → list.items ≡ rules_of g.rules n
  pub closing_count : length closings ≡ g.names
  pub closings_are : HaveClosings g closings

-- the number picks this rule, with this right side, among the rules of the name
pub record IsPicked (g : Grammar) (n x r : ℕ) (right : List Sym) : Type 0 where
  pub rule : IsRule g.rules r n right
  pub here : slice_get (rules_of g.rules n) (picked x (length (rules_of g.rules n))) ≡ Some r

-- the rule that is chosen for the name where so many choices were drawn, and how many are drawn then
pub data IsChoice (g : Grammar) (from size drawn n r : ℕ) (now : ℕ) : Type 0 where
  is_drawn : {right : List Sym} → drawn < size → now ≡ suc drawn → IsDrawn g from drawn n r right → IsChoice g from size drawn n r now
  is_closed : {right : List Sym} → size ≤ drawn → now ≡ drawn → IsClosingRule g n r right → IsChoice g from size drawn n r now
