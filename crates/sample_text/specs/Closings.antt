-- Which names are closed, and by which rules, while heights are looked at one after another.
use Rattle.std.specs.Prelude.{◌≡◌, ℕ, suc, ◌<◌, ◌≤◌, List, All, length, slice_index_or, slice_set, Option, Some, None}
use Rattle.grammar_data.specs.declared.rule.Sym.{Sym}
use Rattle.grammar_data.specs.declared.rule.Sym.TheVariants.{Token, Name}
use Rattle.grammar_data.specs.Grammar.{Grammar}
use Rattle.grammar_theory.specs.Rules.{IsRule}
use Rattle.sample_theory.specs.ClosingRules.{Closes, IsClosingRule}
use Rattle.sample_text.specs.declared.closing.Closing.{Closing}

-- what is kept of a name
abbrev pub closing_at : List (Option Closing) → ℕ → Option Closing
closing_at closings n = slice_index_or closings n None

-- the name is closed by trees that are lower
abbrev pub IsClosedBelow : List (Option Closing) → ℕ → ℕ → Type 0
IsClosedBelow closings height n = (c : Closing) × (closing_at closings n ≡ Some c) × (c.height < height)

-- the symbol is a token, or such a name
abbrev pub IsSymbolClosed : List (Option Closing) → ℕ → Sym → Type 0
IsSymbolClosed closings height (Token a) = Unit {0}
IsSymbolClosed closings height (Name n) = IsClosedBelow closings height n

-- what is kept is the closing rule and the least height
pub record IsClosedBy (g : Grammar) (n : ℕ) (c : Closing) : Type 0 where
  pub right : List Sym
  pub closing : IsClosingRule g n c.rule right
  pub least : c.height ≡ suc closing.bound

-- each name that is closed is closed by lower trees
abbrev pub AllAreBelow : List (Option Closing) → ℕ → Type 0
AllAreBelow closings height = (n : ℕ) (c : Closing) → closing_at closings n ≡ Some c → c.height < height

-- the names with lower trees are closed, and of those with trees of this height the ones that have them by one of the
-- first so many rules
pub record IsRound (g : Grammar) (height count : ℕ) (closings : List (Option Closing)) : Type 0 where
  pub size : length closings ≡ g.names
  pub known : (n : ℕ) (c : Closing) → closing_at closings n ≡ Some c → IsClosedBy g n c
  pub within : (n : ℕ) (c : Closing) → closing_at closings n ≡ Some c → c.height ≤ height
  pub unknown : (n r bound : ℕ) (right : List Sym) → closing_at closings n ≡ None → IsRule g.rules r n right → Closes g.rules bound right → height ≤ suc bound
  pub tried : (n r bound : ℕ) (right : List Sym) → closing_at closings n ≡ None → r < count → IsRule g.rules r n right → Closes g.rules bound right → height ≤ bound

-- a rule closes its left side, unless that is closed or a name of its right side isn't
pub data IsTried (height r n : ℕ) (right : List Sym) (closings new : List (Option Closing)) : Type 0 where
  was_closed : (c : Closing) → closing_at closings n ≡ Some c → new ≡ closings → IsTried height r n right closings new
  is_open : ¬ (All (IsSymbolClosed closings height) right) → new ≡ closings → IsTried height r n right closings new
  now_closed : closing_at closings n ≡ None → All (IsSymbolClosed closings height) right → new ≡ slice_set closings n (Some (record { rule = r; height = height })) → IsTried height r n right closings new

-- a name is closed by trees of this height
abbrev pub HasHeight : List (Option Closing) → ℕ → Type 0
HasHeight closings height = (n : ℕ) × (c : Closing) × (closing_at closings n ≡ Some c) × (c.height ≡ height)

-- each name has its closing rule
abbrev pub HaveClosings : Grammar → List (Option Closing) → Type 0
HaveClosings g closings = (n : ℕ) → n < g.names → (c : Closing) × (closing_at closings n ≡ Some c) × IsClosedBy g n c
