-- Names known one after another: which symbols count as known, and what the names of right sides are.
use Rattle.std.specs.Prelude.{◌≡◌, ℕ, ◌+◌, ◌≤◌, ◌⊎◌, Bool, true, false, IsTrue, List, length, slice_index_or, slice_set, All, Contains}
use Rattle.grammar_data.specs.declared.rule.Sym.{Sym}
use Rattle.grammar_data.specs.declared.rule.Sym.TheVariants.{Token, Name}
use Rattle.grammar_data.specs.Grammar.{Rule, Grammar}
use Rattle.grammar_theory.specs.Rules.{IsRule}
use Rattle.grammar_theory.specs.UsefulNames.{IsProductive}
use Rattle.grammar_theory.specs.EmptyNames.{IsNullable}
use Rattle.first_sets.specs.declared.known_names.Lists.{Lists}
use Rattle.first_sets.specs.declared.known_names.Lists.TheVariants.{Any, Empty}
use Rattle.first_sets.specs.Relations.{HasPair}

-- the name derives a token list of this kind: any, or the empty one
abbrev pub HasList : Grammar → Lists → ℕ → Type 0
HasList g Any n = IsProductive g n
HasList g Empty n = IsNullable g n

abbrev pub is_known : List Bool → ℕ → Bool
is_known known n = slice_index_or known n false

-- a token counts as known where any list will do
abbrev pub IsKnownSymbol : List Bool → Lists → Sym → Type 0
IsKnownSymbol known lists (Token a) = lists ≡ Any
IsKnownSymbol known lists (Name n) = IsTrue (is_known known n)

-- the names of right sides, each with the number of the rule
pub record AreUses (rules : List Rule) (pairs : List (ℕ × ℕ)) : Type 0 where
  pub every : (r n m : ℕ) (right : List Sym) → IsRule rules r n right → Contains right (Name m) → HasPair pairs m r
  pub only : (m r : ℕ) → HasPair pairs m r → (n : ℕ) × (right : List Sym) × IsRule rules r n right × Contains right (Name m)

-- left sides, each with the names of its right sides
pub record AreMentions (rules : List Rule) (pairs : List (ℕ × ℕ)) : Type 0 where
  pub every : (r n m : ℕ) (right : List Sym) → IsRule rules r n right → Contains right (Name m) → HasPair pairs n m
  pub only : (n m : ℕ) → HasPair pairs n m → (r : ℕ) × (right : List Sym) × IsRule rules r n right × Contains right (Name m)

-- the names of the right side were put to a list's end, each with this number
pub record HasNamesOf (right : List Sym) (number : ℕ) (old new : List (ℕ × ℕ)) : Type 0 where
  pub kept : (n k : ℕ) → HasPair old n k → HasPair new n k
  pub added : (n : ℕ) → Contains right (Name n) → HasPair new n number
  pub only : (n k : ℕ) → HasPair new n k → HasPair old n k ⊎ ((k ≡ number) × Contains right (Name n))
  pub few : length new ≤ length old + length right

-- the rule's left side is known where all symbols of its right side are
abbrev pub IsClosedAt : List Rule → ℕ → Lists → List Bool → Type 0
IsClosedAt rules r lists known = (n : ℕ) (right : List Sym) → IsRule rules r n right → All (IsKnownSymbol known lists) right → IsTrue (is_known known n)

-- the rule's left side was not known, and is now, since all symbols of its right side are
pub record IsMarkedBy (rules : List Rule) (r : ℕ) (lists : Lists) (old new : List Bool) : Type 0 where
  pub left : ℕ
  pub right : List Sym
  pub rule : IsRule rules r left right
  pub known : All (IsKnownSymbol old lists) right
  pub unknown : is_known old left ≡ false
  pub marked : new ≡ slice_set old left true
