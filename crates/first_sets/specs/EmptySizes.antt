-- Empty sizes, found in rounds; 0 stands for a name that has none yet.
use Rattle.std.specs.Prelude.{◌≡◌, ℕ, suc, ◌<◌, ◌⊎◌, Bool, false, IsTrue, List, length, slice_index, slice_set, All, Contains, Option, Some, None}
use Rattle.grammar_data.specs.declared.rule.Sym.{Sym}
use Rattle.grammar_data.specs.declared.rule.Sym.TheVariants.{Token, Name}
use Rattle.grammar_data.specs.Grammar.{Rule, Grammar}
use Rattle.grammar_theory.specs.Rules.{IsRule}
use Rattle.grammar_theory.specs.EmptyNames.{AddsUp, HasRightSide}
use Rattle.first_sets.specs.declared.known_names.Lists.TheVariants.{Empty}
use Rattle.first_sets.specs.NameFacts.{size_of}
use Rattle.first_sets.specs.KnownNames.{IsKnownSymbol, is_known}

abbrev pub size_in : List ℕ → ℕ → Option ℕ
size_in sizes n = size_of (slice_index sizes n)

abbrev pub symbol_size_in : List ℕ → Sym → ℕ
symbol_size_in sizes (Token a) = 0
symbol_size_in sizes (Name n) = slice_index sizes n

-- the numbers of the rules whose right sides are nullable names alone
pub record AreEmptyRules (rules : List Rule) (nullable : List Bool) (numbers : List ℕ) : Type 0 where
  pub every : (r n : ℕ) (right : List Sym) → IsRule rules r n right → All (IsKnownSymbol nullable Empty) right → Contains numbers r
  pub only : (r : ℕ) → Contains numbers r → r < length rules

-- each nullable name below the bound has a size
abbrev pub AreSized : List Bool → List ℕ → ℕ → Type 0
AreSized nullable sizes bound = (n : ℕ) → n < bound → IsTrue (is_known nullable n) → 0 < slice_index sizes n

-- the name is the least nullable one with no size
pub record IsLeastUnsized (nullable : List Bool) (sizes : List ℕ) (n : ℕ) : Type 0 where
  pub name : n < length nullable
  pub vanishing : IsTrue (is_known nullable n)
  pub unsized : slice_index sizes n ≡ 0
  pub least : AreSized nullable sizes n

-- all below the number are known
abbrev pub AreKnownBelow : List Bool → ℕ → Type 0
AreKnownBelow known bound = (n : ℕ) → n < bound → IsTrue (is_known known n)

-- the name is the least that isn't known
pub record IsLeastUnknown (known : List Bool) (n : ℕ) : Type 0 where
  pub name : n < length known
  pub unknown : is_known known n ≡ false
  pub least : AreKnownBelow known n

-- where the rule's left side has no size, and the sizes of its right side add up to the total, it got one more than
-- the total; else nothing changed
abbrev pub IsSizedBy : List Rule → ℕ → ℕ → List ℕ → List ℕ → Type 0
IsSizedBy rules r total old new = (n : ℕ) (right : List Sym) → IsRule rules r n right →
    ((slice_index old n ≡ 0) × AddsUp (size_in old) right total × (new ≡ slice_set old n (suc total)))
    ⊎ ((¬ ((slice_index old n ≡ 0) × AddsUp (size_in old) right total)) × (new ≡ old))

-- what a round over these rules leaves: what was sized stays, and the unsized left sides whose right sides add up to the
-- total got one more than it
pub record IsRound (g : Grammar) (numbers : List ℕ) (total : ℕ) (old new : List ℕ) : Type 0 where
  pub kept : (n j : ℕ) → size_in old n ≡ Some j → size_in new n ≡ Some j
  pub added : (r n : ℕ) (right : List Sym) → Contains numbers r → IsRule g.rules r n right → size_in old n ≡ None → AddsUp (size_in old) right total → size_in new n ≡ Some (suc total)
  pub from : (n j : ℕ) → size_in new n ≡ Some j → (size_in old n ≡ Some j) ⊎ ((j ≡ suc total) × (size_in old n ≡ None) × HasRightSide g (size_in old) n total)
