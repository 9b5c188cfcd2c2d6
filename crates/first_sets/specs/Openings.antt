-- What stands first in right sides: their symbols behind nullable names alone, with the rule's left side.
use Rattle.std.specs.Prelude.{◌≡◌, ℕ, ◌+◌, ◌<◌, ◌≤◌, ◌↔◌, ◌⊎◌, Bool, true, false, IsTrue, List, [], length, take, slice_get, slice_index_or, slice_set, All, Contains, Some}
use Rattle.grammar_data.specs.declared.rule.Sym.{Sym}
use Rattle.grammar_data.specs.declared.rule.Sym.TheVariants.{Token, Name}
use Rattle.grammar_data.specs.Grammar.{Rule, Grammar}
use Rattle.lr_base.specs.IsGrammar.{IsSymbolOf}
use Rattle.grammar_data.specs.TokenSet.{IsTokenSet, has_token}
use Rattle.grammar_theory.specs.FirstTokens.{FirstHas}
use Rattle.grammar_theory.specs.Rules.{IsRule}
use Rattle.first_sets.specs.declared.known_names.Lists.TheVariants.{Empty}
use Rattle.first_sets.specs.declared.opening.Opening.{Opening}
use Rattle.first_sets.specs.Relations.{HasPair}
use Rattle.first_sets.specs.KnownNames.{IsKnownSymbol}

-- the symbol stands in the list behind nullable names alone
abbrev pub IsVisible : List Bool → List Sym → Sym → Type 0
IsVisible nullable xs x = (k : ℕ) × (k < length xs) × (slice_index_or xs k x ≡ x) × All (IsKnownSymbol nullable Empty) (take k xs)

abbrev pub opening : ℕ → Sym → Opening
opening n x = record { left = n; symbol = x }

-- the openings of a right side were put to a list's end
pub record HasOpeningsOf (nullable : List Bool) (left : ℕ) (right : List Sym) (old new : List Opening) : Type 0 where
  pub kept : (o : Opening) → Contains old o → Contains new o
  pub added : (x : Sym) → IsVisible nullable right x → Contains new (opening left x)
  pub only : (o : Opening) → Contains new o → Contains old o ⊎ ((o.left ≡ left) × IsVisible nullable right o.symbol)
  pub few : length new ≤ length old + length right

-- the openings of all right sides
pub record AreOpenings (nullable : List Bool) (rules : List Rule) (openings : List Opening) : Type 0 where
  pub every : (r n : ℕ) (right : List Sym) (x : Sym) → IsRule rules r n right → IsVisible nullable right x → Contains openings (opening n x)
  pub only : (o : Opening) → Contains openings o → (r : ℕ) × (right : List Sym) × IsRule rules r o.left right × IsVisible nullable right o.symbol

-- the places of openings, with the name that each has as its symbol
pub record AreReaders (openings : List Opening) (pairs : List (ℕ × ℕ)) : Type 0 where
  pub every : (k m : ℕ) (o : Opening) → slice_get openings k ≡ Some o → o.symbol ≡ Name m → HasPair pairs m k
  pub only : (m k : ℕ) → HasPair pairs m k → (o : Opening) × (slice_get openings k ≡ Some o) × (o.symbol ≡ Name m)

abbrev pub set_at : List (List ℕ) → ℕ → List ℕ
set_at sets n = slice_index_or sets n []

-- the symbol begins with the token, by sets of first tokens
abbrev pub Begins : List (List ℕ) → Sym → ℕ → Type 0
Begins sets (Token c) a = a ≡ c
Begins sets (Name m) a = IsTrue (has_token (set_at sets m) a)

-- the left side has each token that the symbol begins with
abbrev pub IsFilled : List (List ℕ) → Opening → Type 0
IsFilled sets o = (a : ℕ) → Begins sets o.symbol a → IsTrue (has_token (set_at sets o.left) a)

-- the left side's set got the symbol's tokens, one of which was new
pub record IsFilledBy (o : Opening) (old new : List (List ℕ)) : Type 0 where
  pub tokens : List ℕ
  pub changed : new ≡ slice_set old o.left tokens
  pub members : (a : ℕ) → IsTrue (has_token tokens a) ↔ (IsTrue (has_token (set_at old o.left) a) ⊎ Begins old o.symbol a)
  pub token : ℕ
  pub small : token < 256
  pub absent : has_token (set_at old o.left) token ≡ false
  pub present : has_token tokens token ≡ true
  pub is_set : IsTokenSet tokens

-- the opening's names are below the bound, and its token below 256
pub record IsOpeningOf (bound : ℕ) (o : Opening) : Type 0 where
  pub left : o.left < bound
  pub symbol : IsSymbolOf 256 bound o.symbol

-- the symbol begins with the token, by the grammar's first tokens
abbrev pub BeginsIn : Grammar → Sym → ℕ → Type 0
BeginsIn g (Token c) a = a ≡ c
BeginsIn g (Name m) a = FirstHas g m a

-- what an opening's symbol begins with, its left side begins with too
abbrev pub PassesOn : Grammar → List Opening → Type 0
PassesOn g openings = (o : Opening) → Contains openings o → (a : ℕ) → BeginsIn g o.symbol a → FirstHas g o.left a
