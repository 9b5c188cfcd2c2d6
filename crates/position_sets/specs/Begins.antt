-- Where the strings of patterns begin: position k is at place `base + k`.
use Rattle.std.specs.Prelude.{◌≡◌, ℕ, ◌+◌, ◌↔◌, ◌⊎◌, true, List, [], ◌∷◌}
use Rattle.pattern_data.specs.declared.pattern.Pattern.{Pattern}
use Rattle.pattern_data.specs.Language.{Matches, MatchesInOrder, positions_of}
use Rattle.position_theory.specs.Positions.{count_all, IsFirst, IsFirstInOrder, IsFirstOfOne}
use Rattle.position_sets.specs.declared.begin.Begin.{Begin}
use Rattle.position_sets.specs.Sets.{Has, IsSetOfWords}

-- one of some patterns has the empty string
abbrev pub SomeIsEmpty : List Pattern → Type 0
SomeIsEmpty [] = ⊥
SomeIsEmpty (p ∷ ps) = Matches p [] ⊎ SomeIsEmpty ps

-- the place of one of these positions
abbrev pub IsPlaceOf : (ℕ → Type 0) → ℕ → ℕ → Type 0
IsPlaceOf Of base place = (k : ℕ) × (place ≡ base + k) × Of k

-- the set has the places of the first positions; the flag says whether the empty string is there; the end is the place
-- behind the last position
pub record IsBeginOf (First : ℕ → Type 0) (Empty : Type 0) (count base size : ℕ) (begin : Begin) : Type 0 where
  pub set : IsSetOfWords size begin.first.items
  pub first : (place : ℕ) → Has begin.first.items place ↔ IsPlaceOf First base place
  pub empty : (begin.empty ≡ true) ↔ Empty
  pub end_is : begin.end ≡ base + count

abbrev pub IsBegin : Pattern → ℕ → ℕ → Begin → Type 0
IsBegin p base size begin = IsBeginOf (IsFirst p) (Matches p []) (positions_of p) base size begin

-- of a sequence of patterns
abbrev pub IsBeginInOrder : List Pattern → ℕ → ℕ → Begin → Type 0
IsBeginInOrder ps base size begin = IsBeginOf (IsFirstInOrder ps) (MatchesInOrder ps []) (count_all ps) base size begin

-- of one of some patterns
abbrev pub IsBeginOfOne : List Pattern → ℕ → ℕ → Begin → Type 0
IsBeginOfOne ps base size begin = IsBeginOf (IsFirstOfOne ps) (SomeIsEmpty ps) (count_all ps) base size begin
