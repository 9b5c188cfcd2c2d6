-- The positions of patterns as data: what each reads, and the set of places that follows it. Position k is at place
-- `base + k`. Behind the last positions comes what is ahead, a set of places too.
use Rattle.std.specs.Prelude.{◌≡◌, ℕ, ◌↔◌, ◌⊎◌, List, [], ◌∷◌, ◌++◌, length, slice_get, Some}
use Rattle.pattern_data.specs.declared.pattern.Pattern.{Pattern}
use Rattle.pattern_data.specs.Bytes.{IsMember}
use Rattle.pattern_data.specs.Language.{Matches, MatchesInOrder, positions_of}
use Rattle.position_theory.specs.Positions.{count_all, Reads, ReadsAmong, IsFirst, IsFirstInOrder, IsFirstOfOne, IsLast, IsLastInOrder, IsLastOfOne, Follows, FollowsInOrder, FollowsInOne}
use Rattle.position_sets.specs.declared.following.Position.{Position}
use Rattle.position_sets.specs.Sets.{Has, IsSetOfWords}
use Rattle.position_sets.specs.Begins.{SomeIsEmpty, IsPlaceOf}

-- the place comes behind a position: its position follows, or the position is a last one and the place is ahead
abbrev pub IsBehind : (ℕ → ℕ → Type 0) → (ℕ → Type 0) → (ℕ → Type 0) → ℕ → ℕ → ℕ → Type 0
IsBehind Next Last Ahead base q place = IsPlaceOf (Next q) base place ⊎ (Last q × Ahead place)

-- the place is where the strings and then what is ahead begin
abbrev pub IsFront : (ℕ → Type 0) → Type 0 → (ℕ → Type 0) → ℕ → ℕ → Type 0
IsFront First Empty Ahead base place = IsPlaceOf First base place ⊎ (Empty × Ahead place)

-- these are the positions, with what each reads and what comes behind it; and the set is where all begins
module _ (Reading : ℕ → ℕ → Type 0) (First Last : ℕ → Type 0) (Next : ℕ → ℕ → Type 0) (Empty : Type 0) (count base size : ℕ) (Ahead : ℕ → Type 0) where
  pub record ArePositionsOf (positions : List Position) (front : List ℕ) : Type 0 where
    pub count_is : length positions ≡ count
    pub reads : (q : ℕ) (row : Position) → slice_get positions q ≡ Some row → (byte : ℕ) → IsMember row.bytes byte ↔ Reading q byte
    pub sets : (q : ℕ) (row : Position) → slice_get positions q ≡ Some row → IsSetOfWords size row.next.items
    pub behind : (q : ℕ) (row : Position) → slice_get positions q ≡ Some row → (place : ℕ) → Has row.next.items place ↔ IsBehind Next Last Ahead base q place
    pub front_set : IsSetOfWords size front
    pub front_has : (place : ℕ) → Has front place ↔ IsFront First Empty Ahead base place

abbrev pub ArePositions : Pattern → ℕ → ℕ → (ℕ → Type 0) → List Position → List ℕ → Type 0
ArePositions p base size Ahead positions front = ArePositionsOf (Reads p) (IsFirst p) (IsLast p) (Follows p) (Matches p []) (positions_of p) base size Ahead positions front

-- of a sequence of patterns
abbrev pub ArePositionsInOrder : List Pattern → ℕ → ℕ → (ℕ → Type 0) → List Position → List ℕ → Type 0
ArePositionsInOrder ps base size Ahead positions front = ArePositionsOf (ReadsAmong ps) (IsFirstInOrder ps) (IsLastInOrder ps) (FollowsInOrder ps) (MatchesInOrder ps []) (count_all ps) base size Ahead positions front

-- of one of some patterns
abbrev pub ArePositionsOfOne : List Pattern → ℕ → ℕ → (ℕ → Type 0) → List Position → List ℕ → Type 0
ArePositionsOfOne ps base size Ahead positions front = ArePositionsOf (ReadsAmong ps) (IsFirstOfOne ps) (IsLastOfOne ps) (FollowsInOne ps) (SomeIsEmpty ps) (count_all ps) base size Ahead positions front

-- the positions are put behind those that are there
abbrev pub AddsPositions : Pattern → ℕ → List ℕ → List Position → List Position → List ℕ → Type 0
AddsPositions p size ahead old new front = (more : List Position) × (new ≡ old ++ more) × ArePositions p (length old) size (Has ahead) more front

abbrev pub AddsInOrder : List Pattern → ℕ → List ℕ → List Position → List Position → List ℕ → Type 0
AddsInOrder ps size ahead old new front = (more : List Position) × (new ≡ old ++ more) × ArePositionsInOrder ps (length old) size (Has ahead) more front

abbrev pub AddsOfOne : List Pattern → ℕ → List ℕ → List Position → List Position → List ℕ → Type 0
AddsOfOne ps size ahead old new front = (more : List Position) × (new ≡ old ++ more) × ArePositionsOfOne ps (length old) size (Has ahead) more front

-- one position is put last, which reads these bytes, and behind which comes what is ahead
pub record IsSetAdded (bytes : List ℕ) (size : ℕ) (ahead : List ℕ) (old new : List Position) (front : List ℕ) : Type 0 where
  pub row : Position
  pub added : new ≡ old ++ row ∷ []
  pub bytes_are : row.bytes ≡ bytes
  pub next_is : row.next.items ≡ ahead
  pub front_set : IsSetOfWords size front
  pub front_has : (place : ℕ) → Has front place ↔ (place ≡ length old)
