-- The positions of some patterns together, of which any one is read. The places behind the positions tell which pattern
-- ends: that of rank k is place `ends + k`.
use Rattle.std.specs.Prelude.{◌≡◌, ℕ, ◌+◌, ◌↔◌, ◌⊎◌, List, length, slice_get, Some}
use Rattle.pattern_data.specs.declared.pattern.Pattern.{Pattern}
use Rattle.pattern_data.specs.Bytes.{IsMember}
use Rattle.position_theory.specs.Positions.{count_all, ReadsAmong, IsFirstOfOne, FollowsInOne, Ends}
use Rattle.position_sets.specs.declared.following.Position.{Position}
use Rattle.position_sets.specs.Sets.{Has, IsSetOfWords}

-- the pattern of this place's rank can end at the position
abbrev pub EndsAt : List Pattern → ℕ → ℕ → ℕ → Type 0
EndsAt patterns ends q place = (rank : ℕ) × (place ≡ ends + rank) × Ends patterns rank q

-- these are the positions of the patterns, with what each reads, and what follows it or ends at it; and the set is that
-- of the first positions
pub record AreJoint (patterns : List Pattern) (ends size : ℕ) (positions : List Position) (front : List ℕ) : Type 0 where
  pub count_is : length positions ≡ count_all patterns
  pub reads : (q : ℕ) (row : Position) → slice_get positions q ≡ Some row → (byte : ℕ) → IsMember row.bytes byte ↔ ReadsAmong patterns q byte
  pub sets : (q : ℕ) (row : Position) → slice_get positions q ≡ Some row → IsSetOfWords size row.next.items
  pub behind : (q : ℕ) (row : Position) → slice_get positions q ≡ Some row → (place : ℕ) → Has row.next.items place ↔ (FollowsInOne patterns q place ⊎ EndsAt patterns ends q place)
  pub front_set : IsSetOfWords size front
  pub front_has : (place : ℕ) → Has front place ↔ IsFirstOfOne patterns place
