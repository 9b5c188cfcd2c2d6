-- The search of the states of some patterns: each state is found as the set of the positions that a string reaches.
use Rattle.std.specs.Prelude.{◌≡◌, ℕ, ◌+◌, ◌*◌, ◌<◌, ◌≤◌, ◌↔◌, ◌⊎◌, ◌&&◌, false, List, [], ◌∷◌, ◌++◌, length, map, slice_get, Some}
use Rattle.std.specs.Global.{Vec}
use Rattle.pattern_data.specs.declared.pattern.Pattern.{Pattern}
use Rattle.position_theory.specs.Positions.{ReachesOne, count_all}
use Rattle.position_theory.specs.States.{AreBytes, IsAhead}
use Rattle.position_sets.specs.declared.following.Position.{Position}
use Rattle.position_sets.specs.Joints.{AreJoint}
use Rattle.position_sets.specs.Sets.{Has, IsSetOfWords, has_place}
use Rattle.scanning_theory.specs.declared.limits.TheConstants.{PATTERNS, POSITIONS, STATES}
use Rattle.token_patterns.specs.Ahead.{IsMaskOf}
use Rattle.token_patterns.specs.Scanner.{AreSteps, AreEnds, IsEnding}

-- the sets that are kept, as words
abbrev pub words_of : List (Vec ℕ) → List (List ℕ)
words_of keys = map (λ (key : Vec ℕ). key.items) keys

-- the set has the positions that the string reaches
abbrev pub IsSetAfter : List Pattern → List ℕ → List ℕ → Type 0
IsSetAfter patterns set w = (q : ℕ) → Has set q ↔ ReachesOne patterns w q

-- a byte string for each set that was found, the empty one for the first
pub record AreFound (patterns : List Pattern) (size : ℕ) (sets words : List (List ℕ)) : Type 0 where
  pub count : length words ≡ length sets
  pub start : slice_get words 0 ≡ Some []
  pub after : (k : ℕ) (w set : List ℕ) → slice_get words k ≡ Some w → slice_get sets k ≡ Some set → IsSetAfter patterns set w
  pub some : (k : ℕ) (w : List ℕ) → 0 < k → slice_get words k ≡ Some w → (q : ℕ) × ReachesOne patterns w q
  pub bytes : (k : ℕ) (w : List ℕ) → slice_get words k ≡ Some w → AreBytes w
  pub fit : (k : ℕ) (set : List ℕ) → slice_get sets k ≡ Some set → IsSetOfWords size set
  pub once : (i j : ℕ) (set : List ℕ) → slice_get sets i ≡ Some set → slice_get sets j ≡ Some set → i ≡ j

-- the search, with the cells and ends of the states that were looked at
pub record IsSearch (patterns : List Pattern) (size : ℕ) (sets : List (List ℕ)) (cells ends : List ℕ) : Type 0 where
  pub words : List (List ℕ)
  pub found : AreFound patterns size sets words
  pub steps : AreSteps patterns words cells
  pub ends_are : AreEnds patterns words ends

-- what is ahead of a string: what the next byte can be read at, and which patterns end
pub record IsAheadOf (patterns : List Pattern) (w ahead : List ℕ) : Type 0 where
  pub next : (t : ℕ) → t < count_all patterns → Has ahead t ↔ IsAhead patterns w t
  pub ending : (rank : ℕ) → rank < length patterns → Has ahead (count_all patterns + rank) ↔ IsEnding patterns w rank

-- the search while it is at a state
pub record IsSearchAt (patterns : List Pattern) (size : ℕ) (sets : List (List ℕ)) (cells ends : List ℕ) (state : ℕ) (ahead : List ℕ) : Type 0 where
  pub search : IsSearch patterns size sets cells ends
  pub word : List ℕ
  pub at : slice_get search.words state ≡ Some word
  pub is_ahead : IsAheadOf patterns word ahead

-- the set is at this place; it was there, or is put last
abbrev pub IsFoundOrAdded : List ℕ → List (List ℕ) → List (List ℕ) → ℕ → Type 0
IsFoundOrAdded set old new k = ((new ≡ old) × (slice_get old k ≡ Some set)) ⊎ ((new ≡ old ++ set ∷ []) × (k ≡ length old) × ((i : ℕ) → slice_get old i ≡ Some set → ⊥))

-- the set of the places that are in both
pub record IsCommonOf (size : ℕ) (ahead mask set : List ℕ) : Type 0 where
  pub both : (place : ℕ) → has_place set place ≡ (has_place ahead place && has_place mask place)
  pub fit : IsSetOfWords size set
  pub some : (place : ℕ) × Has set place

-- the cell for these places: 0 where there are none, or else the state of their set
abbrev pub IsCell : ℕ → List ℕ → List ℕ → List (List ℕ) → List (List ℕ) → ℕ → Type 0
IsCell size ahead mask old new cell = ((cell ≡ 0) × (new ≡ old) × ((place : ℕ) → (has_place ahead place && has_place mask place) ≡ false))
    ⊎ ((set : List ℕ) × IsCommonOf size ahead mask set × IsFoundOrAdded set old new cell)

-- the set of these places is new, and there are as many states as there may be
pub record IsOneTooMany (size limit : ℕ) (ahead mask : List ℕ) (old : List (List ℕ)) : Type 0 where
  pub set : List ℕ
  pub common : IsCommonOf size ahead mask set
  pub fresh : (i : ℕ) → slice_get old i ≡ Some set → ⊥
  pub full : limit ≤ length old

-- what the search goes by: the positions of the patterns, and which of them read each byte
pub record IsSetting (patterns : List Pattern) (size : ℕ) (positions : List Position) (front : List ℕ) (masks : List (Vec ℕ)) : Type 0 where
  pub joint : AreJoint patterns (count_all patterns) size positions front
  pub masks_are : (byte : ℕ) (mask : Vec ℕ) → slice_get masks byte ≡ Some mask → IsMaskOf positions byte mask.items
  pub mask_sets : (byte : ℕ) (mask : Vec ℕ) → slice_get masks byte ≡ Some mask → IsSetOfWords size mask.items
  pub mask_count : length masks ≡ 256
  pub few_patterns : length patterns ≤ PATTERNS
  pub few_positions : count_all patterns ≤ POSITIONS

-- the search before it looks at a state
pub record IsSearchBefore (patterns : List Pattern) (size : ℕ) (keys : List (Vec ℕ)) (cells ends : List ℕ) (state : ℕ) : Type 0 where
  pub search : IsSearch patterns size (words_of keys) cells ends
  pub cells_are : length cells ≡ 256 * state
  pub ends_count : length ends ≡ state
  pub few : length keys ≤ STATES
