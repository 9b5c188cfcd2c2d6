-- The states of a joint scanner. The set of a byte string, with some patterns, is that of the positions of the patterns
-- that the string reaches. The states are the start, at which no byte is read, and the sets of non-empty strings, each
-- set that isn't empty once.
use Rattle.std.specs.Prelude.{◌≡◌, ◌≢◌, ℕ, ◌+◌, ◌<◌, ◌↔◌, ◌⊎◌, List, [], ◌∷◌, ◌++◌, length, drop, slice_get, Some, All}
use Rattle.pattern_data.specs.declared.pattern.Pattern.{Pattern}
use Rattle.pattern_data.specs.Language.{Matches}
use Rattle.position_theory.specs.Positions.{ReachesOne, IsFirstOfOne, FollowsInOne, ReadsAmong, Ends}

-- both strings reach the same positions
abbrev pub HaveSameSet : List Pattern → List ℕ → List ℕ → Type 0
HaveSameSet patterns u v = (q : ℕ) → ReachesOne patterns u q ↔ ReachesOne patterns v q

-- a string of bytes
abbrev pub AreBytes : List ℕ → Type 0
AreBytes w = All (λ byte. byte < 256) w

-- byte strings of which each reaches some position, and of which no two have the same set
pub record HaveDifferentSets (patterns : List Pattern) (words : List (List ℕ)) : Type 0 where
  pub bytes : (i : ℕ) (w : List ℕ) → slice_get words i ≡ Some w → AreBytes w
  pub some : (i : ℕ) (w : List ℕ) → slice_get words i ≡ Some w → (q : ℕ) × ReachesOne patterns w q
  pub different : (i j : ℕ) (u v : List ℕ) → i < j → slice_get words i ≡ Some u → slice_get words j ≡ Some v → ¬ (HaveSameSet patterns u v)

-- there are more states than this: the start, and one for each of these strings
abbrev pub HasMoreStates : List Pattern → ℕ → Type 0
HasMoreStates patterns limit = (words : List (List ℕ)) × HaveDifferentSets patterns words × (limit < 1 + length words)

-- a string for each state, in some order: the empty string, which is that of the start, and others, each for its set;
-- and there is one for the set of each byte string that reaches a position
pub record AreStates (patterns : List Pattern) (words : List (List ℕ)) : Type 0 where
  pub start : slice_get words 0 ≡ Some []
  pub others : HaveDifferentSets patterns (drop 1 words)
  pub every : (w : List ℕ) → AreBytes w → (q : ℕ) → ReachesOne patterns w q → (i : ℕ) × (u : List ℕ) × (slice_get words i ≡ Some u) × HaveSameSet patterns u w

-- what the byte behind a string can be read at: a first position where no byte is read yet, or what follows a position
-- that the string reaches
abbrev pub IsAhead : List Pattern → List ℕ → ℕ → Type 0
IsAhead patterns w t = ((w ≡ []) × IsFirstOfOne patterns t) ⊎ ((q : ℕ) × ReachesOne patterns w q × FollowsInOne patterns q t)

-- a string reaches a position only where it has a byte
abbrev pub SomeByteLaw : Type 0
SomeByteLaw = (patterns : List Pattern) (q : ℕ) → ReachesOne patterns [] q → ⊥

-- a string with one more byte reaches the positions ahead that read the byte
abbrev pub StepLaw : Type 0
StepLaw = (patterns : List Pattern) (w : List ℕ) (byte t : ℕ) → ReachesOne patterns (w ++ byte ∷ []) t ↔ (IsAhead patterns w t × ReadsAmong patterns t byte)

-- a pattern has a string that isn't empty exactly where the string reaches a position at which the pattern can end
abbrev pub MatchLaw : Type 0
MatchLaw = (patterns : List Pattern) (rank : ℕ) (pattern : Pattern) (w : List ℕ) → slice_get patterns rank ≡ Some pattern → w ≢ [] → Matches pattern w ↔ ((q : ℕ) × ReachesOne patterns w q × Ends patterns rank q)

-- strings with the same set have the same set after one more byte, if neither or both are empty
abbrev pub SameStepLaw : Type 0
SameStepLaw = (patterns : List Pattern) (u v : List ℕ) (byte : ℕ) → ((u ≡ []) ↔ (v ≡ [])) → HaveSameSet patterns u v → HaveSameSet patterns (u ++ byte ∷ []) (v ++ byte ∷ [])

-- where a string reaches a position, so does each front of it that isn't empty
abbrev pub FrontLaw : Type 0
FrontLaw = (patterns : List Pattern) (u v : List ℕ) (q : ℕ) → ReachesOne patterns (u ++ v) q → u ≢ [] → (t : ℕ) × ReachesOne patterns u t

-- there are more states than a limit exactly where the strings for the states are more
abbrev pub MoreStatesLaw : Type 0
MoreStatesLaw = (patterns : List Pattern) (words : List (List ℕ)) (limit : ℕ) → AreStates patterns words → HasMoreStates patterns limit ↔ (limit < length words)
