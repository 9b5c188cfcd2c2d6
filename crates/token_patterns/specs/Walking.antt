-- How far a scan has come, what it has found by then, and the pairs of a place and a state that lead to no match.
use Rattle.std.specs.Prelude.{◌≡◌, ℕ, ◌+◌, ◌-◌, ◌^◌, ◌<◌, ◌≤◌, ◌↔◌, true, false, List, [], ◌++◌, length, take, drop, slice_get, Option, Some, None, MatchOption, IfSome}
use Rattle.dead_ends.specs.Pairs.{Pairs, Keeps}
use Rattle.pattern_data.specs.declared.pattern.Pattern.{Pattern}
use Rattle.pattern_data.specs.Language.{Matches}
use Rattle.position_theory.specs.States.{HaveSameSet}
use Rattle.scanning_theory.specs.Scan.{IsMatch}
use Rattle.token_patterns.specs.Scanner.{Table, IsScannerOf, EndsMatch}
use Rattle.token_patterns.specs.declared.walk.Found.{Found}
use Rattle.token_patterns.specs.declared.walk.Walk.{Walk}

-- the bytes that were read
abbrev pub read_of : List ℕ → ℕ → ℕ → List ℕ
read_of text from n = take n (drop from text)

-- the best match among those that are no longer than what was read
abbrev pub IsBest : List Pattern → List ℕ → ℕ → ℕ → Option (ℕ × ℕ) → Type 0
IsBest patterns text from read best = MatchOption best
    ((len rank : ℕ) → len ≤ read → IsMatch patterns text from len rank → ⊥)
    (λ found. IsMatch patterns text from found.0 found.1 × ((len rank : ℕ) → len ≤ read → IsMatch patterns text from len rank → len ≤ found.0) × ((rank : ℕ) → IsMatch patterns text from found.0 rank → found.1 ≤ rank))

-- the state is that of what was read
pub record IsRead (table : Table) (patterns : List Pattern) (s : IsScannerOf table patterns) (w : List ℕ) (state : ℕ) : Type 0 where
  pub word : List ℕ
  pub at : slice_get s.words state ≡ Some word
  pub same : HaveSameSet patterns word w
  pub none : (word ≡ []) ↔ (w ≡ [])

-- no match at this place is longer than this
abbrev pub NoneLonger : List Pattern → List ℕ → ℕ → ℕ → Type 0
NoneLonger patterns text from len = (other rank : ℕ) → IsMatch patterns text from other rank → other ≤ len

-- a walk from a place of the text: it has the best match of what it read; while it goes on, its state is that of what it
-- read, and where it has ended, no match is longer
pub record IsWalk (table : Table) (text : List ℕ) (from : ℕ) (walk : Walk) : Type 0 where
  pub begun : from ≤ walk.at
  pub inside : walk.at ≤ length text
  pub state : walk.state < length table.ends
  pub small : walk.state < 2 ^ 16
  pub some : IfSome walk.best (λ found. 0 < found.0)
  pub within : IfSome walk.best (λ found. from + found.0 ≤ walk.at)
  pub ranked : IfSome walk.best (λ found. found.1 < table.ranks)
  pub best : (patterns : List Pattern) → IsScannerOf table patterns → IsBest patterns text from (walk.at - from) walk.best
  pub goes_on : walk.ended ≡ false → (patterns : List Pattern) (s : IsScannerOf table patterns) → IsRead table patterns s (read_of text from (walk.at - from)) walk.state
  pub ends : walk.ended ≡ true → (patterns : List Pattern) → IsScannerOf table patterns → NoneLonger patterns text from (walk.at - from)

-- a scan that comes to the place in this state finds no match that ends behind it: no pattern has a string of the state
-- with some of the bytes that follow
abbrev pub IsDeadEnd : Table → List ℕ → ℕ → ℕ → Type 0
IsDeadEnd table text place state = (patterns : List Pattern) (s : IsScannerOf table patterns) (word : List ℕ) → slice_get s.words state ≡ Some word
    → (more rank : ℕ) (pattern : Pattern) → 0 < more → place + more ≤ length text → slice_get patterns rank ≡ Some pattern → Matches pattern (word ++ take more (drop place text)) → ⊥

-- each pair that is kept is a dead end
abbrev pub AreDeadEnds : Table → List ℕ → Pairs → Type 0
AreDeadEnds table text pairs = (place state : ℕ) → Keeps pairs place state → IsDeadEnd table text place state

-- the match that the loop of a walk keeps: it is the best of what was read before the place
pub record IsFound (table : Table) (text : List ℕ) (from at : ℕ) (found : Found) : Type 0 where
  pub behind : from ≤ found.behind
  pub best : Option (ℕ × ℕ)
  pub is : EndsMatch found.end (found.behind - from) None best
  pub some : IfSome best (λ one. 0 < one.0)
  pub within : IfSome best (λ one. from + one.0 ≤ at)
  pub ranked : IfSome best (λ one. one.1 < table.ranks)
  pub longest : (patterns : List Pattern) → IsScannerOf table patterns → IsBest patterns text from (at - from) best
