-- What a scanner keeps, and of which patterns it is: a table of states by bytes, and for each state the rank that ends.
use Rattle.std.specs.Prelude.{◌≡◌, ◌≢◌, ℕ, ◌*◌, ◌/◌, ◌%◌, ◌<◌, ◌≤◌, ◌⊎◌, List, [], ◌∷◌, ◌++◌, length, slice_get, slice_index, Option, Some, All}
use Rattle.pattern_data.specs.declared.pattern.Pattern.{Pattern}
use Rattle.position_theory.specs.Positions.{ReachesOne, Ends}
use Rattle.position_theory.specs.States.{HaveSameSet, AreStates}
use Rattle.scanning_theory.specs.declared.limits.TheConstants.{PATTERNS}
use Rattle.token_patterns.specs.Ahead.{no_rank}
use Rattle.token_patterns.specs.declared.walk.Found.{Found}

-- the cell of a state and a byte is number 256 * state + byte
pub record Table : Type 0 where
  pub cells : List ℕ
  pub ends : List ℕ
  pub ranks : ℕ

-- a cell says where the string leads: to the state of its set; or it is 0, and the string reaches no position
abbrev pub IsStep : List Pattern → List (List ℕ) → List ℕ → ℕ → Type 0
IsStep patterns words x cell = ((cell ≡ 0) × ((q : ℕ) → ReachesOne patterns x q → ⊥)) ⊎ ((u : List ℕ) × (0 < cell) × (slice_get words cell ≡ Some u) × HaveSameSet patterns u x)

-- the pattern of this rank ends with the string
abbrev pub IsEnding : List Pattern → List ℕ → ℕ → Type 0
IsEnding patterns x rank = (q : ℕ) × ReachesOne patterns x q × Ends patterns rank q

-- the least rank that ends with the string, or that none does
abbrev pub IsEnd : List Pattern → List ℕ → ℕ → Type 0
IsEnd patterns x end = ((end ≡ no_rank) × ((rank : ℕ) → rank < length patterns → IsEnding patterns x rank → ⊥))
    ⊎ ((end < length patterns) × IsEnding patterns x end × ((other : ℕ) → other < length patterns → IsEnding patterns x other → end ≤ other))

-- all cells and ends are those of these states
abbrev pub AreSteps : List Pattern → List (List ℕ) → List ℕ → Type 0
AreSteps patterns words cells = (i : ℕ) (w : List ℕ) → i < length cells → slice_get words (i / 256) ≡ Some w → IsStep patterns words (w ++ i % 256 ∷ []) (slice_index cells i)

abbrev pub AreEnds : List Pattern → List (List ℕ) → List ℕ → Type 0
AreEnds patterns words ends = (k : ℕ) (w : List ℕ) → k < length ends → slice_get words k ≡ Some w → IsEnd patterns w (slice_index ends k)

-- the scanner that keeps this table is that of these patterns
pub record IsScannerOf (table : Table) (patterns : List Pattern) : Type 0 where
  pub ranks_are : table.ranks ≡ length patterns
  pub words : List (List ℕ)
  pub states : AreStates patterns words
  pub states_are : length words ≡ length table.ends
  pub steps : AreSteps patterns words table.cells
  pub ends : AreEnds patterns words table.ends

-- the number of a scanner's ranks
abbrev pub ranks_of : Table → ℕ
ranks_of table = table.ranks

-- a table that a scanner may keep: a row of 256 cells for each state, of which there is one, each cell a state, each
-- end a rank or none
pub record IsTable (table : Table) : Type 0 where
  pub sized : length table.cells ≡ 256 * length table.ends
  pub some : 0 < length table.ends
  pub cells_inside : All (λ cell. cell < length table.ends) table.cells
  pub ends_ranked : All (λ end. (end ≡ no_rank) ⊎ (end < table.ranks)) table.ends
  pub few : table.ranks ≤ PATTERNS

-- the match when a state was reached by a string of this length: the one before, or this one where a rank ends
abbrev pub EndsMatch : ℕ → ℕ → Option (ℕ × ℕ) → Option (ℕ × ℕ) → Type 0
EndsMatch end len before result = ((end ≡ no_rank) × (result ≡ before)) ⊎ ((end ≢ no_rank) × (result ≡ Some (len, end)))

-- the match that a walk keeps when a state was reached behind this place: the one before, or this one where a rank ends
abbrev pub EndsHere : ℕ → ℕ → Found → Found → Type 0
EndsHere end behind before result = ((end ≡ no_rank) × (result ≡ before)) ⊎ ((end ≢ no_rank) × (result ≡ record { behind = behind; end = end }))
