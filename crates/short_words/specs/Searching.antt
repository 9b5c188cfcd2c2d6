-- A search over the states of a scanner, breadth first and with the bytes in rising order, so that states are found in the
-- order of their least words.
use Rattle.std.specs.Prelude.{◌≡◌, ◌≢◌, ℕ, ◌+◌, ◌*◌, ◌<◌, ◌≤◌, Bool, true, false, List, [], ◌∷◌, ◌++◌, length, sum_by, slice_get, slice_index, slice_index_or, slice_set, Some}
use Rattle.sample_theory.specs.WordNumbers.{number}
use Rattle.token_patterns.specs.Scanner.{Table}
use Rattle.short_words.specs.declared.search.Found.{Found}

-- the state to which a byte leads; 0 where no string goes on so
abbrev pub led_to : Table → ℕ → ℕ → ℕ
led_to table state byte = slice_index table.cells (256 * state + byte)

-- a byte string leads from the start to a state
pub data Leads (table : Table) : List ℕ → ℕ → Type 0 where
  nowhere : {u : List ℕ} {state : ℕ} → u ≡ [] → state ≡ 0 → Leads table u state
  by_byte : {w u : List ℕ} {state next byte : ℕ} → Leads table w state → byte < 256 → next ≡ led_to table state byte → next ≢ 0 → u ≡ w ++ byte ∷ [] → Leads table u next

-- each state but the start was found from an earlier one
abbrev pub AreLinked : List Found → Type 0
AreLinked found = (k : ℕ) (f : Found) → 0 < k → slice_get found k ≡ Some f → f.from < k

-- the string of a state is that of the state from which it was found, and one byte more
abbrev pub IsOneMore : List (List ℕ) → Found → List ℕ → Type 0
IsOneMore words f w = (u : List ℕ) × (slice_get words f.from ≡ Some u) × (w ≡ u ++ f.byte ∷ [])

-- the strings by which the states were found, the empty one for the start
pub record AreWordsOf (found : List Found) (words : List (List ℕ)) : Type 0 where
  pub count : length words ≡ length found
  pub start : slice_get words 0 ≡ Some []
  pub longer : (k : ℕ) (w : List ℕ) (f : Found) → 0 < k → slice_get words k ≡ Some w → slice_get found k ≡ Some f → IsOneMore words f w

-- the strings lead to the states, and rise
pub record IsSearch (table : Table) (found : List Found) (words : List (List ℕ)) : Type 0 where
  pub are : AreWordsOf found words
  pub linked : AreLinked found
  pub lead : (k : ℕ) (w : List ℕ) (f : Found) → slice_get words k ≡ Some w → slice_get found k ≡ Some f → Leads table w f.state
  pub rising : (i j : ℕ) (u v : List ℕ) → i < j → slice_get words i ≡ Some u → slice_get words j ≡ Some v → number u < number v

-- the state was found by a string with a number within the bound
pub record IsMet (found : List Found) (words : List (List ℕ)) (state bound : ℕ) : Type 0 where
  pub k : ℕ
  pub word : List ℕ
  pub entry : Found
  pub word_at : slice_get words k ≡ Some word
  pub entry_at : slice_get found k ≡ Some entry
  pub same : entry.state ≡ state
  pub within : number word ≤ bound

-- the search before it goes on from place `step / 256` by byte `step % 256`: what is found later comes later in the order,
-- and each state to which an earlier step leads was found by then
pub record IsSearchTo (table : Table) (found : List Found) (seen : List Bool) (step : ℕ) : Type 0 where
  pub words : List (List ℕ)
  pub search : IsSearch table found words
  pub below : (k at byte : ℕ) (w u : List ℕ) → slice_get words k ≡ Some w → slice_get words at ≡ Some u → byte < 256 → step ≤ 256 * at + byte → number w < 256 * number u + byte + 1
  pub expanded : (k byte : ℕ) (w : List ℕ) (f : Found) → slice_get words k ≡ Some w → slice_get found k ≡ Some f → byte < 256 → 256 * k + byte < step → led_to table f.state byte ≢ 0 → IsMet found words (led_to table f.state byte) (256 * number w + byte + 1)
  pub inside : (k : ℕ) (f : Found) → slice_get found k ≡ Some f → f.state < length seen
  pub found_seen : (k : ℕ) (f : Found) → slice_get found k ≡ Some f → slice_index_or seen f.state false ≡ true
  pub seen_found : (state : ℕ) → slice_index_or seen state false ≡ true → (k : ℕ) × (f : Found) × (slice_get found k ≡ Some f) × (f.state ≡ state)

-- how many states were not seen
abbrev pub unseen : Bool → ℕ
unseen true = 0
unseen false = 1

abbrev pub unseen_in : List Bool → ℕ
unseen_in seen = sum_by unseen seen

-- a state is put last, unless it was seen
pub data IsNoted (entry : Found) (found : List Found) (seen : List Bool) (new_found : List Found) (new_seen : List Bool) : Type 0 where
  was_seen : slice_index_or seen entry.state false ≡ true → new_found ≡ found → new_seen ≡ seen → IsNoted entry found seen new_found new_seen
  is_new : slice_index_or seen entry.state false ≡ false → new_found ≡ found ++ entry ∷ [] → new_seen ≡ slice_set seen entry.state true → IsNoted entry found seen new_found new_seen
