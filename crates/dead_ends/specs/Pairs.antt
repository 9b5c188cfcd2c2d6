-- Which pairs of a place and a scanner's state are kept on a line. They are kept at marks: where the line begins, and
-- then at every so many bytes. A row of bits for each mark has a bit for each state.
use Rattle.std.specs.Prelude.{◌≡◌, ℕ, ◌+◌, ◌-◌, ◌*◌, ◌<◌, ◌≤◌, ◌↔◌, List}
use Rattle.position_sets.specs.Sets.{Has}

-- where the line begins, how many states a row has, how many bytes the marks are apart, and the rows one after another
pub record Pairs : Type 0 where
  pub begin : ℕ
  pub states : ℕ
  pub step : ℕ
  pub words : List ℕ

-- the place is a mark of the line
abbrev pub IsMark : Pairs → ℕ → Type 0
IsMark pairs place = (row : ℕ) × (place ≡ pairs.begin + row * pairs.step)

-- this bit of the rows stands for the pair
pub record IsIndex (pairs : Pairs) (place state index : ℕ) : Type 0 where
  pub row : ℕ
  pub at : place ≡ pairs.begin + row * pairs.step
  pub within : state < pairs.states
  pub index_is : index ≡ row * pairs.states + state

-- the pair is one that can be kept: its place is a mark, and its state has a bit
abbrev pub CanKeep : Pairs → ℕ → ℕ → Type 0
CanKeep pairs place state = IsMark pairs place × (state < pairs.states)

-- the pair is kept
abbrev pub Keeps : Pairs → ℕ → ℕ → Type 0
Keeps pairs place state = (index : ℕ) × IsIndex pairs place state index × Has pairs.words index

-- both keep the same pairs
abbrev pub KeepSame : Pairs → Pairs → Type 0
KeepSame old new = (place state : ℕ) → Keeps new place state ↔ Keeps old place state

-- a word a byte of the line up to a place, and those of one mark more
abbrev pub words_up_to : Pairs → ℕ → ℕ
words_up_to pairs place = place - pairs.begin + pairs.step

-- both are of one line and of one scanner
pub record AreOfOneLine (old new : Pairs) : Type 0 where
  pub begin : new.begin ≡ old.begin
  pub states : new.states ≡ old.states
  pub step : new.step ≡ old.step

-- rows that there may be: marks are apart, and a byte of the line has no more than 64 bits
pub record ArePairs (pairs : Pairs) : Type 0 where
  pub apart : 0 < pairs.step
  pub near : pairs.step ≤ 1025
  pub numbered : pairs.states ≤ 65536
  pub few : pairs.states ≤ 64 * pairs.step
