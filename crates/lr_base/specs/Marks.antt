-- Where a shelf in memory reads on, and what one read gives.
use Rattle.std.specs.Prelude.{◌≡◌, ℕ, ◌+◌, ◌<◌, ◌≤◌, min, List, [], ◌++◌, length, take, drop, Option, Some, slice_get, IsSomeAnd}
use Rattle.std.specs.Option.{option_map}
use Rattle.lr_base.specs.declared.files.Mark.{Mark}

-- the bytes of the marked file from the mark on
abbrev pub bytes_from : List (List ℕ × List ℕ) → Mark → Option (List ℕ)
bytes_from files mark = option_map (λ file. drop mark.at file.1) (slice_get files mark.file)

-- the mark stands in a file
abbrev pub IsMarkIn : List (List ℕ × List ℕ) → Mark → Type 0
IsMarkIn files mark = IsSomeAnd (slice_get files mark.file) (λ file. mark.at ≤ length file.1)

-- the mark that stands so many bytes later in its file
abbrev pub moved : Mark → ℕ → Mark
moved mark count = record mark { at = mark.at + count }

-- as many bytes as follow the mark and as there was room for came to the front of the buffer, and the mark that
-- stands after them leaves the others
pub record ReadsFrom (files : List (List ℕ × List ℕ)) (mark : Mark) (old new : List ℕ) (count : ℕ) : Type 0 where
  pub rest : List ℕ
  pub before : bytes_from files mark ≡ Some rest
  pub counted : count ≡ min (length rest) (length old)
  pub given : rest ≡ take count new ++ drop (length old) rest
  pub ended : count ≡ 0 → 0 < length new → drop (length old) rest ≡ []
  pub after : bytes_from files (moved mark count) ≡ Some (drop (length old) rest)
  pub within : IsMarkIn files (moved mark count)
