-- What a contract sees of a shelf in memory that never fails.
use Rattle.std.specs.Prelude.{ℕ, true, List, [], ◌∷◌, ◌++◌, drop, Option, Some, unwrap_or}
use Rattle.lr_base.specs.Files.{bytes_under, names_of}
use Rattle.lr_base.specs.Outside.{ShelfSeen}

-- the files, the names that were begun, and the bytes that are left of the last of them
pub record SteadyState : Type 0 where
  pub files : List (List ℕ × List ℕ)
  pub begun : List (List ℕ)
  pub left : List ℕ

-- the bytes under a name: none where no file has it
abbrev pub bytes_or_none : List (List ℕ × List ℕ) → List ℕ → List ℕ
bytes_or_none files name = unwrap_or (bytes_under files name) []

-- what stands under a name
abbrev pub standing : List (List ℕ × List ℕ) → List ℕ → Option (List ℕ)
standing files name = Some (bytes_or_none files name)

-- after a `begin` its name is the last one, and what stands under it is left
abbrev pub with_begun : SteadyState → List ℕ → SteadyState
with_begun shelf name = record shelf { begun = shelf.begun ++ name ∷ []; left = bytes_or_none shelf.files name }

-- after a `read` into so many bytes these are gone
abbrev pub with_read : SteadyState → ℕ → SteadyState
with_read shelf room = record shelf { left = drop room shelf.left }

-- what is known of the shelf
abbrev pub steady_seen : SteadyState → ShelfSeen
steady_seen shelf = record {
  tells = true;
  stands = standing shelf.files;
  left = Some shelf.left;
  begun = shelf.begun;
  faults = 0;
  served = names_of shelf.files;
  serving = true;
}
