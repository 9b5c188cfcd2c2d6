-- What a contract sees of a shelf in memory, and what its two calls do.
use Rattle.std.specs.Prelude.{ℕ, List, [], ◌∷◌, ◌++◌, length, drop, Option, None, Some, true, Bool, is_some, unwrap_or, if◌then◌else◌, ◌==◌, ◌&&◌}
use Rattle.std.specs.Option.{option_map}
use Rattle.lr_base.specs.Counts.{raised, is_next_among}
use Rattle.lr_base.specs.Files.{names_of, bytes_under}
use Rattle.lr_base.specs.Outside.{ShelfSeen}

-- the files, the numbers of the calls that fail, how many calls there were, the names that were begun, the bytes that
-- are left of the last of them, `None` where nothing is being read, and how many calls failed
pub record ShelfState : Type 0 where
  pub files : List (List ℕ × List ℕ)
  pub fails : List ℕ
  pub calls : ℕ
  pub begun : List (List ℕ)
  pub reading : Option (List ℕ)
  pub faults : ℕ

-- nothing was begun, and no call was counted
abbrev pub first_state : List (List ℕ × List ℕ) → List ℕ → ShelfState
first_state files fails = record { files = files; fails = fails; calls = 0; begun = []; reading = None; faults = 0 }

-- the names that never fail: those of the files, where no call is to fail
abbrev pub served_names : ShelfState → List (List ℕ)
served_names shelf = (if length shelf.fails == 0 then names_of shelf.files else [])

-- the bytes that a `begin` of the name finds: none where that call is to fail, or no file has the name
abbrev pub found : ShelfState → List ℕ → Option (List ℕ)
found shelf name = (if is_next_among shelf.fails shelf.calls then None else bytes_under shelf.files name)

-- after a `begin` its name is the last one, and what it found is being read; the call is counted, and the fault where
-- it found nothing
abbrev pub after_begin : ShelfState → List ℕ → ShelfState
after_begin shelf name = record shelf {
  calls = raised shelf.calls;
  begun = shelf.begun ++ name ∷ [];
  reading = found shelf name;
  faults = (if is_some (found shelf name) then shelf.faults else raised shelf.faults);
}

-- the bytes that a `read` gives from: none where that call is to fail, or nothing is being read
abbrev pub readable : ShelfState → Option (List ℕ)
readable shelf = (if is_next_among shelf.fails shelf.calls then None else shelf.reading)

-- after a `read` into so many bytes these are gone from what is being read, unless the call failed; the call is
-- counted, and the fault where it failed
abbrev pub after_read : ShelfState → ℕ → ShelfState
after_read shelf room = record shelf {
  calls = raised shelf.calls;
  reading = (if is_some (readable shelf) then option_map (drop room) shelf.reading else shelf.reading);
  faults = (if is_some (readable shelf) then shelf.faults else raised shelf.faults);
}

-- the bytes that are left to be read: none where nothing is being read
abbrev pub left_bytes : ShelfState → List ℕ
left_bytes shelf = unwrap_or shelf.reading []

-- no `read` fails until the next `begin`: no call is to fail, and something is being read
abbrev pub is_serving : ShelfState → Bool
is_serving shelf = (length shelf.fails == 0) && is_some shelf.reading

-- what is known of the shelf
abbrev pub shelf_seen : ShelfState → ShelfSeen
shelf_seen shelf = record {
  tells = true;
  stands = bytes_under shelf.files;
  left = Some (left_bytes shelf);
  begun = shelf.begun;
  faults = shelf.faults;
  served = served_names shelf;
  serving = is_serving shelf;
}
