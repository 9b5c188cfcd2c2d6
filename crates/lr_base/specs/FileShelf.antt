-- What a contract sees of the files of the runtime.
use Rattle.std.specs.Prelude.{ℕ, Bool, false, List, [], None}
use Rattle.lr_base.specs.Outside.{ShelfSeen}

-- the names that were begun, whether a file is being read, and how many calls failed
pub record FilesState : Type 0 where
  pub begun : List (List ℕ)
  pub is_reading : Bool
  pub faults : ℕ

-- what is known of the shelf: it tells no bytes, and serves no name for sure
abbrev pub files_seen : FilesState → ShelfSeen
files_seen shelf = record {
  tells = false;
  stands = λ _. None;
  left = None;
  begun = shelf.begun;
  faults = shelf.faults;
  served = [];
  serving = false;
}
