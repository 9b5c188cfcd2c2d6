-- Files in memory: names, and the bytes under them.
use Rattle.std.specs.Prelude.{ℕ, List, map, Option, String, string_bytes, Vec}
use Rattle.std.specs.Map.{lookup}
use Rattle.std.specs.Str.{bytes_eq}
use Rattle.std.specs.declared.alloc.Global.{Global}

-- each file's name and bytes, in order
abbrev pub named_bytes : List (String Global × Vec ℕ Global) → List (List ℕ × List ℕ)
named_bytes files = map (λ file. (string_bytes file.0, file.1.items)) files

-- the names of the files
abbrev pub names_of : List (List ℕ × List ℕ) → List (List ℕ)
names_of files = map (λ file. file.0) files

-- the bytes of the first file that has the name
abbrev pub bytes_under : List (List ℕ × List ℕ) → List ℕ → Option (List ℕ)
bytes_under files name = lookup (bytes_eq name) files
