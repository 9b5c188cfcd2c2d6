-- Files that are found by name and read from a mark on.
use Rattle.std.proofs.Common.{◌≡◌, ℕ, zero, suc, ◌+◌, ◌<◌, ◌≤◌, Bool, true, false, cond, not, ltb, ◌||◌, ◌==◌, is_some, List, [], ◌∷◌, length, slice_get, position, Option, None, Some, String, Vec, string_bytes, IsSomeAnd, option_map, bytes_eq, refl, sym, ap, subst, ◌∙◌, arith}
use Rattle.std.proofs.lemmas.Bool.{ltb-true, ltb-false, ne_eqb}
use Rattle.std.proofs.lemmas.List.{length-map}
use Rattle.std.proofs.lemmas.Option.{same_Some, slice_get_past}
use Rattle.std.specs.List.{position_or_len}
use Rattle.std.specs.declared.alloc.Global.{Global}
use Rattle.lr_base.specs.Files.{bytes_under, names_of, named_bytes}
use Rattle.lr_base.specs.Counts.{is_next_among}
use Rattle.lr_base.specs.Marks.{bytes_from, IsMarkIn}
use Rattle.lr_base.specs.MemShelf.{ShelfState, found, served_names}
use Rattle.lr_base.specs.Outside.{is_listed}

-- a file as the code holds it
abbrev File : Type 0
File = String Global × Vec ℕ Global

-- a file's name and bytes
abbrev shown : File → List ℕ × List ℕ
shown file = (string_bytes file.0, file.1.items)

-- whether a file has the name
abbrev has_name : List ℕ → File → Bool
has_name name file = bytes_eq name (string_bytes file.0)

-- one step of a look-up, by whether the first file has the name
lookup_step : (hit : Bool) (x : List ℕ × List ℕ) (xs : List (List ℕ × List ℕ)) (rest : Option (List ℕ)) (n : ℕ)
    → rest ≡ option_map (λ f. f.1) (slice_get xs n)
    → cond hit (Some x.1) rest ≡ option_map (λ f. f.1) (slice_get (x ∷ xs) (cond (not hit) (1 + n) 0))
lookup_step true x xs rest n h = refl
lookup_step false x xs rest n h = let next : 1 + n ≡ suc n = omega arith in rw next h

-- the bytes under a name are those of the first file that has it
lookup_place : (name : List ℕ) (files : List File)
    → bytes_under (named_bytes files) name ≡ option_map (λ f. f.1) (slice_get (named_bytes files) (position_or_len (has_name name) files))
lookup_place name [] = refl
lookup_place name (file ∷ files) =
    lookup_step (has_name name file) (shown file) (named_bytes files) (bytes_under (named_bytes files) name) (position_or_len (has_name name) files) (lookup_place name files)

none_at : (within : Bool) (n m : ℕ) → ltb n m ≡ within → cond within (Some n) None ≡ None → m ≤ n
none_at true n m e h = cc
none_at false n m e h = ltb-false n m e

some_at : (within : Bool) (n m i : ℕ) → ltb n m ≡ within → cond within (Some n) None ≡ Some i → (n ≡ i) × (i < m)
some_at true n m i e h = let same : n ≡ i = same_Some n i h in (same, subst (λ k. k < m) same (ltb-true n m e))
some_at false n m i e h = cc

-- where no file has the name, nothing stands under it
pub place_none : (files : List File) (name : List ℕ) → position (has_name name) files ≡ None → bytes_under (named_bytes files) name ≡ None
place_none files name h =
    let n : ℕ = position_or_len (has_name name) files in
    let past : length (named_bytes files) ≤ n = omega (arith, none_at (ltb n (length files)) n (length files) refl h, length-map files shown) in
    lookup_place name files ∙ ap (option_map (λ f. f.1)) (slice_get_past (named_bytes files) n past)

start_in : (files : List (List ℕ × List ℕ)) (i : ℕ) → i < length files → IsSomeAnd (slice_get files i) (λ f. 0 ≤ length f.1)
start_in [] i h = absurd (omega arith)
start_in (x ∷ xs) zero h = omega arith
start_in (x ∷ xs) (suc i) h = start_in xs i (omega arith)

-- the first file that has the name has the bytes that stand under it, and a start
pub place_some : (files : List File) (name : List ℕ) (i : ℕ) → position (has_name name) files ≡ Some i
    → (bytes_from (named_bytes files) (record { file = i; at = 0 }) ≡ bytes_under (named_bytes files) name) × IsMarkIn (named_bytes files) (record { file = i; at = 0 })
place_some files name i h =
    let n : ℕ = position_or_len (has_name name) files in
    let found : (n ≡ i) × (i < length files) = some_at (ltb n (length files)) n (length files) i refl h in
    let within : i < length (named_bytes files) = omega (arith, found.1, length-map files shown) in
    (ap (λ k. option_map (λ f. f.1) (slice_get (named_bytes files) k)) (sym found.0) ∙ sym (lookup_place name files), start_in (named_bytes files) i within)

listed_step : (hit more : Bool) (x : List ℕ) (rest : Option (List ℕ)) → (more ≡ true → is_some rest ≡ true) → (hit || more) ≡ true
    → is_some (cond hit (Some x) rest) ≡ true
listed_step true more x rest h e = refl
listed_step false more x rest h e = h e

-- something stands under the name of a file
listed_stands : (files : List (List ℕ × List ℕ)) (name : List ℕ) → is_listed (names_of files) name ≡ true → is_some (bytes_under files name) ≡ true
listed_stands [] name e = e
listed_stands (x ∷ xs) name e = listed_step (bytes_eq name x.0) (is_listed (names_of xs) name) x.1 (bytes_under xs name) (listed_stands xs name) e

served_cases : (shelf : ShelfState) (name fails : List ℕ) → shelf.fails ≡ fails → is_listed (cond (length fails == 0) (names_of shelf.files) []) name ≡ true
    → is_some (cond (is_next_among fails shelf.calls) None (bytes_under shelf.files name)) ≡ true
served_cases shelf name [] same e = listed_stands shelf.files name e
served_cases shelf name (x ∷ xs) same e =
    let some : (length (x ∷ xs) == 0) ≡ false = ne_eqb (length (x ∷ xs)) 0 (λ none. omega arith) in
    let listed : false ≡ true = subst (λ b. is_listed (cond b (names_of shelf.files) []) name ≡ true) some e in
    cc

-- a `begin` of a served name finds something
pub served_found : (shelf : ShelfState) (name : List ℕ) → is_listed (served_names shelf) name ≡ true → is_some (found shelf name) ≡ true
served_found shelf name e = served_cases shelf name shelf.fails refl e
