-- The rows of entries where one more leaf is noted.
use Rattle.std.proofs.Common.{◌≡◌, ℕ, ◌+◌, ◌<◌, ◌≤◌, List, [], ◌∷◌, length, Bool, true, false, refl, sym, ap, ◌∙◌, Bor, arith}
use Rattle.std.specs.Prelude.{if◌then◌else◌, not, nat_lt, All, Option, Some, None, Result, Ok, Err, OnOk, OnErr, unwrap_or, position}
use Rattle.std.specs.List.{position_or_len}
use Rattle.std.specs.Map.{lookup, keys_of}
use Rattle.std.proofs.lemmas.Bool.{ltb-true, ltb-false}
use Rattle.std.proofs.lemmas.List.{length-map}
use Rattle.std.proofs.lemmas.Option.{none-some, same_Some, slice_get_within}
use Rattle.lr_base.specs.declared.errors.NoMemory.{NoMemory}
use Rattle.outline_theory.specs.Numbering.{is_one_of, index_of}
use Rattle.numbering_theory.proofs.PlaceLemmas.{one_of_by, index_by}
use Rattle.numbering_theory.proofs.WordPlaces.{at_first}
use Rattle.std.specs.Str.{bytes_eq}
use Rattle.std.proofs.lemmas.List.Elements.{All-head, All-tail}
use Rattle.indexmap.specs.IndexMap.{insert_entry}
use Rattle.translation_theory.specs.DeclaredNames.{Row, texts_in, number_in, noted}
use Rattle.translation_theory.proofs.NameLemmas.{number_by}
use Rattle.translation_theory.proofs.NotedLemmas.{same_back}
use Rattle.name_table.specs.declared.tally.Tally.{Tally}
use Rattle.name_table.specs.Tallies.{row_of_entry, rows_of_entries}

abbrev pub Entry : Type 0
Entry = Bor (List ℕ) × Tally

abbrev pub same_key : Bor (List ℕ) → Bor (List ℕ) → Bool
same_key one other = bytes_eq one.now other.now

-- a tally of a leaf more
abbrev pub one_more : Tally → Tally
one_more tally = record { line = tally.line; times = tally.times + 1 }

-- the tally that is found, or that of no leaf yet
abbrev pub found_or_new : List Entry → Bor (List ℕ) → ℕ → Tally
found_or_new entries key line = unwrap_or (lookup (same_key key) entries) (record { line = line; times = 0 })

noted_by : (entry : Entry) (entries : List Entry) (key : Bor (List ℕ)) (line : ℕ) (b : Bool) → same_key key entry.0 ≡ b → rows_of_entries (insert_entry same_key entries key (one_more (found_or_new entries key line))) ≡ noted (rows_of_entries entries) key.now line
    → rows_of_entries (if b then (entry.0, one_more (unwrap_or (if b then Some entry.1 else lookup (same_key key) entries) (record { line = line; times = 0 }))) ∷ entries else entry ∷ insert_entry same_key entries key (one_more (unwrap_or (if b then Some entry.1 else lookup (same_key key) entries) (record { line = line; times = 0 }))))
    ≡ (if b then record { text = entry.0.now; line = entry.1.line; times = entry.1.times + 1 } ∷ rows_of_entries entries else row_of_entry entry ∷ noted (rows_of_entries entries) key.now line)
noted_by entry entries key line true e rest = refl
noted_by entry entries key line false e rest = ap (λ l. row_of_entry entry ∷ l) rest

pub noted_entries : (entries : List Entry) (key : Bor (List ℕ)) (line : ℕ) → rows_of_entries (insert_entry same_key entries key (one_more (found_or_new entries key line))) ≡ noted (rows_of_entries entries) key.now line
noted_entries [] key line = refl
noted_entries (entry ∷ entries) key line = noted_by entry entries key line (same_key key entry.0) refl (noted_entries entries key line)

-- a found tally is one of the rows'
few_by : (entry : Entry) (entries : List Entry) (key : Bor (List ℕ)) (line bound : ℕ) (b : Bool) → entry.1.times < bound → (found_or_new entries key line).times < bound → (unwrap_or (if b then Some entry.1 else lookup (same_key key) entries) (record { line = line; times = 0 })).times < bound
few_by entry entries key line bound true here rest = here
few_by entry entries key line bound false here rest = rest

pub few_found : (entries : List Entry) (key : Bor (List ℕ)) (line bound : ℕ) → 0 < bound → All (λ (row : Row). row.times < bound) (rows_of_entries entries) → (found_or_new entries key line).times < bound
few_found [] key line bound some all = some
few_found (entry ∷ entries) key line bound some all =
    few_by entry entries key line bound (same_key key entry.0) (All-head (λ (row : Row). row.times < bound) (row_of_entry entry) (rows_of_entries entries) all) (few_found entries key line bound some (All-tail (λ (row : Row). row.times < bound) (row_of_entry entry) (rows_of_entries entries) all))

-- ---- numbers

-- the place of the first key with these bytes, or how many there are
abbrev place_or_len : List Entry → List ℕ → ℕ
place_or_len entries word = position_or_len (λ key. bytes_eq word key.now) (keys_of entries)

place_by : (entry : Entry) (entries : List Entry) (word : List ℕ) (b : Bool) → bytes_eq word entry.0.now ≡ b → place_or_len entries word ≡ index_of (texts_in (rows_of_entries entries)) word → place_or_len (entry ∷ entries) word ≡ index_of (texts_in (rows_of_entries (entry ∷ entries))) word
place_by entry entries word true e rest =
    ap (λ b. if not b then 1 + place_or_len entries word else 0) e ∙ sym (index_by entry.0.now word (texts_in (rows_of_entries entries)) true (same_back word entry.0.now true e))
place_by entry entries word false e rest =
    ap (λ b. if not b then 1 + place_or_len entries word else 0) e ∙ omega (arith, rest) ∙ sym (index_by entry.0.now word (texts_in (rows_of_entries entries)) false (same_back word entry.0.now false e))

place_is : (entries : List Entry) (word : List ℕ) → place_or_len entries word ≡ index_of (texts_in (rows_of_entries entries)) word
place_is [] word = refl
place_is (entry ∷ entries) word = place_by entry entries word (bytes_eq word entry.0.now) refl (place_is entries word)

below_by : (first word : List ℕ) (words : List (List ℕ)) (b : Bool) → bytes_eq first word ≡ b → index_of (first ∷ words) word < length (first ∷ words) → (index_of words word < length words → is_one_of words word ≡ true) → is_one_of (first ∷ words) word ≡ true
below_by first word words true e less rest = one_of_by first word words true e
below_by first word words false e less rest =
    one_of_by first word words false e ∙ rest (let next = index_by first word words false e in omega (arith, less, next))

below_one : (words : List (List ℕ)) (word : List ℕ) → index_of words word < length words → is_one_of words word ≡ true
below_one [] word less = absurd (omega (arith, less))
below_one (first ∷ words) word less = below_by first word words (bytes_eq first word) refl less (below_one words word)

above_none : (words : List (List ℕ)) (word : List ℕ) (b : Bool) → is_one_of words word ≡ b → length words ≤ index_of words word → b ≡ false
above_none words word true e past =
    let within = slice_get_within words (index_of words word) word (at_first words word e) in absurd (omega (arith, within, past))
above_none words word false e past = refl

some_place : (n count i : ℕ) (b : Bool) → nat_lt n count ≡ b → ◌≡◌ {A = Option ℕ} (if b then Some n else None) (Some i) → (n ≡ i) × (n < count)
some_place n count i true e at = (same_Some n i at, ltb-true n count e)
some_place n count i false e at = absurd (none-some i at)

no_place : (n count : ℕ) (b : Bool) → nat_lt n count ≡ b → ◌≡◌ {A = Option ℕ} (if b then Some n else None) None → count ≤ n
no_place n count true e at = absurd (none-some n (sym at))
no_place n count false e at = ltb-false n count e

module _ (entries : List Entry) (word : List ℕ) where
  rows_count : length (texts_in (rows_of_entries entries)) ≡ length entries
  rows_count = length-map (rows_of_entries entries) (λ (row : Row). row.text) ∙ length-map entries row_of_entry

  keys_count : length (keys_of entries) ≡ length entries
  keys_count = length-map entries (λ (entry : Entry). entry.0)

  pub number_found : (i : ℕ) → position (λ key. bytes_eq word key.now) (keys_of entries) ≡ Some i → number_in (rows_of_entries entries) word ≡ i + 1
  number_found i at =
      let (same, less) = some_place (place_or_len entries word) (length (keys_of entries)) i (nat_lt (place_or_len entries word) (length (keys_of entries))) refl at in
      let place = place_is entries word in
      let rows = rows_count in
      let keys = keys_count in
      number_by (rows_of_entries entries) word true (below_one (texts_in (rows_of_entries entries)) word (omega (arith, place, less, rows, keys))) ∙ omega (arith, place, same)

  pub number_missing : position (λ key. bytes_eq word key.now) (keys_of entries) ≡ None → number_in (rows_of_entries entries) word ≡ 0
  number_missing at =
      let past = no_place (place_or_len entries word) (length (keys_of entries)) (nat_lt (place_or_len entries word) (length (keys_of entries))) refl at in
      let place = place_is entries word in
      let rows = rows_count in
      let keys = keys_count in
      let texts : List (List ℕ) = texts_in (rows_of_entries entries) in
      let none : is_one_of texts word ≡ false = above_none texts word (is_one_of texts word) refl (omega (arith, place, past, rows, keys)) in
      number_by (rows_of_entries entries) word false none

-- ---- how many there are

few_noted_by : (row : Row) (rows : List Row) (bytes : List ℕ) (line : ℕ) (b : Bool) → length (noted rows bytes line) ≤ length rows + 1 → length (if b then record { text = row.text; line = row.line; times = row.times + 1 } ∷ rows else row ∷ noted rows bytes line) ≤ length (row ∷ rows) + 1
few_noted_by row rows bytes line true rest = omega arith
few_noted_by row rows bytes line false rest = omega (arith, rest)

pub few_noted : (rows : List Row) (bytes : List ℕ) (line : ℕ) → length (noted rows bytes line) ≤ length rows + 1
few_noted [] bytes line = omega arith
few_noted (row ∷ rows) bytes line = few_noted_by row rows bytes line (bytes_eq bytes row.text) (few_noted rows bytes line)

pub few_after : (old new : List Entry) (bound : ℕ) (bytes : List ℕ) (line : ℕ) (result : Result (Unit {0}) NoMemory) → OnOk result (rows_of_entries new ≡ noted (rows_of_entries old) bytes line) → OnErr result (new ≡ old) → length old < bound → length new ≤ bound
few_after old new bound bytes line (Ok done) noted_rows same less =
    let few = few_noted (rows_of_entries old) bytes line in
    let before = length-map old row_of_entry in
    let after = length-map new row_of_entry in
    let count = ap length noted_rows in
    omega (arith, few, before, after, count, less)
few_after old new bound bytes line (Err fault) noted_rows same less = let count = ap length same in omega (arith, count, less)
