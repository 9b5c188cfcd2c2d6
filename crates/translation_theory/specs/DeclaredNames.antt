-- The declared names of a tree over a text: the different byte strings of its marked leaves, in the order of their first
-- marked leaves, numbered from 1; and how they print.
use Rattle.std.specs.Prelude.{◌≡◌, ◌≢◌, ◌↔◌, ℕ, ◌+◌, ◌<◌, if◌then◌else◌, List, [], ◌∷◌, ◌++◌, AllPairs, Contains, length, map, filter, sum_by, slice_get, Some}
use Rattle.std.specs.Fmt.{decimal}
use Rattle.std.specs.Str.{bytes_eq}
use Rattle.grammar_data.specs.declared.token.Token.{Token as TextToken}
use Rattle.grammar_theory.specs.Trees.{Tree}
use Rattle.scanning_theory.specs.Lines.{line_feed}
use Rattle.sheet_data.specs.Sheet.{Sheet}
use Rattle.outline_theory.specs.Numbering.{is_one_of, distinct, index_of}
use Rattle.translation_theory.specs.TokenTexts.{bytes_of, texts_of}
use Rattle.translation_theory.specs.Marks.{marked_leaves}

-- a declared name: its bytes, the line of its first marked leaf, and how many marked leaves it has
pub record Row : Type 0 where
  pub text : List ℕ
  pub line : ℕ
  pub times : ℕ

-- those of the leaves that have these bytes
abbrev pub leaves_with : List ℕ → List TextToken → List ℕ → List TextToken
leaves_with text leaves bytes = filter (λ leaf. bytes_eq (bytes_of text leaf) bytes) leaves

-- the line of the first of some leaves
abbrev pub first_line : List TextToken → ℕ
first_line [] = 0
first_line (leaf ∷ leaves) = leaf.place.line

-- the row of these bytes among marked leaves
abbrev pub row_of : List ℕ → List TextToken → List ℕ → Row
row_of text leaves bytes = record {
  text = bytes;
  line = first_line (leaves_with text leaves bytes);
  times = length (leaves_with text leaves bytes);
}

-- the rows of marked leaves, one for each byte string of theirs
unfoldable pub rows_of : List ℕ → List TextToken → List Row
rows_of text leaves = map (row_of text leaves) (distinct (texts_of text leaves))

-- the names of a tree
abbrev pub names_of : Sheet → List ℕ → Tree → List Row
names_of sheet text tree = rows_of text (marked_leaves sheet tree)

-- the byte strings of names
abbrev pub texts_in : List Row → List (List ℕ)
texts_in rows = map (λ (row : Row). row.text) rows

-- the number of these bytes among the names; 0 where they are none
abbrev pub number_in : List Row → List ℕ → ℕ
number_in rows bytes = if is_one_of (texts_in rows) bytes then index_of (texts_in rows) bytes + 1 else 0

-- a name's line: its number, its line, how many marked leaves it has, and its bytes, with one space between
abbrev pub row_text : ℕ → Row → List ℕ
row_text number row =
    decimal number ++ (32 ∷ (decimal row.line ++ (32 ∷ (decimal row.times ++ (32 ∷ (row.text ++ (line_feed ∷ [])))))))

-- the lines of names of which the first has this number
abbrev pub rows_text : ℕ → List Row → List ℕ
rows_text number [] = []
rows_text number (row ∷ rows) = row_text number row ++ rows_text (number + 1) rows

-- the printed names of a tree
abbrev pub names_text : Sheet → List ℕ → Tree → List ℕ
names_text sheet text tree = rows_text 1 (names_of sheet text tree)

-- the names where one more leaf has these bytes and this line: their row has one leaf more, or they are a new name, the last
abbrev pub noted : List Row → List ℕ → ℕ → List Row
noted [] bytes line = record { text = bytes; line = line; times = 1 } ∷ []
noted (row ∷ rows) bytes line =
    if bytes_eq bytes row.text then record { text = row.text; line = row.line; times = row.times + 1 } ∷ rows
    else row ∷ noted rows bytes line

-- the names differ
abbrev pub NoRepeatLaw : Type 0
NoRepeatLaw = (text : List ℕ) (leaves : List TextToken) → AllPairs (λ (one other : Row). one.text ≢ other.text) (rows_of text leaves)

-- bytes are a name exactly where a marked leaf has them
abbrev pub NamedLaw : Type 0
NamedLaw = (text : List ℕ) (leaves : List TextToken) (bytes : List ℕ) → Contains (texts_in (rows_of text leaves)) bytes ↔ Contains (texts_of text leaves) bytes

-- and have then a number, which is 1 plus the place of their row; else their number is 0
abbrev pub NumberLaw : Type 0
NumberLaw = (text : List ℕ) (leaves : List TextToken) (k : ℕ) (row : Row) → slice_get (rows_of text leaves) k ≡ Some row → number_in (rows_of text leaves) row.text ≡ k + 1

abbrev pub NoNumberLaw : Type 0
NoNumberLaw = (text : List ℕ) (leaves : List TextToken) (bytes : List ℕ) → (number_in (rows_of text leaves) bytes ≡ 0) ↔ (¬ (Contains (texts_of text leaves) bytes))

-- the first marked leaf of a name stands before that of each later one
abbrev pub FirstLeavesLaw : Type 0
FirstLeavesLaw = (text : List ℕ) (leaves : List TextToken) → AllPairs (λ (one other : Row). index_of (texts_of text leaves) one.text < index_of (texts_of text leaves) other.text) (rows_of text leaves)

-- each marked leaf is one of one name
abbrev pub TimesLaw : Type 0
TimesLaw = (text : List ℕ) (leaves : List TextToken) → sum_by (λ (row : Row). row.times) (rows_of text leaves) ≡ length leaves

-- the names of leaves with one more behind are those with one more leaf noted
abbrev pub NotedLaw : Type 0
NotedLaw = (text : List ℕ) (leaves : List TextToken) (leaf : TextToken) → rows_of text (leaves ++ leaf ∷ []) ≡ noted (rows_of text leaves) (bytes_of text leaf) leaf.place.line
