-- The faults that an outline has on its lines, and the first of them.
use Rattle.std.specs.Prelude.{◌≡◌, ◌≢◌, ℕ, suc, ◌-◌, ◌<◌, ◌⊎◌, List, [], length, Contains, Some, slice_get, take}
use Rattle.pattern_data.specs.declared.pattern.Pattern.{Pattern}
use Rattle.pattern_data.specs.Language.{Matches}
use Rattle.pattern_data.specs.Spellings.{IsSpelling}
use Rattle.outline_data.specs.declared.outline.Word.{Word}
use Rattle.outline_data.specs.declared.outline.PlaceUse.{PlaceUse}
use Rattle.outline_data.specs.declared.rules.Symbol.TheVariants.{Name}
use Rattle.outline_data.specs.declared.fault.SheetFault.{SheetFault}
use Rattle.outline_data.specs.declared.fault.SheetFault.TheVariants.{BadPattern, PatternMatchesEmpty, Redeclared, UnknownSymbol, PlaceOutOfRange, PlaceTwice, NotAToken}
use Rattle.outline_data.specs.AlternativeParts.{AlternativeParts}
use Rattle.outline_data.specs.Parts.{OutlineParts}
use Rattle.outline_theory.specs.Words.{texts, token_words, literal_words, pattern_words, StartUse, starts, left_words, alternatives_of, side_names, all_literals, template_uses, token_uses, all_uses, places}
use Rattle.outline_theory.specs.Keys.{IsNoLater}

-- the word is that of a declared token
abbrev pub IsTokenName : OutlineParts → List ℕ → Type 0
IsTokenName o word = Contains (texts (token_words o)) word

-- the word has a rule
abbrev pub HasRule : OutlineParts → List ℕ → Type 0
HasRule o word = Contains (texts (left_words o)) word

-- a word that stands in the list before this place, too
pub record StandsAgain (words : List Word) (word : Word) : Type 0 where
  pub at : ℕ
  pub here : slice_get words at ≡ Some word
  pub before : Contains (texts (take at words)) word.bytes

-- a place that is used before, too
pub record IsUsedAgain (uses : List PlaceUse) (used : PlaceUse) : Type 0 where
  pub at : ℕ
  pub here : slice_get uses at ≡ Some used
  pub before : Contains (places (take at uses)) used.place

-- the place is 0, or behind the right side
abbrev pub IsOutOfRange : AlternativeParts → ℕ → Type 0
IsOutOfRange a place = (place ≡ 0) ⊎ (length a.right < place)

-- a name of the grammar stands at the place
pub record IsNameAt (o : OutlineParts) (a : AlternativeParts) (place : ℕ) : Type 0 where
  pub word : Word
  pub not_zero : place ≢ 0
  pub stands : slice_get a.right (place - 1) ≡ Some (Name word)
  pub no_token : ¬ (IsTokenName o word.bytes)
  pub rule : HasRule o word.bytes

pub data HasLineFault (o : OutlineParts) : SheetFault → Type 0 where
  -- a literal has a line feed
  line_feed : {word : Word} → Contains (all_literals o) word → Contains word.bytes 10 → HasLineFault o (BadPattern word.line)
  -- the text of a pattern spells none
  no_spelling : {word : Word} → Contains (pattern_words o) word → ((pattern : Pattern) → ¬ (IsSpelling word.bytes pattern)) → HasLineFault o (BadPattern word.line)
  -- a literal is empty
  empty_literal : {word : Word} → Contains (all_literals o) word → word.bytes ≡ [] → HasLineFault o (PatternMatchesEmpty word.line)
  -- a pattern has the empty string
  empty_pattern : {word : Word} {pattern : Pattern} → Contains (pattern_words o) word → IsSpelling word.bytes pattern → Matches pattern [] → HasLineFault o (PatternMatchesEmpty word.line)
  -- a token's name is declared again, a literal is named again, there is a second start, or a left side is a token
  name_again : {word : Word} → StandsAgain (token_words o) word → HasLineFault o (Redeclared word.line)
  literal_again : {word : Word} → StandsAgain (literal_words o) word → HasLineFault o (Redeclared word.line)
  start_again : (before : ℕ) {start : StartUse} → slice_get (starts o) (suc before) ≡ Some start → HasLineFault o (Redeclared start.line)
  left_is_token : {word : Word} → Contains (left_words o) word → IsTokenName o word.bytes → HasLineFault o (Redeclared word.line)
  -- a name in a right side is no token and has no rule, or the start has none
  unknown_name : {word : Word} → Contains (side_names o) word → ¬ (IsTokenName o word.bytes) → ¬ (HasRule o word.bytes) → HasLineFault o (UnknownSymbol word.line)
  unknown_start : {start : StartUse} → Contains (starts o) start → ¬ (HasRule o start.name.bytes) → HasLineFault o (UnknownSymbol start.name.line)
  -- a template or a mark uses a place that the right side doesn't have
  out_of_range : {a : AlternativeParts} {used : PlaceUse} → Contains (alternatives_of o) a → Contains (all_uses a) used → IsOutOfRange a used.place → HasLineFault o (PlaceOutOfRange used.line)
  -- a template uses a place again, or the marks of one rule do
  twice_in_template : {a : AlternativeParts} {used : PlaceUse} → Contains (alternatives_of o) a → IsUsedAgain (template_uses a) used → HasLineFault o (PlaceTwice used.line)
  twice_in_marks : {a : AlternativeParts} {used : PlaceUse} → Contains (alternatives_of o) a → IsUsedAgain a.marks used → HasLineFault o (PlaceTwice used.line)
  -- a name of the grammar stands where a token has to
  not_a_token : {a : AlternativeParts} {used : PlaceUse} → Contains (alternatives_of o) a → Contains (token_uses a) used → IsNameAt o a used.place → HasLineFault o (NotAToken used.line)

-- of the faults on the least line, the one with the least number
pub record IsFirstLineFault (o : OutlineParts) (fault : SheetFault) : Type 0 where
  pub has : HasLineFault o fault
  pub first : (other : SheetFault) → HasLineFault o other → IsNoLater fault other
