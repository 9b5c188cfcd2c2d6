-- The faults on the lines of an outline by their kinds, over the sets of names that a check has at hand.
use Rattle.std.specs.Prelude.{◌≡◌, ◌≢◌, ℕ, suc, ◌-◌, ◌<◌, ◌⊎◌, Bool, true, false, List, [], length, Contains, Some, slice_get}
use Rattle.pattern_data.specs.declared.pattern.Pattern.{Pattern}
use Rattle.pattern_data.specs.Language.{Matches}
use Rattle.pattern_data.specs.Spellings.{IsSpelling}
use Rattle.outline_data.specs.declared.outline.Word.{Word}
use Rattle.outline_data.specs.declared.outline.PlaceUse.{PlaceUse}
use Rattle.outline_data.specs.declared.rules.Symbol.{Symbol}
use Rattle.std.specs.List.{flat_map}
use Rattle.outline_data.specs.declared.rules.TemplatePart.{TemplatePart}
use Rattle.outline_data.specs.declared.rules.Symbol.TheVariants.{Name, Quoted}
use Rattle.outline_data.specs.declared.fault.SheetFault.{SheetFault}
use Rattle.outline_data.specs.declared.fault.SheetFault.TheVariants.{BadPattern, PatternMatchesEmpty, Redeclared, UnknownSymbol, PlaceOutOfRange, PlaceTwice, NotAToken}
use Rattle.outline_data.specs.AlternativeParts.{AlternativeParts}
use Rattle.outline_data.specs.GroupParts.{GroupParts}
use Rattle.outline_theory.specs.Words.{StartUse, use_in, number_in, template_uses, token_uses}
use Rattle.outline_theory.specs.LineFaults.{StandsAgain, IsUsedAgain}
use Rattle.outline_checks.specs.WordSets.{has_word}
use Rattle.outline_checks.specs.declared.names.Names.{Names}

-- the word is that of a declared token
abbrev pub is_token_name : Names → List ℕ → Bool
is_token_name names word = has_word names.tokens word

-- the word has a rule
abbrev pub is_left_side : Names → List ℕ → Bool
is_left_side names word = has_word names.left_sides word

-- a fault of some element of the list
pub record InSome {X : Type 0} (Of : X → SheetFault → Type 0) (xs : List X) (fault : SheetFault) : Type 0 where
  pub element : X
  pub stands : Contains xs element
  pub has : Of element fault

-- a literal has a line feed, or is empty
pub data LiteralFault (word : Word) : SheetFault → Type 0 where
  line_feed : Contains word.bytes 10 → LiteralFault word (BadPattern word.line)
  empty : word.bytes ≡ [] → LiteralFault word (PatternMatchesEmpty word.line)

-- a word stands again
pub data RepeatFault (words : List Word) : SheetFault → Type 0 where
  again : {word : Word} → StandsAgain words word → RepeatFault words (Redeclared word.line)

-- a named literal is named again, has a line feed or is empty
pub data NamedLiteralFault (words : List Word) : SheetFault → Type 0 where
  named_again : {fault : SheetFault} → RepeatFault words fault → NamedLiteralFault words fault
  named_text : {fault : SheetFault} → InSome LiteralFault words fault → NamedLiteralFault words fault

-- the text of a pattern spells none, or one that has the empty string
pub data PatternTextFault (word : Word) : SheetFault → Type 0 where
  no_spelling : ((pattern : Pattern) → ¬ (IsSpelling word.bytes pattern)) → PatternTextFault word (BadPattern word.line)
  empty_pattern : {pattern : Pattern} → IsSpelling word.bytes pattern → Matches pattern [] → PatternTextFault word (PatternMatchesEmpty word.line)

-- there is a second start, or one without a rule
pub data StartFault (names : Names) (starts : List StartUse) : SheetFault → Type 0 where
  second_start : (before : ℕ) {start : StartUse} → slice_get starts (suc before) ≡ Some start → StartFault names starts (Redeclared start.line)
  unknown_start : {start : StartUse} → Contains starts start → is_left_side names start.name.bytes ≡ false → StartFault names starts (UnknownSymbol start.name.line)

-- a name is no token and has no rule
pub data NameFault (names : Names) (word : Word) : SheetFault → Type 0 where
  unknown_name : is_token_name names word.bytes ≡ false → is_left_side names word.bytes ≡ false → NameFault names word (UnknownSymbol word.line)

-- the faults of a symbol of a right side
abbrev pub SymbolFault : Names → Symbol → SheetFault → Type 0
SymbolFault names (Name word) fault = NameFault names word fault
SymbolFault names (Quoted word) fault = LiteralFault word fault

-- a place is none of a right side of this length, or is used before
pub data PlaceFault (size : ℕ) (uses : List PlaceUse) : SheetFault → Type 0 where
  out_of_range : {used : PlaceUse} → Contains uses used → (used.place ≡ 0) ⊎ (size < used.place) → PlaceFault size uses (PlaceOutOfRange used.line)
  twice : {used : PlaceUse} → IsUsedAgain uses used → PlaceFault size uses (PlaceTwice used.line)

-- a name of the grammar stands at the place
pub record IsGrammarName (names : Names) (right : List Symbol) (place : ℕ) : Type 0 where
  pub word : Word
  pub not_zero : place ≢ 0
  pub stands : slice_get right (place - 1) ≡ Some (Name word)
  pub no_token : is_token_name names word.bytes ≡ false
  pub rule : is_left_side names word.bytes ≡ true

-- a name of the grammar stands where a token has to
pub data NoTokenFault (names : Names) (right : List Symbol) (used : PlaceUse) : SheetFault → Type 0 where
  not_a_token : IsGrammarName names right used.place → NoTokenFault names right used (NotAToken used.line)

-- a template uses a place that is none, or one that it used before, or asks the number of a name of the grammar
abbrev pub TemplateFault : Names → List Symbol → List TemplatePart → SheetFault → Type 0
TemplateFault names right parts fault =
    PlaceFault (length right) (flat_map use_in parts) fault ⊎ InSome (NoTokenFault names right) (flat_map number_in parts) fault

-- the faults of a right side, its template and its marks
pub data AlternativeFault (names : Names) (a : AlternativeParts) : SheetFault → Type 0 where
  in_right : {fault : SheetFault} → InSome (SymbolFault names) a.right fault → AlternativeFault names a fault
  in_template : {fault : SheetFault} → PlaceFault (length a.right) (template_uses a) fault → AlternativeFault names a fault
  in_marks : {fault : SheetFault} → PlaceFault (length a.right) a.marks fault → AlternativeFault names a fault
  at_name : {fault : SheetFault} → InSome (NoTokenFault names a.right) (token_uses a) fault → AlternativeFault names a fault

-- the left side is a token, or an alternative has a fault
pub data GroupFault (names : Names) (g : GroupParts) : SheetFault → Type 0 where
  left_is_token : is_token_name names g.left.bytes ≡ true → GroupFault names g (Redeclared g.left.line)
  in_alternative : {fault : SheetFault} → InSome (AlternativeFault names) g.alternatives fault → GroupFault names g fault
