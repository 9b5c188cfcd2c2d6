-- What stands at a place of a sheet, and up to where.
use Rattle.std.specs.Prelude.{◌≡◌, ℕ, ◌+◌, ◌-◌, ◌<◌, Bool, ◌&&◌, ◌==◌, not, nat_lt, nat_le, if◌then◌else◌, MatchBool, List, length, slice_index, slice_range, codes, ◌⊎◌}
use Rattle.scanning_theory.specs.Lines.{line_feed}
use Rattle.sheet_theory.specs.Names.{quote, double_quote}
use Rattle.lexeme_theory.specs.declared.lexeme.Lexeme.{Lexeme}
use Rattle.lexeme_theory.specs.declared.lexeme.Lexeme.TheVariants.{Name, Number, Fold, NumberOf, Quoted, Text, Pattern, Directive as directive_lexeme, Mark, Single as single_lexeme}
use Rattle.lexeme_theory.specs.declared.lexeme.Directive.{Directive}
use Rattle.lexeme_theory.specs.declared.lexeme.Directive.TheVariants.{Token, Skip, Start, Declares}
use Rattle.lexeme_theory.specs.declared.found.Found.{Found}
use Rattle.lexeme_theory.specs.declared.found.Found.TheVariants.{Blank as blank_found, Lexeme as lexeme_found, Fault as fault_found}
use Rattle.lexeme_theory.specs.declared.found.FaultKind.{FaultKind}
use Rattle.lexeme_theory.specs.declared.found.FaultKind.TheVariants.{BadByte, Syntax}
use Rattle.lexeme_theory.specs.declared.begin.Begin.{Begin}
use Rattle.lexeme_theory.specs.declared.begin.Begin.TheVariants.{Blank as blank_begins, LineComment as line_comment_begins, BlockComment as block_comment_begins, Name as name_begins, Number as number_begins, Fold as fold_begins, NumberOf as number_of_begins, Quoted as quoted_begins, Text as text_begins, Pattern as pattern_begins, Directive as directive_begins, Mark as mark_begins, Single as single_begins, BadByte as bad_byte_begins, Nothing as nothing_begins}
use Rattle.lexeme_theory.specs.SheetBytes.{is_name_byte, is_digit}
use Rattle.lexeme_theory.specs.Runs.{IsRun, IsRunOf}
use Rattle.lexeme_theory.specs.Begins.{begin_at}
use Rattle.lexeme_theory.specs.Decimals.{decimal_value}
use Rattle.lexeme_theory.specs.Escapes.{Spells}
use Rattle.lexeme_theory.specs.Texts.{IsTextRun, is_closed, has_bad_byte}

abbrev pub bad_byte_fault : Found
bad_byte_fault = fault_found BadByte

abbrev pub syntax_fault : Found
syntax_fault = fault_found Syntax

-- the name from a place on
abbrev pub IsNameFound : List ℕ → ℕ → Found → Type 0
IsNameFound bytes at found =
    (to : ℕ) × IsRunOf is_name_byte bytes at to × (found ≡ lexeme_found (Name (slice_range bytes at to)) to)

-- what a run of digits is: a number of at most 9 digits
abbrev pub number_found : (ℕ → Lexeme) → List ℕ → ℕ → ℕ → Found
number_found number bytes from to =
    if nat_le (to - from) 9 then lexeme_found (number (decimal_value (slice_range bytes from to))) to else syntax_fault

-- the lexeme of a number whose digits begin at a place
abbrev pub IsNumberFound : (ℕ → Lexeme) → List ℕ → ℕ → Found → Type 0
IsNumberFound number bytes from found =
    (to : ℕ) × IsRunOf is_digit bytes from to × (found ≡ number_found number bytes from to)

-- how a directive is written behind its `%`
abbrev pub directive_word : Directive → List ℕ
directive_word Token = codes "token"
directive_word Skip = codes "skip"
directive_word Start = codes "start"
directive_word Declares = codes "declares"

-- the word is that of a directive, or of none
abbrev pub IsDirectiveOf : List ℕ → ℕ → Found → Type 0
IsDirectiveOf word to found =
    ((directive : Directive) × (word ≡ directive_word directive) × (found ≡ lexeme_found (directive_lexeme directive) to)) ⊎ (((directive : Directive) → ¬ (word ≡ directive_word directive)) × (found ≡ syntax_fault))

-- the directive at a place
abbrev pub IsDirectiveFound : List ℕ → ℕ → Found → Type 0
IsDirectiveFound bytes at found =
    (to : ℕ) × IsRunOf is_name_byte bytes (at + 1) to × IsDirectiveOf (slice_range bytes (at + 1) to) to found

-- the comment at a place, up to the line feed or the end
abbrev pub IsLineCommentFound : List ℕ → ℕ → Found → Type 0
IsLineCommentFound bytes at found =
    (to : ℕ) × IsRunOf (λ byte. not (byte == line_feed)) bytes (at + 2) to × (found ≡ blank_found to)

-- `*/` stands there
abbrev pub closes_comment : List ℕ → ℕ → Bool
closes_comment bytes at = (slice_index bytes at == 42) && (slice_index bytes (at + 1) == 47)

-- the comment at a place, up to the next `*/` and with it
abbrev pub IsBlockCommentFound : List ℕ → ℕ → Found → Type 0
IsBlockCommentFound bytes at found =
    (to : ℕ) × IsRun (λ i. not (closes_comment bytes i)) (length bytes) (at + 2) to × (found ≡ (if nat_lt to (length bytes) then blank_found (to + 2) else syntax_fault))

-- a text from `from` up to `to` that may be no lexeme: a bad byte in it goes before all else
abbrev pub IsTextOf : (Found → Type 0) → ℕ → List ℕ → ℕ → ℕ → Found → Type 0
IsTextOf Closed closing bytes from to found =
    MatchBool (has_bad_byte bytes from to) (found ≡ bad_byte_fault) (MatchBool (is_closed closing bytes to) (Closed found) (found ≡ syntax_fault))

-- the bytes that a text stands for, or a wrong escape
abbrev pub IsSpelledFound : (List ℕ → Lexeme) → List ℕ → ℕ → Found → Type 0
IsSpelledFound lexeme text next found =
    ((bytes : List ℕ) × Spells text bytes × (found ≡ lexeme_found (lexeme bytes) next)) ⊎ (((bytes : List ℕ) → ¬ (Spells text bytes)) × (found ≡ syntax_fault))

-- the text with escapes that begins behind a place
abbrev pub IsSpelledText : (List ℕ → Lexeme) → ℕ → List ℕ → ℕ → Found → Type 0
IsSpelledText lexeme closing bytes at found =
    (to : ℕ) × IsTextRun closing bytes (at + 1) to × IsTextOf (IsSpelledFound lexeme (slice_range bytes (at + 1) to) (to + 1)) closing bytes (at + 1) to found

-- the pattern that begins behind a place; its text stays as it is
abbrev pub IsPatternFound : List ℕ → ℕ → Found → Type 0
IsPatternFound bytes at found =
    (to : ℕ) × IsTextRun 47 bytes (at + 1) to × IsTextOf (λ f. f ≡ lexeme_found (Pattern (slice_range bytes (at + 1) to)) (to + 1)) 47 bytes (at + 1) to found

-- what is found at a place, by what begins there
abbrev pub IsFoundBy : Begin → List ℕ → ℕ → Found → Type 0
IsFoundBy blank_begins bytes at found = found ≡ blank_found (at + 1)
IsFoundBy line_comment_begins bytes at found = IsLineCommentFound bytes at found
IsFoundBy block_comment_begins bytes at found = IsBlockCommentFound bytes at found
IsFoundBy name_begins bytes at found = IsNameFound bytes at found
IsFoundBy number_begins bytes at found = IsNumberFound Number bytes at found
IsFoundBy fold_begins bytes at found = IsNumberFound Fold bytes (at + 1) found
IsFoundBy number_of_begins bytes at found = IsNumberFound NumberOf bytes (at + 1) found
IsFoundBy quoted_begins bytes at found = IsSpelledText Quoted quote bytes at found
IsFoundBy text_begins bytes at found = IsSpelledText Text double_quote bytes at found
IsFoundBy pattern_begins bytes at found = IsPatternFound bytes at found
IsFoundBy directive_begins bytes at found = IsDirectiveFound bytes at found
IsFoundBy mark_begins bytes at found = found ≡ lexeme_found Mark (at + 2)
IsFoundBy (single_begins single) bytes at found = found ≡ lexeme_found (single_lexeme single) (at + 1)
IsFoundBy bad_byte_begins bytes at found = found ≡ bad_byte_fault
IsFoundBy nothing_begins bytes at found = found ≡ syntax_fault

-- what is found at a place before the end
pub record IsFound (bytes : List ℕ) (at : ℕ) (found : Found) : Type 0 where
  pub inside : at < length bytes
  pub by : IsFoundBy (begin_at bytes at) bytes at found

-- one blank, or one comment, up to `next`
abbrev pub IsBlank : List ℕ → ℕ → ℕ → Type 0
IsBlank bytes at next = IsFound bytes at (blank_found next)

-- the lexeme, up to `next`
abbrev pub IsLexeme : List ℕ → ℕ → Lexeme → ℕ → Type 0
IsLexeme bytes at lexeme next = IsFound bytes at (lexeme_found lexeme next)

-- neither stands there, for this reason
abbrev pub BeginsFault : List ℕ → ℕ → FaultKind → Type 0
BeginsFault bytes at kind = IsFound bytes at (fault_found kind)
