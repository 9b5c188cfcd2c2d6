-- A place before the end has one blank, lexeme or fault.
use Rattle.std.proofs.Common.{◌≡◌, ℕ, ◌+◌, ◌<◌, ◌≤◌, ◌⊎◌, Bool, true, false, List, length, get_or, refl, sym, ap, subst, ◌∙◌, inl, inr, ⊎_elim, arith}
use Rattle.std.specs.Prelude.{MatchBool, codes, not, ◌==◌, slice_get, slice_range, nat_lt, if◌then◌else◌}
use Rattle.std.specs.Str.{bytes_eq}
use Rattle.std.proofs.lemmas.Bool.{false≢true, eq-eqb}
use Rattle.std.proofs.lemmas.Slice.Eq.{bytes_eq-Decides}
use Rattle.scanning_theory.specs.Lines.{line_feed}
use Rattle.sheet_theory.specs.Names.{quote, double_quote}
use Rattle.lexeme_theory.specs.declared.lexeme.Lexeme.{Lexeme}
use Rattle.lexeme_theory.specs.declared.lexeme.Lexeme.TheVariants.{Name, Number, Fold, NumberOf, Quoted, Text, Pattern, Directive as directive_lexeme}
use Rattle.lexeme_theory.specs.declared.lexeme.Directive.{Directive}
use Rattle.lexeme_theory.specs.declared.lexeme.Directive.TheVariants.{Token, Skip, Start, Declares}
use Rattle.lexeme_theory.specs.declared.found.Found.{Found}
use Rattle.lexeme_theory.specs.declared.found.Found.TheVariants.{Blank as blank_found, Lexeme as lexeme_found}
use Rattle.lexeme_theory.specs.declared.begin.Begin.{Begin}
use Rattle.lexeme_theory.specs.declared.begin.Begin.TheVariants.{Blank as blank_begins, LineComment as line_comment_begins, BlockComment as block_comment_begins, Name as name_begins, Number as number_begins, Fold as fold_begins, NumberOf as number_of_begins, Quoted as quoted_begins, Text as text_begins, Pattern as pattern_begins, Directive as directive_begins, Mark as mark_begins, Single as single_begins, BadByte as bad_byte_begins, Nothing as nothing_begins}
use Rattle.lexeme_theory.specs.SheetBytes.{is_name_byte, is_digit}
use Rattle.lexeme_theory.specs.Runs.{IsRun}
use Rattle.lexeme_theory.specs.Begins.{begin_at}
use Rattle.lexeme_theory.specs.Texts.{text_goes_on, is_closed, has_bad_byte}
use Rattle.lexeme_theory.specs.Stands.{bad_byte_fault, syntax_fault, number_found, directive_word, IsDirectiveOf, closes_comment, IsTextOf, IsSpelledFound, IsFoundBy, IsFound}
use Rattle.lexeme_theory.proofs.RunLemmas.{run_once, run_some}
use Rattle.lexeme_theory.proofs.BeginLemmas.{Fits, fits_at, second_inside}
use Rattle.lexeme_theory.proofs.SpellLemmas.{spells_once, spelling}

-- at most one
abbrev pub IsOne : (Found → Type 0) → Type 0
IsOne P = (one other : Found) → P one → P other → one ≡ other

abbrev pub HasSome : (Found → Type 0) → Type 0
HasSome P = (found : Found) × P found

pub same_one : (is : Found) → IsOne (λ f. f ≡ is)
same_one is one other a b = a ∙ sym b

-- by a run
abbrev pub ByRun : (ℕ → Bool) → ℕ → ℕ → (ℕ → Found → Type 0) → Found → Type 0
ByRun goes limit from P found = (to : ℕ) × IsRun goes limit from to × P to found

pub run_one : (goes : ℕ → Bool) (limit from : ℕ) (P : ℕ → Found → Type 0) → ((to : ℕ) → IsOne (P to)) → IsOne (ByRun goes limit from P)
run_one goes limit from P each one other a b =
    let same : b.0 ≡ a.0 = run_once goes limit from b.0 a.0 b.1 a.1 in
    each a.0 one other a.2 (subst (λ n. P n other) same b.2)

pub run_has_some : (goes : ℕ → Bool) (limit from : ℕ) (P : ℕ → Found → Type 0) → from ≤ limit → ((to : ℕ) → HasSome (P to)) → HasSome (ByRun goes limit from P)
run_has_some goes limit from P inside each =
    let run = run_some goes limit from inside in
    let some = each run.0 in
    (some.0, (run.0, run.1, some.1))

-- by a test
match_one : (b : Bool) (P Q : Found → Type 0) → IsOne P → IsOne Q → IsOne (λ f. MatchBool b (P f) (Q f))
match_one true P Q p q = p
match_one false P Q p q = q

match_some : (b : Bool) (P Q : Found → Type 0) → HasSome P → HasSome Q → HasSome (λ f. MatchBool b (P f) (Q f))
match_some true P Q p q = p
match_some false P Q p q = q

-- texts
text_one : (Closed : Found → Type 0) (closing : ℕ) (bytes : List ℕ) (from to : ℕ) → IsOne Closed → IsOne (IsTextOf Closed closing bytes from to)
text_one Closed closing bytes from to one =
    match_one (has_bad_byte bytes from to) (λ f. f ≡ bad_byte_fault) (λ f. MatchBool (is_closed closing bytes to) (Closed f) (f ≡ syntax_fault)) (same_one bad_byte_fault) (match_one (is_closed closing bytes to) Closed (λ f. f ≡ syntax_fault) one (same_one syntax_fault))

text_some : (Closed : Found → Type 0) (closing : ℕ) (bytes : List ℕ) (from to : ℕ) → HasSome Closed → HasSome (IsTextOf Closed closing bytes from to)
text_some Closed closing bytes from to some =
    match_some (has_bad_byte bytes from to) (λ f. f ≡ bad_byte_fault) (λ f. MatchBool (is_closed closing bytes to) (Closed f) (f ≡ syntax_fault)) (bad_byte_fault, refl) (match_some (is_closed closing bytes to) Closed (λ f. f ≡ syntax_fault) some (syntax_fault, refl))

spelled_one : (lexeme : List ℕ → Lexeme) (text : List ℕ) (next : ℕ) → IsOne (IsSpelledFound lexeme text next)
spelled_one lexeme text next one other (inl a) (inl b) =
    a.2 ∙ ap (λ l. lexeme_found (lexeme l) next) (spells_once a.1 b.0 b.1) ∙ sym b.2
spelled_one lexeme text next one other (inl a) (inr b) = absurd (b.0 a.0 a.1)
spelled_one lexeme text next one other (inr a) (inl b) = absurd (a.0 b.0 b.1)
spelled_one lexeme text next one other (inr a) (inr b) = a.1 ∙ sym b.1

spelled_some : (lexeme : List ℕ → Lexeme) (text : List ℕ) (next : ℕ) → HasSome (IsSpelledFound lexeme text next)
spelled_some lexeme text next =
    ⊎_elim
    (λ found. (lexeme_found (lexeme found.0) next, inl (found.0, found.1, refl)))
    (λ none. (syntax_fault, inr (none, refl)))
    (spelling text)

-- directives
head_of : (xs ys : List ℕ) (i : ℕ) → xs ≡ ys → get_or xs i 0 ≡ get_or ys i 0
head_of xs ys i e = ap (λ l. get_or l i 0) e

differ : (m n : ℕ) → m ≡ n → (m == n) ≡ false → ⊥
differ m n e apart = false≢true (sym apart ∙ eq-eqb m n e)

word_once : (one other : Directive) → directive_word one ≡ directive_word other → one ≡ other
word_once Token Token e = refl
word_once Token Skip e = absurd (differ 116 115 (head_of (codes "token") (codes "skip") 0 e) refl)
word_once Token Start e = absurd (differ 116 115 (head_of (codes "token") (codes "start") 0 e) refl)
word_once Token Declares e = absurd (differ 116 100 (head_of (codes "token") (codes "declares") 0 e) refl)
word_once Skip Token e = absurd (differ 115 116 (head_of (codes "skip") (codes "token") 0 e) refl)
word_once Skip Skip e = refl
word_once Skip Start e = absurd (differ 107 116 (head_of (codes "skip") (codes "start") 1 e) refl)
word_once Skip Declares e = absurd (differ 115 100 (head_of (codes "skip") (codes "declares") 0 e) refl)
word_once Start Token e = absurd (differ 115 116 (head_of (codes "start") (codes "token") 0 e) refl)
word_once Start Skip e = absurd (differ 116 107 (head_of (codes "start") (codes "skip") 1 e) refl)
word_once Start Start e = refl
word_once Start Declares e = absurd (differ 115 100 (head_of (codes "start") (codes "declares") 0 e) refl)
word_once Declares Token e = absurd (differ 100 116 (head_of (codes "declares") (codes "token") 0 e) refl)
word_once Declares Skip e = absurd (differ 100 115 (head_of (codes "declares") (codes "skip") 0 e) refl)
word_once Declares Start e = absurd (differ 100 115 (head_of (codes "declares") (codes "start") 0 e) refl)
word_once Declares Declares e = refl

directive_one : (word : List ℕ) (to : ℕ) → IsOne (IsDirectiveOf word to)
directive_one word to one other (inl a) (inl b) =
    a.2 ∙ ap (λ d. lexeme_found (directive_lexeme d) to) (word_once a.0 b.0 (sym a.1 ∙ b.1)) ∙ sym b.2
directive_one word to one other (inl a) (inr b) = absurd (b.0 a.0 a.1)
directive_one word to one other (inr a) (inl b) = absurd (a.0 b.0 b.1)
directive_one word to one other (inr a) (inr b) = a.1 ∙ sym b.1

is_word : (word other : List ℕ) (b : Bool) → bytes_eq word other ≡ b → (word ≡ other) ⊎ (word ≡ other → ⊥)
is_word word other true e = inl ((bytes_eq-Decides word other).0 e)
is_word word other false e = inr (λ same. false≢true (sym e ∙ (bytes_eq-Decides word other).1 same))

none_of : (word : List ℕ) → (word ≡ codes "token" → ⊥) → (word ≡ codes "skip" → ⊥) → (word ≡ codes "start" → ⊥) → (word ≡ codes "declares" → ⊥) → (d : Directive) → word ≡ directive_word d → ⊥
none_of word a b c d Token e = a e
none_of word a b c d Skip e = b e
none_of word a b c d Start e = c e
none_of word a b c d Declares e = d e

named : (word : List ℕ) (to : ℕ) (d : Directive) → word ≡ directive_word d → HasSome (IsDirectiveOf word to)
named word to d e = (lexeme_found (directive_lexeme d) to, inl (d, e, refl))

directive_some : (word : List ℕ) (to : ℕ) → HasSome (IsDirectiveOf word to)
directive_some word to =
    ⊎_elim (named word to Token) (λ a.
    ⊎_elim (named word to Skip) (λ b.
    ⊎_elim (named word to Start) (λ c.
    ⊎_elim (named word to Declares) (λ d. (syntax_fault, inr (none_of word a b c d, refl)))
    (is_word word (codes "declares") _ refl))
    (is_word word (codes "start") _ refl))
    (is_word word (codes "skip") _ refl))
    (is_word word (codes "token") _ refl)

-- at most one, by what begins
abbrev name_goes : List ℕ → ℕ → Bool
name_goes bytes i = is_name_byte (get_or bytes i 0)

abbrev digit_goes : List ℕ → ℕ → Bool
digit_goes bytes i = is_digit (get_or bytes i 0)

abbrev comment_goes : List ℕ → ℕ → Bool
comment_goes bytes i = not (get_or bytes i 0 == line_feed)

abbrev block_goes : List ℕ → ℕ → Bool
block_goes bytes i = not (closes_comment bytes i)

abbrev ClosedBy : (List ℕ → Lexeme) → List ℕ → ℕ → ℕ → Found → Type 0
ClosedBy lexeme bytes from to = IsSpelledFound lexeme (slice_range bytes from to) (to + 1)

abbrev ClosedPattern : List ℕ → ℕ → ℕ → Found → Type 0
ClosedPattern bytes from to = λ f. f ≡ lexeme_found (Pattern (slice_range bytes from to)) (to + 1)

abbrev block_found : List ℕ → ℕ → Found
block_found bytes to = if nat_lt to (length bytes) then blank_found (to + 2) else syntax_fault

pub found_one : (begin : Begin) (bytes : List ℕ) (at : ℕ) → IsOne (IsFoundBy begin bytes at)
found_one blank_begins bytes at = same_one _
found_one line_comment_begins bytes at = run_one (comment_goes bytes) (length bytes) (at + 2) (λ to f. f ≡ blank_found to) (λ to. same_one (blank_found to))
found_one block_comment_begins bytes at = run_one (block_goes bytes) (length bytes) (at + 2) (λ to f. f ≡ block_found bytes to) (λ to. same_one (block_found bytes to))
found_one name_begins bytes at = run_one (name_goes bytes) (length bytes) at (λ to f. f ≡ lexeme_found (Name (slice_range bytes at to)) to) (λ to. same_one _)
found_one number_begins bytes at = run_one (digit_goes bytes) (length bytes) at (λ to f. f ≡ number_found Number bytes at to) (λ to. same_one _)
found_one fold_begins bytes at = run_one (digit_goes bytes) (length bytes) (at + 1) (λ to f. f ≡ number_found Fold bytes (at + 1) to) (λ to. same_one _)
found_one number_of_begins bytes at = run_one (digit_goes bytes) (length bytes) (at + 1) (λ to f. f ≡ number_found NumberOf bytes (at + 1) to) (λ to. same_one _)
found_one quoted_begins bytes at =
    run_one (text_goes_on quote bytes (at + 1)) (length bytes) (at + 1) (λ to. IsTextOf (ClosedBy Quoted bytes (at + 1) to) quote bytes (at + 1) to) (λ to. text_one (ClosedBy Quoted bytes (at + 1) to) quote bytes (at + 1) to (spelled_one Quoted _ _))
found_one text_begins bytes at =
    run_one (text_goes_on double_quote bytes (at + 1)) (length bytes) (at + 1) (λ to. IsTextOf (ClosedBy Text bytes (at + 1) to) double_quote bytes (at + 1) to) (λ to. text_one (ClosedBy Text bytes (at + 1) to) double_quote bytes (at + 1) to (spelled_one Text _ _))
found_one pattern_begins bytes at =
    run_one (text_goes_on 47 bytes (at + 1)) (length bytes) (at + 1) (λ to. IsTextOf (ClosedPattern bytes (at + 1) to) 47 bytes (at + 1) to) (λ to. text_one (ClosedPattern bytes (at + 1) to) 47 bytes (at + 1) to (same_one _))
found_one directive_begins bytes at = run_one (name_goes bytes) (length bytes) (at + 1) (λ to. IsDirectiveOf (slice_range bytes (at + 1) to) to) (λ to. directive_one _ to)
found_one mark_begins bytes at = same_one _
found_one (single_begins single) bytes at = same_one _
found_one bad_byte_begins bytes at = same_one _
found_one nothing_begins bytes at = same_one _

pub found_once : (bytes : List ℕ) (at : ℕ) → IsOne (IsFound bytes at)
found_once bytes at one other a b = found_one (begin_at bytes at) bytes at one other a.by b.by

-- some, by what begins
some_by : (begin : Begin) (bytes : List ℕ) (at : ℕ) (byte : ℕ) → at < length bytes → Fits begin byte (slice_get bytes (at + 1)) → HasSome (IsFoundBy begin bytes at)
some_by blank_begins bytes at byte h fits = (_, refl)
some_by line_comment_begins bytes at byte h fits =
    let two : at + 1 < length bytes = second_inside bytes at fits in
    run_has_some (comment_goes bytes) (length bytes) (at + 2) (λ to f. f ≡ blank_found to) (omega arith) (λ to. (_, refl))
some_by block_comment_begins bytes at byte h fits =
    let two : at + 1 < length bytes = second_inside bytes at fits in
    run_has_some (block_goes bytes) (length bytes) (at + 2) (λ to f. f ≡ block_found bytes to) (omega arith) (λ to. (_, refl))
some_by name_begins bytes at byte h fits = run_has_some (name_goes bytes) (length bytes) at (λ to f. f ≡ lexeme_found (Name (slice_range bytes at to)) to) (omega arith) (λ to. (_, refl))
some_by number_begins bytes at byte h fits = run_has_some (digit_goes bytes) (length bytes) at (λ to f. f ≡ number_found Number bytes at to) (omega arith) (λ to. (_, refl))
some_by fold_begins bytes at byte h fits = run_has_some (digit_goes bytes) (length bytes) (at + 1) (λ to f. f ≡ number_found Fold bytes (at + 1) to) (omega arith) (λ to. (_, refl))
some_by number_of_begins bytes at byte h fits = run_has_some (digit_goes bytes) (length bytes) (at + 1) (λ to f. f ≡ number_found NumberOf bytes (at + 1) to) (omega arith) (λ to. (_, refl))
some_by quoted_begins bytes at byte h fits =
    run_has_some (text_goes_on quote bytes (at + 1)) (length bytes) (at + 1) (λ to. IsTextOf (ClosedBy Quoted bytes (at + 1) to) quote bytes (at + 1) to) (omega arith) (λ to. text_some (ClosedBy Quoted bytes (at + 1) to) quote bytes (at + 1) to (spelled_some Quoted _ _))
some_by text_begins bytes at byte h fits =
    run_has_some (text_goes_on double_quote bytes (at + 1)) (length bytes) (at + 1) (λ to. IsTextOf (ClosedBy Text bytes (at + 1) to) double_quote bytes (at + 1) to) (omega arith) (λ to. text_some (ClosedBy Text bytes (at + 1) to) double_quote bytes (at + 1) to (spelled_some Text _ _))
some_by pattern_begins bytes at byte h fits =
    run_has_some (text_goes_on 47 bytes (at + 1)) (length bytes) (at + 1) (λ to. IsTextOf (ClosedPattern bytes (at + 1) to) 47 bytes (at + 1) to) (omega arith) (λ to. text_some (ClosedPattern bytes (at + 1) to) 47 bytes (at + 1) to (_, refl))
some_by directive_begins bytes at byte h fits = run_has_some (name_goes bytes) (length bytes) (at + 1) (λ to. IsDirectiveOf (slice_range bytes (at + 1) to) to) (omega arith) (λ to. directive_some _ to)
some_by mark_begins bytes at byte h fits = (_, refl)
some_by (single_begins single) bytes at byte h fits = (_, refl)
some_by bad_byte_begins bytes at byte h fits = (_, refl)
some_by nothing_begins bytes at byte h fits = (_, refl)

pub found_some : (bytes : List ℕ) (at : ℕ) → at < length bytes → HasSome (IsFound bytes at)
found_some bytes at inside =
    let some = some_by (begin_at bytes at) bytes at (get_or bytes at 0) inside (fits_at bytes at) in
    (some.0, record { inside = inside; by = some.1 })
