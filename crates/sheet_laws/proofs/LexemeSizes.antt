-- The bytes of a literal or of a pattern's text are written by at least as many bytes.
use Rattle.std.proofs.Common.{◌≡◌, ℕ, ◌+◌, ◌-◌, ◌≤◌, Bool, true, false, cond, List, [], ◌∷◌, length, refl, sym, subst, inl, inr, arith}
use Rattle.std.specs.Prelude.{MatchBool, nat_lt, nat_le, map, min, drop, slice_range, ◌⊎◌}
use Rattle.std.proofs.lemmas.List.{length-take}
use Rattle.lexeme_theory.specs.declared.lexeme.Lexeme.{Lexeme}
use Rattle.lexeme_theory.specs.declared.lexeme.Lexeme.TheVariants.{Name, Number, Fold, NumberOf, Quoted, Text, Pattern, Directive as directive_lexeme, Mark, Single as single_lexeme}
use Rattle.lexeme_theory.specs.declared.found.Found.{Found}
use Rattle.lexeme_theory.specs.declared.found.Found.TheVariants.{Blank as blank_found, Lexeme as lexeme_found, Fault as fault_found}
use Rattle.lexeme_theory.specs.declared.begin.Begin.{Begin}
use Rattle.lexeme_theory.specs.declared.begin.Begin.TheVariants.{Blank as blank_begins, LineComment as line_comment_begins, BlockComment as block_comment_begins, Name as name_begins, Number as number_begins, Fold as fold_begins, NumberOf as number_of_begins, Quoted as quoted_begins, Text as text_begins, Pattern as pattern_begins, Directive as directive_begins, Mark as mark_begins, Single as single_begins, BadByte as bad_byte_begins, Nothing as nothing_begins}
use Rattle.lexeme_theory.specs.Begins.{begin_at}
use Rattle.lexeme_theory.specs.Escapes.{Spells}
use Rattle.lexeme_theory.specs.Escapes.Spells.{nothing, byte_and}
use Rattle.lexeme_theory.specs.Texts.{is_closed, has_bad_byte}
use Rattle.lexeme_theory.specs.Stands.{bad_byte_fault, syntax_fault, IsDirectiveOf, IsTextOf, IsSpelledFound, IsFoundBy, IsLexeme}
use Rattle.lexeme_theory.specs.Reading.{Placed, AreLexemes}
use Rattle.lexeme_theory.specs.Reading.AreLexemes.{no_lexeme, blank_first, lexeme_first}
use Rattle.lexeme_theory.proofs.SpellLemmas.{front_is_shorter}
use Rattle.lexeme_theory.proofs.EndLemmas.{found_ends}
use Rattle.lexeme_theory.proofs.ReadingLemmas.{blank_on}
use Rattle.outline_theory.specs.Spelling.{Kept, kept}

-- the length of a literal's bytes, or of a pattern's text; 0 of any other lexeme
abbrev pub size : Lexeme → ℕ
size (Name bytes) = 0
size (Number n) = 0
size (Fold n) = 0
size (NumberOf n) = 0
size (Quoted bytes) = length bytes
size (Text bytes) = 0
size (Pattern bytes) = length bytes
size (directive_lexeme directive) = 0
size Mark = 0
size (single_lexeme single) = 0

abbrev pub sizes : List Kept → ℕ
sizes [] = 0
sizes (k ∷ ks) = size k.0 + sizes ks

-- a text stands for no more bytes than it has
pub spells_within : {text bytes : List ℕ} → Spells text bytes → length bytes ≤ length text
spells_within nothing = omega arith
spells_within {text = text} {bytes = all} (byte_and {byte = byte} {rest = rest} {bytes = bytes} front more is) =
    let less = front_is_shorter text (byte, rest) front in
    let later : length bytes ≤ length rest = spells_within more in
    let P : List ℕ → Type 0 = λ l. length l ≤ length text in
    subst P (sym is) (omega (arith, less, later))

-- there is room for the bytes
abbrev HasRoom : ℕ → Found → Type 0
HasRoom at (blank_found next) = Unit {0}
HasRoom at (lexeme_found lexeme next) = at + size lexeme ≤ next
HasRoom at (fault_found kind) = Unit {0}

-- no literal and no pattern is found
abbrev IsNoLiteral : Found → Type 0
IsNoLiteral (blank_found next) = Unit {0}
IsNoLiteral (lexeme_found lexeme next) = size lexeme ≡ 0
IsNoLiteral (fault_found kind) = Unit {0}

is_as : (P : Found → Type 0) (found is : Found) → found ≡ is → P is → P found
is_as P found is e h = subst P (sym e) h

by_cond : (P : Found → Type 0) (b : Bool) (one other : Found) → P one → P other → P (cond b one other)
by_cond P true one other h k = h
by_cond P false one other h k = k

by_closed : (P : Found → Type 0) (b : Bool) (Closed : Type 0) (found : Found) → P syntax_fault → (Closed → P found) → MatchBool b Closed (found ≡ syntax_fault) → P found
by_closed P true Closed found fault closed of = closed of
by_closed P false Closed found fault closed of = is_as P found syntax_fault of fault

by_text : (P : Found → Type 0) (bad : Bool) (Good : Type 0) (found : Found) → P bad_byte_fault → (Good → P found) → MatchBool bad (found ≡ bad_byte_fault) Good → P found
by_text P true Good found fault good of = is_as P found bad_byte_fault of fault
by_text P false Good found fault good of = good of

text_is : (P : Found → Type 0) (Closed : Found → Type 0) (closing : ℕ) (bytes : List ℕ) (from to : ℕ) (found : Found) → P bad_byte_fault → P syntax_fault → (Closed found → P found) → IsTextOf Closed closing bytes from to found → P found
text_is P Closed closing bytes from to found bad fault closed of =
    by_text P (has_bad_byte bytes from to) _ found bad (λ good. by_closed P (is_closed closing bytes to) (Closed found) found fault closed good) of

spelled_is : (P : Found → Type 0) (lexeme : List ℕ → Lexeme) (text : List ℕ) (next : ℕ) (found : Found) → P syntax_fault → ((bytes : List ℕ) → Spells text bytes → P (lexeme_found (lexeme bytes) next)) → IsSpelledFound lexeme text next found → P found
spelled_is P lexeme text next found fault spells (inl a) = is_as P found _ a.2 (spells a.0 a.1)
spelled_is P lexeme text next found fault spells (inr a) = is_as P found syntax_fault a.1 fault

directive_is : (word : List ℕ) (to : ℕ) (found : Found) → IsDirectiveOf word to found → IsNoLiteral found
directive_is word to found (inl a) = is_as IsNoLiteral found _ a.2 refl
directive_is word to found (inr a) = is_as IsNoLiteral found syntax_fault a.1 tt

range_within : (bytes : List ℕ) (from to : ℕ) → from ≤ to → from + length (slice_range bytes from to) ≤ to
range_within bytes from to ordered =
    let e : length (slice_range bytes from to) ≡ min (to - from) (length (drop from bytes)) = length-take (to - from) (drop from bytes) in
    omega (arith, e, ordered)

-- no literal and no pattern begins
abbrev IsBare : Begin → Type 0
IsBare quoted_begins = ⊥
IsBare pattern_begins = ⊥
IsBare begin = Unit {0}

no_literal : (begin : Begin) (bytes : List ℕ) (at : ℕ) (found : Found) → IsBare begin → IsFoundBy begin bytes at found → IsNoLiteral found
no_literal blank_begins bytes at found not is = is_as IsNoLiteral found _ is tt
no_literal line_comment_begins bytes at found not (to, run, is) = is_as IsNoLiteral found _ is tt
no_literal block_comment_begins bytes at found not (to, run, is) = is_as IsNoLiteral found _ is (by_cond IsNoLiteral (nat_lt to (length bytes)) (blank_found (to + 2)) syntax_fault tt tt)
no_literal name_begins bytes at found not (to, run, is) = is_as IsNoLiteral found _ is refl
no_literal number_begins bytes at found not (to, run, is) = is_as IsNoLiteral found _ is (by_cond IsNoLiteral (nat_le (to - at) 9) (lexeme_found (Number _) to) syntax_fault refl tt)
no_literal fold_begins bytes at found not (to, run, is) = is_as IsNoLiteral found _ is (by_cond IsNoLiteral (nat_le (to - (at + 1)) 9) (lexeme_found (Fold _) to) syntax_fault refl tt)
no_literal number_of_begins bytes at found not (to, run, is) = is_as IsNoLiteral found _ is (by_cond IsNoLiteral (nat_le (to - (at + 1)) 9) (lexeme_found (NumberOf _) to) syntax_fault refl tt)
no_literal quoted_begins bytes at found not is = absurd not
no_literal text_begins bytes at found not (to, run, is) =
    text_is IsNoLiteral (IsSpelledFound Text (slice_range bytes (at + 1) to) (to + 1)) 34 bytes (at + 1) to found tt tt (λ closed. spelled_is IsNoLiteral Text (slice_range bytes (at + 1) to) (to + 1) found tt (λ b s. refl) closed) is
no_literal pattern_begins bytes at found not is = absurd not
no_literal directive_begins bytes at found not (to, run, is) = directive_is _ to found is
no_literal mark_begins bytes at found not is = is_as IsNoLiteral found _ is refl
no_literal (single_begins single) bytes at found not is = is_as IsNoLiteral found _ is refl
no_literal bad_byte_begins bytes at found not is = is_as IsNoLiteral found bad_byte_fault is tt
no_literal nothing_begins bytes at found not is = is_as IsNoLiteral found syntax_fault is tt

quoted_room : (bytes : List ℕ) (at : ℕ) (found : Found) → IsFoundBy quoted_begins bytes at found → HasRoom at found
quoted_room bytes at found (to, run, is) =
    let ordered : at + 1 ≤ to = run.ordered in
    let within = range_within bytes (at + 1) to ordered in
    text_is (HasRoom at) (IsSpelledFound Quoted (slice_range bytes (at + 1) to) (to + 1)) 39 bytes (at + 1) to found tt tt
    (λ closed. spelled_is (HasRoom at) Quoted (slice_range bytes (at + 1) to) (to + 1) found tt (λ b s. let h = spells_within s in omega (arith, within, h)) closed) is

pattern_room : (bytes : List ℕ) (at : ℕ) (found : Found) → IsFoundBy pattern_begins bytes at found → HasRoom at found
pattern_room bytes at found (to, run, is) =
    let ordered : at + 1 ≤ to = run.ordered in
    let within = range_within bytes (at + 1) to ordered in
    text_is (HasRoom at) (λ f. f ≡ lexeme_found (Pattern (slice_range bytes (at + 1) to)) (to + 1)) 47 bytes (at + 1) to found tt tt (λ closed. is_as (HasRoom at) found _ closed (omega (arith, within))) is

abbrev BeginsBytes : Begin → Type 0
BeginsBytes begin = (begin ≡ quoted_begins) ⊎ ((begin ≡ pattern_begins) ⊎ IsBare begin)

begins_bytes : (begin : Begin) → BeginsBytes begin
begins_bytes quoted_begins = inl refl
begins_bytes pattern_begins = inr (inl refl)
begins_bytes begin = inr (inr tt)

lexeme_by : (bytes : List ℕ) (at : ℕ) (lexeme : Lexeme) (next : ℕ) → IsLexeme bytes at lexeme next → BeginsBytes (begin_at bytes at) → at + size lexeme ≤ next
lexeme_by bytes at lexeme next h (inr (inl pattern)) = pattern_room bytes at (lexeme_found lexeme next) (subst (λ b. IsFoundBy b bytes at (lexeme_found lexeme next)) pattern h.by)
lexeme_by bytes at lexeme next h (inl quoted) = quoted_room bytes at (lexeme_found lexeme next) (subst (λ b. IsFoundBy b bytes at (lexeme_found lexeme next)) quoted h.by)
lexeme_by bytes at lexeme next h (inr (inr other)) =
    let none : size lexeme ≡ 0 = no_literal (begin_at bytes at) bytes at (lexeme_found lexeme next) other h.by in
    let ends = (found_ends bytes at (lexeme_found lexeme next) h).0 in
    omega (arith, none, ends)

pub lexeme_within : (bytes : List ℕ) (at : ℕ) (lexeme : Lexeme) (next : ℕ) → IsLexeme bytes at lexeme next → at + size lexeme ≤ next
lexeme_within bytes at lexeme next h = lexeme_by bytes at lexeme next h (begins_bytes (begin_at bytes at))

-- lexemes don't overlap
pub lexemes_within : (bytes : List ℕ) {from to : ℕ} {lexemes : List Placed} → AreLexemes bytes from lexemes to → from + sizes (map kept lexemes) ≤ to
lexemes_within bytes (no_lexeme same) = omega (arith, same)
lexemes_within bytes {from = from} {to = to} {lexemes = lexemes} (blank_first {next = next} blank more) =
    let on = blank_on bytes from next blank in
    let later : next + sizes (map kept lexemes) ≤ to = lexemes_within bytes more in
    omega (arith, on, later)
lexemes_within bytes {from = from} {to = to} (lexeme_first {next = next} {lexeme = lexeme} {rest = rest} stands more is) =
    let here = lexeme_within bytes from lexeme next stands in
    let later : next + sizes (map kept rest) ≤ to = lexemes_within bytes more in
    let P : List Placed → Type 0 = λ l. from + sizes (map kept l) ≤ to in
    subst P (sym is) (omega (arith, here, later))

-- a reading ends no further than the bytes
pub reading_inside : (bytes : List ℕ) {from to : ℕ} {lexemes : List Placed} → AreLexemes bytes from lexemes to → from ≤ length bytes → to ≤ length bytes
reading_inside bytes (no_lexeme same) h = omega (arith, same, h)
reading_inside bytes {from = from} (blank_first {next = next} blank more) h = reading_inside bytes more (found_ends bytes from (blank_found next) blank).1
reading_inside bytes {from = from} (lexeme_first {next = next} {lexeme = lexeme} stands more is) h = reading_inside bytes more (found_ends bytes from (lexeme_found lexeme next) stands).1
