-- Where a blank or a lexeme ends.
use Rattle.std.proofs.Common.{◌≡◌, ℕ, ◌+◌, ◌-◌, ◌<◌, ◌≤◌, Bool, true, false, cond, List, length, get_or, refl, sym, subst, inl, inr, ⊎_elim, arith}
use Rattle.std.specs.Prelude.{MatchBool, ◌&&◌, ◌||◌, ◌==◌, nat_lt, nat_le, not, slice_get, slice_range}
use Rattle.std.proofs.lemmas.Bool.{false≢true, ltb-true, cases_lt}
use Rattle.std.proofs.lemmas.List.{get_or_past}
use Rattle.lexeme_theory.specs.declared.lexeme.Lexeme.{Lexeme}
use Rattle.lexeme_theory.specs.declared.lexeme.Lexeme.TheVariants.{Number, Fold, NumberOf, Quoted, Text, Pattern}
use Rattle.lexeme_theory.specs.declared.found.Found.{Found}
use Rattle.lexeme_theory.specs.declared.found.Found.TheVariants.{Blank as blank_found, Lexeme as lexeme_found, Fault as fault_found}
use Rattle.lexeme_theory.specs.declared.begin.Begin.{Begin}
use Rattle.lexeme_theory.specs.declared.begin.Begin.TheVariants.{Blank as blank_begins, LineComment as line_comment_begins, BlockComment as block_comment_begins, Name as name_begins, Number as number_begins, Fold as fold_begins, NumberOf as number_of_begins, Quoted as quoted_begins, Text as text_begins, Pattern as pattern_begins, Directive as directive_begins, Mark as mark_begins, Single as single_begins, BadByte as bad_byte_begins, Nothing as nothing_begins}
use Rattle.lexeme_theory.specs.SheetBytes.{is_name_start, is_name_byte, is_digit}
use Rattle.lexeme_theory.specs.Begins.{begin_at}
use Rattle.lexeme_theory.specs.Texts.{is_closed, has_bad_byte}
use Rattle.lexeme_theory.specs.Stands.{bad_byte_fault, syntax_fault, number_found, closes_comment, IsDirectiveOf, IsTextOf, IsSpelledFound, IsFoundBy, IsFound}
use Rattle.lexeme_theory.proofs.RunLemmas.{run_nonempty}
use Rattle.lexeme_theory.proofs.BeginLemmas.{Fits, fits_at, second_inside}

-- a blank or a lexeme ends behind its beginning, and no further than the bytes
abbrev pub EndsWithin : ℕ → ℕ → Found → Type 0
EndsWithin limit at (blank_found next) = (at < next) × (next ≤ limit)
EndsWithin limit at (lexeme_found lexeme next) = (at < next) × (next ≤ limit)
EndsWithin limit at (fault_found kind) = Unit {0}

ends_as : (limit at : ℕ) (found is : Found) → found ≡ is → EndsWithin limit at is → EndsWithin limit at found
ends_as limit at found is e h = subst (EndsWithin limit at) (sym e) h

cond_ends : (limit at : ℕ) (b : Bool) (one : Found) → EndsWithin limit at one → EndsWithin limit at (cond b one syntax_fault)
cond_ends limit at true one h = h
cond_ends limit at false one h = tt

number_ends : (number : ℕ → Lexeme) (bytes : List ℕ) (at from to : ℕ) (found : Found) → at < to → to ≤ length bytes → found ≡ number_found number bytes from to → EndsWithin (length bytes) at found
number_ends number bytes at from to found above below e =
    ends_as (length bytes) at found _ e (cond_ends (length bytes) at (nat_le (to - from) 9) (lexeme_found (number _) to) (above, below))

match_ends : (limit at : ℕ) (b : Bool) (P : Type 0) (found : Found) → (b ≡ true → P → EndsWithin limit at found) → MatchBool b P (found ≡ syntax_fault) → EndsWithin limit at found
match_ends limit at true P found closed of = closed refl of
match_ends limit at false P found closed of = ends_as limit at found syntax_fault of tt

bad_ends : (limit at : ℕ) (b : Bool) (P : Type 0) (found : Found) → (P → EndsWithin limit at found) → MatchBool b (found ≡ bad_byte_fault) P → EndsWithin limit at found
bad_ends limit at true P found rest of = ends_as limit at found bad_byte_fault of tt
bad_ends limit at false P found rest of = rest of

text_ends : (Closed : Found → Type 0) (closing : ℕ) (bytes : List ℕ) (at from to : ℕ) (found : Found) → (to < length bytes → Closed found → EndsWithin (length bytes) at found) → IsTextOf Closed closing bytes from to found → EndsWithin (length bytes) at found
text_ends Closed closing bytes at from to found closed of =
    bad_ends (length bytes) at (has_bad_byte bytes from to) _ found
    (λ good. match_ends (length bytes) at (is_closed closing bytes to) (Closed found) found (λ e is. closed (ltb-true to (length bytes) (and_left (nat_lt to (length bytes)) _ e)) is) good)
    of where
      and_left : (a b : Bool) → (a && b) ≡ true → a ≡ true
      and_left true b e = refl
      and_left false b e = absurd (false≢true e)

spelled_ends : (lexeme : List ℕ → Lexeme) (limit at : ℕ) (text : List ℕ) (next : ℕ) (found : Found) → at < next → next ≤ limit → IsSpelledFound lexeme text next found → EndsWithin limit at found
spelled_ends lexeme limit at text next found above below (inl a) = ends_as limit at found _ a.2 (above, below)
spelled_ends lexeme limit at text next found above below (inr a) = ends_as limit at found syntax_fault a.1 tt

directive_ends : (limit at : ℕ) (word : List ℕ) (to : ℕ) (found : Found) → at < to → to ≤ limit → IsDirectiveOf word to found → EndsWithin limit at found
directive_ends limit at word to found above below (inl a) = ends_as limit at found _ a.2 (above, below)
directive_ends limit at word to found above below (inr a) = ends_as limit at found syntax_fault a.1 tt

-- `*/` has its second byte
closing_inside : (bytes : List ℕ) (to : ℕ) → not (closes_comment bytes to) ≡ false → to + 1 < length bytes
closing_inside bytes to e =
    ⊎_elim (λ less. less) (λ past. absurd (past_end (get_or bytes to 0 == 42) (get_or bytes (to + 1) 0) (get_or_past bytes (to + 1) 0 past) e)) (cases_lt (to + 1) (length bytes)) where
      past_end : (a : Bool) (n : ℕ) → n ≡ 0 → not (a && (n == 47)) ≡ false → ⊥
      past_end true n none e = let P : ℕ → Type 0 = λ m. not (m == 47) ≡ false in false≢true (sym (subst P none e))
      past_end false n none e = false≢true (sym e)

block_ends : (bytes : List ℕ) (at to : ℕ) (b : Bool) (found : Found) → at < to → nat_lt to (length bytes) ≡ b → (to < length bytes → not (closes_comment bytes to) ≡ false) → found ≡ cond b (blank_found (to + 2)) syntax_fault → EndsWithin (length bytes) at found
block_ends bytes at to true found above e ended is =
    let room : to + 1 < length bytes = closing_inside bytes to (ended (ltb-true to (length bytes) e)) in
    ends_as (length bytes) at found _ is (omega arith, omega arith)
block_ends bytes at to false found above e ended is = ends_as (length bytes) at found syntax_fault is tt

or_left : (a b : Bool) → a ≡ true → (a || b) ≡ true
or_left true b e = refl
or_left false b e = absurd (false≢true e)

ends_by : (begin : Begin) (bytes : List ℕ) (at : ℕ) (found : Found) → at < length bytes → Fits begin (get_or bytes at 0) (slice_get bytes (at + 1)) → IsFoundBy begin bytes at found → EndsWithin (length bytes) at found
ends_by blank_begins bytes at found inside fits is = ends_as (length bytes) at found _ is (omega arith, omega arith)
ends_by line_comment_begins bytes at found inside fits (to, run, is) =
    let h : at + 2 ≤ to = run.ordered in
    ends_as (length bytes) at found (blank_found to) is (omega arith, run.inside)
ends_by block_comment_begins bytes at found inside fits (to, run, is) =
    let h : at + 2 ≤ to = run.ordered in
    block_ends bytes at to (nat_lt to (length bytes)) found (omega arith) refl run.ended is
ends_by name_begins bytes at found inside fits (to, run, is) =
    ends_as (length bytes) at found _ is (run_nonempty (λ i. is_name_byte (get_or bytes i 0)) (length bytes) at to inside (or_left (is_name_start (get_or bytes at 0)) (is_digit (get_or bytes at 0)) fits) run, run.inside)
ends_by number_begins bytes at found inside fits (to, run, is) =
    number_ends Number bytes at at to found (run_nonempty (λ i. is_digit (get_or bytes i 0)) (length bytes) at to inside fits run) run.inside is
ends_by fold_begins bytes at found inside fits (to, run, is) =
    let h : at + 1 ≤ to = run.ordered in number_ends Fold bytes at (at + 1) to found (omega arith) run.inside is
ends_by number_of_begins bytes at found inside fits (to, run, is) =
    let h : at + 1 ≤ to = run.ordered in number_ends NumberOf bytes at (at + 1) to found (omega arith) run.inside is
ends_by quoted_begins bytes at found inside fits (to, run, is) =
    let h : at + 1 ≤ to = run.ordered in
    text_ends (IsSpelledFound Quoted (slice_range bytes (at + 1) to) (to + 1)) 39 bytes at (at + 1) to found (λ below closed. spelled_ends Quoted (length bytes) at _ (to + 1) found (omega arith) (omega arith) closed) is
ends_by text_begins bytes at found inside fits (to, run, is) =
    let h : at + 1 ≤ to = run.ordered in
    text_ends (IsSpelledFound Text (slice_range bytes (at + 1) to) (to + 1)) 34 bytes at (at + 1) to found (λ below closed. spelled_ends Text (length bytes) at _ (to + 1) found (omega arith) (omega arith) closed) is
ends_by pattern_begins bytes at found inside fits (to, run, is) =
    let h : at + 1 ≤ to = run.ordered in
    text_ends (λ f. f ≡ lexeme_found (Pattern (slice_range bytes (at + 1) to)) (to + 1)) 47 bytes at (at + 1) to found (λ below closed. ends_as (length bytes) at found _ closed (omega arith, omega arith)) is
ends_by directive_begins bytes at found inside fits (to, run, is) =
    let h : at + 1 ≤ to = run.ordered in directive_ends (length bytes) at _ to found (omega arith) run.inside is
ends_by mark_begins bytes at found inside fits is =
    let two : at + 1 < length bytes = second_inside bytes at fits in ends_as (length bytes) at found _ is (omega arith, omega arith)
ends_by (single_begins single) bytes at found inside fits is = ends_as (length bytes) at found _ is (omega arith, omega arith)
ends_by bad_byte_begins bytes at found inside fits is = ends_as (length bytes) at found bad_byte_fault is tt
ends_by nothing_begins bytes at found inside fits is = ends_as (length bytes) at found syntax_fault is tt

pub found_ends : (bytes : List ℕ) (at : ℕ) (found : Found) → IsFound bytes at found → EndsWithin (length bytes) at found
found_ends bytes at found h = ends_by (begin_at bytes at) bytes at found h.inside (fits_at bytes at) h.by
