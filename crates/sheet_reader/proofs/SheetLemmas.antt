-- The printed names of a sheet's tokens.
use Rattle.std.proofs.Common.{◌≡◌, ℕ, ◌+◌, ◌<◌, ◌≤◌, List, length, get_or, sym, ap, subst, ◌∙◌, arith, Vec, Global}
use Rattle.std.specs.Prelude.{slice_get, Some, Result, Ok, Err, IfOk, codes}
use Rattle.std.proofs.lemmas.Option.{slice_get-get_or}
use Rattle.sheet_data.specs.Sheet.{Sheet}
use Rattle.sheet_theory.specs.Names.{quote, escaped, declared_names, token_names}
use Rattle.sheet_theory.proofs.NameLemmas.{token_names-declared, token_names-literal, token_names-end, token_names-bad_byte}
use Rattle.sheet_reader.specs.WellFormed.{IsWellFormed}

-- the printed names
pub text_declared : (sheet : Sheet) (n a : ℕ) (text : List ℕ) → n ≡ a → slice_get (declared_names sheet.decls) n ≡ Some text → slice_get (token_names sheet) a ≡ Some text
text_declared sheet n a text same named =
    subst (λ m. slice_get (token_names sheet) m ≡ Some text) same (token_names-declared sheet n text named)

pub text_quoted : {E : Type 0} (r : Result (Vec ℕ Global) E) (sheet : Sheet) (d a u : ℕ) (item bytes : List ℕ) → d ≡ length (declared_names sheet.decls) → d + u ≡ a → u < length sheet.literals → item ≡ get_or sheet.literals u item → bytes ≡ item → IfOk r (λ text. text.items ≡ escaped quote bytes) → IfOk r (λ text. slice_get (token_names sheet) a ≡ Some text.items)
text_quoted (Ok text) sheet d a u item bytes count same within read copied is =
    let found : slice_get sheet.literals u ≡ Some bytes = slice_get-get_or sheet.literals u item within ∙ ap Some (sym read) ∙ ap Some (sym copied) in
    let place : length (declared_names sheet.decls) + u ≡ a = omega (arith, count, same) in
    subst (λ m. slice_get (token_names sheet) m ≡ Some text.items) place (token_names-literal sheet u bytes found ∙ ap Some (sym is))
text_quoted (Err e) sheet d a u item bytes count same within read copied is = tt

pub text_end : (sheet : Sheet) (a : ℕ) (text : List ℕ) → a ≡ length (declared_names sheet.decls) + length sheet.literals → text ≡ codes "end of text" → slice_get (token_names sheet) a ≡ Some text
text_end sheet a text same is =
    subst (λ m. slice_get (token_names sheet) m ≡ Some text) (sym same) (token_names-end sheet ∙ ap Some (sym is))

pub text_bad_byte : (sheet : Sheet) → IsWellFormed sheet → (a : ℕ) (text : List ℕ) → length (declared_names sheet.decls) + length sheet.literals < a → a ≤ sheet.grammar.tokens + 1 → text ≡ codes "bad byte" → slice_get (token_names sheet) a ≡ Some text
text_bad_byte sheet good a text behind within is =
    let place : length (declared_names sheet.decls) + (length sheet.literals + 1) ≡ a = omega (arith, behind, within, good.tokens) in
    subst (λ m. slice_get (token_names sheet) m ≡ Some text) place (token_names-bad_byte sheet ∙ ap Some (sym is))
