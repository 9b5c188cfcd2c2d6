use Rattle.std.proofs.Common.{rules, ◌≡◌, ◌<◌, ◌≤◌, ℕ, true, List, length, Option, Some, MatchOption, Result, Ok, refl, sym, ap, subst, ◌∙◌, arith}
use Rattle.std.specs.Result.{result_ok}
use Rattle.word_theory.specs.Values.{IsNumberWord}
use Rattle.std.specs.Char.{is_ascii_digit}
use Rattle.std.specs.List.{list_all}
use Rattle.std.specs.Str.Parse.{digits_value, ParsesUnsigned}
use Rattle.std.proofs.lemmas.Str.Parse.{IsNumeralModel, numerals_by_value, parse_gives, digits_value_short}
use Rattle.command_words.proofs.values.number_of.Goals as goal

own : IsNumeralModel (λ ds. list_all is_ascii_digit ds ≡ true) (digits_value 10)
own = numerals_by_value _ (search rules)

read : {E : Type 0} (bs : List ℕ) (r : Result ℕ E) → ParsesUnsigned 32 10 bs r → list_all is_ascii_digit bs ≡ true → 0 < length bs → length bs ≤ 9 → r ≡ Ok (digits_value 10 bs)
read bs r parses digits some few = parse_gives own 32 bs r parses digits some (omega (arith, digits_value_short own bs 9 digits few))

-- the number that such a word was read as
told : (word : List ℕ) (result : Option ℕ) → IsNumberWord word → result ≡ Some (digits_value 10 word) → MatchOption result (¬ (IsNumberWord word)) (λ n. IsNumberWord word × (n ≡ digits_value 10 word))
told word result is e = subst (λ o. MatchOption o (¬ (IsNumberWord word)) (λ n. IsNumberWord word × (n ≡ digits_value 10 word))) (sym e) (is, refl)

pub returns : goal.returns
returns c =
    let word = c.args.word.now in
    let digits : list_all is_ascii_digit word ≡ true = sym (ap (list_all is_ascii_digit) c.as_bytes.ensures.value) ∙ sym c.are_digits.ensures ∙ c.if-not-are_digits.false in
    let some : 0 < length word = search rules in
    let few : length word ≤ 9 = search rules in
    told word c.ok.result (record { some = some; few = few; digits = digits }) (c.ok.ensures.value ∙ ap result_ok (read word c.parse.result c.parse.ensures.value.0 digits some few))
