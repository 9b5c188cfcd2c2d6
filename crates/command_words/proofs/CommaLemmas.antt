-- Words with commas between them.
use Rattle.std.proofs.Common.{◌≡◌, ◌≢◌, ℕ, suc, ◌<◌, List, [], ◌∷◌, ◌++◌, length, map, get_or, All, Option, Some, None, MatchOption, Result, Ok, Err, IfErr, IsErrAnd, refl, sym, ap, subst, ◌∙◌, arith}
use Rattle.std.proofs.lemmas.Bool.{ne_eqb}
use Rattle.std.proofs.lemmas.List.Elements.{All-cons, All-head, All-tail}
use Rattle.std.specs.Str.Parse.{digits_value}
use Rattle.command_words.specs.declared.fault.WordFault.{WordFault}
use Rattle.command_words.specs.declared.fault.WordFault.TheVariants.{BadWords}
use Rattle.word_theory.specs.Values.{IsLinesWord, IsNumberWord, between_commas, lines_in, onto_first}

-- no byte is a comma
abbrev LacksCommas : List ℕ → Type 0
LacksCommas word = (i : ℕ) → i < length word → get_or word i 0 ≢ 44

between_first : (front back : List ℕ) → LacksCommas front → between_commas (front ++ 44 ∷ back) ≡ front ∷ between_commas back
between_first [] back none = refl
between_first (b ∷ bs) back none = rw (ne_eqb b 44 (none 0 (omega arith))) (ap (onto_first b) (between_first bs back (λ i less. none (suc i) (omega (arith, less)))))

between_none : (word : List ℕ) → LacksCommas word → between_commas word ≡ word ∷ []
between_none [] none = refl
between_none (b ∷ bs) none = rw (ne_eqb b 44 (none 0 (omega arith))) (ap (onto_first b) (between_none bs (λ i less. none (suc i) (omega (arith, less)))))

-- of a word with a comma, the part before the first one and what is behind it
module _ (word front back : List ℕ) (parts : word ≡ front ++ 44 ∷ back) (none : LacksCommas front) where
  is_between : between_commas word ≡ front ∷ between_commas back
  is_between = ap between_commas parts ∙ between_first front back none

  pub first_line : IsLinesWord word → IsNumberWord front
  first_line all = All-head IsNumberWord front (between_commas back) (subst (All IsNumberWord) is_between all)

  pub later_lines : IsLinesWord word → IsLinesWord back
  later_lines all = All-tail IsNumberWord front (between_commas back) (subst (All IsNumberWord) is_between all)

  pub all_lines : IsNumberWord front → IsLinesWord back → IsLinesWord word
  all_lines first later = subst (All IsNumberWord) (sym is_between) (All-cons IsNumberWord front (between_commas back) first later)

  pub lines_are : lines_in word ≡ digits_value 10 front ∷ lines_in back
  lines_are = ap (map (digits_value 10)) is_between

-- of a word without one
module _ (word : List ℕ) (none : LacksCommas word) where
  pub only_line : IsLinesWord word → IsNumberWord word
  only_line all = All-head IsNumberWord word [] (subst (All IsNumberWord) (between_none word none) all)

  pub is_only : IsNumberWord word → IsLinesWord word
  is_only is = subst (All IsNumberWord) (sym (between_none word none)) (All-cons IsNumberWord word [] is (λ k d less. absurd (omega (arith, less))))

  pub line_is : lines_in word ≡ digits_value 10 word ∷ []
  line_is = ap (map (digits_value 10)) (between_none word none)

-- where no part was found there is none
pub none_lacks : {X : Type 0} (Q : X → Type 0) (word : List ℕ) (found : Option X) → MatchOption found (LacksCommas word) Q → ((x : X) → found ≡ Some x → ⊥) → LacksCommas word
none_lacks Q word None lacks not_some = lacks
none_lacks Q word (Some x) is not_some = absurd (not_some x refl)

-- a fault that `?` hands on
pub fault_at : {A : Type 0} (P : Type 0) (result : Result A WordFault) (fault : WordFault) → IsErrAnd result (λ x. x ≡ fault) → (fault ≡ BadWords → P) → IfErr result (λ x. x ≡ BadWords → P)
fault_at P (Ok a) fault same h = absurd same
fault_at P (Err x) fault same h = λ bad. h (sym same ∙ bad)
