-- Tokens of lines are split at a line, and stand among those of the whole text.
use Rattle.std.proofs.Common.{◌≡◌, ℕ, ◌+◌, ◌<◌, ◌≤◌, ⊎_elim, List, [], ◌++◌, length, refl, sym, ap, ◌∙◌, subst, append_assoc, arith}
use Rattle.std.specs.Prelude.{slice_get, Some}
use Rattle.std.proofs.lemmas.Bool.{cases_lt}
use Rattle.grammar_data.specs.declared.token.Token.{Token}
use Rattle.scanning_theory.specs.Lines.{line_starts}
use Rattle.scanning_theory.specs.Scan.{Scanning, AreTokensFrom, AreTokensOfLines}
use Rattle.scanning_theory.specs.Scan.AreTokensOfLines.{no_line, first_line}
use Rattle.scanning_theory.proofs.ScanLemmas.{lines_once}
use Rattle.scanning_theory.proofs.SomeList.{some_list}
use Rattle.line_laws.specs.Laws.{AreSplit, SplitLaw, WithinLaw}

module _ (scanning : Scanning) (text : List ℕ) where
  split_none : {from to : ℕ} (middle : ℕ) → from ≤ middle → middle ≤ to → from ≡ to → AreSplit scanning text from middle to []
  split_none middle low high same = record { front = []; back = []; parts = refl; first = no_line (omega (arith, low, high, same)); second = no_line (omega (arith, low, high, same)) }

  split_here : {from to : ℕ} {tokens : List Token} (middle : ℕ) → from ≡ middle → AreTokensOfLines scanning text to from tokens → AreSplit scanning text from middle to tokens
  split_here {to = to} {tokens = tokens} middle same are = record { front = []; back = tokens; parts = refl; first = no_line same; second = subst (λ n. AreTokensOfLines scanning text to n tokens) same are }

  split_later : {from at to : ℕ} {here rest all : List Token} (middle : ℕ) → from < middle → slice_get (line_starts text) from ≡ Some at → AreTokensFrom scanning text (from + 1) at here → all ≡ here ++ rest → AreSplit scanning text (from + 1) middle to rest → AreSplit scanning text from middle to all
  split_later {here = here} middle before start tokens is split = record {
    front = here ++ split.front;
    back = split.back;
    parts = is ∙ ap (λ l. here ++ l) split.parts ∙ sym (append_assoc here split.front split.back);
    first = first_line before start tokens split.first refl;
    second = split.second;
  }

  split_lines : {to from : ℕ} {tokens : List Token} (middle : ℕ) → from ≤ middle → middle ≤ to → AreTokensOfLines scanning text to from tokens → AreSplit scanning text from middle to tokens
  split_lines middle low high (no_line same) = split_none middle low high same
  split_lines {from = from} middle low high (first_line less start tokens more is) = ⊎_elim
      (λ before. split_later middle before start tokens is (split_lines middle (omega (arith, before)) high more))
      (λ behind. split_here middle (omega (arith, low, behind)) (first_line less start tokens more is))
      (cases_lt from middle)

pub split_law : SplitLaw
split_law scanning text from middle to tokens low high are = split_lines scanning text middle low high are

pub within_law : WithinLaw
within_law scanning same text from to tokens low high are none = some_list scanning text same (λ all whole.
    let lines : ℕ = length (line_starts text) in
    let begin = split_law scanning text 0 from lines all (omega arith) (omega (arith, low, high)) whole in
    let rest = split_law scanning text from to lines begin.back low high begin.second in
    let here : rest.front ≡ tokens = lines_once scanning text rest.first tokens are in
    none (record { all = all; front = begin.front; back = rest.back; are = whole; parts = begin.parts ∙ ap (λ l. begin.front ++ l) (rest.parts ∙ ap (λ l. l ++ rest.back) here) }))
