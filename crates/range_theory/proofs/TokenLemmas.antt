-- The tokens of some lines of a text, among those of the whole text.
use Rattle.std.proofs.Common.{◌≡◌, ℕ, ◌+◌, ◌<◌, ◌≤◌, ⊎_elim, List, ◌++◌, length, get_or, ap, ◌∙◌, arith}
use Rattle.std.specs.Prelude.{All}
use Rattle.std.proofs.lemmas.Bool.{cases_lt}
use Rattle.std.proofs.lemmas.List.{length-append, get_or-append-add, get_or_append_left}
use Rattle.grammar_data.specs.declared.token.Token.{Token as TextToken}
use Rattle.scanning_theory.specs.Lines.{line_starts}
use Rattle.scanning_theory.specs.Scan.{Scanning, AreTokens, AreTokensOfLines}
use Rattle.scanning_theory.proofs.ScanLemmas.{tokens_of_lines-order}
use Rattle.line_laws.specs.Laws.{AreWithin}
use Rattle.line_laws.proofs.SplitLemmas.{within_law}

module _ (scanning : Scanning) (meanings : length scanning.patterns ≡ length scanning.means) (text : List ℕ) where
  module _ (from to : ℕ) (tokens : List TextToken) (within : to ≤ length (line_starts text)) (are : AreTokensOfLines scanning text to from tokens) where
    -- what is refuted where the tokens stand among those of the whole text
    refuted : ¬ (AreWithin scanning text tokens) → ⊥
    refuted none = within_law scanning meanings text from to tokens (tokens_of_lines-order scanning text are) within are none

    -- the token at a place stands at a place of the whole text
    there : (w : AreWithin scanning text tokens) (k : ℕ) (d : TextToken) → k < length tokens → get_or w.all (length w.front + k) d ≡ get_or tokens k d
    there w k d less = ap (λ l. get_or l (length w.front + k) d) w.parts ∙ get_or-append-add w.front (tokens ++ w.back) k d ∙ get_or_append_left tokens w.back d k less

    pub few_in : (most : ℕ) → ((all : List TextToken) → AreTokens scanning text all → length all ≤ most) → length tokens ≤ most
    few_in most few = ⊎_elim (λ more. absurd (refuted (λ w.
        let all = few w.all w.are in
        let size = ap length w.parts ∙ length-append w.front (tokens ++ w.back) in
        let rest = length-append tokens w.back in
        omega (arith, more, all, size, rest)))) (λ less. less) (cases_lt most (length tokens))

    pub small_in : (over : ℕ) → ((all : List TextToken) → AreTokens scanning text all → All (λ (token : TextToken). token.id < over) all) → All (λ (token : TextToken). token.id < over) tokens
    small_in over small k d less = ⊎_elim (λ smaller. smaller) (λ large. absurd (refuted (λ w.
        let size = ap length w.parts ∙ length-append w.front (tokens ++ w.back) in
        let rest = length-append tokens w.back in
        let most = small w.all w.are (length w.front + k) d (omega (arith, size, rest, less)) in
        let same = ap (λ (x : TextToken). x.id) (there w k d less) in
        omega (arith, most, same, large)))) (cases_lt (get_or tokens k d).id over)
