-- A token list has one diagnostic.
use Rattle.std.proofs.Common.{◌≡◌, ℕ, List, take, sym, ap, subst, ◌∙◌}
use Rattle.std.specs.Prelude.{slice_get}
use Rattle.grammar_data.specs.declared.token.Token.{Token as TextToken}
use Rattle.grammar_theory.specs.Trees.{ids_of}
use Rattle.next_theory.specs.GoingOn.{token_at, AreExpected}
use Rattle.next_theory.proofs.GoingLemmas.{one_wrong_place_law, one_expected_law}
use Rattle.sheet_data.specs.Sheet.{Sheet}
use Rattle.translation_theory.specs.Diagnostics.{line_of, unexpected_text, OneDiagnosticLaw}

-- what is said of a place, with these expected
abbrev said_at : Sheet → List ℕ → List TextToken → ℕ → List ℕ → List ℕ
said_at sheet text tokens index expected =
    unexpected_text sheet (line_of text (slice_get tokens index)) (token_at sheet.grammar (ids_of tokens) index) expected

pub one_diagnostic : OneDiagnosticLaw
one_diagnostic sheet text tokens said other first second =
    let place : first.index ≡ second.index = one_wrong_place_law sheet.grammar (ids_of tokens) first.index second.index first.wrong second.wrong in
    let moved : AreExpected sheet.grammar (take first.index (ids_of tokens)) second.expected = subst (λ i. AreExpected sheet.grammar (take i (ids_of tokens)) second.expected) (sym place) second.are in
    let same : first.expected ≡ second.expected = one_expected_law sheet.grammar (take first.index (ids_of tokens)) first.expected second.expected first.are moved in
    first.is ∙ ap (λ i. said_at sheet text tokens i first.expected) place ∙ ap (said_at sheet text tokens second.index) same ∙ sym second.is
