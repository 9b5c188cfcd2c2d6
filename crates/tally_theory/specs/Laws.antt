-- Laws of reports: a text has one report or one refusal at most, and not none, as a run has.
use Rattle.std.specs.Prelude.{◌≡◌, ◌↔◌, ℕ, List}
use Rattle.cutting_theory.specs.Cuttings.{IsCutting}
use Rattle.lr_base.specs.IsGrammar.{IsGrammar}
use Rattle.sheet_data.specs.Sheet.{Sheet}
use Rattle.grammar_faults.specs.Building.{IsBuildable}
use Rattle.run_theory.specs.declared.emit.Emit.{Emit}
use Rattle.run_theory.specs.SheetTokens.{CountsTokens}
use Rattle.run_theory.specs.RunAnswers.{Outcome, Given, Refused, IsRunAnswer}
use Rattle.tally_theory.specs.declared.cut.Cut.{Cut}
use Rattle.tally_theory.specs.Cuts.{CanBeCut, HasBounds}
use Rattle.tally_theory.specs.Reports.{IsReportAnswer}

-- where a text can be cut so, its bounds are a cutting
abbrev pub CutLaw : Type 0
CutLaw = (cut : Cut) (lines : ℕ) (bounds : List ℕ) → CanBeCut cut → HasBounds cut lines bounds → IsCutting lines bounds

-- there are no others
abbrev pub OneCutLaw : Type 0
OneCutLaw = (cut : Cut) (lines : ℕ) (bounds others : List ℕ) → HasBounds cut lines bounds → HasBounds cut lines others → bounds ≡ others

-- and there are some
abbrev pub SomeCutLaw : Type 0
SomeCutLaw = (cut : Cut) (lines : ℕ) → (bounds : List ℕ) × HasBounds cut lines bounds

-- by a sheet whose grammar has tables, which need not be given, a text has one report or one refusal at most
abbrev pub OneReportLaw : Type 0
OneReportLaw = (sheet : Sheet) → IsGrammar sheet.grammar → IsBuildable sheet.grammar → (text : List ℕ) (cut : Cut) (outcome other : Outcome) → IsReportAnswer sheet text cut outcome → IsReportAnswer sheet text cut other → outcome ≡ other

-- and where it can be cut so it is refuted that it has none
abbrev pub SomeReportLaw : Type 0
SomeReportLaw = (sheet : Sheet) → IsGrammar sheet.grammar → IsBuildable sheet.grammar → CountsTokens sheet → (text : List ℕ) (cut : Cut) → CanBeCut cut → ((outcome : Outcome) → ¬ (IsReportAnswer sheet text cut outcome)) → ⊥

-- where a report is given, a run gives something, whatever is asked for
abbrev pub GivenLaw : Type 0
GivenLaw = (sheet : Sheet) (text : List ℕ) (cut : Cut) (emit : Emit) (out : List ℕ) → IsReportAnswer sheet text cut (Given out) → (given : List ℕ) × IsRunAnswer sheet text emit (Given given)

-- a text is refused with the same words
abbrev pub RefusedLaw : Type 0
RefusedLaw = (sheet : Sheet) (text : List ℕ) (cut : Cut) (emit : Emit) (said : List ℕ) → IsReportAnswer sheet text cut (Refused said) ↔ IsRunAnswer sheet text emit (Refused said)
