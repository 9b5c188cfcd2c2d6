-- What is answered of a text, whatever is asked for.
use Rattle.std.specs.Prelude.{◌≡◌, ℕ, List}
use Rattle.lr_base.specs.IsGrammar.{IsGrammar}
use Rattle.sheet_data.specs.Sheet.{Sheet}
use Rattle.grammar_faults.specs.Building.{IsBuildable}
use Rattle.run_theory.specs.SheetTokens.{CountsTokens}
use Rattle.run_theory.specs.RunAnswers.{Outcome, IsRunAnswer}
use Rattle.tally_theory.specs.declared.asked.Asked.{Asked}
use Rattle.tally_theory.specs.declared.asked.Asked.TheVariants.{Text, Report}
use Rattle.tally_theory.specs.Cuts.{CanBeCut}
use Rattle.tally_theory.specs.Reports.{IsReportAnswer}

-- this can be asked of a text
abbrev pub CanBeAsked : Asked → Type 0
CanBeAsked (Text emit) = Unit {0}
CanBeAsked (Report cut) = CanBeCut cut

abbrev pub IsAnswerTo : Sheet → List ℕ → Asked → Outcome → Type 0
IsAnswerTo sheet text (Text emit) outcome = IsRunAnswer sheet text emit outcome
IsAnswerTo sheet text (Report cut) outcome = IsReportAnswer sheet text cut outcome

-- by a sheet whose grammar has tables, which need not be given, there is one answer at most
abbrev pub OneAnswerLaw : Type 0
OneAnswerLaw = (sheet : Sheet) → IsGrammar sheet.grammar → IsBuildable sheet.grammar → (text : List ℕ) (asked : Asked) (outcome other : Outcome) → IsAnswerTo sheet text asked outcome → IsAnswerTo sheet text asked other → outcome ≡ other

-- and of what can be asked it is refuted that there is none
abbrev pub SomeAnswerLaw : Type 0
SomeAnswerLaw = (sheet : Sheet) → IsGrammar sheet.grammar → IsBuildable sheet.grammar → CountsTokens sheet → (text : List ℕ) (asked : Asked) → CanBeAsked asked → ((outcome : Outcome) → ¬ (IsAnswerTo sheet text asked outcome)) → ⊥
