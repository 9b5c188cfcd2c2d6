-- A text has one report or one refusal, as a run has.
use Rattle.std.proofs.Common.{◌≡◌, ℕ, List, length, refl, sym, ap, subst, ◌∙◌}
use Rattle.grammar_theory.specs.Trees.{Tree, yield, nodes}
use Rattle.lr_base.specs.IsGrammar.{IsGrammar}
use Rattle.sheet_data.specs.Sheet.{Sheet}
use Rattle.grammar_faults.specs.Building.{IsBuildable}
use Rattle.run_theory.specs.declared.emit.Emit.{Emit}
use Rattle.run_theory.specs.declared.emit.Emit.TheVariants.{Output}
use Rattle.run_theory.specs.RunAnswers.{Outcome, Given, Refused, due_of, IsRunAnswer, tree_given, text_refused as run_refused}
use Rattle.run_theory.proofs.RunLemmas.{one_tree, one_answer, some_answer}
use Rattle.tally_theory.specs.declared.cut.Cut.{Cut}
use Rattle.tally_theory.specs.Cuts.{CanBeCut}
use Rattle.tally_theory.specs.Reports.{Tally, report_text, IsTallyOf, IsReportAnswer, tally_given, text_refused}
use Rattle.tally_theory.specs.Laws.{OneReportLaw, SomeReportLaw, GivenLaw, RefusedLaw}
use Rattle.tally_theory.proofs.PieceLemmas.{lawful_of, pieces_once, some_pieces}

-- ---- a report beside a run

given_by : {sheet : Sheet} {text : List ℕ} {cut : Cut} {outcome : Outcome} (emit : Emit) (out : List ℕ) → outcome ≡ Given out → IsReportAnswer sheet text cut outcome → (given : List ℕ) × IsRunAnswer sheet text emit (Given given)
given_by {sheet} {text} emit out e (tally_given {tree = tree} of tally is) = (due_of emit sheet text tree, tree_given of refl)
given_by emit out e (text_refused are diagnostic) = absurd (cc)

pub given : GivenLaw
given sheet text cut emit out answer = given_by emit out refl answer

to_run : {sheet : Sheet} {text : List ℕ} {cut : Cut} {outcome : Outcome} (emit : Emit) (said : List ℕ) → outcome ≡ Refused said → IsReportAnswer sheet text cut outcome → IsRunAnswer sheet text emit (Refused said)
to_run emit said e (tally_given of tally is) = absurd (cc)
to_run {sheet} {text} emit said e (text_refused {said = mine} are diagnostic) = let same : mine ≡ said = cc in subst (λ l. IsRunAnswer sheet text emit (Refused l)) same (run_refused are diagnostic)

from_run : {sheet : Sheet} {text : List ℕ} {outcome : Outcome} {emit : Emit} (cut : Cut) (said : List ℕ) → outcome ≡ Refused said → IsRunAnswer sheet text emit outcome → IsReportAnswer sheet text cut (Refused said)
from_run cut said e (tree_given of is) = absurd (cc)
from_run {sheet} {text} cut said e (run_refused {said = mine} are diagnostic) = let same : mine ≡ said = cc in subst (λ l. IsReportAnswer sheet text cut (Refused l)) same (text_refused are diagnostic)

pub refused : RefusedLaw
refused sheet text cut emit said = (λ answer. to_run emit said refl answer, λ answer. from_run cut said refl answer)

-- ---- one report

given_not_refused : (out said : List ℕ) → Given out ≡ Refused said → ⊥
given_not_refused out said e = cc

module _ (sheet : Sheet) (grammar : IsGrammar sheet.grammar) (buildable : IsBuildable sheet.grammar) (text : List ℕ) (cut : Cut) where
  not_both : (out said : List ℕ) → IsReportAnswer sheet text cut (Given out) → IsReportAnswer sheet text cut (Refused said) → ⊥
  not_both out said one two =
      let run = given sheet text cut Output out one in
      given_not_refused run.0 said (one_answer sheet grammar buildable text Output (Given run.0) (Refused said) run.1 (to_run Output said refl two))

  tally_once : (tree other : Tree) (tally others : Tally) → tree ≡ other → IsTallyOf sheet text cut tree tally → IsTallyOf sheet text cut other others → tally ≡ others
  tally_once tree other tally others same one two =
      let pieces = pieces_once sheet grammar buildable text cut tally.segments tally.pieces others.segments others.pieces one.pieces two.pieces in
      let tokens : tally.tokens ≡ others.tokens = one.tokens ∙ ap (λ t. length (yield t)) same ∙ sym two.tokens in
      let inner : tally.nodes ≡ others.nodes = one.nodes_are ∙ ap nodes same ∙ sym two.nodes_are in
      λ i. record { segments = pieces.0 i; tokens = tokens i; pieces = pieces.1 i; nodes = inner i }

  report_once : {outcome other : Outcome} → IsReportAnswer sheet text cut outcome → IsReportAnswer sheet text cut other → outcome ≡ other
  report_once (tally_given {tree = tree} {tally = tally} of one is) (tally_given {tree = other} {tally = others} also two other_is) =
      let by = one.pieces in
      let same : tree ≡ other = one_tree sheet by.tables (lawful_of sheet.grammar grammar buildable by.collection by.tables by.built) text tree other of also in
      ap Given (is ∙ ap report_text (tally_once tree other tally others same one two) ∙ sym other_is)
  report_once (tally_given {out = out} of one is) (text_refused {said = said} are diagnostic) = absurd (not_both out said (tally_given of one is) (text_refused are diagnostic))
  report_once (text_refused {said = said} are diagnostic) (tally_given {out = out} of one is) = absurd (not_both out said (tally_given of one is) (text_refused are diagnostic))
  report_once (text_refused {said = said} are diagnostic) (text_refused {said = other} too also) =
      one_answer sheet grammar buildable text Output (Refused said) (Refused other) (run_refused are diagnostic) (run_refused too also)

pub one_report : OneReportLaw
one_report sheet grammar buildable text cut outcome other one two = report_once sheet grammar buildable text cut one two

-- ---- some report

after_run : (sheet : Sheet) → IsGrammar sheet.grammar → IsBuildable sheet.grammar → (text : List ℕ) (cut : Cut) → CanBeCut cut → ((outcome : Outcome) → ¬ (IsReportAnswer sheet text cut outcome)) → {outcome : Outcome} → ¬ (IsRunAnswer sheet text Output outcome)
after_run sheet grammar buildable text cut can none (tree_given {tree = tree} of is) =
    some_pieces sheet grammar buildable text cut (yield tree) can of.tokens (λ segments pieces has.
    let tally : Tally = record { segments = segments; tokens = length (yield tree); pieces = pieces; nodes = nodes tree } in
    none (Given (report_text tally)) (tally_given {tree = tree} {tally = tally} of (record { pieces = has; tokens = refl; nodes_are = refl }) refl))
after_run sheet grammar buildable text cut can none (run_refused {said = said} are diagnostic) = none (Refused said) (text_refused are diagnostic)

pub some_report : SomeReportLaw
some_report sheet grammar buildable counts text cut can none = some_answer sheet grammar buildable counts text Output (λ outcome answer. after_run sheet grammar buildable text cut can none answer)
