-- A task has one answer.
use Rattle.std.proofs.Common.{◌≡◌, ℕ, List, [], ◌∷◌, ◌++◌, length, refl, sym, ap, subst, ◌∙◌, ⊎_elim, arith}
use Rattle.std.proofs.lemmas.List.{append-nil}
use Rattle.sheet_data.specs.Sheet.{Sheet}
use Rattle.run_theory.proofs.TokenLemmas.{counted}
use Rattle.answer_theory.specs.declared.status.Status.{Status}
use Rattle.answer_theory.specs.declared.status.Status.TheVariants.{SheetRefused}
use Rattle.answer_theory.specs.declared.task.Task.{Task}
use Rattle.answer_theory.specs.Tasks.{looking, inputs_of, CanBeDone}
use Rattle.answer_theory.specs.Sheets.{IsAccepted, IsRefused}
use Rattle.answer_theory.specs.Work.{IsWork}
use Rattle.answer_theory.specs.Answers.{AreWithin, IsPassed, Answers, sheet_refused, input_too_long, work_done}
use Rattle.answer_theory.specs.Laws.{SomeAnswerLaw, LoadLaw}
use Rattle.answer_theory.proofs.SheetLemmas.{accepted_once, said_once, not_refused, grammar_of, some_accepted_or_refused}
use Rattle.answer_theory.proofs.InputLemmas.{within_once, passed_once, not_both, not_passed, within_or_passed, HasPassed}
use Rattle.answer_theory.proofs.WorkLemmas.{work_once, some_work, load_not_refused}

-- no more was read, and the two answers are the same
abbrev pub AreSame : List (List ℕ) → Status → Status → List ℕ → List ℕ → List ℕ → List ℕ → Type 0
AreSame more status other_status out other_out err other_err = (more ≡ []) × (status ≡ other_status) × (out ≡ other_out) × (err ≡ other_err)

module _ (task : Task) (bytes : List ℕ) where
  after_refused : {said : List ℕ} {all : List (List ℕ)} {status : Status} {out err : List ℕ} (more : List (List ℕ)) → IsRefused (looking task) bytes said → all ≡ bytes ∷ more → Answers task all status out err → AreSame more SheetRefused status [] out said err
  after_refused {said = said} {err = err} more refused e (sheet_refused {bytes = read} other) =
      let same : read ≡ bytes = cc in
      (cc, refl, refl, said_once bytes (looking task) refused (subst (λ b. IsRefused (looking task) b err) same other))
  after_refused more refused e (input_too_long {bytes = read} {sheet = sheet} accepted passed) =
      let same : read ≡ bytes = cc in
      absurd (not_refused bytes (looking task) sheet (subst (λ b. IsAccepted (looking task) b sheet) same accepted) refused)
  after_refused more refused e (work_done {bytes = read} {sheet = sheet} accepted within work) =
      let same : read ≡ bytes = cc in
      absurd (not_refused bytes (looking task) sheet (subst (λ b. IsAccepted (looking task) b sheet) same accepted) refused)

  module _ (sheet : Sheet) (accepted : IsAccepted (looking task) bytes sheet) (inputs : List (List ℕ)) where
    after_long : {said : List ℕ} {all : List (List ℕ)} {status other_status : Status} {out err : List ℕ} (more : List (List ℕ)) → IsPassed (inputs_of task) inputs status said → all ≡ bytes ∷ inputs ++ more → Answers task all other_status out err → AreSame more status other_status [] out said err
    after_long {err = err} more passed e (sheet_refused {bytes = read} refused) =
        let same : read ≡ bytes = cc in
        absurd (not_refused bytes (looking task) sheet accepted (subst (λ b. IsRefused (looking task) b err) same refused))
    after_long more passed e (input_too_long {inputs = others} other_accepted other_passed) =
        let (none, status, said) = passed_once more passed (cc) other_passed in
        (none, status, refl, said)
    after_long more passed e (work_done {inputs = others} other_accepted within work) = absurd (not_both more passed (cc) within)

    same_work : {status other_status : Status} {out other_out err other_err : List ℕ} (other : Sheet) (others : List (List ℕ)) (read : List ℕ) → read ≡ bytes → others ≡ inputs → IsAccepted (looking task) read other → IsWork sheet task inputs status out err → IsWork other task others other_status other_out other_err → (status ≡ other_status) × (out ≡ other_out) × (err ≡ other_err)
    same_work {other_status = other_status} {other_out = other_out} {other_err = other_err} other others read same inputs_same other_accepted work other_work =
        let sheets : other ≡ sheet = accepted_once bytes (looking task) other sheet (subst (λ b. IsAccepted (looking task) b other) same other_accepted) accepted in
        let moved : IsWork sheet task others other_status other_out other_err = subst (λ s. IsWork s task others other_status other_out other_err) sheets other_work in
        work_once sheet (grammar_of bytes sheet accepted.scans) accepted.suits work (subst (λ i. IsWork sheet task i other_status other_out other_err) inputs_same moved)

    after_work : {all : List (List ℕ)} {status other_status : Status} {out other_out err other_err : List ℕ} (more : List (List ℕ)) → AreWithin (inputs_of task) inputs → IsWork sheet task inputs status out err → all ≡ bytes ∷ inputs ++ more → Answers task all other_status other_out other_err → AreSame more status other_status out other_out err other_err
    after_work {other_err = err} more within work e (sheet_refused {bytes = read} refused) =
        let same : read ≡ bytes = cc in
        absurd (not_refused bytes (looking task) sheet accepted (subst (λ b. IsRefused (looking task) b err) same refused))
    after_work more within work e (input_too_long {inputs = others} other_accepted passed) = absurd (not_passed more within (cc) passed)
    after_work more within work e (work_done {bytes = read} {inputs = others} {sheet = other} other_accepted other_within other_work) =
        let rest : others ≡ inputs ++ more = cc in
        let none : more ≡ [] = within_once more within rest other_within in
        let (status, out, err) = same_work other others read (cc) (rest ∙ ap (λ m. inputs ++ m) none ∙ append-nil inputs) other_accepted work other_work in
        (none, status, out, err)

pub answer_once : {task : Task} {inputs all : List (List ℕ)} {status other_status : Status} {out other_out err other_err : List ℕ} (more : List (List ℕ)) → Answers task inputs status out err → all ≡ inputs ++ more → Answers task all other_status other_out other_err → AreSame more status other_status out other_out err other_err
answer_once {task = task} more (sheet_refused {bytes = bytes} refused) e answer = after_refused task bytes more refused e answer
answer_once {task = task} more (input_too_long {bytes = bytes} {inputs = inputs} {sheet = sheet} accepted passed) e answer = after_long task bytes sheet accepted inputs more passed e answer
answer_once {task = task} more (work_done {bytes = bytes} {inputs = inputs} {sheet = sheet} accepted within work) e answer = after_work task bytes sheet accepted inputs more within work e answer

-- no answer comes after any first part of these inputs
abbrev HasNoAnswer : Task → List (List ℕ) → Type 0
HasNoAnswer task inputs = (before more : List (List ℕ)) (status : Status) (out err : List ℕ) → inputs ≡ before ++ more → ¬ (Answers task before status out err)

module _ (task : Task) (can : CanBeDone task) (bytes : List ℕ) (inputs : List (List ℕ)) (none : HasNoAnswer task (bytes ∷ inputs)) where
  none_within : (sheet : Sheet) → IsAccepted (looking task) bytes sheet → ¬ (AreWithin (inputs_of task) inputs)
  none_within sheet accepted within =
      some_work sheet (grammar_of bytes sheet accepted.scans) (counted bytes sheet accepted.scans.reads) task can accepted.suits within (λ status out err work. none (bytes ∷ inputs) [] status out err (sym (append-nil (bytes ∷ inputs))) (work_done accepted within work))

  none_passed : (sheet : Sheet) → IsAccepted (looking task) bytes sheet → ¬ (HasPassed (inputs_of task) inputs)
  none_passed sheet accepted h =
      none (bytes ∷ h.before) h.more h.status [] h.said (ap (λ l. bytes ∷ l) h.are) (input_too_long accepted h.passed)

  none_accepted : length inputs ≡ length (inputs_of task) → (sheet : Sheet) → ¬ (IsAccepted (looking task) bytes sheet)
  none_accepted counted sheet accepted = ⊎_elim (none_within sheet accepted) (none_passed sheet accepted) (within_or_passed (inputs_of task) inputs counted)

  refuted : length inputs ≡ length (inputs_of task) → ⊥
  refuted counted =
      some_accepted_or_refused bytes (looking task) (none_accepted counted) (λ said refused. none (bytes ∷ []) inputs SheetRefused [] said refl (sheet_refused refused))

pub some_answer : SomeAnswerLaw
some_answer task [] can counted none = absurd (omega (arith, counted))
some_answer task (bytes ∷ inputs) can counted none = refuted task can bytes inputs none (omega (arith, counted))

-- no sample text is refused
pub load : LoadLaw
load seed asked inputs status out err (sheet_refused refused) e = cc
load seed asked inputs status out err (input_too_long accepted passed) e = elim passed [ ]
load seed asked inputs status out err (work_done {sheet = sheet} accepted within work) e = load_not_refused sheet seed asked work e
