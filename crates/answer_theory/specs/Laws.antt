-- Laws of the answers: a task has one answer at most, and it is refuted that one that can be done has none; no sample text is
-- refused.
use Rattle.std.specs.Prelude.{◌≡◌, ◌≢◌, ℕ, suc, List, [], ◌++◌, length}
use Rattle.tally_theory.specs.declared.asked.Asked.{Asked}
use Rattle.answer_theory.specs.declared.status.Status.{Status}
use Rattle.answer_theory.specs.declared.status.Status.TheVariants.{TextRefused}
use Rattle.answer_theory.specs.declared.task.Seed.{Seed}
use Rattle.answer_theory.specs.declared.task.Task.{Task}
use Rattle.answer_theory.specs.declared.task.Task.TheVariants.{Load}
use Rattle.answer_theory.specs.Tasks.{CanBeDone, inputs_of}
use Rattle.answer_theory.specs.Answers.{Answers}

-- where some inputs have an answer, they have no other, and there is none where more was read: so it is determined which
-- inputs have to be read, and what comes of them
abbrev pub OneAnswerLaw : Type 0
OneAnswerLaw = (task : Task) (inputs more : List (List ℕ)) (status other_status : Status) (out err other_out other_err : List ℕ) → Answers task inputs status out err → Answers task (inputs ++ more) other_status other_out other_err → (more ≡ []) × (status ≡ other_status) × (out ≡ other_out) × (err ≡ other_err)

-- where a task can be done and there are bytes for the sheet and for each other input, it is refuted that there is no answer
-- where some or all of these were read
abbrev pub SomeAnswerLaw : Type 0
SomeAnswerLaw = (task : Task) (inputs : List (List ℕ)) → CanBeDone task → length inputs ≡ suc (length (inputs_of task)) → ((before more : List (List ℕ)) (status : Status) (out err : List ℕ) → inputs ≡ before ++ more → ¬ (Answers task before status out err)) → ⊥

-- the tokens of a sample text are a sentence, so that no sample is refused
abbrev pub LoadLaw : Type 0
LoadLaw = (seed : Seed) (asked : Asked) (inputs : List (List ℕ)) (status : Status) (out err : List ℕ) → Answers (Load seed asked) inputs status out err → status ≢ TextRefused
