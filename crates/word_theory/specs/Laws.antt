-- Words are of one form at most, and what they ask for can be done. They say in one way at most how a text is parsed, and it can be.
use Rattle.std.specs.Prelude.{◌≡◌, ℕ, List}
use Rattle.tally_theory.specs.declared.cut.Cut.{Cut}
use Rattle.tally_theory.specs.Cuts.{CanBeCut}
use Rattle.answer_theory.specs.declared.task.Task.{Task}
use Rattle.answer_theory.specs.Tasks.{CanBeDone}
use Rattle.word_theory.specs.Values.{CanWork}
use Rattle.word_theory.specs.Words.{HasForm, HasParse}

abbrev pub FormLaw : Type 0
FormLaw = (words names : List (List ℕ)) (task : Task) → HasForm words task names → CanBeDone task

abbrev pub OneFormLaw : Type 0
OneFormLaw = (words names others : List (List ℕ)) (task other : Task) → HasForm words task names → HasForm words other others → (task ≡ other) × (names ≡ others)

abbrev pub ParseLaw : Type 0
ParseLaw = (words : List (List ℕ)) (cut : Cut) (workers : ℕ) → HasParse words cut workers → CanBeCut cut × CanWork workers

abbrev pub OneParseLaw : Type 0
OneParseLaw = (words : List (List ℕ)) (cut other : Cut) (workers others : ℕ) → HasParse words cut workers → HasParse words other others → (cut ≡ other) × (workers ≡ others)
