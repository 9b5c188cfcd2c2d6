-- What a task reads, how far it looks at its sheet, and which tasks can be done.
use Rattle.std.specs.Prelude.{ℕ, List, [], ◌∷◌, codes}
use Rattle.lr_base.specs.declared.limits.TheConstants.{TEXT_BYTES}
use Rattle.answer_theory.specs.declared.status.Status.{Status}
use Rattle.answer_theory.specs.declared.status.Status.TheVariants.{TextTooLong}
use Rattle.tally_theory.specs.Asked.{CanBeAsked}
use Rattle.answer_theory.specs.declared.task.Task.{Task}
use Rattle.answer_theory.specs.declared.task.Task.TheVariants.{Tokens, Check, Tables, Run, Gen, Load}

-- for which faults a task looks
pub data Looking : Type 0 where
  -- those of reading a sheet and of its scanner
  for_scanning : Looking
  -- and those of its grammar
  for_parsing : Looking

abbrev pub looking : Task → Looking
looking Tokens = for_scanning
looking Check = for_parsing
looking Tables = for_parsing
looking (Run asked) = for_parsing
looking (Gen seed) = for_parsing
looking (Load seed asked) = for_parsing

-- what is read besides a sheet: the most bytes that it may have, and the status and what is said where it has more
pub record Input : Type 0 where
  pub most : ℕ
  pub status : Status
  pub said : List ℕ

abbrev pub long_text_text : List ℕ
long_text_text = codes "text too long\n"

abbrev pub text_input : Input
text_input = record { most = TEXT_BYTES; status = TextTooLong; said = long_text_text }

-- what a task reads after its sheet, in this order
abbrev pub inputs_of : Task → List Input
inputs_of Tokens = text_input ∷ []
inputs_of Check = []
inputs_of Tables = []
inputs_of (Run asked) = text_input ∷ []
inputs_of (Gen seed) = []
inputs_of (Load seed asked) = []

-- this can be done
abbrev pub CanBeDone : Task → Type 0
CanBeDone Tokens = Unit {0}
CanBeDone Check = Unit {0}
CanBeDone Tables = Unit {0}
CanBeDone (Run asked) = CanBeAsked asked
CanBeDone (Gen seed) = Unit {0}
CanBeDone (Load seed asked) = CanBeAsked asked
