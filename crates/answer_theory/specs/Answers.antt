-- What a task answers, where these inputs had to be read: a sheet, and then others in their order.
use Rattle.std.specs.Prelude.{ℕ, ◌<◌, ◌≤◌, List, [], ◌∷◌, length}
use Rattle.sheet_data.specs.Sheet.{Sheet}
use Rattle.answer_theory.specs.declared.status.Status.{Status}
use Rattle.answer_theory.specs.declared.status.Status.TheVariants.{SheetRefused}
use Rattle.answer_theory.specs.declared.task.Task.{Task}
use Rattle.answer_theory.specs.Tasks.{looking, Input, inputs_of}
use Rattle.answer_theory.specs.Sheets.{IsAccepted, IsRefused}
use Rattle.answer_theory.specs.Work.{IsWork}

-- there are as many bytes lists as inputs, and none is too long
pub data AreWithin : List Input → List (List ℕ) → Type 0 where
  none_left : AreWithin [] []
  one_within : {input : Input} {inputs : List Input} {bytes : List ℕ} {more : List (List ℕ)} → length bytes ≤ input.most → AreWithin inputs more → AreWithin (input ∷ inputs) (bytes ∷ more)

-- the last of these is too long, and those before are not; what follows of it
pub data IsPassed : List Input → List (List ℕ) → Status → List ℕ → Type 0 where
  passed_here : {input : Input} {inputs : List Input} {bytes : List ℕ} → input.most < length bytes → IsPassed (input ∷ inputs) (bytes ∷ []) input.status input.said
  passed_later : {input : Input} {inputs : List Input} {bytes said : List ℕ} {more : List (List ℕ)} {status : Status} → length bytes ≤ input.most → IsPassed inputs more status said → IsPassed (input ∷ inputs) (bytes ∷ more) status said

pub data Answers (task : Task) : List (List ℕ) → Status → List ℕ → List ℕ → Type 0 where
  -- the sheet is refused, and no other input is read
  sheet_refused : {bytes said : List ℕ} → IsRefused (looking task) bytes said → Answers task (bytes ∷ []) SheetRefused [] said
  -- an input is too long, and none after it is read
  input_too_long : {bytes said : List ℕ} {inputs : List (List ℕ)} {status : Status} {sheet : Sheet} → IsAccepted (looking task) bytes sheet → IsPassed (inputs_of task) inputs status said → Answers task (bytes ∷ inputs) status [] said
  work_done : {bytes out err : List ℕ} {inputs : List (List ℕ)} {status : Status} {sheet : Sheet} → IsAccepted (looking task) bytes sheet → AreWithin (inputs_of task) inputs → IsWork sheet task inputs status out err → Answers task (bytes ∷ inputs) status out err
