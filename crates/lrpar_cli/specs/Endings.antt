-- How a call of the program may end, over a shelf and two sinks of which this is known before and after it.
use Rattle.std.specs.Prelude.{◌≡◌, ℕ, suc, ◌≤◌, false, List, [], ◌∷◌, ◌++◌, length, take, Some, slice_get, codes}
use Rattle.lr_base.specs.Outside.{ShelfSeen, SinkSeen, IsSameShelf, IsSameSink, Takes, Fails, Rose, is_listed}
use Rattle.lr_base.specs.Reading.{StandsUnder}
use Rattle.answer_theory.specs.declared.status.Status.{Status}
use Rattle.answer_theory.specs.declared.status.Status.TheVariants.{BadWords, ReadFault, WriteFault, NoMemory}
use Rattle.answer_theory.specs.declared.task.Task.{Task}
use Rattle.answer_theory.specs.Answers.{Answers}
use Rattle.word_theory.specs.Words.{HasForm, IsBadWords}

-- what is known of the shelf and of the two sinks
pub record Outside : Type 0 where
  pub shelf : ShelfSeen
  pub out : SinkSeen
  pub err : SinkSeen

-- what stays: they are the same, later
pub record Stays (before after : Outside) : Type 0 where
  pub shelf : IsSameShelf before.shelf after.shelf
  pub out : IsSameSink before.out after.out
  pub err : IsSameSink before.err after.err

-- these inputs stand under the first of the names, in order
pub data AreRead (shelf : ShelfSeen) : List (List ℕ) → List (List ℕ) → Type 0 where
  none_read : {names : List (List ℕ)} → AreRead shelf names []
  one_read : {name input : List ℕ} {names inputs : List (List ℕ)} → StandsUnder shelf name input → AreRead shelf names inputs → AreRead shelf (name ∷ names) (input ∷ inputs)

-- these names were begun, in order, and no others, and no call failed
pub record HasRead (before after : ShelfSeen) (names : List (List ℕ)) : Type 0 where
  pub begun : after.begun ≡ before.begun ++ names
  pub kept : after.faults ≡ before.faults

-- what is due to the two sinks, by the inputs under these first names
pub record IsDue (shelf : ShelfSeen) (task : Task) (names read : List (List ℕ)) (status : Status) (out err : List ℕ) : Type 0 where
  pub inputs : List (List ℕ)
  pub stand : AreRead shelf names inputs
  pub count : read ≡ take (length inputs) names
  pub answers : Answers task inputs status out err

-- these inputs stand under the first of the names, and nothing is due by them yet
pub record IsPending (shelf : ShelfSeen) (task : Task) (names inputs : List (List ℕ)) : Type 0 where
  pub stand : AreRead shelf names inputs
  pub unanswered : (status : Status) (out err : List ℕ) → ¬ (Answers task inputs status out err)

-- nothing was due yet, and the next name, which isn't served, could not be read: the names to it were begun, in order,
-- and no others
pub record IsUnread (before after : ShelfSeen) (task : Task) (names : List (List ℕ)) : Type 0 where
  pub inputs : List (List ℕ)
  pub pending : IsPending before task names inputs
  pub name : List ℕ
  pub next : slice_get names (length inputs) ≡ Some name
  pub unserved : is_listed before.served name ≡ false
  pub begun : after.begun ≡ before.begun ++ take (suc (length inputs)) names
  pub rose : Rose before.faults after.faults

-- where memory runs out nothing was due by the inputs before the last name that was begun; or the output took some of
-- what was due to it
pub data IsSpent (before after : ShelfSeen) (out_before out_after : SinkSeen) (task : Task) (names : List (List ℕ)) : Type 0 where
  before_output : {inputs : List (List ℕ)} {count : ℕ} → IsPending before task names inputs → count ≤ suc (length inputs) → HasRead before after (take count names) → Takes out_before out_after [] → IsSpent before after out_before out_after task names
  within_output : {read : List (List ℕ)} {status : Status} {out err front : List ℕ} (rest : List ℕ) → IsDue before task names read status out err → HasRead before after read → out ≡ front ++ rest → Takes out_before out_after front → IsSpent before after out_before out_after task names

abbrev pub bad_words_text : List ℕ
bad_words_text = codes "bad words\n"

abbrev pub read_fault_text : List ℕ
read_fault_text = codes "read fault\n"

abbrev pub write_fault_text : List ℕ
write_fault_text = codes "write fault\n"

-- what comes of a task, with what is to be said of it and its status: what is due to the output was taken; an input
-- could not be read; the output failed within what is due to it; or memory ran out
pub data ComesOut (task : Task) (names : List (List ℕ)) (before after : ShelfSeen) (out_before out_after : SinkSeen) : List ℕ → Status → Type 0 where
  answered : {read : List (List ℕ)} {status : Status} {out err : List ℕ} → IsDue before task names read status out err → HasRead before after read → Takes out_before out_after out → ComesOut task names before after out_before out_after err status
  unread : IsUnread before after task names → Takes out_before out_after [] → ComesOut task names before after out_before out_after read_fault_text ReadFault
  unwritten : {read : List (List ℕ)} {status : Status} {out err : List ℕ} → IsDue before task names read status out err → HasRead before after read → Fails out_before out_after out → ComesOut task names before after out_before out_after write_fault_text WriteFault
  spent : IsSpent before after out_before out_after task names → ComesOut task names before after out_before out_after [] NoMemory

-- the error output took what is to be said, and the call ends with the status; or it failed within that, and the call
-- ends with a write fault
pub data IsSaid (before after : SinkSeen) (said : List ℕ) (status : Status) : Status → Type 0 where
  said_whole : Takes before after said → IsSaid before after said status status
  said_in_part : Fails before after said → IsSaid before after said status WriteFault

-- the ways in which a call may end
pub data IsEnding (words : List (List ℕ)) (before after : Outside) : Status → Type 0 where
  with_bad_words : {result : Status} → IsBadWords words → HasRead before.shelf after.shelf [] → Takes before.out after.out [] → IsSaid before.err after.err bad_words_text BadWords result → IsEnding words before after result
  -- memory runs out while the words are read
  without_memory : HasRead before.shelf after.shelf [] → Takes before.out after.out [] → Takes before.err after.err [] → IsEnding words before after NoMemory
  with_task : {task : Task} {names : List (List ℕ)} {said : List ℕ} {status result : Status} → HasForm words task names → ComesOut task names before.shelf after.shelf before.out after.out said status → IsSaid before.err after.err said status result → IsEnding words before after result
