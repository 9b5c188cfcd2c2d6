-- Laws of a call of the program: what is due is one thing, and it comes wherever nothing fails.
use Rattle.std.specs.Prelude.{◌≡◌, ◌≢◌, ℕ, ◌+◌, ◌<◌, ◌⊎◌, List, [], length, All, IsTrue, IsSomeAnd}
use Rattle.lr_base.specs.Outside.{ShelfSeen, SinkSeen, Rose, Takes, is_listed}
use Rattle.answer_theory.specs.declared.status.Status.{Status}
use Rattle.answer_theory.specs.declared.status.Status.TheVariants.{TextRefused, BadWords, ReadFault, WriteFault, NoMemory}
use Rattle.tally_theory.specs.declared.asked.Asked.{Asked}
use Rattle.answer_theory.specs.declared.task.Seed.{Seed}
use Rattle.answer_theory.specs.declared.task.Task.{Task}
use Rattle.answer_theory.specs.declared.task.Task.TheVariants.{Load}
use Rattle.word_theory.specs.Words.{HasForm, IsBadWords}
use Rattle.lrpar_cli.specs.Endings.{Outside, Stays, IsDue, IsEnding, HasRead, bad_words_text, read_fault_text}

-- over a shelf that tells its bytes, what is due by the words is one: the names that are read, the status, and what is
-- due to each sink
abbrev pub OneDueLaw : Type 0
OneDueLaw = (shelf : ShelfSeen) (words names others read other_read : List (List ℕ)) (task other : Task) (status other_status : Status) (out err other_out other_err : List ℕ)
    → IsTrue shelf.tells → HasForm words task names → HasForm words other others
    → IsDue shelf task names read status out err → IsDue shelf other others other_read other_status other_out other_err
    → (read ≡ other_read) × (status ≡ other_status) × (out ≡ other_out) × (err ≡ other_err)

-- the names were read and each sink took exactly what is due to it
pub data IsAnswered (words : List (List ℕ)) (before after : Outside) : Status → Type 0 where
  bad_words_answered : IsBadWords words → HasRead before.shelf after.shelf [] → Takes before.out after.out [] → Takes before.err after.err bad_words_text → IsAnswered words before after BadWords
  task_answered : {task : Task} {names read : List (List ℕ)} {status : Status} {out err : List ℕ} → HasForm words task names → IsDue before.shelf task names read status out err → HasRead before.shelf after.shelf read → Takes before.out after.out out → Takes before.err after.err err → IsAnswered words before after status

-- each name that the words ask for is served
abbrev pub AreServed : ShelfSeen → List (List ℕ) → Type 0
AreServed shelf words = (task : Task) (names : List (List ℕ)) → HasForm words task names → All (λ name. IsTrue (is_listed shelf.served name)) names

-- where no count of a sink rose, and the shelf's didn't rise or the names are served, the call is answered or finds no
-- memory
abbrev pub CompleteLaw : Type 0
CompleteLaw = (words : List (List ℕ)) (before after : Outside) (status : Status) → IsEnding words before after status
    → (¬ (Rose before.shelf.faults after.shelf.faults)) ⊎ AreServed before.shelf words
    → ¬ (Rose before.out.faults after.out.faults) → ¬ (Rose before.err.faults after.err.faults)
    → (status ≡ NoMemory) ⊎ IsAnswered words before after status

-- over a shelf that serves the names there is no read fault
abbrev pub ServedLaw : Type 0
ServedLaw = (words : List (List ℕ)) (before after : Outside) (status : Status) → IsEnding words before after status → AreServed before.shelf words → status ≢ ReadFault

-- the sink has so much sure room left that no write of the text fails
abbrev pub Fits : SinkSeen → List ℕ → Type 0
Fits sink text = IsSomeAnd sink.taken (λ bytes. length bytes + length text < sink.room)

-- both sinks have sure room for all that may be due to them, and the error output for word of a read fault, where there
-- may be one
pub record HaveRoom (before : Outside) (words : List (List ℕ)) : Type 0 where
  pub for_bad_words : IsBadWords words → Fits before.err bad_words_text
  pub for_out : (task : Task) (names read : List (List ℕ)) (status : Status) (out err : List ℕ) → HasForm words task names → IsDue before.shelf task names read status out err → Fits before.out out
  pub for_err : (task : Task) (names read : List (List ℕ)) (status : Status) (out err : List ℕ) → HasForm words task names → IsDue before.shelf task names read status out err → Fits before.err err
  pub for_fault : AreServed before.shelf words ⊎ Fits before.err read_fault_text

-- over sinks with such room there is no write fault
abbrev pub RoomLaw : Type 0
RoomLaw = (words : List (List ℕ)) (before after : Outside) (status : Status) → IsEnding words before after status → Stays before after → HaveRoom before words → status ≢ WriteFault

-- a sample text is never refused
abbrev pub LoadedLaw : Type 0
LoadedLaw = (words names : List (List ℕ)) (seed : Seed) (asked : Asked) (before after : Outside) (status : Status) → IsEnding words before after status → HasForm words (Load seed asked) names → status ≢ TextRefused
