-- What is due is one thing, and it comes wherever nothing fails.
use Rattle.std.proofs.Common.{◌≡◌, ◌≢◌, ℕ, ◌+◌, ◌<◌, ◌≤◌, ◌⊎◌, inl, inr, ⊎_elim, List, [], ◌∷◌, ◌++◌, length, take, Option, Some, None, IsSome, IsSomeAnd, IsTrue, IfSome, true, get_or, length-take, length-append, refl, sym, ap, subst, ◌∙◌, arith, append-nil}
use Rattle.std.specs.Io.KnownBytes.{Appends}
use Rattle.std.proofs.lemmas.Bool.{false≢true}
use Rattle.std.proofs.lemmas.Option.{slice_get_within, slice_get-get_or}
use Rattle.lr_base.specs.Outside.{ShelfSeen, SinkSeen, Fails, is_listed}
use Rattle.sheet_data.specs.Sheet.{Sheet}
use Rattle.answer_theory.specs.declared.status.Status.{Status}
use Rattle.answer_theory.specs.declared.status.Status.TheVariants.{Done, TextRefused, BadWords, ReadFault, WriteFault, TextTooLong}
use Rattle.answer_theory.specs.declared.task.Task.{Task}
use Rattle.answer_theory.specs.declared.task.Task.TheVariants.{Tokens, Check, Tables, Run, Gen, Load}
use Rattle.answer_theory.specs.declared.task.Seed.{Seed}
use Rattle.answer_theory.specs.SampleTexts.{HasNoSample, without_word, too_many_bytes}
use Rattle.answer_theory.specs.Tasks.{inputs_of}
use Rattle.answer_theory.specs.Work.{IsWork, tokens_listed, layout_printed, tables_printed, run_given, run_refused, sample_given, none_given, sample_loaded, none_loaded}
use Rattle.answer_theory.specs.Answers.{Answers, sheet_refused, input_too_long, work_done, IsPassed, passed_here, passed_later}
use Rattle.answer_theory.proofs.AnswerLemmas.{answer_once, load}
use Rattle.tally_theory.specs.declared.asked.Asked.{Asked}
use Rattle.word_theory.specs.Words.{HasForm, IsBadWords}
use Rattle.lrpar_cli.specs.Endings.{Outside, AreRead, none_read, one_read, IsDue, IsUnread, ComesOut, answered, unread, unwritten, spent, said_whole, said_in_part, IsEnding, with_bad_words, without_memory, with_task}
use Rattle.lrpar_cli.specs.Laws.{OneDueLaw, CompleteLaw, ServedLaw, RoomLaw, LoadedLaw, bad_words_answered, task_answered, AreServed, Fits}
use Rattle.word_theory.proofs.WordLemmas.{form_once}

same_standing : (stood : Option (List ℕ)) (one other : List ℕ) → IsSome stood → IfSome stood (λ standing. one ≡ standing) → IfSome stood (λ standing. other ≡ standing) → one ≡ other
same_standing None one other there is also = cc
same_standing (Some standing) one other there is also = is ∙ sym also

-- one list of inputs goes on where the other ends
abbrev GoOn : List (List ℕ) → List (List ℕ) → Type 0
GoOn inputs others = ((more : List (List ℕ)) × (others ≡ inputs ++ more)) ⊎ ((more : List (List ℕ)) × (inputs ≡ others ++ more))

module _ (shelf : ShelfSeen) (tells : IsTrue shelf.tells) where
  read_once : {names : List (List ℕ)} (inputs others : List (List ℕ)) → AreRead shelf names inputs → AreRead shelf names others → GoOn inputs others
  read_once [] others none_read also = inl (others, refl)
  read_once (x ∷ xs) [] read none_read = inr (x ∷ xs, refl)
  read_once (x ∷ xs) (y ∷ ys) (one_read {name = name} stand read) (one_read also_stand also) =
      let same : x ≡ y = same_standing (shelf.stands name) x y (stand.there tells) stand.is also_stand.is in
      elim (read_once xs ys read also) [
        | inl on ↦ inl (on.0, ap (λ l. y ∷ l) on.1 ∙ ap (λ b. b ∷ (xs ++ on.0)) (sym same))
        | inr on ↦ inr (on.0, ap (λ l. x ∷ l) on.1 ∙ ap (λ b. b ∷ (ys ++ on.0)) same)
      ]

  due_once : (task : Task) (names read other_read : List (List ℕ)) (status other_status : Status) (out err other_out other_err : List ℕ)
      → IsDue shelf task names read status out err → IsDue shelf task names other_read other_status other_out other_err
      → (read ≡ other_read) × (status ≡ other_status) × (out ≡ other_out) × (err ≡ other_err)
  due_once task names read other_read status other_status out err other_out other_err due also =
      elim (read_once due.inputs also.inputs due.stand also.stand) [
        | inl on ↦
            let (none, statuses, outs, errs) = answer_once on.0 due.answers on.1 also.answers in
            let inputs : also.inputs ≡ due.inputs = on.1 ∙ ap (λ l. due.inputs ++ l) none ∙ append-nil due.inputs in
            (due.count ∙ ap (λ l. take (length l) names) (sym inputs) ∙ sym also.count, statuses, outs, errs)
        | inr on ↦
            let (none, statuses, outs, errs) = answer_once on.0 also.answers on.1 due.answers in
            let inputs : due.inputs ≡ also.inputs = on.1 ∙ ap (λ l. also.inputs ++ l) none ∙ append-nil also.inputs in
            (due.count ∙ ap (λ l. take (length l) names) inputs ∙ sym also.count, sym statuses, sym outs, sym errs)
      ]

pub one_due : OneDueLaw
one_due shelf words names others read other_read task other status other_status out err other_out other_err tells form other_form due also =
    let (tasks, lists) = form_once words names others task other form other_form in
    let moved = subst (λ n. IsDue shelf task n other_read other_status other_out other_err) (sym lists) (subst (λ t. IsDue shelf t others other_read other_status other_out other_err) (sym tasks) also) in
    due_once shelf tells task names read other_read status other_status out err other_out other_err due moved

-- ---- which statuses an answer has

-- an answer's status is none of those by which a call fails
pub record IsAnswer (status : Status) : Type 0 where
  pub read : status ≢ ReadFault
  pub written : status ≢ WriteFault
  pub given : status ≢ BadWords

answer_done : IsAnswer Done
answer_done = record { read = λ e. cc; written = λ e. cc; given = λ e. cc }

answer_long : IsAnswer TextTooLong
answer_long = record { read = λ e. cc; written = λ e. cc; given = λ e. cc }

passed_status : (task : Task) {inputs : List (List ℕ)} {status : Status} {said : List ℕ} → IsPassed (inputs_of task) inputs status said → IsAnswer status
passed_status Tokens (passed_here long) = answer_long
passed_status Tokens (passed_later short passed) = elim passed [ ]
passed_status Check passed = elim passed [ ]
passed_status Tables passed = elim passed [ ]
passed_status (Run asked) (passed_here long) = answer_long
passed_status (Run asked) (passed_later short passed) = elim passed [ ]
passed_status (Gen seed) passed = elim passed [ ]
passed_status (Load seed asked) passed = elim passed [ ]

none_status : {sheet : Sheet} {seed : Seed} {status : Status} {said : List ℕ} → HasNoSample sheet seed status said → IsAnswer status
none_status (without_word none) = record { read = λ e. cc; written = λ e. cc; given = λ e. cc }
none_status (too_many_bytes long) = answer_long

work_status : {sheet : Sheet} {task : Task} {inputs : List (List ℕ)} {status : Status} {out err : List ℕ} → IsWork sheet task inputs status out err → IsAnswer status
work_status (tokens_listed is) = answer_done
work_status (layout_printed is) = answer_done
work_status (tables_printed is) = answer_done
work_status (run_given answer) = answer_done
work_status (run_refused answer) = record { read = λ e. cc; written = λ e. cc; given = λ e. cc }
work_status (sample_given is) = answer_done
work_status (none_given none) = none_status none
work_status (sample_loaded is work) = work_status work
work_status (none_loaded none) = none_status none

pub answer_status : {task : Task} {inputs : List (List ℕ)} {status : Status} {out err : List ℕ} → Answers task inputs status out err → IsAnswer status
answer_status (sheet_refused refused) = record { read = λ e. cc; written = λ e. cc; given = λ e. cc }
answer_status {task = task} (input_too_long accepted passed) = passed_status task passed
answer_status (work_done accepted within work) = work_status work

-- ---- where nothing fails

-- a sink with room for a text doesn't fail within it
not_full : (before after : SinkSeen) (text : List ℕ) → after.room ≡ before.room → Fits before text → ¬ (Fails before after text)
not_full before after text same fits fails = full before.taken after.taken before.room text fits fails.part.count fails.part.short fails.part.grown (subst (λ r. IfSome after.taken (λ taken. r ≤ length taken)) same fails.full)
  where
    full : (b a : Option (List ℕ)) (room : ℕ) (t : List ℕ) → IsSomeAnd b (λ bytes. length bytes + length t < room) → (count : ℕ) → count < length t → Appends b a (take count t) → IfSome a (λ taken. room ≤ length taken) → ⊥
    full None a room t fits count short grown all = fits
    full (Some b) None room t fits count short grown all = grown
    full (Some b) (Some a) room t fits count short grown all = omega (arith, fits, all, short, ap length grown, length-append b (take count t), length-take count t)

-- nothing is never said in part
none_in_part : (before after : SinkSeen) → ¬ (Fails before after [])
none_in_part before after fails = omega (arith, fails.part.short)

-- each served name can be read
served_read : (before after : ShelfSeen) (words names : List (List ℕ)) (task : Task) → HasForm words task names → AreServed before words → ¬ (IsUnread before after task names)
served_read before after words names task form all fault =
    let within = slice_get_within names (length fault.inputs) fault.name fault.next in
    let found : get_or names (length fault.inputs) fault.name ≡ fault.name = cc (slice_get-get_or names (length fault.inputs) fault.name within, fault.next) in
    let listed : is_listed before.served fault.name ≡ true = subst (λ name. is_listed before.served name ≡ true) found (all task names form (length fault.inputs) fault.name within) in
    false≢true (sym fault.unserved ∙ listed)

pub complete : CompleteLaw
complete words before after status (with_bad_words bad read takes (said_whole said)) quiet out err = inr (bad_words_answered bad read takes said)
complete words before after status (with_bad_words bad read takes (said_in_part fails)) quiet out err = absurd (err fails.rose)
complete words before after status (without_memory read takes none) quiet out err = inl refl
complete words before after status (with_task form (answered due read takes) (said_whole said)) quiet out err = inr (task_answered form due read takes said)
complete words before after status (with_task form (answered due read takes) (said_in_part fails)) quiet out err = absurd (err fails.rose)
complete words before after status (with_task {task = task} {names = names} form (unread fault takes) said) quiet out err =
    absurd (⊎_elim (λ no. no fault.rose) (λ all. served_read before.shelf after.shelf words names task form all fault) quiet)
complete words before after status (with_task form (unwritten due read fails) said) quiet out err = absurd (out fails.rose)
complete words before after status (with_task form (spent memory) (said_whole said)) quiet out err = inl refl
complete words before after status (with_task form (spent memory) (said_in_part fails)) quiet out err = absurd (none_in_part before.err after.err fails)

pub served : ServedLaw
served words before after status (with_bad_words bad read takes (said_whole said)) all e = cc
served words before after status (with_bad_words bad read takes (said_in_part fails)) all e = cc
served words before after status (without_memory read takes none) all e = cc
served words before after status (with_task form (answered due read takes) (said_whole said)) all e = (answer_status due.answers).read e
served words before after status (with_task form (answered due read takes) (said_in_part fails)) all e = cc
served words before after status (with_task {task = task} {names = names} form (unread fault takes) said) all e = served_read before.shelf after.shelf words names task form all fault
served words before after status (with_task form (unwritten due read fails) (said_whole said)) all e = cc
served words before after status (with_task form (unwritten due read fails) (said_in_part part)) all e = cc
served words before after status (with_task form (spent memory) (said_whole said)) all e = cc
served words before after status (with_task form (spent memory) (said_in_part fails)) all e = cc

pub room : RoomLaw
room words before after status (with_bad_words bad read takes (said_whole said)) stays have e = cc
room words before after status (with_bad_words bad read takes (said_in_part fails)) stays have e = not_full before.err after.err _ stays.err.room (have.for_bad_words bad) fails
room words before after status (without_memory read takes none) stays have e = cc
room words before after status (with_task form (answered due read takes) (said_whole said)) stays have e = (answer_status due.answers).written e
room words before after status (with_task form (answered due read takes) (said_in_part fails)) stays have e = not_full before.err after.err _ stays.err.room (have.for_err _ _ _ _ _ _ form due) fails
room words before after status (with_task form (unread fault takes) (said_whole said)) stays have e = cc
room words before after status (with_task {task = task} {names = names} form (unread fault takes) (said_in_part fails)) stays have e =
    ⊎_elim (λ all. served_read before.shelf after.shelf words names task form all fault) (λ fits. not_full before.err after.err _ stays.err.room fits fails) have.for_fault
room words before after status (with_task form (unwritten due read fails) said) stays have e = not_full before.out after.out _ stays.out.room (have.for_out _ _ _ _ _ _ form due) fails
room words before after status (with_task form (spent memory) (said_whole said)) stays have e = cc
room words before after status (with_task form (spent memory) (said_in_part fails)) stays have e = none_in_part before.err after.err fails

-- a call that ends with bad words was given such
pub ends_bad : (words : List (List ℕ)) (before after : Outside) (status : Status) → IsEnding words before after status → status ≡ BadWords → IsBadWords words
ends_bad words before after status (with_bad_words bad read takes said) e = bad
ends_bad words before after status (without_memory read takes none) e = cc
ends_bad words before after status (with_task form (answered due read takes) (said_whole said)) e = absurd ((answer_status due.answers).given e)
ends_bad words before after status (with_task form (answered due read takes) (said_in_part fails)) e = cc
ends_bad words before after status (with_task form (unread fault takes) (said_whole said)) e = cc
ends_bad words before after status (with_task form (unread fault takes) (said_in_part fails)) e = cc
ends_bad words before after status (with_task form (unwritten due read fails) (said_whole said)) e = cc
ends_bad words before after status (with_task form (unwritten due read fails) (said_in_part part)) e = cc
ends_bad words before after status (with_task form (spent memory) (said_whole said)) e = cc
ends_bad words before after status (with_task form (spent memory) (said_in_part fails)) e = cc

-- ---- sample texts

sample_comes : {seed : Seed} {asked : Asked} {names : List (List ℕ)} {before after : ShelfSeen} {out_before out_after : SinkSeen} {said : List ℕ} {status : Status} → ComesOut (Load seed asked) names before after out_before out_after said status → status ≢ TextRefused
sample_comes {seed} {asked} (answered {status = status} {out = out} {err = err} due read takes) e = load seed asked due.inputs status out err due.answers e
sample_comes (unread fault takes) e = cc
sample_comes (unwritten due read fails) e = cc
sample_comes (spent memory) e = cc

pub loaded : LoadedLaw
loaded words names seed asked before after status (with_bad_words bad read takes said) form e = bad (Load seed asked) names form
loaded words names seed asked before after status (without_memory read takes none) form e = cc
loaded words names seed asked before after status (with_task {task = task} {names = others} {said = said} other comes (said_whole taken)) form e =
    let tasks : task ≡ Load seed asked = (form_once words others names task (Load seed asked) other form).0 in
    sample_comes (subst (λ t. ComesOut t others before.shelf after.shelf before.out after.out said status) tasks comes) e
loaded words names seed asked before after status (with_task other comes (said_in_part fails)) form e = cc
