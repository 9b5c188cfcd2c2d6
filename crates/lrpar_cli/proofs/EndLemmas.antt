-- How a call ends by the outcome of its command.
use Rattle.std.proofs.Common.{◌≡◌, ◌≢◌, ◌⊎◌, inl, inr, List, [], ℕ, Result, Ok, Err, refl, sym, subst, append-nil}
use Rattle.lr_base.specs.Outside.{ShelfSeen, SinkSeen}
use Rattle.sheet_data.specs.Sheet.{Sheet}
use Rattle.answer_theory.specs.declared.status.Status.{Status}
use Rattle.answer_theory.specs.declared.status.Status.TheVariants.{Done, WriteFault, NoMemory}
use Rattle.answer_theory.specs.declared.task.Task.{Task}
use Rattle.answer_theory.specs.declared.task.Task.TheVariants.{Tokens, Check, Tables, Run, Gen, Load}
use Rattle.answer_theory.specs.declared.task.Seed.{Seed}
use Rattle.answer_theory.specs.SampleTexts.{HasNoSample, without_word, too_many_bytes}
use Rattle.answer_theory.specs.Tasks.{inputs_of}
use Rattle.answer_theory.specs.Work.{IsWork, tokens_listed, layout_printed, tables_printed, run_given, run_refused, sample_given, none_given, sample_loaded, none_loaded}
use Rattle.answer_theory.specs.Answers.{Answers, sheet_refused, input_too_long, work_done, IsPassed, passed_here, passed_later}
use Rattle.lrpar_cli.specs.declared.stop.Stop.{Stop}
use Rattle.lrpar_cli.specs.declared.stop.Stop.TheVariants.{Due, Unread, Unwritten, Spent}
use Rattle.lrpar_cli.specs.Endings.{HasRead, ComesOut, answered, unread, unwritten, spent, IsSaid}
use Rattle.lrpar_cli.specs.Stops.{StopsEarly, said_of, status_of}

-- what is said of an outcome, by an equal one
pub said_at : {before after : SinkSeen} {outcome other : Result (Unit {0}) Stop} {result : Status} → outcome ≡ other → IsSaid before after (said_of other) (status_of other) result → IsSaid before after (said_of outcome) (status_of outcome) result
said_at {before} {after} {result = result} e said = subst (λ o. IsSaid before after (said_of o) (status_of o) result) (sym e) said

-- no name was begun, and no call failed
pub reads_nothing : (shelf : ShelfSeen) → HasRead shelf shelf []
reads_nothing shelf = record { begun = sym (append-nil shelf.begun); kept = refl }

-- an answer that isn't on the output was made before it
pub early_stop : (outcome : Result (Unit {0}) Stop) (result : Status) → (result ≡ status_of outcome) ⊎ (result ≡ WriteFault) → result ≢ Done → result ≢ WriteFault → result ≢ NoMemory → StopsEarly outcome
early_stop outcome result (inr fault) done write memory = absurd (write fault)
early_stop (Ok x) result (inl same) done write memory = absurd (done same)
early_stop (Err (Due status said)) result (inl same) done write memory = tt
early_stop (Err Unread) result (inl same) done write memory = tt
early_stop (Err Unwritten) result (inl same) done write memory = absurd (write same)
early_stop (Err Spent) result (inl same) done write memory = absurd (memory same)

-- ---- what is said of work that is done, or where memory ran out

abbrev IsQuiet : Status → Type 0
IsQuiet status = (status ≡ Done) ⊎ (status ≡ NoMemory)

passed_quiet : (task : Task) {inputs : List (List ℕ)} {status : Status} {said : List ℕ} → IsPassed (inputs_of task) inputs status said → ¬ (IsQuiet status)
passed_quiet Tokens (passed_here long) (inl e) = cc
passed_quiet Tokens (passed_here long) (inr e) = cc
passed_quiet Tokens (passed_later short passed) quiet = elim passed [ ]
passed_quiet Check passed quiet = elim passed [ ]
passed_quiet Tables passed quiet = elim passed [ ]
passed_quiet (Run emit) (passed_here long) (inl e) = cc
passed_quiet (Run emit) (passed_here long) (inr e) = cc
passed_quiet (Run emit) (passed_later short passed) quiet = elim passed [ ]
passed_quiet (Gen seed) passed quiet = elim passed [ ]
passed_quiet (Load seed emit) passed quiet = elim passed [ ]

none_quiet : {sheet : Sheet} {seed : Seed} {status : Status} {said : List ℕ} → HasNoSample sheet seed status said → ¬ (IsQuiet status)
none_quiet (without_word none) (inl e) = cc
none_quiet (without_word none) (inr e) = cc
none_quiet (too_many_bytes long) (inl e) = cc
none_quiet (too_many_bytes long) (inr e) = cc

work_silent : {sheet : Sheet} {task : Task} {inputs : List (List ℕ)} {status : Status} {out err : List ℕ} → IsWork sheet task inputs status out err → IsQuiet status → err ≡ []
work_silent (tokens_listed is) quiet = refl
work_silent (layout_printed is) quiet = refl
work_silent (tables_printed is) quiet = refl
work_silent (run_given answer) quiet = refl
work_silent (run_refused answer) (inl e) = absurd (cc)
work_silent (run_refused answer) (inr e) = absurd (cc)
work_silent (sample_given is) quiet = refl
work_silent (none_given none) quiet = absurd (none_quiet none quiet)
work_silent (sample_loaded is work) quiet = work_silent work quiet
work_silent (none_loaded none) quiet = absurd (none_quiet none quiet)

answer_silent : {task : Task} {inputs : List (List ℕ)} {status : Status} {out err : List ℕ} → Answers task inputs status out err → IsQuiet status → err ≡ []
answer_silent (sheet_refused refused) (inl e) = absurd (cc)
answer_silent (sheet_refused refused) (inr e) = absurd (cc)
answer_silent {task = task} (input_too_long accepted passed) quiet = absurd (passed_quiet task passed quiet)
answer_silent (work_done accepted within work) quiet = work_silent work quiet

comes_silent : {task : Task} {names : List (List ℕ)} {before after : ShelfSeen} {out_before out_after : SinkSeen} {said : List ℕ} {status : Status} → ComesOut task names before after out_before out_after said status → IsQuiet status → said ≡ []
comes_silent (answered due read takes) quiet = answer_silent due.answers quiet
comes_silent (unread fault takes) (inl e) = absurd (cc)
comes_silent (unread fault takes) (inr e) = absurd (cc)
comes_silent (unwritten due read fails) (inl e) = absurd (cc)
comes_silent (unwritten due read fails) (inr e) = absurd (cc)
comes_silent (spent memory) quiet = refl

-- the call says nothing
pub ends_silent : {task : Task} {names : List (List ℕ)} {before after : ShelfSeen} {out_before out_after : SinkSeen} {said : List ℕ} {status result : Status} → ComesOut task names before after out_before out_after said status
    → (result ≡ status) ⊎ (result ≡ WriteFault) → IsQuiet result → said ≡ []
ends_silent comes (inl same) quiet = comes_silent comes (subst IsQuiet same quiet)
ends_silent comes (inr fault) (inl e) = absurd (cc)
ends_silent comes (inr fault) (inr e) = absurd (cc)
