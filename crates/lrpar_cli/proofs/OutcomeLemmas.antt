-- What comes of the steps of a command.
use Rattle.std.proofs.Common.{◌≡◌, ℕ, zero, suc, List, [], ◌∷◌, ◌++◌, length, take, Some, IsSome, IfSome, false, slice_get, Result, Ok, Err, IsErrAnd, refl, sym, ap, subst, ◌∙◌, arith, append_assoc, append-nil, length-append}
use Rattle.std.proofs.lemmas.Option.{same_Some}
use Rattle.lr_base.specs.Outside.{ShelfSeen, SinkSeen, IsSameShelf, Takes, Rose, is_listed}
use Rattle.lr_base.specs.Reading.{StandsUnder}
use Rattle.writing_theory.specs.Writing.{IsWritten, all_taken, part_taken, cut, nothing_taken, front_taken}
use Rattle.writing_theory.specs.declared.fault.WriteFault.{WriteFault}
use Rattle.sheet_data.specs.Sheet.{Sheet}
use Rattle.answer_theory.specs.declared.status.Status.{Status}
use Rattle.answer_theory.specs.declared.status.Status.TheVariants.{Done, TextRefused, NoMemory as out_of_memory}
use Rattle.tally_theory.specs.declared.asked.Asked.{Asked}
use Rattle.answer_theory.specs.declared.task.Task.{Task}
use Rattle.answer_theory.specs.declared.task.Task.TheVariants.{Run}
use Rattle.answer_theory.specs.declared.task.Seed.{Seed}
use Rattle.answer_theory.specs.Tasks.{looking, for_parsing, Input, inputs_of, text_input}
use Rattle.answer_theory.specs.SampleTexts.{HasNoSample}
use Rattle.answer_theory.specs.Work.{IsWork, run_refused}
use Rattle.answer_theory.specs.Sheets.{IsAccepted}
use Rattle.answer_theory.specs.Answers.{AreWithin, none_left, one_within, IsPassed, Answers, sheet_refused, input_too_long, work_done, passed_here}
use Rattle.answer_theory.proofs.SheetLemmas.{not_refused}
use Rattle.lrpar_cli.specs.declared.stop.Stop.{Stop}
use Rattle.lrpar_cli.specs.declared.stop.Stop.TheVariants.{Due, Unread, Unwritten, Spent}
use Rattle.lrpar_cli.specs.Endings.{AreRead, none_read, one_read, HasRead, IsDue, IsPending, before_output, within_output, ComesOut, answered, unread, unwritten, spent}
use Rattle.lrpar_cli.specs.Inputs.{ReadsName, HasSheet, IsSheetStop, HasInput, IsInputStop}
use Rattle.lrpar_cli.specs.Translating.{IsTextStop}
use Rattle.lrpar_cli.specs.Samples.{IsSampleStop}
use Rattle.lrpar_cli.specs.Stops.{said_of, status_of, writing_stop}

take_next : {A : Type 0} (xs : List A) (k : ℕ) (x : A) → slice_get xs k ≡ Some x → take (suc k) xs ≡ take k xs ++ x ∷ []
take_next [] k x e = cc
take_next (y ∷ ys) zero x e = ap (λ z. z ∷ []) (same_Some y x e)
take_next (y ∷ ys) (suc k) x e = ap (λ l. y ∷ l) (take_next ys k x e)

-- the bytes under the next name were read too
read_next : (shelf : ShelfSeen) {names inputs : List (List ℕ)} (name bytes : List ℕ) → AreRead shelf names inputs → slice_get names (length inputs) ≡ Some name → StandsUnder shelf name bytes → AreRead shelf names (inputs ++ bytes ∷ [])
read_next shelf {names = []} name bytes none_read e stand = cc
read_next shelf {names = y ∷ ys} name bytes none_read e stand = one_read (subst (λ n. StandsUnder shelf n bytes) (sym (same_Some y name e)) stand) none_read
read_next shelf name bytes (one_read first rest) e stand = one_read first (read_next shelf name bytes rest e stand)

-- what stands under a name stands there later
pub stands_before : (before after : ShelfSeen) (name bytes : List ℕ) → IsSameShelf before after → StandsUnder after name bytes → StandsUnder before name bytes
stands_before before after name bytes same stand = record {
  there = λ tells. subst (λ stands. IsSome (stands name)) same.stands (stand.there (same.tells ∙ tells));
  is = subst (λ stands. IfSome (stands name) (λ standing. bytes ≡ standing)) same.stands stand.is;
}

-- where a command stands after some inputs were read: nothing is due yet
pub record Stage (before now : ShelfSeen) (task : Task) (names inputs : List (List ℕ)) : Type 0 where
  pub pending : IsPending before task names inputs
  pub read : HasRead before now (take (length inputs) names)
  pub same : IsSameShelf before now

module _ (before now after : ShelfSeen) (task : Task) (names inputs : List (List ℕ)) (name : List ℕ) (stage : Stage before now task names inputs) (next : slice_get names (length inputs) ≡ Some name) (failed : Type 0) (reads : ReadsName now after name failed) where
  begun_next : after.begun ≡ before.begun ++ take (suc (length inputs)) names
  begun_next =
      reads.begun ∙ ap (λ l. l ++ name ∷ []) stage.read.begun ∙ append_assoc before.begun (take (length inputs) names) (name ∷ [])
      ∙ ap (λ l. before.begun ++ l) (sym (take_next names (length inputs) name next))

  read_on : ¬ failed → HasRead before after (take (suc (length inputs)) names)
  read_on fine = record { begun = begun_next; kept = reads.kept fine ∙ stage.read.kept }

  module _ (out_before out_after : SinkSeen) where
    abbrev Comes : Result (Unit {0}) Stop → Type 0
    Comes outcome = ComesOut task names before after out_before out_after (said_of outcome) (status_of outcome)

    -- the name could not be read
    pub comes_unread : failed → Takes out_before out_after [] → Comes (Err Unread)
    comes_unread fails takes = unread (record {
      inputs = inputs;
      pending = stage.pending;
      name = name;
      next = next;
      unserved = subst (λ served. is_listed served name ≡ false) stage.same.served (reads.unserved fails);
      begun = begun_next;
      rose = subst (λ count. Rose count after.faults) stage.read.kept (reads.rose fails);
    }) takes

    -- memory ran out before anything was due
    pub comes_spent : ¬ failed → Takes out_before out_after [] → Comes (Err Spent)
    comes_spent fine takes = spent (before_output {count = suc (length inputs)} stage.pending (omega arith) (read_on fine) takes)

    module _ (bytes : List ℕ) (stand : StandsUnder before name bytes) (fine : ¬ failed) where
      due_now : {status : Status} {out err : List ℕ} → Answers task (inputs ++ bytes ∷ []) status out err → IsDue before task names (take (suc (length inputs)) names) status out err
      due_now answers = record {
        inputs = inputs ++ bytes ∷ [];
        stand = read_next before name bytes stage.pending.stand next stand;
        count = ap (λ n. take n names) (let n : suc (length inputs) ≡ length (inputs ++ bytes ∷ []) = omega (arith, length-append inputs (bytes ∷ [])) in n);
        answers = answers;
      }

      -- this is due, by what was read
      pub comes_due : (status : Status) (said : List ℕ) → Answers task (inputs ++ bytes ∷ []) status [] said → Takes out_before out_after [] → Comes (Err (Due status said))
      comes_due status said answers takes = answered (due_now answers) (read_on fine) takes

      module _ (Is : List ℕ → Type 0) (answers : (text : List ℕ) → Is text → Answers task (inputs ++ bytes ∷ []) Done text []) where
        -- the output's text is written
        pub comes_whole : IsWritten Is out_before out_after (Ok tt) → Comes (Ok tt)
        comes_whole (all_taken {text = text} is takes) = answered (due_now (answers text is)) (read_on fine) takes

        pub comes_stopped : (fault : WriteFault) → IsWritten Is out_before out_after (Err fault) → Comes (Err (writing_stop fault))
        comes_stopped fault (part_taken {text = text} is fails) = unwritten (due_now (answers text is)) (read_on fine) fails
        comes_stopped fault (cut (nothing_taken takes)) = spent (before_output {count = suc (length inputs)} stage.pending (omega arith) (read_on fine) takes)
        comes_stopped fault (cut (front_taken {text = text} rest is e takes)) = spent (within_output rest (due_now (answers text is)) (read_on fine) e takes)

-- nothing is due before the sheet was read
pub first_stage : (shelf : ShelfSeen) (task : Task) (names : List (List ℕ)) → Stage shelf shelf task names []
first_stage shelf task names = record {
  pending = record { stand = none_read; unanswered = λ status out err answers. elim answers [ ] };
  read = record { begun = sym (append-nil shelf.begun); kept = refl };
  same = record { tells = refl; stands = refl; served = refl; later = omega arith };
}

module _ (before after : ShelfSeen) (out_before out_after : SinkSeen) (task : Task) (name : List ℕ) (rest : List (List ℕ)) where
  -- the command stops at its sheet
  pub stops_at_sheet : (stop : Stop) (failed : Type 0) → IsSheetStop (looking task) before name stop → ReadsName before after name failed → (stop ≡ Unread → failed) → (failed → stop ≡ Unread) → Takes out_before out_after []
      → ComesOut task (name ∷ rest) before after out_before out_after (said_of (Err stop)) (status_of (Err stop))
  stops_at_sheet (Due status said) failed is reads to from takes =
      let refusal = is.1 in
      comes_due before before after task (name ∷ rest) [] name (first_stage before task (name ∷ rest)) refl failed reads out_before out_after refusal.bytes refusal.stand (λ fails. let no = from fails in cc) status said
      (subst (λ s. Answers task (refusal.bytes ∷ []) s [] said) (sym is.0) (sheet_refused refusal.refused)) takes
  stops_at_sheet Unread failed is reads to from takes = comes_unread before before after task (name ∷ rest) [] name (first_stage before task (name ∷ rest)) refl failed reads out_before out_after (to refl) takes
  stops_at_sheet Unwritten failed is reads to from takes = absurd is
  stops_at_sheet Spent failed is reads to from takes = comes_spent before before after task (name ∷ rest) [] name (first_stage before task (name ∷ rest)) refl failed reads out_before out_after (λ fails. let no = from fails in cc) takes

-- a text is still to be read
not_within : (inputs : List Input) → inputs ≡ text_input ∷ [] → ¬ (AreWithin inputs [])
not_within inputs e none_left = cc

-- nor is it too long
nothing_passed : {inputs : List Input} {status : Status} {said : List ℕ} → ¬ (IsPassed inputs [] status said)
nothing_passed passed = elim passed [ ]

-- a command that reads a sheet and a text
module _ (task : Task) (one : inputs_of task ≡ text_input ∷ []) where
  -- nothing is due by an accepted sheet before the text was read
  text_pending : (bytes : List ℕ) (sheet : Sheet) → IsAccepted (looking task) bytes sheet → (status : Status) (out err : List ℕ) → ¬ (Answers task (bytes ∷ []) status out err)
  text_pending bytes sheet accepted status out err (sheet_refused refused) = not_refused bytes (looking task) sheet accepted refused
  text_pending bytes sheet accepted status out err (input_too_long other passed) = nothing_passed passed
  text_pending bytes sheet accepted status out err (work_done other within work) = not_within (inputs_of task) one within

  module _ (before now after : ShelfSeen) (out_before out_after : SinkSeen) (name text_name : List ℕ) (sheet : Sheet) (has : HasSheet (looking task) before name sheet) (read_failed : Type 0) (read : ReadsName before now name read_failed) (fine : ¬ read_failed) (same : IsSameShelf before now) where
    abbrev both : List (List ℕ)
    both = name ∷ text_name ∷ []

    text_stage : Stage before now task both (has.bytes ∷ [])
    text_stage = record {
      pending = record { stand = one_read has.stand none_read; unanswered = text_pending has.bytes sheet has.accepted };
      read = record { begun = read.begun; kept = read.kept fine };
      same = same;
    }

    -- the command stops at its text
    pub stops_at_text : (stop : Stop) (failed : Type 0) → IsInputStop text_input now text_name stop → ReadsName now after text_name failed → (stop ≡ Unread → failed) → (failed → stop ≡ Unread) → Takes out_before out_after []
        → ComesOut task both before after out_before out_after (said_of (Err stop)) (status_of (Err stop))
    stops_at_text (Due status said) failed is reads to from takes =
        let long = is.2 in
        let passed : IsPassed (inputs_of task) (long.bytes ∷ []) text_input.status text_input.said = subst (λ inputs. IsPassed inputs (long.bytes ∷ []) text_input.status text_input.said) (sym one) (passed_here long.long) in
        let answer : Answers task (has.bytes ∷ long.bytes ∷ []) text_input.status [] text_input.said = input_too_long has.accepted passed in
        comes_due before now after task both (has.bytes ∷ []) text_name text_stage refl failed reads out_before out_after long.bytes (stands_before before now text_name long.bytes same long.stand) (λ fails. let no = from fails in cc) status said
        (subst (λ s. Answers task (has.bytes ∷ long.bytes ∷ []) s [] said) (sym is.0) (subst (λ t. Answers task (has.bytes ∷ long.bytes ∷ []) text_input.status [] t) (sym is.1) answer)) takes
    stops_at_text Unread failed is reads to from takes = comes_unread before now after task both (has.bytes ∷ []) text_name text_stage refl failed reads out_before out_after (to refl) takes
    stops_at_text Unwritten failed is reads to from takes = absurd is
    stops_at_text Spent failed is reads to from takes = comes_spent before now after task both (has.bytes ∷ []) text_name text_stage refl failed reads out_before out_after (λ fails. let no = from fails in cc) takes

    module _ (text : List ℕ) (input : HasInput text_input now text_name text) (failed : Type 0) (reads : ReadsName now after text_name failed) (fine_text : ¬ failed) where
      worked : {status : Status} {out err : List ℕ} → IsWork sheet task (text ∷ []) status out err → Answers task (has.bytes ∷ text ∷ []) status out err
      worked work = work_done has.accepted (subst (λ inputs. AreWithin inputs (text ∷ [])) (sym one) (one_within input.within none_left)) work

      -- this is due of the text
      pub text_due : (status : Status) (said : List ℕ) → IsWork sheet task (text ∷ []) status [] said → Takes out_before out_after [] → ComesOut task both before after out_before out_after said status
      text_due status said work takes = comes_due before now after task both (has.bytes ∷ []) text_name text_stage refl failed reads out_before out_after text (stands_before before now text_name text same input.stand) fine_text status said (worked work) takes

      -- memory ran out before anything was due of it
      pub text_spent : Takes out_before out_after [] → ComesOut task both before after out_before out_after [] out_of_memory
      text_spent takes = comes_spent before now after task both (has.bytes ∷ []) text_name text_stage refl failed reads out_before out_after fine_text takes

      module _ (Is : List ℕ → Type 0) (works : (given : List ℕ) → Is given → IsWork sheet task (text ∷ []) Done given []) where
        pub text_whole : IsWritten Is out_before out_after (Ok tt) → ComesOut task both before after out_before out_after [] Done
        text_whole = comes_whole before now after task both (has.bytes ∷ []) text_name text_stage refl failed reads out_before out_after text (stands_before before now text_name text same input.stand) fine_text Is (λ given is. worked (works given is))

        pub text_stopped : (fault : WriteFault) → IsWritten Is out_before out_after (Err fault) → ComesOut task both before after out_before out_after (said_of (Err (writing_stop fault))) (status_of (Err (writing_stop fault)))
        text_stopped = comes_stopped before now after task both (has.bytes ∷ []) text_name text_stage refl failed reads out_before out_after text (stands_before before now text_name text same input.stand) fine_text Is (λ given is. worked (works given is))

-- what is printed of a sheet whose grammar has tables
module _ (before after : ShelfSeen) (out_before out_after : SinkSeen) (task : Task) (name : List ℕ) (sheet : Sheet) (has : HasSheet (looking task) before name sheet) (failed : Type 0) (reads : ReadsName before after name failed) (fine : ¬ failed) (Is : List ℕ → Type 0)
    (alone : inputs_of task ≡ []) (work : (text : List ℕ) → Is text → IsWork sheet task [] Done text []) where
  printed : (text : List ℕ) → Is text → Answers task (has.bytes ∷ []) Done text []
  printed text is = work_done has.accepted (subst (λ inputs. AreWithin inputs []) (sym alone) none_left) (work text is)

  pub printed_whole : IsWritten Is out_before out_after (Ok tt) → ComesOut task (name ∷ []) before after out_before out_after [] Done
  printed_whole = comes_whole before before after task (name ∷ []) [] name (first_stage before task (name ∷ [])) refl failed reads out_before out_after has.bytes has.stand fine Is printed

  pub printed_stopped : (fault : WriteFault) → IsWritten Is out_before out_after (Err fault) → ComesOut task (name ∷ []) before after out_before out_after (said_of (Err (writing_stop fault))) (status_of (Err (writing_stop fault)))
  printed_stopped = comes_stopped before before after task (name ∷ []) [] name (first_stage before task (name ∷ [])) refl failed reads out_before out_after has.bytes has.stand fine Is printed

-- what is due of such a sheet alone, and on no output
module _ (before after : ShelfSeen) (out_before out_after : SinkSeen) (task : Task) (name : List ℕ) (sheet : Sheet) (has : HasSheet (looking task) before name sheet) (failed : Type 0) (reads : ReadsName before after name failed) (fine : ¬ failed) (alone : inputs_of task ≡ []) where
  due_alone : (status : Status) (said : List ℕ) → IsWork sheet task [] status [] said → Takes out_before out_after [] → ComesOut task (name ∷ []) before after out_before out_after said status
  due_alone status said work takes =
      comes_due before before after task (name ∷ []) [] name (first_stage before task (name ∷ [])) refl failed reads out_before out_after has.bytes has.stand fine status said
      (work_done has.accepted (subst (λ inputs. AreWithin inputs []) (sym alone) none_left) work) takes

  spent_alone : Takes out_before out_after [] → ComesOut task (name ∷ []) before after out_before out_after [] out_of_memory
  spent_alone takes = comes_spent before before after task (name ∷ []) [] name (first_stage before task (name ∷ [])) refl failed reads out_before out_after fine takes

  -- a command stops where there is no sample
  pub stops_at_sample : (seed : Seed) → ((status : Status) (said : List ℕ) → HasNoSample sheet seed status said → IsWork sheet task [] status [] said) → (stop : Stop) → IsSampleStop sheet seed stop → Takes out_before out_after []
      → ComesOut task (name ∷ []) before after out_before out_after (said_of (Err stop)) (status_of (Err stop))
  stops_at_sample seed works (Due status said) is takes = due_alone status said (works status said is) takes
  stops_at_sample seed works Unread is takes = absurd is
  stops_at_sample seed works Unwritten is takes = absurd is
  stops_at_sample seed works Spent is takes = spent_alone takes

  -- or at what its sample is
  pub stops_at_tree : (text : List ℕ) → ((said : List ℕ) → ((asked : Asked) → IsWork sheet (Run asked) (text ∷ []) TextRefused [] said) → IsWork sheet task [] TextRefused [] said) → (stop : Stop) → IsTextStop sheet text stop → Takes out_before out_after []
      → ComesOut task (name ∷ []) before after out_before out_after (said_of (Err stop)) (status_of (Err stop))
  stops_at_tree text works (Due status said) is takes =
      subst (λ s. ComesOut task (name ∷ []) before after out_before out_after said s) (sym is.0) (due_alone TextRefused said (works said (λ asked. run_refused (is.1 asked))) takes)
  stops_at_tree text works Unread is takes = absurd is
  stops_at_tree text works Unwritten is takes = absurd is
  stops_at_tree text works Spent is takes = spent_alone takes

-- an outcome with the stop that `?` makes
pub comes_at : (task : Task) (names : List (List ℕ)) (before after : ShelfSeen) (out_before out_after : SinkSeen) (result : Result (Unit {0}) Stop) (stop : Stop) → IsErrAnd result (λ x. x ≡ stop)
    → ComesOut task names before after out_before out_after (said_of (Err stop)) (status_of (Err stop)) → ComesOut task names before after out_before out_after (said_of result) (status_of result)
comes_at task names before after out_before out_after (Ok done) stop same comes = absurd same
comes_at task names before after out_before out_after (Err x) stop same comes = subst (λ y. ComesOut task names before after out_before out_after (said_of (Err y)) (status_of (Err y))) (sym same) comes

-- a run stops at what its text is
module _ (before now after : ShelfSeen) (out_before out_after : SinkSeen) (asked : Asked) (name text_name : List ℕ) (sheet : Sheet) (has : HasSheet for_parsing before name sheet) (read_failed : Type 0) (read : ReadsName before now name read_failed) (fine : ¬ read_failed) (same : IsSameShelf before now)
    (text : List ℕ) (input : HasInput text_input now text_name text) (failed : Type 0) (reads : ReadsName now after text_name failed) (fine_text : ¬ failed) where
  pub stops_at_parse : (stop : Stop) → IsTextStop sheet text stop → Takes out_before out_after [] → ComesOut (Run asked) (name ∷ text_name ∷ []) before after out_before out_after (said_of (Err stop)) (status_of (Err stop))
  stops_at_parse (Due status said) is takes =
      subst (λ s. ComesOut (Run asked) (name ∷ text_name ∷ []) before after out_before out_after said s) (sym is.0)
      (text_due (Run asked) refl before now after out_before out_after name text_name sheet has read_failed read fine same text input failed reads fine_text TextRefused said (run_refused (is.1 asked)) takes)
  stops_at_parse Unread is takes = absurd is
  stops_at_parse Unwritten is takes = absurd is
  stops_at_parse Spent is takes = text_spent (Run asked) refl before now after out_before out_after name text_name sheet has read_failed read fine same text input failed reads fine_text takes
