-- A translation that is being written.
use Rattle.std.proofs.Common.{◌≡◌, ℕ, List, [], ◌++◌, Ok, Err, refl, sym, ap, ◌∙◌, subst, append_assoc, append-nil}
use Rattle.std.specs.Prelude.{Option}
use Rattle.lr_base.specs.Outside.{SinkSeen, Takes, Fails}
use Rattle.writing_theory.specs.Writing.{Passes, IsWritten, all_taken, part_taken}
use Rattle.writing_theory.specs.declared.fault.WriteFault.TheVariants.{Failed, NoMemory}
use Rattle.writing_theory.proofs.BlockLemmas.{takes_nothing, passes_first, passes_more, fails_behind, all_passed, cut_behind}
use Rattle.templates.specs.Sources.{Source}
use Rattle.templates.specs.Pending.{Pending, all_ended, GoesOn, with_next}
use Rattle.templates.specs.declared.frame.Frame.{Frame}

-- of the whole translation the first bytes were taken or are gathered, and the others are pending
pub record IsUnderway (source : Source) (before now : SinkSeen) (gathered : List ℕ) (frames : List Frame) (whole : List ℕ) : Type 0 where
  pub written : List ℕ
  pub rest : List ℕ
  pub passed : Passes before now [] gathered written
  pub pending : Pending source frames rest
  pub joined : whole ≡ written ++ rest

abbrev pub IsWhole : List ℕ → List ℕ → Type 0
IsWhole whole bytes = bytes ≡ whole

pub starts : {source : Source} (seen : SinkSeen) {gathered : List ℕ} {frames : List Frame} {whole : List ℕ} → gathered ≡ [] → Pending source frames whole → IsUnderway source seen seen gathered frames whole
starts seen none pending = record {
  written = [];
  rest = _;
  passed = subst (λ gathered. Passes seen seen [] gathered []) (sym none) (passes_first seen []);
  pending = pending;
  joined = refl;
}

pub goes_on : {source : Source} (before now later : SinkSeen) {old gathered new : List ℕ} {frames others : List Frame} {whole : List ℕ} → IsUnderway source before now old frames whole → GoesOn source frames others old gathered → Passes now later gathered new [] → IsUnderway source before later new others whole
goes_on before now later {old} {gathered} {new} underway step passes =
    let goes = step underway.rest underway.pending in record {
      written = underway.written ++ goes.added;
      rest = goes.rest;
      passed = passes_more before now later old gathered new underway.written goes.added (underway.written ++ goes.added) underway.passed goes.gathered passes refl;
      pending = goes.pending;
      joined = underway.joined ∙ ap (λ l. underway.written ++ l) goes.joined ∙ sym (append_assoc underway.written goes.added goes.rest);
    }

-- a step whose next template is known
pub goes_by : {source : Source} {frames : List Frame} {before after : List ℕ} (now : List Frame) (next other : Option Frame) → next ≡ other → GoesOn source frames (with_next now next) before after → GoesOn source frames (with_next now other) before after
goes_by {source} {frames} {before} {after} now next other is step = subst (λ next. GoesOn source frames (with_next now next) before after) is step

-- the sink failed behind a step
pub step_failed : {source : Source} (before now later : SinkSeen) {old gathered : List ℕ} {frames others : List Frame} {whole : List ℕ} → IsUnderway source before now old frames whole → GoesOn source frames others old gathered → Fails now later gathered → IsWritten (IsWhole whole) before later (Err Failed)
step_failed before now later {old} {gathered} {whole = whole} underway step fails =
    let goes = step underway.rest underway.pending in
    part_taken refl (fails_behind before now later old gathered underway.written goes.added goes.rest whole underway.passed goes.gathered fails (underway.joined ∙ ap (λ l. underway.written ++ l) goes.joined))

-- memory ran out
pub is_cut : {source : Source} (before now : SinkSeen) {old : List ℕ} {frames : List Frame} {whole : List ℕ} → IsUnderway source before now old frames whole → IsWritten (IsWhole whole) before now (Err NoMemory)
is_cut before now {old} {whole = whole} underway = cut_behind (IsWhole whole) before now old underway.written underway.rest whole refl underway.passed underway.joined

-- no template is begun any more
all_of_it : {source : Source} {before now : SinkSeen} {old whole : List ℕ} → (underway : IsUnderway source before now old [] whole) → whole ≡ underway.written ++ []
all_of_it underway = underway.joined ∙ ap (λ l. underway.written ++ l) (nothing underway.pending)
  where
    nothing : {source : Source} {bytes : List ℕ} → Pending source [] bytes → bytes ≡ []
    nothing all_ended = refl

-- a step after which no template is begun any more
at_end : {source : Source} (before now : SinkSeen) {old gathered : List ℕ} {frames others : List Frame} {whole : List ℕ} → others ≡ [] → IsUnderway source before now old frames whole → GoesOn source frames others old gathered → IsUnderway source before now gathered [] whole
at_end {source} before now {gathered = gathered} {whole = whole} none underway step =
    subst (λ frames. IsUnderway source before now gathered frames whole) none (goes_on before now now underway step (record { taken = []; takes = takes_nothing now; joined = append-nil gathered }))

pub ends : {source : Source} (before now later : SinkSeen) {old gathered : List ℕ} {frames others : List Frame} {whole : List ℕ} → others ≡ [] → IsUnderway source before now old frames whole → GoesOn source frames others old gathered → Takes now later gathered → IsWritten (IsWhole whole) before later (Ok tt)
ends {source} before now later {gathered = gathered} {whole = whole} none underway step takes =
    let ended : IsUnderway source before now gathered [] whole = at_end before now none underway step in
    all_taken refl (all_passed before now later gathered gathered ended.written [] whole ended.passed (sym (append-nil gathered)) takes (all_of_it ended))

pub end_failed : {source : Source} (before now later : SinkSeen) {old gathered : List ℕ} {frames others : List Frame} {whole : List ℕ} → others ≡ [] → IsUnderway source before now old frames whole → GoesOn source frames others old gathered → Fails now later gathered → IsWritten (IsWhole whole) before later (Err Failed)
end_failed {source} before now later {gathered = gathered} {whole = whole} none underway step fails =
    let ended : IsUnderway source before now gathered [] whole = at_end before now none underway step in
    part_taken refl (fails_behind before now later gathered gathered ended.written [] [] whole ended.passed (sym (append-nil gathered)) fails (all_of_it ended))
