-- What a sample text is to its sheet, and why there is none.
use Rattle.std.proofs.Common.{◌≡◌, ℕ, ◌≤◌, List, [], length, Result, Ok, Err, IfOk, IfErr, inl, inr, sym, subst, ◌∙◌}
use Rattle.std.specs.Global.{Vec}
use Rattle.grammar_data.specs.Grammar.{Grammar}
use Rattle.lr_base.specs.declared.limits.TheConstants.{TEXT_BYTES}
use Rattle.pattern_data.specs.declared.pattern.Meaning.{Meaning}
use Rattle.sheet_data.specs.Sheet.{Sheet}
use Rattle.sheet_theory.specs.ScanOrder.{scanning_of}
use Rattle.sample_theory.specs.Samples.{Sample, Text, NoSample as no_sample, TooLong as too_long, IsSample}
use Rattle.scanning_theory.specs.Scan.{Scanning}
use Rattle.sample_text.specs.declared.fault.SampleFault.{SampleFault}
use Rattle.sample_text.specs.declared.fault.SampleFault.TheVariants.{NoSample as Unworded, TooLong as Long, NoMemory}
use Rattle.sample_text.specs.Answering.{IsFault}
use Rattle.sample_text.specs.Wording.{IsScannedBy}
use Rattle.answer_theory.specs.declared.status.Status.TheVariants.{Done, NoSample, TextTooLong}
use Rattle.answer_theory.specs.declared.task.Seed.{Seed}
use Rattle.answer_theory.specs.declared.task.Task.TheVariants.{Gen}
use Rattle.answer_theory.specs.Tasks.{long_text_text}
use Rattle.answer_theory.specs.SampleTexts.{IsSampleOf, no_sample_text, without_word, too_many_bytes}
use Rattle.answer_theory.specs.Work.{IsWork, sample_given}
use Rattle.lrpar_cli.specs.declared.inputs.Scanned.{Scanned}
use Rattle.lrpar_cli.specs.declared.stop.Stop.{Stop}
use Rattle.lrpar_cli.specs.Inputs.{IsReady}
use Rattle.lrpar_cli.specs.Samples.{IsSampleFault, IsSampleStop}
use Rattle.lrpar_cli.specs.Stops.{IsDueStop}

-- the scanner of a sheet goes by the sheet's patterns
scanned_by : (scanned : Scanned) (means : List Meaning) → IsReady scanned → means ≡ scanned.means.items → IsScannedBy scanned.scanner means (scanning_of scanned.sheet)
scanned_by scanned means ready e = record { means_are = sym ready.means ∙ sym e; scanner = ready.scanner }

-- what was made of the sheet's grammar and the seed's numbers
sample_of : (sheet : Sheet) (seed : Seed) (g : Grammar) (from : ℕ) (sample : Sample) → g ≡ sheet.grammar → from ≡ seed.from → IsSample (scanning_of sheet) g from seed.size sample → IsSampleOf sheet seed sample
sample_of sheet seed g from sample grammars froms is =
    subst (λ (h : Grammar). IsSample (scanning_of sheet) h seed.from seed.size sample) grammars (subst (λ (n : ℕ). IsSample (scanning_of sheet) g n seed.size sample) froms is)

module _ (scanned : Scanned) (seed : Seed) (means : List Meaning) (g : Grammar) (from : ℕ) (ready : IsReady scanned) (same : means ≡ scanned.means.items) (grammars : g ≡ scanned.sheet.grammar) (froms : from ≡ seed.from) where
  pub text_by : (result : Result (Vec ℕ) SampleFault) → IfOk result (λ text. (scanning : Scanning) → IsScannedBy scanned.scanner means scanning → IsSample scanning g from seed.size (Text text.items)) → IfOk result (λ text. IsSampleOf scanned.sheet seed (Text text.items))
  text_by (Ok text) is = sample_of scanned.sheet seed g from (Text text.items) grammars froms (is (scanning_of scanned.sheet) (scanned_by scanned means ready same))
  text_by (Err fault) is = tt

  fault_so : (fault : SampleFault) → IsFault scanned.scanner means g from seed.size fault → IsSampleFault scanned.sheet seed fault
  fault_so (Unworded token) is = sample_of scanned.sheet seed g from (no_sample token) grammars froms (is (scanning_of scanned.sheet) (scanned_by scanned means ready same))
  fault_so Long is = sample_of scanned.sheet seed g from too_long grammars froms (is (scanning_of scanned.sheet) (scanned_by scanned means ready same))
  fault_so NoMemory is = tt

  pub fault_by : (result : Result (Vec ℕ) SampleFault) → IfErr result (IsFault scanned.scanner means g from seed.size) → IfErr result (IsSampleFault scanned.sheet seed)
  fault_by (Ok text) is = tt
  fault_by (Err fault) is = fault_so fault is

pub sample_fits : (sheet : Sheet) (seed : Seed) (text : List ℕ) → IsSampleOf sheet seed (Text text) → length text ≤ TEXT_BYTES
sample_fits sheet seed text is = is.fits

-- the stops where there is none
pub stop_without_word : (sheet : Sheet) (seed : Seed) (token : ℕ) (stop : Stop) → IsSampleOf sheet seed (no_sample token) → IsDueStop NoSample (no_sample_text sheet token) stop → IsSampleStop sheet seed stop
stop_without_word sheet seed token stop is (inl due) = subst (IsSampleStop sheet seed) (sym due) (without_word is)
stop_without_word sheet seed token stop is (inr spent) = subst (IsSampleStop sheet seed) (sym spent) tt

pub stop_too_long : (sheet : Sheet) (seed : Seed) (stop : Stop) → IsSampleOf sheet seed too_long → IsDueStop TextTooLong long_text_text stop → IsSampleStop sheet seed stop
stop_too_long sheet seed stop is (inl due) = subst (IsSampleStop sheet seed) (sym due) (too_many_bytes is)
stop_too_long sheet seed stop is (inr spent) = subst (IsSampleStop sheet seed) (sym spent) tt

-- what was written is the sample
pub given_so : (sheet : Sheet) (seed : Seed) (text given : List ℕ) → IsSampleOf sheet seed (Text text) → given ≡ text → IsWork sheet (Gen seed) [] Done given []
given_so sheet seed text given is e = sample_given (subst (λ (t : List ℕ). IsSampleOf sheet seed (Text t)) (sym e) is)
