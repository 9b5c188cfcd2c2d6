-- The sample text of a sheet, and what is answered where it has none.
use Rattle.std.specs.Prelude.{ℕ, List, ◌++◌, codes}
use Rattle.sheet_data.specs.Sheet.{Sheet}
use Rattle.sheet_theory.specs.ScanOrder.{scanning_of}
use Rattle.translation_theory.specs.Diagnostics.{name_of}
use Rattle.sample_theory.specs.Samples.{Sample, TooLong as too_long, NoSample as no_sample, IsSample}
use Rattle.answer_theory.specs.declared.status.Status.{Status}
use Rattle.answer_theory.specs.declared.status.Status.TheVariants.{NoSample, TextTooLong}
use Rattle.answer_theory.specs.declared.task.Seed.{Seed}
use Rattle.answer_theory.specs.Tasks.{long_text_text}

-- what the seed gives by the sheet: a text, a token without a word, or more bytes than a text may have
abbrev pub IsSampleOf : Sheet → Seed → Sample → Type 0
IsSampleOf sheet seed sample = IsSample (scanning_of sheet) sheet.grammar seed.from seed.size sample

-- what is said of a token that has no word
abbrev pub no_sample_text : Sheet → ℕ → List ℕ
no_sample_text sheet token = codes "no sample for " ++ (name_of sheet token ++ codes "\n")

-- it gives no text: the status, and what is said
pub data HasNoSample (sheet : Sheet) (seed : Seed) : Status → List ℕ → Type 0 where
  without_word : {token : ℕ} → IsSampleOf sheet seed (no_sample token) → HasNoSample sheet seed NoSample (no_sample_text sheet token)
  too_many_bytes : IsSampleOf sheet seed too_long → HasNoSample sheet seed TextTooLong long_text_text
