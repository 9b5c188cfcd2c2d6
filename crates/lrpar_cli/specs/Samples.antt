-- Why a sheet has no sample text.
use Rattle.sheet_data.specs.Sheet.{Sheet}
use Rattle.answer_theory.specs.declared.task.Seed.{Seed}
use Rattle.sample_theory.specs.Samples.{NoSample as no_sample, TooLong as too_long}
use Rattle.sample_text.specs.declared.fault.SampleFault.{SampleFault}
use Rattle.sample_text.specs.declared.fault.SampleFault.TheVariants.{NoSample, TooLong, NoMemory}
use Rattle.answer_theory.specs.SampleTexts.{IsSampleOf, HasNoSample}
use Rattle.lrpar_cli.specs.declared.stop.Stop.{Stop}
use Rattle.lrpar_cli.specs.declared.stop.Stop.TheVariants.{Due, Unread, Unwritten, Spent}

-- why the seed gives no text
abbrev pub IsSampleFault : Sheet → Seed → SampleFault → Type 0
IsSampleFault sheet seed (NoSample token) = IsSampleOf sheet seed (no_sample token)
IsSampleFault sheet seed TooLong = IsSampleOf sheet seed too_long
IsSampleFault sheet seed NoMemory = Unit {0}

-- the seed gives no text, and this is due; or memory ran out
abbrev pub IsSampleStop : Sheet → Seed → Stop → Type 0
IsSampleStop sheet seed (Due status said) = HasNoSample sheet seed status said
IsSampleStop sheet seed Unread = ⊥
IsSampleStop sheet seed Unwritten = ⊥
IsSampleStop sheet seed Spent = Unit {0}
