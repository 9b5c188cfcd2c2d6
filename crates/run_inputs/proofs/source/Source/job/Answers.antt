use Rattle.std.proofs.Common.{refl}
use Rattle.run_inputs.proofs.JobLemmas.{can_run}
use Rattle.run_inputs.proofs.source.Source.job.Goals as goal

pub returns-clause-can : goal.returns-clause-can
returns-clause-can c = can_run c.args.language.now c.requires.language c.args.self.now c.requires.source _ refl refl c.deref.ensures.value c.deref-2.ensures.value refl c.requires.cutting
