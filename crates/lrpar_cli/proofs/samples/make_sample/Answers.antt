use Rattle.lrpar_cli.proofs.SampleLemmas.{sample_fits}
use Rattle.lrpar_cli.proofs.samples.make_sample.Goals as goal

pub sample_by-requires-clause-productive : goal.sample_by-requires-clause-productive
sample_by-requires-clause-productive c = c.requires.built.buildable.small.useful.productive

pub returns-in-Ok-clause-short : goal.returns-in-Ok-clause-short
returns-in-Ok-clause-short c = sample_fits _ c.args.seed _ c.in-Ok.ensures.text

pub returns-in-Err-clause-stopped : goal.returns-in-Err-clause-stopped
returns-in-Err-clause-stopped c = c.stop_of.ensures c.args.seed c.in-Err.ensures.fault
