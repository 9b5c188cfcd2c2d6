use Rattle.lrpar_cli.proofs.SampleLemmas.{stop_without_word, stop_too_long}
use Rattle.lrpar_cli.proofs.samples.stop_of.Goals as goal

pub returns-in-NoSample : goal.returns-in-NoSample
returns-in-NoSample c seed is = stop_without_word c.args.sheet.now seed _ c.no_sample.result (rw c.in-NoSample.is at is) c.no_sample.ensures

pub returns-in-TooLong : goal.returns-in-TooLong
returns-in-TooLong c seed is = stop_too_long c.args.sheet.now seed c.long_text.result (rw c.in-TooLong.is at is) c.long_text.ensures

pub returns-in-NoMemory : goal.returns-in-NoMemory
returns-in-NoMemory c seed is = tt
