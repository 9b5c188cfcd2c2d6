use Rattle.lrpar_cli.specs.Endings.{said_whole, said_in_part}
use Rattle.lrpar_cli.proofs.saying.say.Goals as goal

pub returns-in-Ok-clause-said : goal.returns-in-Ok-clause-said
returns-in-Ok-clause-said g c = said_whole c.in-Ok.ensures.whole

pub returns-in-Err-clause-said : goal.returns-in-Err-clause-said
returns-in-Err-clause-said g c = said_in_part c.in-Err.ensures.failed
