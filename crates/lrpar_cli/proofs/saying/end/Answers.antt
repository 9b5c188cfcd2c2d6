use Rattle.std.proofs.Common.{sym, ap, Err, ◌∙◌}
use Rattle.lrpar_cli.specs.Endings.{said_whole}
use Rattle.lrpar_cli.specs.Stops.{said_of}
use Rattle.lrpar_cli.proofs.OutputLemmas.{takes_nothing}
use Rattle.lrpar_cli.proofs.EndLemmas.{said_at}
use Rattle.lrpar_cli.proofs.saying.end.Goals as goal

pub returns-in-Ok-clause-said : goal.returns-in-Ok-clause-said
returns-in-Ok-clause-said g c = said_at c.in-Ok.is (said_whole (takes_nothing _))

pub returns-in-Err-Due-clause-silent : goal.returns-in-Err-Due-clause-silent
returns-in-Err-Due-clause-silent g c none = c.say.ensures.silent (c.as_slice.ensures ∙ ap said_of (sym (c.in-Err-Due.is ∙ ap Err c.in-Err-Due.field-0-is)) ∙ none)

pub returns-in-Err-Unread-clause-said : goal.returns-in-Err-Unread-clause-said
returns-in-Err-Unread-clause-said g c = said_at (c.in-Err-Unread.is ∙ ap Err c.in-Err-Unread.field-0-is) c.say-in-Err-Unread.ensures.said

pub returns-in-Err-Unwritten-clause-said : goal.returns-in-Err-Unwritten-clause-said
returns-in-Err-Unwritten-clause-said g c = said_at (c.in-Err-Unwritten.is ∙ ap Err c.in-Err-Unwritten.field-0-is) c.say-in-Err-Unwritten.ensures.said

pub returns-in-Err-Spent-clause-said : goal.returns-in-Err-Spent-clause-said
returns-in-Err-Spent-clause-said g c = said_at (c.in-Err-Spent.is ∙ ap Err c.in-Err-Spent.field-0-is) (said_whole (takes_nothing _))
