use Rattle.lrpar_cli.specs.Endings.{with_bad_words, without_memory, with_task}
use Rattle.lrpar_cli.proofs.EndLemmas.{reads_nothing, early_stop, ends_silent}
use Rattle.lrpar_cli.proofs.LawLemmas.{ends_bad}
use Rattle.lrpar_cli.proofs.OutputLemmas.{takes_nothing}
use Rattle.lrpar_cli.proofs.call.lrpar.Goals as goal

pub returns-in-Ok-clause-ends : goal.returns-in-Ok-clause-ends
returns-in-Ok-clause-ends g c = with_task c.in-Ok.ensures.form c.run.ensures.comes c.end.ensures.said

pub returns-in-Ok-clause-words : goal.returns-in-Ok-clause-words
returns-in-Ok-clause-words g c e = ends_bad _ _ _ _ (with_task c.in-Ok.ensures.form c.run.ensures.comes c.end.ensures.said) e

pub returns-in-Ok-clause-bad_words : goal.returns-in-Ok-clause-bad_words
returns-in-Ok-clause-bad_words g c bad = absurd (bad _ _ c.in-Ok.ensures.form)

pub returns-in-Ok-clause-early : goal.returns-in-Ok-clause-early
returns-in-Ok-clause-early g c done write memory = c.run.ensures.early (early_stop c.run.result c.end.result c.end.ensures.answer done write memory)

pub returns-in-Ok-clause-silent : goal.returns-in-Ok-clause-silent
returns-in-Ok-clause-silent g c quiet = c.end.ensures.silent (ends_silent c.run.ensures.comes c.end.ensures.answer quiet)

pub returns-in-Err-BadWords-clause-ends : goal.returns-in-Err-BadWords-clause-ends
returns-in-Err-BadWords-clause-ends g c = with_bad_words (c.in-Err-BadWords.ensures.fault c.in-Err-BadWords.field-0-is) (reads_nothing _) (takes_nothing _) c.say.ensures.said

pub returns-in-Err-BadWords-clause-words : goal.returns-in-Err-BadWords-clause-words
returns-in-Err-BadWords-clause-words g c e = c.in-Err-BadWords.ensures.fault c.in-Err-BadWords.field-0-is

pub returns-in-Err-NoMemory-clause-ends : goal.returns-in-Err-NoMemory-clause-ends
returns-in-Err-NoMemory-clause-ends g c = without_memory (reads_nothing _) (takes_nothing _) (takes_nothing _)

pub run-requires : goal.run-requires
run-requires g c = (c.type_bounds.sync-R, c.in-Ok.ensures.can)
