-- What is asked of a text has one answer.
use Rattle.run_theory.proofs.RunLemmas.{one_answer, some_answer}
use Rattle.tally_theory.specs.declared.asked.Asked.TheVariants.{Text, Report}
use Rattle.tally_theory.specs.Asked.{OneAnswerLaw, SomeAnswerLaw}
use Rattle.tally_theory.proofs.ReportLemmas.{one_report, some_report}

pub one_asked : OneAnswerLaw
one_asked sheet grammar buildable text (Text emit) outcome other one two = one_answer sheet grammar buildable text emit outcome other one two
one_asked sheet grammar buildable text (Report cut) outcome other one two = one_report sheet grammar buildable text cut outcome other one two

pub some_asked : SomeAnswerLaw
some_asked sheet grammar buildable counts text (Text emit) can none = some_answer sheet grammar buildable counts text emit none
some_asked sheet grammar buildable counts text (Report cut) can none = some_report sheet grammar buildable counts text cut can none
