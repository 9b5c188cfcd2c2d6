use Rattle.lrpar_cli.proofs.InputLemmas.{long_input}
use Rattle.answer_theory.specs.Tasks.{text_input}
use Rattle.lrpar_cli.proofs.inputs.read_text.Goals as goal

pub returns-in-TooLong-clause-stopped : goal.returns-in-TooLong-clause-stopped
returns-in-TooLong-clause-stopped g c = long_input text_input _ _ _ c.long_text.result (rw c.in-TooLong.is at c.in_ok-text.ensures.text) c.long_text.ensures
