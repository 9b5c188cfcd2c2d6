use Rattle.lrpar_cli.proofs.OutputLemmas.{written_as}
use Rattle.lrpar_cli.proofs.outputs.write_states.Goals as goal

pub returns-clause-written : goal.returns-clause-written
returns-clause-written g c = written_as _ _ _ _ (λ text is. record { collection = _; tables = _; built = c.requires.parts; is = is }) c.write_tables.ensures.written
