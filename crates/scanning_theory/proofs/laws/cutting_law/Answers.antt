use Rattle.scanning_theory.proofs.ScanLemmas.{lines_join}
use Rattle.scanning_theory.proofs.laws.cutting_law.Goals as goal

pub returns : goal.returns
returns c = λ scanning text from middle to tokens others. lines_join scanning text to others
