use Rattle.scanning_theory.proofs.SomeList.{some_list}
use Rattle.scanning_theory.proofs.laws.some_list_law.Goals as goal

pub returns : goal.returns
returns c = some_list
