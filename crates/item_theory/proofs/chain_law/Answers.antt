use Rattle.item_theory.proofs.ItemLaws.{chain_law}
use Rattle.item_theory.proofs.chain_law.Goals as goal

pub returns : goal.returns
returns c = chain_law
