use Rattle.grammar_data.proofs.TokenSetLemmas.{equal_from_members}
use Rattle.lr_base.proofs.token_set.equal_by_members.Goals as goal

pub returns : goal.returns
returns c = equal_from_members
