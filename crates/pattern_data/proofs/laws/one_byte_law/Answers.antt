use Rattle.pattern_data.proofs.ByteLemmas.{only_byte-member}
use Rattle.pattern_data.proofs.laws.one_byte_law.Goals as goal

pub returns : goal.returns
returns c = only_byte-member
