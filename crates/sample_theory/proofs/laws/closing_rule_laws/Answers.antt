use Rattle.sample_theory.proofs.ClosingLemmas.{height_law, one_closing, some_closing}
use Rattle.sample_theory.proofs.laws.closing_rule_laws.Goals as goal

pub returns : goal.returns
returns c = record { height = height_law; one = one_closing; some = some_closing }
