use Rattle.grammar_theory.proofs.UselessLemmas.{one_unproductive, one_unreachable, one_too_large}
use Rattle.grammar_theory.proofs.useless_name_laws.Goals as goal

pub returns : goal.returns
returns c = record { unproductive = one_unproductive; unreachable = one_unreachable; too_large = one_too_large }
