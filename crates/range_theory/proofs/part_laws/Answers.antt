use Rattle.range_theory.proofs.LawLemmas.{few_parts_law, parts_both_law}
use Rattle.range_theory.proofs.part_laws.Goals as goal

pub returns : goal.returns
returns c = record { few = few_parts_law; both = parts_both_law }
