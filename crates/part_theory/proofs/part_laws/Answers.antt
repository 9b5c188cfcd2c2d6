use Rattle.part_theory.proofs.PartLemmas.{one_first_part_law, first_part_bounds_law, one_parts_law, one_number_law}
use Rattle.part_theory.proofs.part_laws.Goals as goal

pub returns : goal.returns
returns c = record {
  one_first = one_first_part_law;
  bounds = first_part_bounds_law;
  one_list = one_parts_law;
  one_number = one_number_law;
}
