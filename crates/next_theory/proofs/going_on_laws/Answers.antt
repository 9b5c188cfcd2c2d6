use Rattle.next_theory.proofs.GoingLemmas.{going_range_law, going_front_law, one_wrong_place_law, no_wrong_place_law, one_expected_law}
use Rattle.next_theory.proofs.going_on_laws.Goals as goal

pub returns : goal.returns
returns c = record {
  range = going_range_law;
  front = going_front_law;
  one_wrong_place = one_wrong_place_law;
  no_wrong_place = no_wrong_place_law;
  one_expected = one_expected_law;
}
