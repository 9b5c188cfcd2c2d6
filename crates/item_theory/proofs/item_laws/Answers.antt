use Rattle.item_theory.proofs.ItemLaws.{augmented_items_law, dotted_once_law, one_deed_law, item_range_law, prefix_range_law}
use Rattle.item_theory.proofs.item_laws.Goals as goal

pub returns : goal.returns
returns c = record {
  augmented = augmented_items_law;
  dotted_once = dotted_once_law;
  one_deed = one_deed_law;
  item_range = item_range_law;
  prefix_range = prefix_range_law;
}
