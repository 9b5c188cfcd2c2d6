use Rattle.item_theory.proofs.ItemLaws.{first_closure_law, moved_closure_law, opens_only_law, opens_law}
use Rattle.item_theory.proofs.closure_laws.Goals as goal

pub returns : goal.returns
returns c = record {
  first = first_closure_law;
  one_more = moved_closure_law;
  opens_only = opens_only_law;
  opens = opens_law;
}
