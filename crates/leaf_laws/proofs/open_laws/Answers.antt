use Rattle.leaf_laws.proofs.EndLemmas.{leaf_open_law, open_wide_law}
use Rattle.leaf_laws.proofs.MadeLemmas.{made_open_law}
use Rattle.leaf_laws.proofs.PartLemmas.{open_stands_law}
use Rattle.leaf_laws.proofs.StepLemmas.{open_looks_law, open_takes_some_law, open_takes_fresh_law, open_takes_all_law, open_floor_law}
use Rattle.leaf_laws.proofs.open_laws.Goals as goal

pub returns : goal.returns
returns c = record {
  leaf = leaf_open_law;
  made = made_open_law;
  wide = open_wide_law;
  looks = open_looks_law;
  takes_some = open_takes_some_law;
  takes_fresh = open_takes_fresh_law;
  takes_all = open_takes_all_law;
  opens_floor = open_floor_law;
  stands = open_stands_law;
}
