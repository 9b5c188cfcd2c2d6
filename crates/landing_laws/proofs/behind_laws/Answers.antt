use Rattle.landing_laws.proofs.BehindLemmas.{loose_open_law, join_put_law}
use Rattle.landing_laws.proofs.behind_laws.Goals as goal

pub returns : goal.returns
returns c = record {
  loose = loose_open_law;
  put = join_put_law;
}
