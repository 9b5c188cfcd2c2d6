use Rattle.leaf_laws.proofs.StepLemmas.{next_token_law, looks_law, shifts_law, takes_some_law, takes_fresh_law, takes_all_law, opens_floor_law}
use Rattle.leaf_laws.proofs.step_laws.Goals as goal

pub returns : goal.returns
returns c = record {
  next = next_token_law;
  looks = looks_law;
  shifts = shifts_law;
  takes_some = takes_some_law;
  takes_fresh = takes_fresh_law;
  takes_all = takes_all_law;
  opens_floor = opens_floor_law;
}
