use Rattle.look_laws.proofs.DeathLemmas.{deaths_law, looks_by_deaths_law, open_looks_by_deaths_law}
use Rattle.look_laws.proofs.look_laws.Goals as goal

pub returns : goal.returns
returns c = record {
  deaths = deaths_law;
  looks = looks_by_deaths_law;
  open_looks = open_looks_by_deaths_law;
}
