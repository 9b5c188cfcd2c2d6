use Rattle.segment_laws.proofs.StepLemmas.{begins_law, looks_parsing_law, shifts_parsing_law, takes_some_parsing_law, takes_all_parsing_law, opens_floor_parsing_law}
use Rattle.segment_laws.proofs.step_laws.Goals as goal

pub returns : goal.returns
returns c = record {
  begins = begins_law;
  looks = looks_parsing_law;
  shifts = shifts_parsing_law;
  takes_some = takes_some_parsing_law;
  takes_all = takes_all_parsing_law;
  opens_floor = opens_floor_parsing_law;
}
