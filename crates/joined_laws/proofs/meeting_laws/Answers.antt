use Rattle.joined_laws.proofs.MeetingLemmas.{meet_law, lands_law}
use Rattle.joined_laws.proofs.meeting_laws.Goals as goal

pub returns : goal.returns
returns c = record {
  meet = meet_law;
  lands = lands_law;
}
