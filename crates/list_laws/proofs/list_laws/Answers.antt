use Rattle.list_laws.proofs.ListLemmas.{pieces_then_law, pieces_split_law, piece_pushed_law, pieces_more_law, floors_then_law}
use Rattle.list_laws.proofs.list_laws.Goals as goal

pub returns : goal.returns
returns c = record {
  then = pieces_then_law;
  split = pieces_split_law;
  pushed = piece_pushed_law;
  more = pieces_more_law;
  floors = floors_then_law;
}
