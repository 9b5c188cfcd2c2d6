use Rattle.entry_laws.proofs.EntryLemmas.{one_stack_law, one_piece_law}
use Rattle.entry_laws.proofs.entry_laws.Goals as goal

pub returns : goal.returns
returns c = record {
  one_stack = one_stack_law;
  one_piece = one_piece_law;
}
