use Rattle.std.proofs.Common.{length}
use Rattle.join_rows.proofs.joining.+joined_pieces.Given as goal

abbrev pub decreases-joined_pieces : goal.decreases-joined_pieces
decreases-joined_pieces l = length l.tokens.now
