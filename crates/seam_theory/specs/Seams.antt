-- Two lists of pieces are joined at a seam, where the last piece of the left list and the first of the right one change, and
-- no other. The left list's last piece stands there for its tokens followed by the next piece's first token; it need not be
-- stuck under it yet. Where it makes moves on that token it becomes another; where all its alive starts shift it, the next
-- piece is put on it; and where it is stuck, or no piece follows, all are pieces of the tokens of both lists.
use Rattle.std.specs.Prelude.{◌≡◌, List, [], ◌∷◌, ◌++◌}
use Rattle.grammar_data.specs.declared.token.Token.{Token as TextToken}
use Rattle.tree_theory.specs.Stores.{Store}
use Rattle.tree_theory.specs.Walks.{Step}
use Rattle.table_data.specs.Tables.{Tables}
use Rattle.use_theory.specs.Distinct.{IsDistinct, Unites}
use Rattle.use_theory.specs.Kept.{IsSame}
use Rattle.piece_theory.specs.Pieces.{Piece, floor_nodes}
use Rattle.piece_theory.specs.Applies.{StandsFor, TakesRight}
use Rattle.piece_theory.specs.WellMade.{IsMade}
use Rattle.piece_theory.specs.Lists.{IsStuckUnder, first_or, ArePieces, ArePiecesOf, nodes_of_floors}
use Rattle.joined_laws.specs.Joining.{Beside, all_nodes, all_steps}
use Rattle.joined_laws.specs.Meeting.{AllShiftOver}
use Rattle.joined_laws.specs.Joint.{Meet, IsJoined}

-- the pieces `front`, the piece `last` at the seam, and the pieces `rest` of the right list, of the tokens `w`
pub record IsSeam (t : Tables) (store : Store) (front : List Piece) (last : Piece) (rest : List Piece) (w : List TextToken) : Type 0 where
  pub front_tokens : List TextToken
  pub tokens : List TextToken
  pub rest_tokens : List TextToken
  pub front_steps : List Step
  pub steps : List Step
  pub rest_steps : List Step
  pub before : ArePieces t store (last.first ∷ []) front front_tokens front_steps
  pub made : IsMade t store last tokens steps
  pub stands : StandsFor t store last tokens (first_or [] rest)
  pub takes : TakesRight t last
  pub after : ArePieces t store [] rest rest_tokens rest_steps
  pub parts : w ≡ front_tokens ++ (tokens ++ rest_tokens)
  pub each_once : IsDistinct store (nodes_of_floors front ++ (floor_nodes last.floors ++ nodes_of_floors rest)) (front_steps ++ (steps ++ rest_steps))

-- pieces of two token lists with no common node, in one store
abbrev pub SeamStartLaw : Type 0
SeamStartLaw = (t : Tables) (store other new : Store) (front : List Piece) (last : Piece) (rest : List Piece) (u v : List TextToken) → Unites store other new → ArePiecesOf t store (front ++ last ∷ []) u → ArePiecesOf t other rest v → IsSeam t new front last rest (u ++ v)

-- the last piece of the left list becomes another, for the same tokens, and no other piece notices
abbrev pub SeamMoveLaw : Type 0
SeamMoveLaw = (t : Tables) (store new : Store) (front : List Piece) (last moved : Piece) (rest : List Piece) (w : List TextToken) (seam : IsSeam t store front last rest w) (steps : List Step) → moved.first ≡ last.first → IsMade t new moved seam.tokens steps → StandsFor t new moved seam.tokens (first_or [] rest) → TakesRight t moved
    → IsSame store new seam.front_steps → IsSame store new seam.rest_steps → IsDistinct new (nodes_of_floors front ++ (floor_nodes moved.floors ++ nodes_of_floors rest)) (seam.front_steps ++ (steps ++ seam.rest_steps)) → IsSeam t new front moved rest w

-- the two pieces at the seam meet
pub record IsMeeting (t : Tables) (store : Store) (front : List Piece) (last right : Piece) (rest : List Piece) (w : List TextToken) : Type 0 where
  pub front_tokens : List TextToken
  pub tokens : List TextToken
  pub right_tokens : List TextToken
  pub rest_tokens : List TextToken
  pub steps : List Step
  pub right_steps : List Step
  pub beside : Beside
  pub nodes_before : beside.nodes_before ≡ nodes_of_floors front
  pub nodes_behind : beside.nodes_behind ≡ nodes_of_floors rest
  pub before : ArePieces t store (last.first ∷ []) front front_tokens beside.steps_before
  pub meet : Meet t store last right tokens right_tokens (first_or [] rest) steps right_steps
  pub after : ArePieces t store [] rest rest_tokens beside.steps_behind
  pub parts : w ≡ front_tokens ++ ((tokens ++ right_tokens) ++ rest_tokens)
  pub each_once : IsDistinct store (all_nodes beside last.floors right.floors) (all_steps beside steps right_steps)

abbrev pub SeamMeetLaw : Type 0
SeamMeetLaw = (t : Tables) (store : Store) (front : List Piece) (last right : Piece) (rest : List Piece) (w : List TextToken) (seam : IsSeam t store front last (right ∷ rest) w) → AllShiftOver t last seam.made.last right.first → IsMeeting t store front last right rest w

-- and the right one is put on the left one
abbrev pub SeamPutLaw : Type 0
SeamPutLaw = (t : Tables) (store now : Store) (front : List Piece) (last right joined : Piece) (rest : List Piece) (w : List TextToken) (meeting : IsMeeting t store front last right rest w) → joined.first ≡ last.first → IsJoined t store now right joined (meeting.tokens ++ meeting.right_tokens) (first_or [] rest) meeting.beside → IsSeam t now front joined rest w

-- where the last piece is stuck under what follows, or nothing follows, all are pieces of the tokens
abbrev pub SeamEndLaw : Type 0
SeamEndLaw = (t : Tables) (store : Store) (front : List Piece) (last : Piece) (rest : List Piece) (w : List TextToken) → IsStuckUnder t last (first_or [] rest) → IsSeam t store front last rest w → ArePiecesOf t store (front ++ last ∷ rest) w
