-- The last piece of the left list moves on at the seam, as a piece does that grows: what the other pieces of both lists have
-- stands in front of it, in whatever order. The store gets more nodes, which no other piece notices.
use Rattle.std.specs.Prelude.{◌≡◌, List, [], ◌++◌}
use Rattle.grammar_data.specs.declared.token.Token.{Token as TextToken}
use Rattle.tree_theory.specs.Stores.{Ref, Store}
use Rattle.tree_theory.specs.Walks.{Step}
use Rattle.table_data.specs.Tables.{Tables}
use Rattle.use_theory.specs.Counts.{count_in, times}
use Rattle.use_theory.specs.Distinct.{IsDistinct}
use Rattle.piece_theory.specs.Pieces.{Piece}
use Rattle.piece_theory.specs.Applies.{StandsFor, TakesRight}
use Rattle.piece_theory.specs.WellMade.{IsMade}
use Rattle.piece_theory.specs.Lists.{first_or, nodes_of_floors}
use Rattle.piece_theory.specs.Laws.{HasMore}
use Rattle.walk_laws.specs.Walked.{IsWalked}
use Rattle.seam_theory.specs.Seams.{IsSeam}

-- each node is used once in whatever order the nodes of floors and the parts of the walk are taken
abbrev pub AnyOrderLaw : Type 0
AnyOrderLaw = (store : Store) (floors others : List Ref) (steps more : List Step) → ((m : Ref) → count_in m others ≡ count_in m floors) → ((m : Ref) → times m more ≡ times m steps) → IsDistinct store floors steps → IsDistinct store others more

-- what the other pieces have, as what stands in front of the last piece of the left list
abbrev pub other_nodes : List Piece → List Piece → List Ref
other_nodes front rest = nodes_of_floors front ++ nodes_of_floors rest

-- the piece at the seam as one that grows
abbrev pub SeamWalkedLaw : Type 0
SeamWalkedLaw = (t : Tables) (store : Store) (front : List Piece) (last : Piece) (rest : List Piece) (w : List TextToken) (seam : IsSeam t store front last rest w) → IsWalked store (other_nodes front rest) (seam.front_steps ++ seam.rest_steps) last seam.tokens

-- where it has grown so, in a store with more nodes, it is at the seam again
abbrev pub SeamGrownLaw : Type 0
SeamGrownLaw = (t : Tables) (store new : Store) (front : List Piece) (last moved : Piece) (rest : List Piece) (w : List TextToken) (seam : IsSeam t store front last rest w) → HasMore store new → moved.first ≡ last.first
    → (walked : IsWalked new (other_nodes front rest) (seam.front_steps ++ seam.rest_steps) moved seam.tokens) → IsMade t new moved seam.tokens walked.steps → StandsFor t new moved seam.tokens (first_or [] rest) → TakesRight t moved → IsSeam t new front moved rest w
