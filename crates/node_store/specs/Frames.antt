-- What the innermost of the nodes that were entered has next.
use Rattle.std.specs.Prelude.{◌≡◌, List, [], ◌∷◌}
use Rattle.node_data.specs.declared.kid.Kid.{Kid}
use Rattle.node_data.specs.declared.kid.Kid.TheVariants.{Token as TokenKid, Node as NodeKid, Hidden as HiddenKid}
use Rattle.tree_theory.specs.Stores.{Ref}
use Rattle.node_store.specs.declared.frames.Top.{Top}
use Rattle.node_store.specs.declared.frames.Top.TheVariants.{Nothing, End, Token, Node, Hidden}
use Rattle.node_store.specs.Walking.{Frame}

-- the innermost node has this kid next
abbrev pub NextIs : List Frame → Kid → Type 0
NextIs frames kid = (n : Ref) × (rest : List Kid) × (below : List Frame) × (frames ≡ (n, kid ∷ rest) ∷ below)

-- the innermost node has another kid
abbrev pub HasNext : List Frame → Type 0
HasNext frames = (kid : Kid) × NextIs frames kid

abbrev pub IsTop : List Frame → Top → Type 0
IsTop frames Nothing = frames ≡ []
IsTop frames (End node) = (below : List Frame) × (frames ≡ (node, []) ∷ below)
IsTop frames (Token token) = NextIs frames (TokenKid token)
IsTop frames (Node node) = NextIs frames (NodeKid node)
IsTop frames Hidden = NextIs frames HiddenKid

abbrev pub top_of : Kid → Top
top_of (TokenKid token) = Token token
top_of (NodeKid node) = Node node
top_of HiddenKid = Hidden
