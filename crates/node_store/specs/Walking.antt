-- A walk over a tree of a store, one step after another: what is still to come.
use Rattle.std.specs.Prelude.{◌≡◌, ℕ, List, [], ◌∷◌, ◌++◌, map, Option, Some, None}
use Rattle.node_data.specs.declared.kid.Kid.{Kid}
use Rattle.node_data.specs.declared.kid.Kid.TheVariants.{Node as NodeKid}
use Rattle.grammar_theory.specs.Trees.{Tree, yield, nodes}
use Rattle.tree_theory.specs.Stores.{Ref, Store, Shows}
use Rattle.tree_theory.specs.Walks.{Step as AnyStep, Enter as EnterAt, AtToken, Leave as LeaveAt, Walks, WalksAll, tokens_in, entered}
use Rattle.node_store.specs.declared.step.Step.{Step}
use Rattle.node_store.specs.declared.step.Step.TheVariants.{Enter, Token, Leave}
use Rattle.node_store.specs.Chunks.{Chunk, store_of}

-- a node that was entered, and those of its kids that are still to come
abbrev pub Frame : Type 0
Frame = Ref × List Kid

-- what contracts see of a walk: the store, the root as long as it wasn't entered, and the frames, the innermost first
pub record Walking : Type 0 where
  pub chunks : List Chunk
  pub root : Option Ref
  pub frames : List Frame

-- a step, among those that also tell of hidden kids
abbrev pub step_of : Step → AnyStep
step_of (Enter node) = EnterAt node
step_of (Token token) = AtToken token
step_of (Leave node) = LeaveAt node

-- what is still to come of some frames: the walk over the kids that are left, then the node is left, then the frames below
pub data FramesRemain (store : Store) : List Frame → List AnyStep → Type 0 where
  frames_none : FramesRemain store [] []
  frames_more : {frame : Frame} {frames : List Frame} {i : ℕ} {inner rest steps : List AnyStep} → WalksAll store frame.0 i frame.1 inner → FramesRemain store frames rest → steps ≡ inner ++ LeaveAt frame.0 ∷ rest → FramesRemain store (frame ∷ frames) steps

abbrev pub RemainsFrom : Store → Option Ref → List Frame → List AnyStep → Type 0
RemainsFrom store None frames steps = FramesRemain store frames steps
RemainsFrom store (Some root) frames steps = (frames ≡ []) × Walks store root 0 (NodeKid root) steps

-- the steps that are still to come, none of them at a hidden kid
abbrev pub Remains : Walking → List Step → Type 0
Remains walk steps = RemainsFrom (store_of walk.chunks) walk.root walk.frames (map step_of steps)

-- there is an end of the walk
abbrev pub WillEnd : Walking → Type 0
WillEnd walk = (steps : List Step) × Remains walk steps

-- a whole tree stands there, with nothing hidden
abbrev pub IsFinished : List Chunk → Ref → Type 0
IsFinished chunks root = (n : Ref) × (i : ℕ) × (tree : Tree) × Shows (store_of chunks) [] n i (NodeKid root) tree

-- the whole walk over the tree is still to come: its tokens are the tree's yield, and it enters as many nodes as the tree has
pub record WalksTree (chunks : List Chunk) (root : Ref) (tree : Tree) (walk : Walking) : Type 0 where
  pub steps : List Step
  pub remains : Remains walk steps
  pub walks : Walks (store_of chunks) root 0 (NodeKid root) (map step_of steps)
  pub tokens : tokens_in (map step_of steps) ≡ yield tree
  pub enters : entered (map step_of steps) ≡ nodes tree

-- of these steps the first is taken, and the others are still to come; or there is none
abbrev pub TakesFirst : List Step → Option Step → Walking → Type 0
TakesFirst steps None walk = (steps ≡ []) × Remains walk []
TakesFirst steps (Some step) walk = (rest : List Step) × (steps ≡ step ∷ rest) × Remains walk rest
