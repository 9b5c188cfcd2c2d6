-- A walk, one step after another.
use Rattle.std.proofs.Common.{◌≡◌, ℕ, suc, List, [], ◌∷◌, ◌++◌, map, Option, Some, None, IsSome, is_some, Contains, refl, sym, ap, ◌∙◌, subst, arith, append_assoc}
use Rattle.std.specs.Option.{option_map}
use Rattle.std.proofs.lemmas.List.{map-append}
use Rattle.std.proofs.lemmas.Option.{same_Some}
use Rattle.grammar_data.specs.declared.token.Token.{Token as TextToken}
use Rattle.grammar_theory.specs.Trees.{Tree, Forest}
use Rattle.node_data.specs.declared.kid.Kid.{Kid}
use Rattle.node_data.specs.declared.kid.Kid.TheVariants.{Token as TokenKid, Node as NodeKid, Hidden as HiddenKid}
use Rattle.tree_theory.specs.Stores.{Ref, Store, Shows, shows_token, shows_hidden, shows_node, ShowsAll, shows_none, shows_more}
use Rattle.tree_theory.specs.Walks.{Step as AnyStep, Enter as EnterAt, AtToken, AtHidden, Leave as LeaveAt, Walks, walks_token, walks_hidden, walks_node, WalksAll, walks_none, walks_more, tokens_in, entered}
use Rattle.tree_theory.proofs.ShownLemmas.{some_pair}
use Rattle.tree_theory.proofs.WalkLemmas.{one_walk_law, walk_law}
use Rattle.node_store.specs.declared.step.Step.{Step}
use Rattle.node_store.specs.declared.step.Step.TheVariants.{Enter, Token, Leave}
use Rattle.node_store.specs.Chunks.{Chunk, Node, store_of}
use Rattle.node_store.specs.Walking.{Frame, Walking, step_of, FramesRemain, frames_none, frames_more, RemainsFrom, Remains, WalksTree, TakesFirst}

-- ---- the walk over a tree meets no hidden kid

nothing_supplied : {n : Ref} {trees : List Tree} → Contains {X = Ref × List Tree} [] (n, trees) → ⊥
nothing_supplied (k, inside, at) = omega (arith, inside)

-- a walk in steps that tell of no hidden kid
pub record IsPlain (store : Store) (n : Ref) (i : ℕ) (kid : Kid) : Type 0 where
  pub steps : List Step
  pub walks : Walks store n i kid (map step_of steps)

pub record ArePlain (store : Store) (n : Ref) (i : ℕ) (kids : List Kid) : Type 0 where
  pub steps : List Step
  pub walks : WalksAll store n i kids (map step_of steps)

mutual
  plain : {store : Store} {n : Ref} {i : ℕ} {kid : Kid} {tree : Tree} → Shows store [] n i kid tree → IsPlain store n i kid
  plain (shows_token {token = token}) = record { steps = Token token ∷ []; walks = walks_token }
  plain (shows_hidden trees has at) = absurd (nothing_supplied has)
  plain (shows_node {m = m} kids at all) =
      let inner = all_plain all in
      record {
        steps = Enter m ∷ (inner.steps ++ Leave m ∷ []);
        walks = walks_node kids at inner.walks (ap (λ l. EnterAt m ∷ l) (map-append step_of inner.steps (Leave m ∷ [])));
      }

  all_plain : {store : Store} {n : Ref} {i : ℕ} {kids : List Kid} {trees : Forest} → ShowsAll store [] n i kids trees → ArePlain store n i kids
  all_plain shows_none = record { steps = []; walks = walks_none }
  all_plain (shows_more first rest) =
      let one = plain first in
      let more = all_plain rest in
      record { steps = one.steps ++ more.steps; walks = walks_more one.walks more.walks (map-append step_of one.steps more.steps) }

-- a node's walk doesn't depend on where the node stands as a kid
moved : {store : Store} {n : Ref} {i : ℕ} {m : Ref} {steps : List AnyStep} (k : Ref) (j : ℕ) → Walks store n i (NodeKid m) steps → Walks store k j (NodeKid m) steps
moved k j (walks_node kids at inner same) = walks_node kids at inner same

pub walks_tree : (chunks : List Chunk) (root n : Ref) (i : ℕ) (tree : Tree) → Shows (store_of chunks) [] n i (NodeKid root) tree → (frames : List Frame) → frames ≡ [] → WalksTree chunks root tree (record { chunks = chunks; root = Some root; frames = frames })
walks_tree chunks root n i tree shown frames none =
    let one = plain shown in
    let all = walk_law (store_of chunks) n i (NodeKid root) tree shown in
    let same = one_walk_law (store_of chunks) n i (NodeKid root) (map step_of one.steps) all.0 one.walks all.1 in
    record {
      steps = one.steps;
      remains = (none, moved root 0 one.walks);
      walks = moved root 0 one.walks;
      tokens = ap tokens_in same ∙ all.2;
      enters = ap entered same ∙ all.3;
    }

-- ---- the first of some steps

pub record IsSplit (steps : List Step) (first : AnyStep) (rest : List AnyStep) : Type 0 where
  pub step : Step
  pub others : List Step
  pub same : steps ≡ step ∷ others
  pub is : step_of step ≡ first
  pub after : map step_of others ≡ rest

split : (steps : List Step) (first : AnyStep) (rest : List AnyStep) → map step_of steps ≡ first ∷ rest → IsSplit steps first rest
split [] first rest same = absurd (cc)
split (step ∷ others) first rest same = record { step = step; others = others; same = refl; is = cc; after = cc }

is_enter : (step : Step) (m : Ref) → step_of step ≡ EnterAt m → step ≡ Enter m
is_enter (Enter node) m same = cc
is_enter (Token token) m same = absurd (cc)
is_enter (Leave node) m same = absurd (cc)

is_token : (step : Step) (token : TextToken) → step_of step ≡ AtToken token → step ≡ Token token
is_token (Enter node) token same = absurd (cc)
is_token (Token other) token same = cc
is_token (Leave node) token same = absurd (cc)

is_leave : (step : Step) (m : Ref) → step_of step ≡ LeaveAt m → step ≡ Leave m
is_leave (Enter node) m same = absurd (cc)
is_leave (Token token) m same = absurd (cc)
is_leave (Leave node) m same = cc

is_hidden : (step : Step) (n : Ref) (i : ℕ) → step_of step ≡ AtHidden n i → ⊥
is_hidden (Enter node) n i same = absurd (cc)
is_hidden (Token token) n i same = absurd (cc)
is_hidden (Leave node) n i same = absurd (cc)

-- ---- the walk over the kids that are left

none_left : {store : Store} {n : Ref} {i : ℕ} {steps : List AnyStep} → WalksAll store n i [] steps → steps ≡ []
none_left walks_none = refl

pub record IsMore (store : Store) (n : Ref) (i : ℕ) (kid : Kid) (kids : List Kid) (steps : List AnyStep) : Type 0 where
  pub first : List AnyStep
  pub rest : List AnyStep
  pub one : Walks store n i kid first
  pub all : WalksAll store n (suc i) kids rest
  pub same : steps ≡ first ++ rest

more_left : {store : Store} {n : Ref} {i : ℕ} {kid : Kid} {kids : List Kid} {steps : List AnyStep} → WalksAll store n i (kid ∷ kids) steps → IsMore store n i kid kids steps
more_left (walks_more {first = first} {rest = rest} one all same) = record { first = first; rest = rest; one = one; all = all; same = same }

at_token : {store : Store} {n : Ref} {i : ℕ} {token : TextToken} {steps : List AnyStep} → Walks store n i (TokenKid token) steps → steps ≡ AtToken token ∷ []
at_token walks_token = refl

at_hidden : {store : Store} {n : Ref} {i : ℕ} {steps : List AnyStep} → Walks store n i HiddenKid steps → steps ≡ AtHidden n i ∷ []
at_hidden walks_hidden = refl

pub record IsAtNode (store : Store) (m : Ref) (steps : List AnyStep) : Type 0 where
  pub rule : ℕ
  pub kids : List Kid
  pub inner : List AnyStep
  pub at : store m ≡ Some (rule, kids)
  pub all : WalksAll store m 0 kids inner
  pub same : steps ≡ EnterAt m ∷ (inner ++ LeaveAt m ∷ [])

at_node : {store : Store} {n : Ref} {i : ℕ} {m : Ref} {steps : List AnyStep} → Walks store n i (NodeKid m) steps → IsAtNode store m steps
at_node (walks_node {r = r} {inner = inner} kids at all same) = record { rule = r; kids = kids; inner = inner; at = at; all = all; same = same }

-- ---- what is still to come of frames

pub record IsTopOf (store : Store) (frame : Frame) (frames : List Frame) (steps : List AnyStep) : Type 0 where
  pub i : ℕ
  pub inner : List AnyStep
  pub rest : List AnyStep
  pub all : WalksAll store frame.0 i frame.1 inner
  pub below : FramesRemain store frames rest
  pub same : steps ≡ inner ++ LeaveAt frame.0 ∷ rest

top_of_frames : {store : Store} {frame : Frame} {frames : List Frame} {steps : List AnyStep} → FramesRemain store (frame ∷ frames) steps → IsTopOf store frame frames steps
top_of_frames (frames_more {i = i} {inner = inner} {rest = rest} all below same) = record { i = i; inner = inner; rest = rest; all = all; below = below; same = same }

no_frames : {store : Store} {steps : List AnyStep} → FramesRemain store [] steps → steps ≡ []
no_frames frames_none = refl

no_steps : (steps : List Step) → map step_of steps ≡ [] → steps ≡ []
no_steps [] same = refl
no_steps (step ∷ steps) same = absurd (cc)

-- a step of frames: of all steps to come it is the first, and the others are to come of the frames after it
pub record FramesStep (store : Store) (step : Step) (after : List Frame) (steps : List Step) : Type 0 where
  pub others : List Step
  pub same : steps ≡ step ∷ others
  pub remains : FramesRemain store after (map step_of others)

frames_step : (store : Store) (step : Step) (first : AnyStep) (rest : List AnyStep) (after : List Frame) (steps : List Step) → map step_of steps ≡ first ∷ rest → ((s : Step) → step_of s ≡ first → s ≡ step) → FramesRemain store after rest → FramesStep store step after steps
frames_step store step first rest after steps same is remains =
    let it = split steps first rest same in
    record {
      others = it.others;
      same = it.same ∙ ap (λ s. s ∷ it.others) (is it.step it.is);
      remains = subst (FramesRemain store after) (sym it.after) remains;
    }

pub leave_step : (store : Store) (n : Ref) (below : List Frame) (steps : List Step) → FramesRemain store ((n, []) ∷ below) (map step_of steps) → FramesStep store (Leave n) below steps
leave_step store n below steps remains =
    let top = top_of_frames remains in
    let all = top.same ∙ ap (λ l. l ++ LeaveAt n ∷ top.rest) (none_left top.all) in
    frames_step store (Leave n) (LeaveAt n) top.rest below steps all (λ s. is_leave s n) top.below

pub token_step : (store : Store) (n : Ref) (token : TextToken) (kids : List Kid) (below : List Frame) (steps : List Step) → FramesRemain store ((n, TokenKid token ∷ kids) ∷ below) (map step_of steps) → FramesStep store (Token token) ((n, kids) ∷ below) steps
token_step store n token kids below steps remains =
    let top = top_of_frames remains in
    let more = more_left top.all in
    let all = top.same ∙ ap (λ l. l ++ LeaveAt n ∷ top.rest) (more.same ∙ ap (λ l. l ++ more.rest) (at_token more.one)) in
    frames_step store (Token token) (AtToken token) (more.rest ++ LeaveAt n ∷ top.rest) ((n, kids) ∷ below) steps all (λ s. is_token s token) (frames_more more.all top.below refl)

-- what the store has at a node that is next
pub node_next : (store : Store) (n m : Ref) (kids : List Kid) (below : List Frame) (steps : List AnyStep) → FramesRemain store ((n, NodeKid m ∷ kids) ∷ below) steps → (node : Node) × (store m ≡ Some node)
node_next store n m kids below steps remains =
    let top = top_of_frames remains in
    let more = more_left top.all in
    let here = at_node more.one in
    ((here.rule, here.kids), here.at)

pub enter_step : (store : Store) (n m : Ref) (rule : ℕ) (own kids : List Kid) (below : List Frame) (steps : List Step) → store m ≡ Some (rule, own) → FramesRemain store ((n, NodeKid m ∷ kids) ∷ below) (map step_of steps) → FramesStep store (Enter m) ((m, own) ∷ (n, kids) ∷ below) steps
enter_step store n m rule own kids below steps at remains =
    let top = top_of_frames remains in
    let more = more_left top.all in
    let here = at_node more.one in
    let mine = some_pair (sym here.at ∙ at) in
    let outer = more.rest ++ LeaveAt n ∷ top.rest in
    let all = top.same ∙ ap (λ l. l ++ LeaveAt n ∷ top.rest) (more.same ∙ ap (λ l. l ++ more.rest) here.same)
    ∙ ap (λ l. EnterAt m ∷ l) (append_assoc (here.inner ++ LeaveAt m ∷ []) more.rest (LeaveAt n ∷ top.rest) ∙ append_assoc here.inner (LeaveAt m ∷ []) outer) in
    frames_step store (Enter m) (EnterAt m) (here.inner ++ LeaveAt m ∷ outer) ((m, own) ∷ (n, kids) ∷ below) steps all (λ s. is_enter s m)
    (frames_more (subst (λ l. WalksAll store m 0 l here.inner) mine.1 here.all) (frames_more more.all top.below refl) refl)

pub hidden_step : (store : Store) (n : Ref) (kids : List Kid) (below : List Frame) (steps : List Step) → FramesRemain store ((n, HiddenKid ∷ kids) ∷ below) (map step_of steps) → ⊥
hidden_step store n kids below steps remains =
    let top = top_of_frames remains in
    let more = more_left top.all in
    let all = top.same ∙ ap (λ l. l ++ LeaveAt n ∷ top.rest) (more.same ∙ ap (λ l. l ++ more.rest) (at_hidden more.one)) in
    let it = split steps (AtHidden n top.i) (more.rest ++ LeaveAt n ∷ top.rest) all in
    is_hidden it.step n top.i it.is

pub none_step : (store : Store) (steps : List Step) → FramesRemain store [] (map step_of steps) → steps ≡ []
none_step store steps remains = no_steps steps (no_frames remains)

-- the root is entered
pub root_step : (store : Store) (root : Ref) (rule : ℕ) (own : List Kid) (steps : List Step) → store root ≡ Some (rule, own) → Walks store root 0 (NodeKid root) (map step_of steps) → FramesStep store (Enter root) ((root, own) ∷ []) steps
root_step store root rule own steps at walks =
    let here = at_node walks in
    let mine = some_pair (sym here.at ∙ at) in
    frames_step store (Enter root) (EnterAt root) (here.inner ++ LeaveAt root ∷ []) ((root, own) ∷ []) steps here.same (λ s. is_enter s root)
    (frames_more (subst (λ l. WalksAll store root 0 l here.inner) mine.1 here.all) frames_none refl)

-- ---- the steps of a walk

pub rule_of : (o : Option Node) (own : List Kid) → option_map (λ (n : Node). n.1) o ≡ Some own → (rule : ℕ) × (o ≡ Some (rule, own))
rule_of None own same = absurd (cc)
rule_of (Some node) own same = (node.0, ap (λ (l : List Kid). Some (node.0, l)) (same_Some node.1 own same))

-- of all steps to come one is taken
pub record Takes (store : Store) (step : Step) (root : Option Ref) (after : List Frame) (steps : List Step) : Type 0 where
  pub others : List Step
  pub same : steps ≡ step ∷ others
  pub remains : RemainsFrom store root after (map step_of others)

takes : (store : Store) (step : Step) (root : Option Ref) (after : List Frame) (steps : List Step) → root ≡ None → FramesStep store step after steps → Takes store step root after steps
takes store step root after steps none one = record {
  others = one.others;
  same = one.same;
  remains = subst (λ o. RemainsFrom store o after (map step_of one.others)) (sym none) one.remains;
}

in_frames : (store : Store) (root : Option Ref) (frames now : List Frame) (steps : List Step) → root ≡ None → frames ≡ now → RemainsFrom store root frames (map step_of steps) → FramesRemain store now (map step_of steps)
in_frames store root frames now steps none same remains =
    subst (λ l. FramesRemain store l (map step_of steps)) same (subst (λ o. RemainsFrom store o frames (map step_of steps)) none remains)

at_root : (store : Store) (o : Option Ref) (root : Ref) (frames : List Frame) (steps : List Step) → o ≡ Some root → RemainsFrom store o frames (map step_of steps) → (frames ≡ []) × Walks store root 0 (NodeKid root) (map step_of steps)
at_root store o root frames steps same remains = subst (λ r. RemainsFrom store r frames (map step_of steps)) same remains

pub takes_root : (store : Store) (o : Option Ref) (root : Ref) (own : List Kid) (frames pushed : List Frame) → o ≡ Some root → option_map (λ (n : Node). n.1) (store root) ≡ Some own → pushed ≡ (root, own) ∷ frames → (steps : List Step) → RemainsFrom store o frames (map step_of steps) → Takes store (Enter root) None pushed steps
takes_root store o root own frames pushed same kids push steps remains =
    let here = at_root store o root frames steps same remains in
    let rule = rule_of (store root) own kids in
    takes store (Enter root) None pushed steps refl
    (subst (λ l. FramesStep store (Enter root) l steps) (ap (λ l. (root, own) ∷ l) (sym here.0) ∙ sym push) (root_step store root rule.0 own steps rule.1 here.1))

pub takes_leave : (store : Store) (o : Option Ref) (frames after : List Frame) (n : Ref) (below : List Frame) → o ≡ None → frames ≡ (n, []) ∷ below → after ≡ below → (steps : List Step) → RemainsFrom store o frames (map step_of steps) → Takes store (Leave n) o after steps
takes_leave store o frames after n below none same to steps remains =
    takes store (Leave n) o after steps none
    (subst (λ l. FramesStep store (Leave n) l steps) (sym to) (leave_step store n below steps (in_frames store o frames ((n, []) ∷ below) steps none same remains)))

pub takes_token : (store : Store) (o : Option Ref) (frames after : List Frame) (n : Ref) (token : TextToken) (rest : List Kid) (below : List Frame) → o ≡ None → frames ≡ (n, TokenKid token ∷ rest) ∷ below → after ≡ (n, rest) ∷ below → (steps : List Step) → RemainsFrom store o frames (map step_of steps) → Takes store (Token token) o after steps
takes_token store o frames after n token rest below none same to steps remains =
    takes store (Token token) o after steps none
    (subst (λ l. FramesStep store (Token token) l steps) (sym to) (token_step store n token rest below steps (in_frames store o frames ((n, TokenKid token ∷ rest) ∷ below) steps none same remains)))

pub takes_enter : (store : Store) (o : Option Ref) (frames after : List Frame) (n m : Ref) (own rest : List Kid) (below : List Frame) → o ≡ None → frames ≡ (n, NodeKid m ∷ rest) ∷ below → option_map (λ (node : Node). node.1) (store m) ≡ Some own → after ≡ (m, own) ∷ (n, rest) ∷ below → (steps : List Step) → RemainsFrom store o frames (map step_of steps) → Takes store (Enter m) o after steps
takes_enter store o frames after n m own rest below none same kids to steps remains =
    let rule = rule_of (store m) own kids in
    takes store (Enter m) o after steps none
    (subst (λ l. FramesStep store (Enter m) l steps) (sym to) (enter_step store n m rule.0 own rest below steps rule.1 (in_frames store o frames ((n, NodeKid m ∷ rest) ∷ below) steps none same remains)))

pub next_there : (store : Store) (o : Option Ref) (frames : List Frame) (n m : Ref) (rest : List Kid) (below : List Frame) → o ≡ None → frames ≡ (n, NodeKid m ∷ rest) ∷ below → (steps : List Step) → RemainsFrom store o frames (map step_of steps) → IsSome (store m)
next_there store o frames n m rest below none same steps remains =
    let node = node_next store n m rest below (map step_of steps) (in_frames store o frames ((n, NodeKid m ∷ rest) ∷ below) steps none same remains) in
    ap is_some node.1

pub not_hidden : (store : Store) (o : Option Ref) (frames : List Frame) (n : Ref) (rest : List Kid) (below : List Frame) → o ≡ None → frames ≡ (n, HiddenKid ∷ rest) ∷ below → (steps : List Step) → RemainsFrom store o frames (map step_of steps) → ⊥
not_hidden store o frames n rest below none same steps remains = hidden_step store n rest below steps (in_frames store o frames ((n, HiddenKid ∷ rest) ∷ below) steps none same remains)

pub at_end : (walk : Walking) → walk.root ≡ None → walk.frames ≡ [] → (steps : List Step) → Remains walk steps → TakesFirst steps None walk
at_end walk none same steps remains = (
  none_step (store_of walk.chunks) steps (in_frames (store_of walk.chunks) walk.root walk.frames [] steps none same remains),
  subst (λ o. RemainsFrom (store_of walk.chunks) o walk.frames []) (sym none) (subst (λ l. FramesRemain (store_of walk.chunks) l []) (sym same) frames_none),
)
