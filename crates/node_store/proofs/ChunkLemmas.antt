-- What the calls of a chunk find in its lists, and what they make of them.
use Rattle.std.proofs.Common.{◌≡◌, ℕ, zero, suc, ◌+◌, ◌-◌, ◌<◌, ◌≤◌, List, [], ◌∷◌, ◌++◌, length, take, drop, set, get_or, slice_get, Some, refl, sym, ap, ◌∙◌, subst, arith, length-drop, length-take, length-take-le}
use Rattle.std.proofs.lemmas.List.{drop-drop, drop-take, get_or-take, get_or-drop}
use Rattle.std.proofs.lemmas.Option.{slice_get_read, slice_get_within, slice_get-get_or, get_or_from_slice_get}
use Rattle.node_data.specs.declared.kid.Kid.{Kid}
use Rattle.node_data.specs.declared.kid.Kid.TheVariants.{Node as NodeKid, Hidden}
use Rattle.tree_theory.proofs.ShownLemmas.{some_pair}
use Rattle.node_store.specs.declared.node.Node.{Node as FlatNode}
use Rattle.node_store.specs.declared.link.Link.{Link}
use Rattle.node_store.specs.declared.link.Link.TheVariants.{Node as NodeLink, Leaf}
use Rattle.node_store.specs.Chunks.{Chunk, Node}
use Rattle.node_store.specs.Links.{kid_linked, linked, AreNumbered}
use Rattle.node_store.specs.Flat.{cut, start_at, AreLaid, AreLists, all_kids}
use Rattle.node_store.proofs.FlatLemmas.{length-cut, laid_push, laid_at, cut_push, cut_set, all_cut}
use Rattle.node_store.proofs.LinkLemmas.{length-linked, linked_at, linked_set}

-- what contracts see of the lists
abbrev pub shown : ℕ → List FlatNode → List Link → List Kid → Chunk
shown number nodes links leaves = (number, cut 0 nodes (linked number leaves links))

-- ---- a part of a list

pub part_at : {X : Type 0} (xs : List X) (first count at : ℕ) (x : X) → at < count → slice_get xs (first + at) ≡ Some x → slice_get (take count (drop first xs)) at ≡ Some x
part_at xs first count at x less found =
    let inside = slice_get_within xs (first + at) x found in
    let long = length-drop first xs in
    let size : at < length (take count (drop first xs)) = (elim_size xs first count at less (omega (arith, inside, long))) in
    slice_get-get_or (take count (drop first xs)) at x size
    ∙ ap Some (get_or-take count (drop first xs) at x less ∙ get_or-drop first xs at x ∙ get_or_from_slice_get xs (first + at) x x found)
  where
    elim_size : {X : Type 0} (xs : List X) (first count at : ℕ) → at < count → at < length (drop first xs) → at < length (take count (drop first xs))
    elim_size xs first count at less inside = let size = length-take count (drop first xs) in omega (arith, size, less, inside)

pub part_size : {X : Type 0} (xs : List X) (first count : ℕ) → first + count ≤ length xs → length (take count (drop first xs)) ≡ count
part_size xs first count fits = let long = length-drop first xs in length-take-le count (drop first xs) (omega (arith, long, fits))

pub part_skip : {X : Type 0} (xs : List X) (first count : ℕ) → 0 < count → take (count - 1) (drop (first + 1) xs) ≡ drop 1 (take count (drop first xs))
part_skip xs first count some =
    let sum : 1 + (count - 1) ≡ count = omega (arith, some) in
    ap (take (count - 1)) (sym (drop-drop 1 first xs))
    ∙ sym (drop-take 1 (count - 1) (drop first xs))
    ∙ ap (λ n. drop 1 (take n (drop first xs))) sum

-- ---- a look

pub within : (number : ℕ) (nodes : List FlatNode) (links : List Link) (leaves : List Kid) (now : Chunk) (len place : ℕ) → shown number nodes links leaves ≡ now → len ≡ length nodes → place < length now.1 → place < len
within number nodes links leaves now len place view size less =
    let same = ap (λ (v : Chunk). length v.1) view in
    let count = length-cut 0 nodes (linked number leaves links) in
    omega (arith, same, count, size, less)

pub node_read : (number : ℕ) (nodes : List FlatNode) (links : List Link) (leaves : List Kid) (now : Chunk) (len place : ℕ) (node : FlatNode) → shown number nodes links leaves ≡ now → len ≡ length nodes → place < length now.1 → node ≡ get_or nodes place node → slice_get nodes place ≡ Some node
node_read number nodes links leaves now len place node view size less read = slice_get_read nodes len place node size (within number nodes links leaves now len place view size less) read

-- the kids of all nodes are those that the links find
pub all_shown : (number : ℕ) (nodes : List FlatNode) (links : List Link) (leaves : List Kid) (now : Chunk) → shown number nodes links leaves ≡ now → AreLists nodes links leaves → all_kids now ≡ linked number leaves links
all_shown number nodes links leaves now view lists =
    let size = length-linked number leaves links in
    ap all_kids (sym view) ∙ all_cut 0 nodes (linked number leaves links) (length links) lists.laid (omega (arith, size))

pub record IsNodeAt (number : ℕ) (nodes : List FlatNode) (links : List Link) (leaves : List Kid) (now : Chunk) (place : ℕ) (node : FlatNode) (start : ℕ) : Type 0 where
  pub order : start ≤ node.end
  pub fits : node.end ≤ length links
  pub found : slice_get now.1 place ≡ Some (node.rule, take (node.end - start) (drop start (linked number leaves links)))

pub node_at : (number : ℕ) (nodes : List FlatNode) (links : List Link) (leaves : List Kid) (now : Chunk) (place : ℕ) (node : FlatNode) → shown number nodes links leaves ≡ now → AreLists nodes links leaves → slice_get nodes place ≡ Some node → IsNodeAt number nodes links leaves now place node (start_at 0 nodes place)
node_at number nodes links leaves now place node view lists at =
    let kids = linked number leaves links in
    let size = length-linked number leaves links in
    let start = start_at 0 nodes place in
    let it = laid_at 0 nodes kids (length links) place node lists.laid (omega (arith, size)) at in
    record {
      order = it.order;
      fits = it.fits;
      found = ap (λ (v : Chunk). slice_get v.1 place) (sym view) ∙ it.found ∙ ap (λ n. Some (node.rule, take (node.end - start) (drop n kids))) (omega arith);
    }

pub record AreOwn (number : ℕ) (links : List Link) (leaves : List Kid) (node : FlatNode) (start rule : ℕ) (own : List Kid) : Type 0 where
  pub same_rule : node.rule ≡ rule
  pub same_kids : take (node.end - start) (drop start (linked number leaves links)) ≡ own
  pub size : length own ≡ node.end - start
  pub order : start ≤ node.end
  pub fits : node.end ≤ length links

pub own_kids : (number : ℕ) (nodes : List FlatNode) (links : List Link) (leaves : List Kid) (now : Chunk) (place : ℕ) (node : FlatNode) (rule : ℕ) (own : List Kid) → shown number nodes links leaves ≡ now → AreLists nodes links leaves → slice_get nodes place ≡ Some node → slice_get now.1 place ≡ Some (rule, own) → AreOwn number links leaves node (start_at 0 nodes place) rule own
own_kids number nodes links leaves now place node rule own view lists found here =
    let it = node_at number nodes links leaves now place node view lists found in
    let start = start_at 0 nodes place in
    let kids = linked number leaves links in
    let same = some_pair (sym it.found ∙ here) in
    let all = length-linked number leaves links in
    record {
      same_rule = same.0;
      same_kids = same.1;
      size = ap length (sym same.1) ∙ part_size kids start (node.end - start) (let order = it.order in let fits = it.fits in omega (arith, order, fits, all));
      order = it.order;
      fits = it.fits;
    }

-- a kid of a node has a link
pub record IsKidAt (number : ℕ) (nodes : List FlatNode) (links : List Link) (leaves : List Kid) (place at rule : ℕ) (own : List Kid) : Type 0 where
  pub node : FlatNode
  pub here : slice_get nodes place ≡ Some node
  pub mine : AreOwn number links leaves node (start_at 0 nodes place) rule own
  pub inside : start_at 0 nodes place + at < length links

node_there : (nodes : List FlatNode) (place : ℕ) → place < length nodes → (node : FlatNode) × (slice_get nodes place ≡ Some node)
node_there [] place less = absurd (omega (arith, less))
node_there (node ∷ nodes) zero less = (node, refl)
node_there (node ∷ nodes) (suc place) less = node_there nodes place (omega (arith, less))

pub kid_there : (number : ℕ) (nodes : List FlatNode) (links : List Link) (leaves : List Kid) (now : Chunk) (place at rule : ℕ) (own : List Kid) → shown number nodes links leaves ≡ now → AreLists nodes links leaves → slice_get now.1 place ≡ Some (rule, own) → at < length own → IsKidAt number nodes links leaves place at rule own
kid_there number nodes links leaves now place at rule own view lists found less =
    let there = node_there nodes place (within number nodes links leaves now (length nodes) place view refl (slice_get_within now.1 place (rule, own) found)) in
    let mine = own_kids number nodes links leaves now place there.0 rule own view lists there.1 found in
    record {
      node = there.0;
      here = there.1;
      mine = mine;
      inside = (let size = mine.size in let order = mine.order in let fits = mine.fits in omega (arith, size, order, fits, less));
    }

-- the kid that a link finds is the one of its node
pub kid_found : (number : ℕ) (links : List Link) (leaves : List Kid) (node : FlatNode) (start rule at : ℕ) (own : List Kid) (kid : Kid) (link : Link) → AreOwn number links leaves node start rule own → slice_get own at ≡ Some kid → slice_get links (start + at) ≡ Some link → kid ≡ kid_linked number leaves link
kid_found number links leaves node start rule at own kid link mine here found =
    let kids = linked number leaves links in
    let less = slice_get_within own at kid here in
    let inner : at < node.end - start = (let size = mine.size in omega (arith, less, size)) in
    sym (get_or_from_slice_get own at kid kid here)
    ∙ ap (λ l. get_or l at kid) (sym mine.same_kids)
    ∙ get_or-take (node.end - start) (drop start kids) at kid inner
    ∙ get_or-drop start kids at kid
    ∙ get_or_from_slice_get kids (start + at) (kid_linked number leaves link) kid (linked_at number leaves links (start + at) link found)

pub not_a_node : (number : ℕ) (links : List Link) (leaves : List Kid) (node : FlatNode) (start rule at : ℕ) (own : List Kid) (other : ℕ) → AreOwn number links leaves node start rule own → slice_get own at ≡ Some Hidden → slice_get links (start + at) ≡ Some (NodeLink other) → ⊥
not_a_node number links leaves node start rule at own other mine here found =
    let same : Hidden ≡ NodeKid (number, other) = kid_found number links leaves node start rule at own Hidden (NodeLink other) mine here found in
    cc

-- ---- a write

pub chunk_set : (number : ℕ) (nodes : List FlatNode) (links : List Link) (leaves : List Kid) (now : Chunk) (place at index : ℕ) (node : FlatNode) (kid : Kid) (rule : ℕ) (own : List Kid) → shown number nodes links leaves ≡ now → AreLists nodes links leaves → slice_get nodes place ≡ Some node → slice_get now.1 place ≡ Some (rule, own) → at < length own → slice_get links (start_at 0 nodes place + at) ≡ Some (Leaf index) → ◌≡◌ {A = Chunk} (shown number nodes links (set leaves index kid)) (now.0, set now.1 place (rule, set own at kid))
chunk_set number nodes links leaves now place at index node kid rule own view lists found here less leaf =
    let kids = linked number leaves links in
    let start = start_at 0 nodes place in
    let size = length-linked number leaves links in
    let mine = own_kids number nodes links leaves now place node rule own view lists found here in
    let inside : at < node.end - start = (let long = mine.size in omega (arith, less, long)) in
    ap (λ (l : List Kid). (number, cut 0 nodes l)) (linked_set number 0 leaves links (start + at) index kid lists.numbered leaf)
    ∙ ap (λ (l : List Node). (number, l)) (cut_set 0 nodes kids (length links) place at (start + at) node kid lists.laid (omega (arith, size)) found inside (omega arith))
    ∙ ap (λ n. (number, set (cut 0 nodes kids) place (node.rule, set (take (node.end - start) (drop n kids)) at kid))) (omega arith)
    ∙ ap (λ (q : ℕ). (number, set (cut 0 nodes kids) place (q, set (take (node.end - start) (drop start kids)) at kid))) mine.same_rule
    ∙ ap (λ (l : List Kid). (number, set (cut 0 nodes kids) place (rule, set l at kid))) mine.same_kids
    ∙ ap (λ (v : Chunk). (v.0, set v.1 place (rule, set own at kid))) view

-- ---- one node more

pub lists_more : (nodes all : List FlatNode) (links every : List Link) (leaves others : List Kid) (node : FlatNode) → AreLists nodes links leaves → all ≡ nodes ++ node ∷ [] → length links ≤ node.end → length every ≡ node.end → AreNumbered 0 every (length others) → AreLists all every others
lists_more nodes all links every leaves others node lists pushed order ends numbered = record {
  laid = subst (λ l. AreLaid 0 l (length every)) (sym pushed) (subst (AreLaid 0 (nodes ++ node ∷ [])) (sym ends) (laid_push 0 nodes (length links) node lists.laid order));
  numbered = numbered;
}

pub chunk_more : (number : ℕ) (nodes all : List FlatNode) (links every : List Link) (leaves others more : List Kid) (node : FlatNode) (now : Chunk) → shown number nodes links leaves ≡ now → AreLists nodes links leaves → all ≡ nodes ++ node ∷ [] → linked number others every ≡ linked number leaves links ++ more → node.end ≡ length links + length more → ◌≡◌ {A = Chunk} (shown number all every others) (now.0, now.1 ++ (node.rule, more) ∷ [])
chunk_more number nodes all links every leaves others more node now view lists pushed added ends =
    let kids = linked number leaves links in
    let size = length-linked number leaves links in
    ap (λ l. (number, cut 0 l (linked number others every))) pushed
    ∙ ap (λ (l : List Kid). (number, cut 0 (nodes ++ node ∷ []) l)) added
    ∙ ap (λ (l : List Node). (number, l)) (cut_push 0 nodes kids more (length links) node lists.laid (omega (arith, size)) ends)
    ∙ ap (λ (v : Chunk). (v.0, v.1 ++ (node.rule, more) ∷ [])) view
