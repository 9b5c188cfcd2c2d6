-- The flat lists of a chunk: what a node more, a look and a write do to the nodes that they hold.
use Rattle.std.proofs.Common.{◌≡◌, ℕ, zero, suc, ◌+◌, ◌-◌, ◌<◌, ◌≤◌, List, [], ◌∷◌, ◌++◌, length, take, drop, set, slice_get, Some, refl, sym, ap, ◌∙◌, subst, arith, length-drop}
use Rattle.std.specs.List.{flat_map}
use Rattle.std.proofs.lemmas.List.{take_all, nil_from_length, take-append-le, drop-append-le, take-append-drop, drop-drop, take-set-le, drop-set-lt, drop-set-add}
use Rattle.std.proofs.lemmas.Option.{same_Some}
use Rattle.node_data.specs.declared.kid.Kid.{Kid}
use Rattle.node_store.specs.declared.node.Node.{Node as FlatNode}
use Rattle.node_store.specs.Chunks.{Node}
use Rattle.node_store.specs.Flat.{cut, AreLaid, start_at}

pub length-cut : (first : ℕ) (nodes : List FlatNode) (kids : List Kid) → length (cut first nodes kids) ≡ length nodes
length-cut first [] kids = refl
length-cut first (node ∷ nodes) kids = ap suc (length-cut node.end nodes (drop (node.end - first) kids))

pub laid_end : (first : ℕ) (nodes : List FlatNode) (end : ℕ) → AreLaid first nodes end → first ≤ end
laid_end first [] end laid = omega (arith, laid)
laid_end first (node ∷ nodes) end laid = let here = laid.0 in let rest = laid_end node.end nodes end laid.1 in omega (arith, here, rest)

-- what is left of the kids ends where it did
rest_end : (first middle end : ℕ) (kids : List Kid) → end ≡ first + length kids → first ≤ middle → middle ≤ end → end ≡ middle + length (drop (middle - first) kids)
rest_end first middle end kids same order fits = let size = length-drop (middle - first) kids in omega (arith, size, same, order, fits)

-- ---- one node more

pub laid_push : (first : ℕ) (nodes : List FlatNode) (end : ℕ) (node : FlatNode) → AreLaid first nodes end → end ≤ node.end → AreLaid first (nodes ++ node ∷ []) node.end
laid_push first [] end node laid order = (omega (arith, laid, order), refl)
laid_push first (other ∷ nodes) end node laid order = (laid.0, laid_push other.end nodes end node laid.1 order)

pub cut_push : (first : ℕ) (nodes : List FlatNode) (kids more : List Kid) (end : ℕ) (node : FlatNode) → AreLaid first nodes end → end ≡ first + length kids → node.end ≡ end + length more → cut first (nodes ++ node ∷ []) (kids ++ more) ≡ cut first nodes kids ++ (node.rule, more) ∷ []
cut_push first [] kids more end node laid same ends =
    let none : kids ≡ [] = nil_from_length kids (omega (arith, laid, same)) in
    let whole : take (node.end - first) more ≡ more = take_all (node.end - first) more (omega (arith, ends, laid)) in
    ap (λ l. (node.rule, take (node.end - first) (l ++ more)) ∷ []) none ∙ ap (λ l. (node.rule, l) ∷ []) whole
cut_push first (other ∷ nodes) kids more end node laid same ends =
    let here = laid.0 in
    let below = laid_end other.end nodes end laid.1 in
    let count = other.end - first in
    let fits : count ≤ length kids = omega (arith, below, same) in
    let rest = cut_push other.end nodes (drop count kids) more end node laid.1 (rest_end first other.end end kids same here below) ends in
    ap (λ l. (other.rule, l) ∷ cut other.end (nodes ++ node ∷ []) (drop count (kids ++ more))) (take-append-le count kids more fits)
    ∙ ap (λ l. (other.rule, take count kids) ∷ cut other.end (nodes ++ node ∷ []) l) (drop-append-le count kids more fits)
    ∙ ap (λ l. (other.rule, take count kids) ∷ l) rest

-- ---- a look

pub record IsLaidAt (first : ℕ) (nodes : List FlatNode) (kids : List Kid) (place : ℕ) (node : FlatNode) (start end : ℕ) : Type 0 where
  pub from : first ≤ start
  pub order : start ≤ node.end
  pub fits : node.end ≤ end
  pub found : slice_get (cut first nodes kids) place ≡ Some (node.rule, take (node.end - start) (drop (start - first) kids))

pub laid_at : (first : ℕ) (nodes : List FlatNode) (kids : List Kid) (end place : ℕ) (node : FlatNode) → AreLaid first nodes end → end ≡ first + length kids → slice_get nodes place ≡ Some node → IsLaidAt first nodes kids place node (start_at first nodes place) end
laid_at first [] kids end place node laid same at = absurd (cc)
laid_at first (other ∷ nodes) kids end zero node laid same at =
    let here : other ≡ node = same_Some other node at in
    subst (λ n. IsLaidAt first (other ∷ nodes) kids zero n first end) here (record {
      from = omega arith;
      order = laid.0;
      fits = laid_end other.end nodes end laid.1;
      found = (let none : first - first ≡ 0 = omega arith in ap (λ n. Some (other.rule, take (other.end - first) (drop n kids))) (sym none));
    })
laid_at first (other ∷ nodes) kids end (suc place) node laid same at =
    let here = laid.0 in
    let below = laid_end other.end nodes end laid.1 in
    let start = start_at other.end nodes place in
    let rest = laid_at other.end nodes (drop (other.end - first) kids) end place node laid.1 (rest_end first other.end end kids same here below) at in
    record {
      from = (let from = rest.from in omega (arith, from, here));
      order = rest.order;
      fits = rest.fits;
      found = (let skip : other.end - first + (start - other.end) ≡ start - first = (let from = rest.from in omega (arith, from, here)) in
          rest.found ∙ ap (λ l. Some (node.rule, take (node.end - start) l)) (drop-drop (start - other.end) (other.end - first) kids ∙ ap (λ n. drop n kids) skip));
    }

-- the kids of a node begin where those of the node before it end
start_next : (first : ℕ) (nodes : List FlatNode) (place : ℕ) (node : FlatNode) → slice_get nodes place ≡ Some node → start_at first nodes (suc place) ≡ node.end
start_next first [] place node at = absurd (cc)
start_next first (other ∷ nodes) zero node at = ap (λ (n : FlatNode). n.end) (same_Some other node at)
start_next first (other ∷ nodes) (suc place) node at = start_next other.end nodes place node at

pub start_behind : (nodes : List FlatNode) (place : ℕ) (node : FlatNode) → (place ≡ 0 → ⊥) → slice_get nodes (place - 1) ≡ Some node → node.end ≡ start_at 0 nodes place
start_behind nodes zero node some at = absurd (some refl)
start_behind nodes (suc place) node some at = let same : suc place - 1 ≡ place = omega arith in sym (start_next 0 nodes place node (ap (λ n. slice_get nodes n) (sym same) ∙ at))

-- ---- a write

take-set-lt : (n : ℕ) (kids : List Kid) (i : ℕ) (kid : Kid) → i < n → take n (set kids i kid) ≡ set (take n kids) i kid
take-set-lt zero kids i kid less = absurd (omega (arith, less))
take-set-lt (suc n) [] i kid less = refl
take-set-lt (suc n) (other ∷ kids) zero kid less = refl
take-set-lt (suc n) (other ∷ kids) (suc i) kid less = ap (λ l. other ∷ l) (take-set-lt n kids i kid (omega (arith, less)))

pub cut_set : (first : ℕ) (nodes : List FlatNode) (kids : List Kid) (end place at i : ℕ) (node : FlatNode) (kid : Kid) → AreLaid first nodes end → end ≡ first + length kids → slice_get nodes place ≡ Some node → at < node.end - start_at first nodes place → first + i ≡ start_at first nodes place + at → cut first nodes (set kids i kid) ≡ set (cut first nodes kids) place (node.rule, set (take (node.end - start_at first nodes place) (drop (start_at first nodes place - first) kids)) at kid)
cut_set first [] kids end place at i node kid laid same here less index = absurd (cc)
cut_set first (other ∷ nodes) kids end zero at i node kid laid same here less index =
    let it : other ≡ node = same_Some other node here in
    let place : i ≡ at = omega (arith, index) in
    let inner : i < other.end - first = (let ends = ap (λ (n : FlatNode). n.end) it in omega (arith, ends, less, place)) in
    let none : first - first ≡ 0 = omega arith in
    ap (λ l. (other.rule, l) ∷ cut other.end nodes (drop (other.end - first) (set kids i kid))) (take-set-lt (other.end - first) kids i kid inner)
    ∙ ap (λ l. (other.rule, set (take (other.end - first) kids) i kid) ∷ cut other.end nodes l) (drop-set-lt (other.end - first) kids i kid inner)
    ∙ ap (λ j. (other.rule, set (take (other.end - first) kids) j kid) ∷ cut other.end nodes (drop (other.end - first) kids)) place
    ∙ ap (λ n. (other.rule, set (take (other.end - first) (drop n kids)) at kid) ∷ cut other.end nodes (drop (other.end - first) kids)) (sym none)
    ∙ ap (λ (n : FlatNode). (n.rule, set (take (n.end - first) (drop (first - first) kids)) at kid) ∷ cut other.end nodes (drop (other.end - first) kids)) it
cut_set first (other ∷ nodes) kids end (suc place) at i node kid laid same here less index =
    let order = laid.0 in
    let below = laid_end other.end nodes end laid.1 in
    let count = other.end - first in
    let start = start_at other.end nodes place in
    let found = laid_at other.end nodes (drop count kids) end place node laid.1 (rest_end first other.end end kids same order below) here in
    let skip : count + (start - other.end) ≡ start - first = (let from = found.from in omega (arith, from, order)) in
    let far : count + (i - count) ≡ i = (let from = found.from in omega (arith, from, order, index)) in
    let past : count ≤ i = omega (arith, far) in
    let next : other.end + (i - count) ≡ start + at = omega (arith, far, index, order) in
    let rest = cut_set other.end nodes (drop count kids) end place at (i - count) node kid laid.1 (rest_end first other.end end kids same order below) here less next in
    ap (λ l. (other.rule, l) ∷ cut other.end nodes (drop count (set kids i kid))) (take-set-le count kids i kid past)
    ∙ ap (λ j. (other.rule, take count kids) ∷ cut other.end nodes (drop count (set kids j kid))) (sym far)
    ∙ ap (λ l. (other.rule, take count kids) ∷ cut other.end nodes l) (drop-set-add count kids (i - count) kid)
    ∙ ap (λ l. (other.rule, take count kids) ∷ l) rest
    ∙ ap (λ l. (other.rule, take count kids) ∷ set (cut other.end nodes (drop count kids)) place (node.rule, set (take (node.end - start) l) at kid)) (drop-drop (start - other.end) count kids ∙ ap (λ n. drop n kids) skip)

-- ---- the kids of all nodes

pub all_cut : (first : ℕ) (nodes : List FlatNode) (kids : List Kid) (end : ℕ) → AreLaid first nodes end → end ≡ first + length kids → flat_map (λ (node : Node). node.1) (cut first nodes kids) ≡ kids
all_cut first [] kids end laid same = sym (nil_from_length kids (omega (arith, laid, same)))
all_cut first (node ∷ nodes) kids end laid same =
    let count = node.end - first in
    let below = laid_end node.end nodes end laid.1 in
    ap (λ l. take count kids ++ l) (all_cut node.end nodes (drop count kids) end laid.1 (rest_end first node.end end kids same laid.0 below))
    ∙ take-append-drop count kids
