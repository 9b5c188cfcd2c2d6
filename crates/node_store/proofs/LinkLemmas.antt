-- The links of a chunk: what a leaf more, a look and a write of a leaf do to the kids that they find.
use Rattle.std.proofs.Common.{◌≡◌, ◌≢◌, ℕ, zero, suc, ◌+◌, ◌<◌, ◌≤◌, List, [], ◌∷◌, ◌++◌, length, set, get_or, slice_get, Some, refl, sym, ap, ◌∙◌, arith}
use Rattle.std.proofs.lemmas.List.{length-map, map-append, get_or_append_left, get_or_push, get_or-set_same, get_or-set_other}
use Rattle.std.proofs.lemmas.Option.{slice_get-map}
use Rattle.std.specs.Option.{option_map}
use Rattle.node_data.specs.declared.kid.Kid.{Kid}
use Rattle.node_data.specs.declared.kid.Kid.TheVariants.{Node as NodeKid, Hidden}
use Rattle.node_store.specs.declared.link.Link.{Link}
use Rattle.node_store.specs.declared.link.Link.TheVariants.{Node, Leaf}
use Rattle.node_store.specs.Links.{kid_linked, linked, AreNumbered}

pub length-linked : (number : ℕ) (leaves : List Kid) (links : List Link) → length (linked number leaves links) ≡ length links
length-linked number leaves links = length-map links (kid_linked number leaves)

pub numbered_end : (first : ℕ) (links : List Link) (end : ℕ) → AreNumbered first links end → first ≤ end
numbered_end first [] end numbered = omega (arith, numbered)
numbered_end first (Node place ∷ links) end numbered = numbered_end first links end numbered
numbered_end first (Leaf index ∷ links) end numbered = let rest = numbered_end (first + 1) links end numbered.1 in omega (arith, rest)

-- ---- one link more

pub numbered_node : (first : ℕ) (links : List Link) (end place : ℕ) → AreNumbered first links end → AreNumbered first (links ++ Node place ∷ []) end
numbered_node first [] end place numbered = numbered
numbered_node first (Node other ∷ links) end place numbered = numbered_node first links end place numbered
numbered_node first (Leaf index ∷ links) end place numbered = (numbered.0, numbered_node (first + 1) links end place numbered.1)

pub numbered_leaf : (first : ℕ) (links : List Link) (end : ℕ) → AreNumbered first links end → AreNumbered first (links ++ Leaf end ∷ []) (end + 1)
numbered_leaf first [] end numbered = (sym numbered, ap (λ n. n + 1) numbered)
numbered_leaf first (Node other ∷ links) end numbered = numbered_leaf first links end numbered
numbered_leaf first (Leaf index ∷ links) end numbered = (numbered.0, numbered_leaf (first + 1) links end numbered.1)

-- more leaves change nothing of what links find
pub linked_more : (number first : ℕ) (leaves more : List Kid) (links : List Link) → AreNumbered first links (length leaves) → linked number (leaves ++ more) links ≡ linked number leaves links
linked_more number first leaves more [] numbered = refl
linked_more number first leaves more (Node place ∷ links) numbered = ap (λ l. NodeKid (number, place) ∷ l) (linked_more number first leaves more links numbered)
linked_more number first leaves more (Leaf index ∷ links) numbered =
    let below = numbered_end (first + 1) links (length leaves) numbered.1 in
    let at = numbered.0 in
    ap (λ kid. kid ∷ linked number (leaves ++ more) links) (get_or_append_left leaves more Hidden index (omega (arith, below, at)))
    ∙ ap (λ l. get_or leaves index Hidden ∷ l) (linked_more number (first + 1) leaves more links numbered.1)

pub linked_node : (number : ℕ) (leaves : List Kid) (links all : List Link) (place : ℕ) → all ≡ links ++ Node place ∷ [] → linked number leaves all ≡ linked number leaves links ++ NodeKid (number, place) ∷ []
linked_node number leaves links all place pushed = ap (linked number leaves) pushed ∙ map-append (kid_linked number leaves) links (Node place ∷ [])

pub linked_leaf : (number : ℕ) (leaves every : List Kid) (links all : List Link) (kid : Kid) → AreNumbered 0 links (length leaves) → every ≡ leaves ++ kid ∷ [] → all ≡ links ++ Leaf (length leaves) ∷ [] → linked number every all ≡ linked number leaves links ++ kid ∷ []
linked_leaf number leaves every links all kid numbered added pushed =
    ap (λ l. linked number l all) added
    ∙ ap (linked number (leaves ++ kid ∷ [])) pushed
    ∙ map-append (kid_linked number (leaves ++ kid ∷ [])) links (Leaf (length leaves) ∷ [])
    ∙ ap (λ l. l ++ get_or (leaves ++ kid ∷ []) (length leaves) Hidden ∷ []) (linked_more number 0 leaves (kid ∷ []) links numbered)
    ∙ ap (λ k. linked number leaves links ++ k ∷ []) (get_or_push leaves kid Hidden (length leaves) refl)

-- ---- a look

pub record IsLeafOf (first index end : ℕ) : Type 0 where
  pub from : first ≤ index
  pub inside : index < end

pub leaf_in : (first : ℕ) (links : List Link) (end k index : ℕ) → AreNumbered first links end → slice_get links k ≡ Some (Leaf index) → IsLeafOf first index end
leaf_in first [] end k index numbered at = absurd (cc)
leaf_in first (Node place ∷ links) end zero index numbered at = absurd (cc)
leaf_in first (Node place ∷ links) end (suc k) index numbered at = leaf_in first links end k index numbered at
leaf_in first (Leaf other ∷ links) end zero index numbered at =
    let same : other ≡ index = cc in
    let here = numbered.0 in
    let below = numbered_end (first + 1) links end numbered.1 in
    record { from = omega (arith, same, here); inside = omega (arith, same, here, below) }
leaf_in first (Leaf other ∷ links) end (suc k) index numbered at =
    let rest = leaf_in (first + 1) links end k index numbered.1 at in
    record { from = (let from = rest.from in omega (arith, from)); inside = rest.inside }

pub linked_at : (number : ℕ) (leaves : List Kid) (links : List Link) (k : ℕ) (link : Link) → slice_get links k ≡ Some link → slice_get (linked number leaves links) k ≡ Some (kid_linked number leaves link)
linked_at number leaves links k link at = slice_get-map (kid_linked number leaves) links k ∙ ap (option_map (kid_linked number leaves)) at

-- ---- a write

-- a leaf before all of those that links find
linked_behind : (number first : ℕ) (leaves : List Kid) (links : List Link) (end index : ℕ) (kid : Kid) → AreNumbered first links end → index < first → linked number (set leaves index kid) links ≡ linked number leaves links
linked_behind number first leaves [] end index kid numbered less = refl
linked_behind number first leaves (Node place ∷ links) end index kid numbered less = ap (λ l. NodeKid (number, place) ∷ l) (linked_behind number first leaves links end index kid numbered less)
linked_behind number first leaves (Leaf other ∷ links) end index kid numbered less =
    let here = numbered.0 in
    let apart : other ≢ index = λ same. omega (arith, same, here, less) in
    ap (λ k. k ∷ linked number (set leaves index kid) links) (get_or-set_other leaves index other kid Hidden apart)
    ∙ ap (λ l. get_or leaves other Hidden ∷ l) (linked_behind number (first + 1) leaves links end index kid numbered.1 (omega (arith, less)))

pub linked_set : (number first : ℕ) (leaves : List Kid) (links : List Link) (k index : ℕ) (kid : Kid) → AreNumbered first links (length leaves) → slice_get links k ≡ Some (Leaf index) → linked number (set leaves index kid) links ≡ set (linked number leaves links) k kid
linked_set number first leaves [] k index kid numbered at = absurd (cc)
linked_set number first leaves (Node place ∷ links) zero index kid numbered at = absurd (cc)
linked_set number first leaves (Node place ∷ links) (suc k) index kid numbered at = ap (λ l. NodeKid (number, place) ∷ l) (linked_set number first leaves links k index kid numbered at)
linked_set number first leaves (Leaf other ∷ links) zero index kid numbered at =
    let same : other ≡ index = cc in
    let here = numbered.0 in
    let below = numbered_end (first + 1) links (length leaves) numbered.1 in
    let inside : index < length leaves = omega (arith, same, here, below) in
    ap (λ n. get_or (set leaves index kid) n Hidden ∷ linked number (set leaves index kid) links) same
    ∙ ap (λ j. j ∷ linked number (set leaves index kid) links) (get_or-set_same leaves index kid Hidden inside)
    ∙ ap (λ l. kid ∷ l) (linked_behind number (first + 1) leaves links (length leaves) index kid numbered.1 (omega (arith, same, here)))
linked_set number first leaves (Leaf other ∷ links) (suc k) index kid numbered at =
    let here = numbered.0 in
    let rest = leaf_in (first + 1) links (length leaves) k index numbered.1 at in
    let from = rest.from in
    let apart : other ≢ index = λ same. omega (arith, same, here, from) in
    ap (λ j. j ∷ linked number (set leaves index kid) links) (get_or-set_other leaves index other kid Hidden apart)
    ∙ ap (λ l. get_or leaves other Hidden ∷ l) (linked_set number (first + 1) leaves links k index kid numbered.1 at)
