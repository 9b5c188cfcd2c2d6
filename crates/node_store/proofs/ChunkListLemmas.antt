-- Lists of chunks: what their nodes are after a step, and what trees see of it.
use Rattle.std.proofs.Common.{◌≡◌, ℕ, zero, suc, ◌+◌, ◌-◌, ◌<◌, ◌≤◌, ◌⊎◌, inl, inr, ◌==◌, cond, List, [], ◌∷◌, ◌++◌, length, set, get_or, slice_get, Option, Some, None, IsSome, refl, sym, ap, ◌∙◌, subst, arith, eq-eqb, ne_eqb}
use Rattle.std.proofs.lemmas.Bool.{cases_eq}
use Rattle.std.proofs.lemmas.List.{get_or_default}
use Rattle.std.proofs.lemmas.Option.{same_Some, slice_get_within, slice_get_past, slice_get_read}
use Rattle.grammar_theory.proofs.DerivationLemmas.{slice_get_kept}
use Rattle.grammar_theory.proofs.RuleLemmas.{slice_get_last}
use Rattle.node_data.specs.declared.kid.Kid.{Kid}
use Rattle.tree_theory.specs.Stores.{Ref}
use Rattle.tree_theory.proofs.ShownLemmas.{some_pair}
use Rattle.node_store.specs.Slots.{IsIndexOf}
use Rattle.node_store.specs.Chunks.{Node, Chunk, HasChunk, IsNodeOf, IsPlaceOf, numbers_in, nodes_in, store_of, node_count_in, with_nodes, StoresNode, StoresKid, StoresBoth}
use Rattle.node_store.proofs.SlotLemmas.{slice_get-set_same, slice_get-set_other, slot_of, once_in, place_of_contained, contained_at}

-- a chunk of that number stands somewhere
abbrev pub Has : List Chunk → ℕ → Type 0
Has chunks number = (k : ℕ) × (slice_get (numbers_in chunks) k ≡ Some number)

-- it stands nowhere before that place
abbrev pub IsFirstAt : List Chunk → ℕ → ℕ → Type 0
IsFirstAt chunks number place = (k : ℕ) → slice_get (numbers_in chunks) k ≡ Some number → place ≤ k

-- ---- the chunk at a place

head_number : (head : Chunk) (chunks : List Chunk) (number place : ℕ) → IsFirstAt (head ∷ chunks) number (suc place) → head.0 ≡ number → ⊥
head_number head chunks number place first same = let below = first 0 (ap Some same) in omega (arith, below)

tail_first : (head : Chunk) (chunks : List Chunk) (number place : ℕ) → IsFirstAt (head ∷ chunks) number (suc place) → IsFirstAt chunks number place
tail_first head chunks number place first k at = let below = first (suc k) at in omega (arith, below)

pub nodes_at : (chunks : List Chunk) (number place : ℕ) (chunk : Chunk) → slice_get chunks place ≡ Some chunk → chunk.0 ≡ number → IsFirstAt chunks number place → nodes_in chunks number ≡ chunk.1
nodes_at [] number place chunk at same first = absurd (cc)
nodes_at (head ∷ chunks) number zero chunk at same first =
    let is = same_Some head chunk at in
    ap (λ b. cond b head.1 (nodes_in chunks number)) (eq-eqb head.0 number (ap (λ (c : Chunk). c.0) is ∙ same)) ∙ ap (λ (c : Chunk). c.1) is
nodes_at (head ∷ chunks) number (suc place) chunk at same first =
    ap (λ b. cond b head.1 (nodes_in chunks number)) (ne_eqb head.0 number (head_number head chunks number place first))
    ∙ nodes_at chunks number place chunk at same (tail_first head chunks number place first)

pub with_nodes_at : (chunks : List Chunk) (number place : ℕ) (chunk : Chunk) (nodes : List Node) → slice_get chunks place ≡ Some chunk → chunk.0 ≡ number → IsFirstAt chunks number place → set chunks place (chunk.0, nodes) ≡ with_nodes chunks number nodes
with_nodes_at [] number place chunk nodes at same first = absurd (cc)
with_nodes_at (head ∷ chunks) number zero chunk nodes at same first =
    let is = same_Some head chunk at in
    sym (ap (λ (b : _). cond b ((head.0, nodes) ∷ chunks) (head ∷ with_nodes chunks number nodes)) (eq-eqb head.0 number (ap (λ (c : Chunk). c.0) is ∙ same)) ∙ ap (λ (c : Chunk). (c.0, nodes) ∷ chunks) is)
with_nodes_at (head ∷ chunks) number (suc place) chunk nodes at same first =
    ap (λ l. head ∷ l) (with_nodes_at chunks number place chunk nodes at same (tail_first head chunks number place first))
    ∙ sym (ap (λ b. cond b ((head.0, nodes) ∷ chunks) (head ∷ with_nodes chunks number nodes)) (ne_eqb head.0 number (head_number head chunks number place first)))

-- ---- other nodes in a chunk

pub numbers_with : (chunks : List Chunk) (number : ℕ) (nodes : List Node) → numbers_in (with_nodes chunks number nodes) ≡ numbers_in chunks
numbers_with [] number nodes = refl
numbers_with (head ∷ chunks) number nodes = elim (cases_eq head.0 number) as (λ _. numbers_in (with_nodes (head ∷ chunks) number nodes) ≡ numbers_in (head ∷ chunks)) [
  | inl same ↦ ap (λ b. numbers_in (cond b ((head.0, nodes) ∷ chunks) (head ∷ with_nodes chunks number nodes))) (eq-eqb head.0 number same)
  | inr other ↦ ap (λ b. numbers_in (cond b ((head.0, nodes) ∷ chunks) (head ∷ with_nodes chunks number nodes))) (ne_eqb head.0 number other) ∙ ap (λ l. head.0 ∷ l) (numbers_with chunks number nodes)
]

pub nodes_with_other : (chunks : List Chunk) (number n : ℕ) (nodes : List Node) → (n ≡ number → ⊥) → nodes_in (with_nodes chunks number nodes) n ≡ nodes_in chunks n
nodes_with_other [] number n nodes apart = refl
nodes_with_other (head ∷ chunks) number n nodes apart = elim (cases_eq head.0 number) as (λ _. nodes_in (with_nodes (head ∷ chunks) number nodes) n ≡ nodes_in (head ∷ chunks) n) [
  | inl same ↦
      let far : head.0 ≡ n → ⊥ = λ e. apart (sym e ∙ same) in
      ap (λ b. nodes_in (cond b ((head.0, nodes) ∷ chunks) (head ∷ with_nodes chunks number nodes)) n) (eq-eqb head.0 number same)
      ∙ ap (λ b. cond b nodes (nodes_in chunks n)) (ne_eqb head.0 n far)
      ∙ sym (ap (λ b. cond b head.1 (nodes_in chunks n)) (ne_eqb head.0 n far))
  | inr other ↦
      ap (λ b. nodes_in (cond b ((head.0, nodes) ∷ chunks) (head ∷ with_nodes chunks number nodes)) n) (ne_eqb head.0 number other)
      ∙ ap (λ l. cond (head.0 == n) head.1 l) (nodes_with_other chunks number n nodes apart)
]

has_tail : (head : Chunk) (chunks : List Chunk) (number : ℕ) → Has (head ∷ chunks) number → (head.0 ≡ number → ⊥) → Has chunks number
has_tail head chunks number (zero, at) other = absurd (other (same_Some head.0 number at))
has_tail head chunks number (suc k, at) other = (k, at)

pub nodes_with_same : (chunks : List Chunk) (number : ℕ) (nodes : List Node) → Has chunks number → nodes_in (with_nodes chunks number nodes) number ≡ nodes
nodes_with_same [] number nodes has = absurd (let at = has.1 in cc)
nodes_with_same (head ∷ chunks) number nodes has = elim (cases_eq head.0 number) as (λ _. nodes_in (with_nodes (head ∷ chunks) number nodes) number ≡ nodes) [
  | inl same ↦
      ap (λ b. nodes_in (cond b ((head.0, nodes) ∷ chunks) (head ∷ with_nodes chunks number nodes)) number) (eq-eqb head.0 number same)
      ∙ ap (λ b. cond b nodes (nodes_in chunks number)) (eq-eqb head.0 number same)
  | inr other ↦
      ap (λ b. nodes_in (cond b ((head.0, nodes) ∷ chunks) (head ∷ with_nodes chunks number nodes)) number) (ne_eqb head.0 number other)
      ∙ ap (λ b. cond b head.1 (nodes_in (with_nodes chunks number nodes) number)) (ne_eqb head.0 number other)
      ∙ nodes_with_same chunks number nodes (has_tail head chunks number has other)
]

pub count_with : (chunks : List Chunk) (number : ℕ) (nodes : List Node) → Has chunks number → node_count_in (with_nodes chunks number nodes) + length (nodes_in chunks number) ≡ node_count_in chunks + length nodes
count_with [] number nodes has = absurd (let at = has.1 in cc)
count_with (head ∷ chunks) number nodes has = elim (cases_eq head.0 number) as (λ _. node_count_in (with_nodes (head ∷ chunks) number nodes) + length (nodes_in (head ∷ chunks) number) ≡ node_count_in (head ∷ chunks) + length nodes) [
  | inl same ↦
      ap (λ b. node_count_in (cond b ((head.0, nodes) ∷ chunks) (head ∷ with_nodes chunks number nodes)) + length (cond b head.1 (nodes_in chunks number))) (eq-eqb head.0 number same)
      ∙ (omega arith)
  | inr other ↦
      let rest = count_with chunks number nodes (has_tail head chunks number has other) in
      ap (λ b. node_count_in (cond b ((head.0, nodes) ∷ chunks) (head ∷ with_nodes chunks number nodes)) + length (cond b head.1 (nodes_in chunks number))) (ne_eqb head.0 number other)
      ∙ (omega (arith, rest))
]

-- ---- two lists

pub nodes_in_left : (chunks others : List Chunk) (number : ℕ) → Has chunks number → nodes_in (chunks ++ others) number ≡ nodes_in chunks number
nodes_in_left [] others number has = absurd (let at = has.1 in cc)
nodes_in_left (head ∷ chunks) others number has = elim (cases_eq head.0 number) as (λ _. nodes_in (head ∷ chunks ++ others) number ≡ nodes_in (head ∷ chunks) number) [
  | inl same ↦
      ap (λ b. cond b head.1 (nodes_in (chunks ++ others) number)) (eq-eqb head.0 number same)
      ∙ sym (ap (λ b. cond b head.1 (nodes_in chunks number)) (eq-eqb head.0 number same))
  | inr other ↦ ap (λ l. cond (head.0 == number) head.1 l) (nodes_in_left chunks others number (has_tail head chunks number has other))
]

-- a number stands in a list, or the list has no nodes of it
pub record HasNot (chunks : List Chunk) (number : ℕ) : Type 0 where
  pub none : nodes_in chunks number ≡ []
  pub beyond : (others : List Chunk) → nodes_in (chunks ++ others) number ≡ nodes_in others number

pub has_cases : (chunks : List Chunk) (number : ℕ) → Has chunks number ⊎ HasNot chunks number
has_cases [] number = inr (record { none = refl; beyond = λ others. refl })
has_cases (head ∷ chunks) number = elim (cases_eq head.0 number) as (λ _. Has (head ∷ chunks) number ⊎ HasNot (head ∷ chunks) number) [
  | inl same ↦ inl (0, ap Some same)
  | inr other ↦ elim (has_cases chunks number) as (λ _. Has (head ∷ chunks) number ⊎ HasNot (head ∷ chunks) number) [
    | inl has ↦ inl (suc has.0, has.1)
    | inr not ↦ inr (record {
      none = ap (λ b. cond b head.1 (nodes_in chunks number)) (ne_eqb head.0 number other) ∙ not.none;
      beyond = λ others. ap (λ b. cond b head.1 (nodes_in (chunks ++ others) number)) (ne_eqb head.0 number other) ∙ not.beyond others;
    })
  ]
]

pub has_of_node : (chunks : List Chunk) (m : Ref) (node : Node) → store_of chunks m ≡ Some node → Has chunks m.0
has_of_node chunks m node at = elim (has_cases chunks m.0) as (λ _. Has chunks m.0) [
  | inl has ↦ has
  | inr not ↦ absurd (let none = ap (λ l. slice_get l m.1) not.none in let found : ◌≡◌ {A = Option Node} None (Some node) = sym none ∙ at in cc)
]

pub stores_both : (chunks others : List Chunk) → ((number : ℕ) → Has chunks number → Has others number → ⊥) → StoresBoth (store_of chunks) (store_of others) (store_of (chunks ++ others))
stores_both chunks others apart = record {
  of_first = λ m r kids at. ap (λ l. slice_get l m.1) (nodes_in_left chunks others m.0 (has_of_node chunks m (r, kids) at)) ∙ at;
  of_second = λ m r kids at. elim (has_cases chunks m.0) as (λ _. store_of (chunks ++ others) m ≡ Some (r, kids)) [
    | inl has ↦ absurd (apart m.0 has (has_of_node others m (r, kids) at))
    | inr not ↦ ap (λ l. slice_get l m.1) (not.beyond others) ∙ at
  ];
  of_none = λ m none there. elim (has_cases chunks m.0) as (λ _. store_of (chunks ++ others) m ≡ None) [
    | inl has ↦ ap (λ l. slice_get l m.1) (nodes_in_left chunks others m.0 has) ∙ none
    | inr not ↦ ap (λ l. slice_get l m.1) (not.beyond others) ∙ there
  ];
}

pub count-append : (chunks others : List Chunk) → node_count_in (chunks ++ others) ≡ node_count_in chunks + node_count_in others
count-append [] others = omega arith
count-append (head ∷ chunks) others = let rest = count-append chunks others in omega (arith, rest)

-- a chunk without nodes is nothing to trees
pub empty_chunk : (chunks : List Chunk) (number : ℕ) (m : Ref) → store_of (chunks ++ (number, []) ∷ []) m ≡ store_of chunks m
empty_chunk chunks number m = elim (has_cases chunks m.0) as (λ _. store_of (chunks ++ (number, []) ∷ []) m ≡ store_of chunks m) [
  | inl has ↦ ap (λ l. slice_get l m.1) (nodes_in_left chunks ((number, []) ∷ []) m.0 has)
  | inr not ↦ ap (λ l. slice_get l m.1) (not.beyond ((number, []) ∷ []) ∙ none_in number m.0 ∙ sym not.none)
]
  where
    none_in : (number n : ℕ) → nodes_in ((number, []) ∷ []) n ≡ []
    none_in number n = elim (cases_eq number n) as (λ _. nodes_in ((number, []) ∷ []) n ≡ []) [
      | inl same ↦ ap (λ b. cond b [] []) (eq-eqb number n same)
      | inr other ↦ ap (λ b. cond b [] []) (ne_eqb number n other)
    ]

-- ---- a node more, and another kid

pub stores_node : (chunks : List Chunk) (number rule : ℕ) (kids : List Kid) → Has chunks number → StoresNode (store_of chunks) (store_of (with_nodes chunks number (nodes_in chunks number ++ (rule, kids) ∷ []))) rule kids (number, length (nodes_in chunks number))
stores_node chunks number rule kids has =
    let nodes = nodes_in chunks number in
    let more = nodes ++ (rule, kids) ∷ [] in
    let here = nodes_with_same chunks number more has in
    record {
      none = slice_get_past nodes (length nodes) (omega arith);
      some = ap (λ l. slice_get l (length nodes)) here ∙ slice_get_last nodes (rule, kids);
      kept = λ m r others at. elim (cases_eq m.0 number) as (λ _. store_of (with_nodes chunks number more) m ≡ Some (r, others)) [
        | inl same ↦ ap (λ n. slice_get (nodes_in (with_nodes chunks number more) n) m.1) same ∙ ap (λ l. slice_get l m.1) here
            ∙ slice_get_kept nodes ((rule, kids) ∷ []) m.1 (sym (ap (λ n. slice_get (nodes_in chunks n) m.1) same) ∙ at)
        | inr other ↦ ap (λ l. slice_get l m.1) (nodes_with_other chunks number m.0 more other) ∙ at
      ];
      others = λ m far. elim (cases_eq m.0 number) as (λ _. store_of (with_nodes chunks number more) m ≡ store_of chunks m) [
        | inl same ↦ ap (λ n. slice_get (nodes_in (with_nodes chunks number more) n) m.1) same ∙ ap (λ l. slice_get l m.1) here
            ∙ not_last nodes (rule, kids) m.1 (λ e. far (λ i. (same i, e i))) ∙ sym (ap (λ n. slice_get (nodes_in chunks n) m.1) same)
        | inr other ↦ ap (λ l. slice_get l m.1) (nodes_with_other chunks number m.0 more other)
      ];
    }
  where
    not_last : (xs : List Node) (x : Node) (i : ℕ) → (i ≡ length xs → ⊥) → slice_get (xs ++ x ∷ []) i ≡ slice_get xs i
    not_last [] x zero far = absurd (far refl)
    not_last [] x (suc i) far = refl
    not_last (y ∷ xs) x zero far = refl
    not_last (y ∷ xs) x (suc i) far = not_last xs x i (λ e. far (ap suc e))

pub stores_kid : (chunks : List Chunk) (node : Ref) (rule i : ℕ) (kids : List Kid) (kid : Kid) → store_of chunks node ≡ Some (rule, kids) → StoresKid (store_of chunks) (store_of (with_nodes chunks node.0 (set (nodes_in chunks node.0) node.1 (rule, set kids i kid)))) node i kid
stores_kid chunks node rule i kids kid at =
    let nodes = nodes_in chunks node.0 in
    let now = set nodes node.1 (rule, set kids i kid) in
    let here = nodes_with_same chunks node.0 now (has_of_node chunks node (rule, kids) at) in
    record {
      filled = λ r others found.
          let same = some_pair (sym at ∙ found) in
          ap (λ l. slice_get l node.1) here ∙ slice_get-set_same nodes node.1 (rule, set kids i kid) (slice_get_within nodes node.1 (rule, kids) at)
          ∙ ap (λ q. Some (q, set kids i kid)) same.0 ∙ ap (λ l. Some (r, set l i kid)) same.1;
      others = λ m far. elim (cases_eq m.0 node.0) as (λ _. store_of (with_nodes chunks node.0 now) m ≡ store_of chunks m) [
        | inl same ↦ ap (λ n. slice_get (nodes_in (with_nodes chunks node.0 now) n) m.1) same ∙ ap (λ l. slice_get l m.1) here
            ∙ slice_get-set_other nodes node.1 m.1 (rule, set kids i kid) (λ e. far (λ i. (same i, e i))) ∙ sym (ap (λ n. slice_get (nodes_in chunks n) m.1) same)
        | inr other ↦ ap (λ l. slice_get l m.1) (nodes_with_other chunks node.0 m.0 now other)
      ];
    }

-- ---- the number of a chunk at a place

pub number_at : (chunks : List Chunk) (place number : ℕ) (chunk : Chunk) → slice_get chunks place ≡ Some chunk → number ≡ chunk.0 → slice_get (numbers_in chunks) place ≡ Some number
number_at [] place number chunk at same = absurd (cc)
number_at (head ∷ chunks) zero number chunk at same = ap Some (ap (λ (c : Chunk). c.0) (same_Some head chunk at) ∙ sym same)
number_at (head ∷ chunks) (suc place) number chunk at same = number_at chunks place number chunk at same

-- what a read of the list of chunks finds
pub number_read : (chunks : List Chunk) (place number : ℕ) (chunk : Chunk) → place < length chunks → chunk ≡ get_or chunks place chunk → number ≡ chunk.0 → slice_get (numbers_in chunks) place ≡ Some number
number_read chunks place number chunk less read same = number_at chunks place number chunk (slice_get_read chunks (length chunks) place chunk refl less read) same

-- ---- the chunk that an index finds

chunk_at : (chunks : List Chunk) (place number : ℕ) → slice_get (numbers_in chunks) place ≡ Some number → (chunk : Chunk) × (slice_get chunks place ≡ Some chunk) × (chunk.0 ≡ number)
chunk_at [] place number at = absurd (cc)
chunk_at (head ∷ chunks) zero number at = (head, refl, same_Some head.0 number at)
chunk_at (head ∷ chunks) (suc place) number at = chunk_at chunks place number at

pub place_found : (slots : List ℕ) (chunks : List Chunk) (number place : ℕ) → IsIndexOf slots (numbers_in chunks) → HasChunk chunks number → place + 1 ≡ get_or slots number 0 → IsPlaceOf chunks number place
place_found slots chunks number place index has slot =
    let known = slot_of slots (numbers_in chunks) number index has in
    let same : known.0 ≡ place = (let is = known.2 in omega (arith, is, slot)) in
    let at : slice_get (numbers_in chunks) place ≡ Some number = subst (λ n. slice_get (numbers_in chunks) n ≡ Some number) same known.1 in
    let first : IsFirstAt chunks number place = λ k there. (let one = once_in slots (numbers_in chunks) index place k number at there in omega (arith, one)) in
    let it = chunk_at chunks place number at in
    record {
      inside = slice_get_within chunks place it.0 it.1;
      found = it.1 ∙ ap (λ n. Some (n, it.0.1)) it.2 ∙ ap (λ l. Some (number, l)) (sym (nodes_at chunks number place it.0 it.1 it.2 first));
      set = λ nodes. ap (λ n. set chunks place (n, nodes)) (sym it.2) ∙ with_nodes_at chunks number place it.0 nodes it.1 it.2 first;
    }

pub has_place : (chunks : List Chunk) (number : ℕ) → HasChunk chunks number → Has chunks number
has_place chunks number has = place_of_contained (numbers_in chunks) number has

pub node_chunk : (chunks : List Chunk) (m : Ref) (node : Node) → store_of chunks m ≡ Some node → HasChunk chunks m.0
node_chunk chunks m node at = let has = has_of_node chunks m node at in contained_at (numbers_in chunks) m.0 has.0 has.1

-- a node that is there
pub some_node : (chunks : List Chunk) (m : Ref) → IsNodeOf chunks m → (node : Node) × (store_of chunks m ≡ Some node)
some_node chunks m is = found (store_of chunks m) refl is
  where
    found : (o : Option Node) → store_of chunks m ≡ o → IsSome o → (node : Node) × (store_of chunks m ≡ Some node)
    found None e is = absurd (cc)
    found (Some node) e is = (node, e)

-- what a read of the slots finds
pub slot_inside : (slots : List ℕ) (chunks : List Chunk) (number : ℕ) → IsIndexOf slots (numbers_in chunks) → HasChunk chunks number → number < length slots
slot_inside slots chunks number index has =
    let at = has_place chunks number has in
    slice_get_within slots number (at.0 + 1) (index.to_slot at.0 number at.1)

pub slot_read : (slots : List ℕ) (chunks : List Chunk) (number slot : ℕ) → IsIndexOf slots (numbers_in chunks) → HasChunk chunks number → slot ≡ get_or slots number slot → (1 ≤ slot) × IsPlaceOf chunks number (slot - 1)
slot_read slots chunks number slot index has read =
    let known = slot_of slots (numbers_in chunks) number index has in
    let inside = slot_inside slots chunks number index has in
    let is : slot ≡ known.0 + 1 = read ∙ get_or_default slots number slot 0 inside ∙ known.2 in
    (omega (arith, is), place_found slots chunks number (slot - 1) index has (let found = known.2 in omega (arith, is, found)))
