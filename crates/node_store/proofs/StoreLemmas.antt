-- The steps of a store.
use Rattle.std.proofs.Common.{◌≡◌, ℕ, zero, suc, ◌+◌, ◌<◌, ◌≤◌, ◌⊎◌, inl, inr, List, [], ◌∷◌, ◌++◌, length, set, get_or, slice_get, Some, Contains, refl, sym, ap, ◌∙◌, subst, arith, length-append, length-set}
use Rattle.std.proofs.lemmas.List.{length-map, map-append}
use Rattle.std.proofs.lemmas.Option.{same_Some, slice_get_within, slice_get_read}
use Rattle.grammar_theory.proofs.RuleLemmas.{slice_get_last}
use Rattle.node_data.specs.declared.kid.Kid.{Kid}
use Rattle.tree_theory.specs.Stores.{Ref}
use Rattle.node_store.specs.Slots.{IsIndexOf, AreDistinct, HaveSlots}
use Rattle.node_store.specs.Chunks.{Node, Chunk, HasChunk, IsNodeOf, IsHiddenAt, IsPlaceOf, IsStore, AreApart, numbers_in, nodes_in, store_of, node_count_in, with_nodes, AddsNode, SetsKid, StoresNode, StoresKid}
use Rattle.node_store.proofs.SlotLemmas.{once_in, contained_at}
use Rattle.node_store.proofs.ChunkListLemmas.{Has, has_place, has_of_node, some_node, numbers_with, count_with, stores_node, stores_kid}

-- ---- a look at the chunk that was found

chunk_is : (chunks : List Chunk) (number place : ℕ) (chunk : Chunk) → IsPlaceOf chunks number place → chunk ≡ get_or chunks place chunk → chunk ≡ (number, nodes_in chunks number)
chunk_is chunks number place chunk is read = same_Some chunk (number, nodes_in chunks number) (sym (slice_get_read chunks (length chunks) place chunk refl is.inside read) ∙ is.found)

pub record IsChunkOf (chunks : List Chunk) (m : Ref) (chunk : Chunk) : Type 0 where
  pub same : slice_get chunk.1 m.1 ≡ store_of chunks m
  pub less : m.1 < length chunk.1

pub chunk_of_node : (chunks before : List Chunk) (m : Ref) (place : ℕ) (chunk : Chunk) → chunks ≡ before → IsNodeOf before m → IsPlaceOf before m.0 place → chunk ≡ get_or chunks place chunk → IsChunkOf before m chunk
chunk_of_node chunks before m place chunk view there is read =
    let node = some_node before m there in
    let same = ap (λ (c : Chunk). slice_get c.1 m.1) (chunk_is before m.0 place chunk is (read ∙ ap (λ l. get_or l place chunk) view)) in
    record {
      same = same;
      less = slice_get_within chunk.1 m.1 node.0 (same ∙ node.1);
    }

pub node_in_chunk : (chunks before : List Chunk) (m : Ref) (place : ℕ) (chunk : Chunk) (rule : ℕ) (kids : List Kid) → chunks ≡ before → store_of before m ≡ Some (rule, kids) → IsPlaceOf before m.0 place → chunk ≡ get_or chunks place chunk → slice_get chunk.1 m.1 ≡ Some (rule, kids)
node_in_chunk chunks before m place chunk rule kids view at is read = ap (λ (c : Chunk). slice_get c.1 m.1) (chunk_is before m.0 place chunk is (read ∙ ap (λ l. get_or l place chunk) view)) ∙ at

-- ---- other nodes in one chunk

pub still_store : (chunks now : List Chunk) (slots : List ℕ) (count counted number : ℕ) (nodes : List Node) → IsStore chunks slots count → Has chunks number → now ≡ with_nodes chunks number nodes → counted + length (nodes_in chunks number) ≡ count + length nodes → IsStore now slots counted
still_store chunks now slots count counted number nodes is has same sum = record {
  indexed = subst (IsIndexOf slots) (sym (numbers_with chunks number nodes) ∙ ap numbers_in (sym same)) is.indexed;
  counted = (let total = count_with chunks number nodes has in let before = is.counted in let all = ap node_count_in same in omega (arith, total, before, sum, all));
}

pub record Adds (chunks now : List Chunk) (number rule : ℕ) (kids : List Kid) (node : Ref) : Type 0 where
  pub added : AddsNode chunks now number rule kids node
  pub trees : StoresNode (store_of chunks) (store_of now) rule kids node
  pub numbers : numbers_in now ≡ numbers_in chunks
  pub count : node_count_in now ≡ node_count_in chunks + 1

adds_here : (chunks : List Chunk) (number place rule : ℕ) (kids : List Kid) (chunk new : Chunk) → HasChunk chunks number → IsPlaceOf chunks number place → chunk ≡ get_or chunks place chunk → new ≡ (chunk.0, chunk.1 ++ (rule, kids) ∷ []) → set chunks place new ≡ with_nodes chunks number (nodes_in chunks number ++ (rule, kids) ∷ [])
adds_here chunks number place rule kids chunk new has is read to =
    let same = chunk_is chunks number place chunk is read in
    ap (λ c. set chunks place c) (to ∙ ap (λ (c : Chunk). (c.0, c.1 ++ (rule, kids) ∷ [])) same) ∙ is.set (nodes_in chunks number ++ (rule, kids) ∷ [])

pub add_step : (chunks before : List Chunk) (number place rule at : ℕ) (kids : List Kid) (chunk new : Chunk) → chunks ≡ before → HasChunk before number → IsPlaceOf before number place → chunk ≡ get_or chunks place chunk → new ≡ (chunk.0, chunk.1 ++ (rule, kids) ∷ []) → at ≡ length chunk.1 → Adds before (set chunks place new) number rule kids (number, at)
add_step chunks before number place rule at kids chunk new view has is read to place_is =
    let again = read ∙ ap (λ l. get_or l place chunk) view in
    let nodes = nodes_in before number in
    let more = nodes ++ (rule, kids) ∷ [] in
    let now = ap (λ l. set l place new) view ∙ adds_here before number place rule kids chunk new has is again to in
    let where_it_is : at ≡ length nodes = place_is ∙ ap (λ (c : Chunk). length c.1) (chunk_is before number place chunk is again) in
    record {
      added = record { place = ap (λ (n : ℕ). (number, n)) where_it_is; chunks = now };
      trees = subst (λ (n : ℕ). StoresNode (store_of before) (store_of (set chunks place new)) rule kids (number, n)) (sym where_it_is)
          (subst (λ l. StoresNode (store_of before) (store_of l) rule kids (number, length nodes)) (sym now) (stores_node before number rule kids (has_place before number has)));
      numbers = ap numbers_in now ∙ numbers_with before number more;
      count = (let total = count_with before number more (has_place before number has) in let all = ap node_count_in now in let size = length-append nodes ((rule, kids) ∷ []) in omega (arith, total, all, size));
    }

pub add_store : (chunks : List Chunk) (slots : List ℕ) (count counted number place rule : ℕ) (kids : List Kid) (chunk new : Chunk) → IsStore chunks slots count → HasChunk chunks number → IsPlaceOf chunks number place → chunk ≡ get_or chunks place chunk → new ≡ (chunk.0, chunk.1 ++ (rule, kids) ∷ []) → counted ≡ count + 1 → IsStore (set chunks place new) slots counted
add_store chunks slots count counted number place rule kids chunk new store has is read to sum =
    let nodes = nodes_in chunks number in
    let size = length-append nodes ((rule, kids) ∷ []) in
    still_store chunks (set chunks place new) slots count counted number (nodes ++ (rule, kids) ∷ []) store (has_place chunks number has)
    (adds_here chunks number place rule kids chunk new has is read to) (omega (arith, size, sum))

-- ---- another kid

pub record Fills (chunks now : List Chunk) (node : Ref) (i : ℕ) (kid : Kid) : Type 0 where
  pub filled : SetsKid chunks now node i kid
  pub trees : StoresKid (store_of chunks) (store_of now) node i kid
  pub numbers : numbers_in now ≡ numbers_in chunks
  pub count : node_count_in now ≡ node_count_in chunks

-- what the chunk of the node becomes
abbrev pub SetsInChunk : Chunk → Chunk → ℕ → ℕ → Kid → Type 0
SetsInChunk chunk new place i kid = (rule : ℕ) (kids : List Kid) → slice_get chunk.1 place ≡ Some (rule, kids) → new ≡ (chunk.0, set chunk.1 place (rule, set kids i kid))

fills_here : (chunks : List Chunk) (m : Ref) (place i rule : ℕ) (kids : List Kid) (kid : Kid) (chunk new : Chunk) → IsPlaceOf chunks m.0 place → chunk ≡ get_or chunks place chunk → SetsInChunk chunk new m.1 i kid → store_of chunks m ≡ Some (rule, kids) → set chunks place new ≡ with_nodes chunks m.0 (set (nodes_in chunks m.0) m.1 (rule, set kids i kid))
fills_here chunks m place i rule kids kid chunk new is read to at =
    let same = chunk_is chunks m.0 place chunk is read in
    let here = to rule kids (ap (λ (c : Chunk). slice_get c.1 m.1) same ∙ at) in
    ap (λ c. set chunks place c) (here ∙ ap (λ (c : Chunk). (c.0, set c.1 m.1 (rule, set kids i kid))) same) ∙ is.set (set (nodes_in chunks m.0) m.1 (rule, set kids i kid))

pub fill_step : (chunks before : List Chunk) (m : Ref) (place i : ℕ) (kid : Kid) (chunk new : Chunk) → chunks ≡ before → IsHiddenAt before m i → IsPlaceOf before m.0 place → chunk ≡ get_or chunks place chunk → SetsInChunk chunk new m.1 i kid → Fills before (set chunks place new) m i kid
fill_step chunks before m place i kid chunk new view (rule, kids, at, hidden) is read to =
    let again = read ∙ ap (λ l. get_or l place chunk) view in
    let nodes = nodes_in before m.0 in
    let set_to = set nodes m.1 (rule, set kids i kid) in
    let now = ap (λ l. set l place new) view ∙ fills_here before m place i rule kids kid chunk new is again to at in
    record {
      filled = record { set = λ r others found. ap (λ l. set l place new) view ∙ fills_here before m place i r others kid chunk new is again to found };
      trees = subst (λ l. StoresKid (store_of before) (store_of l) m i kid) (sym now) (stores_kid before m rule i kids kid at);
      numbers = ap numbers_in now ∙ numbers_with before m.0 set_to;
      count = (let total = count_with before m.0 set_to (has_of_node before m (rule, kids) at) in let all = ap node_count_in now in let size = length-set nodes m.1 (rule, set kids i kid) in omega (arith, total, all, size));
    }

pub fill_store : (chunks : List Chunk) (slots : List ℕ) (count : ℕ) (m : Ref) (place i : ℕ) (kid : Kid) (chunk new : Chunk) → IsStore chunks slots count → IsHiddenAt chunks m i → IsPlaceOf chunks m.0 place → chunk ≡ get_or chunks place chunk → SetsInChunk chunk new m.1 i kid → IsStore (set chunks place new) slots count
fill_store chunks slots count m place i kid chunk new store (rule, kids, at, hidden) is read to =
    let nodes = nodes_in chunks m.0 in
    let size = length-set nodes m.1 (rule, set kids i kid) in
    still_store chunks (set chunks place new) slots count count m.0 (set nodes m.1 (rule, set kids i kid)) store (has_of_node chunks m (rule, kids) at)
    (fills_here chunks m place i rule kids kid chunk new is read to at) (omega (arith, size))

-- ---- more chunks

get_append_cases : (xs ys : List ℕ) (i x : ℕ) → slice_get (xs ++ ys) i ≡ Some x → (slice_get xs i ≡ Some x) ⊎ ((j : ℕ) × (i ≡ length xs + j) × (slice_get ys j ≡ Some x))
get_append_cases [] ys i x at = inr (i, omega arith, at)
get_append_cases (y ∷ xs) ys zero x at = inl at
get_append_cases (y ∷ xs) ys (suc i) x at = elim (get_append_cases xs ys i x at) as (λ _. (slice_get (y ∷ xs) (suc i) ≡ Some x) ⊎ ((j : ℕ) × (suc i ≡ length (y ∷ xs) + j) × (slice_get ys j ≡ Some x))) [
  | inl left ↦ inl left
  | inr right ↦ inr (right.0, (let same = right.1 in omega (arith, same)), right.2)
]

distinct_append : (xs ys : List ℕ) → AreDistinct xs → AreDistinct ys → ((i j x : ℕ) → slice_get xs i ≡ Some x → slice_get ys j ≡ Some x → ⊥) → AreDistinct (xs ++ ys)
distinct_append xs ys one two apart i j x here there = elim (get_append_cases xs ys i x here) as (λ _. i ≡ j) [
  | inl left ↦ elim (get_append_cases xs ys j x there) as (λ _. i ≡ j) [
    | inl other ↦ one i j x left other
    | inr other ↦ absurd (apart i other.0 x left other.2)
  ]
  | inr right ↦ elim (get_append_cases xs ys j x there) as (λ _. i ≡ j) [
    | inl other ↦ absurd (apart j right.0 x other right.2)
    | inr other ↦ (let same = two right.0 other.0 x right.2 other.2 in let first = right.1 in let second = other.1 in omega (arith, same, first, second))
  ]
]

numbers-append : (chunks others : List Chunk) → numbers_in (chunks ++ others) ≡ numbers_in chunks ++ numbers_in others
numbers-append chunks others = map-append (λ (c : Chunk). c.0) chunks others

pub distinct_both : (chunks others : List Chunk) (slots more : List ℕ) → IsIndexOf slots (numbers_in chunks) → IsIndexOf more (numbers_in others) → AreApart chunks others → AreDistinct (numbers_in (chunks ++ others))
distinct_both chunks others slots more one two apart =
    subst AreDistinct (sym (numbers-append chunks others))
    (distinct_append (numbers_in chunks) (numbers_in others) (once_in slots (numbers_in chunks) one) (once_in more (numbers_in others) two)
    (λ i j x here there. apart x (contained_at (numbers_in chunks) x i here) (contained_at (numbers_in others) x j there)))

pub distinct_more : (chunks : List Chunk) (number : ℕ) (slots : List ℕ) → IsIndexOf slots (numbers_in chunks) → (HasChunk chunks number → ⊥) → AreDistinct (numbers_in (chunks ++ (number, []) ∷ []))
distinct_more chunks number slots one fresh =
    subst AreDistinct (sym (numbers-append chunks ((number, []) ∷ [])))
    (distinct_append (numbers_in chunks) (number ∷ []) (once_in slots (numbers_in chunks) one) (single number)
    (λ i j x here there. fresh (subst (HasChunk chunks) (sym (only number j x there)) (contained_at (numbers_in chunks) x i here))))
  where
    only : (number j x : ℕ) → slice_get (number ∷ []) j ≡ Some x → number ≡ x
    only number zero x at = same_Some number x at
    only number (suc j) x at = absurd (cc)

    single : (number : ℕ) → AreDistinct (number ∷ [])
    single number zero zero x here there = refl
    single number zero (suc j) x here there = absurd (cc)
    single number (suc i) j x here there = absurd (cc)

-- the chunks that come have slots
pub room_append : (chunks others : List Chunk) (slots more : List ℕ) → IsIndexOf more (numbers_in others) → length more ≤ length slots → HaveSlots slots (length chunks) (numbers_in (chunks ++ others))
room_append chunks others slots more two fits place number after at =
    let found = subst (λ l. slice_get l place ≡ Some number) (numbers-append chunks others) at in
    elim (get_append_cases (numbers_in chunks) (numbers_in others) place number found) as (λ _. number < length slots) [
      | inl left ↦ absurd (let less = slice_get_within (numbers_in chunks) place number left in let size = length-map chunks (λ (c : Chunk). c.0) in omega (arith, less, size, after))
      | inr right ↦ (let less = slice_get_within more number (right.0 + 1) (two.to_slot right.0 number right.2) in omega (arith, less, fits))
    ]

pub room_more : (chunks : List Chunk) (number : ℕ) (slots : List ℕ) → number + 1 ≤ length slots → HaveSlots slots (length chunks) (numbers_in (chunks ++ (number, []) ∷ []))
room_more chunks number slots fits place n after at =
    let found = subst (λ l. slice_get l place ≡ Some n) (numbers-append chunks ((number, []) ∷ [])) at in
    elim (get_append_cases (numbers_in chunks) (number ∷ []) place n found) as (λ _. n < length slots) [
      | inl left ↦ absurd (let less = slice_get_within (numbers_in chunks) place n left in let size = length-map chunks (λ (c : Chunk). c.0) in omega (arith, less, size, after))
      | inr right ↦ (let same = only number right.0 n right.2 in omega (arith, same, fits))
    ]
  where
    only : (number j x : ℕ) → slice_get (number ∷ []) j ≡ Some x → number ≡ x
    only number zero x at = same_Some number x at
    only number (suc j) x at = absurd (cc)

pub has_more : (chunks : List Chunk) (number : ℕ) → HasChunk (chunks ++ (number, []) ∷ []) number
has_more chunks number =
    subst (λ l. Contains {X = ℕ} l number) (sym (numbers-append chunks ((number, []) ∷ [])))
    (contained_at (numbers_in chunks ++ number ∷ []) number (length (numbers_in chunks)) (slice_get_last (numbers_in chunks) number))
