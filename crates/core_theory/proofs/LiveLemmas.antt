-- Collections of ranges in which each leaf stands as often as it is to.
use Rattle.std.proofs.Common.{◌≡◌, ℕ, zero, suc, ◌+◌, ◌<◌, ◌≤◌, ◌^◌, ◌⊎◌, inl, inr, ⊎_elim, Bool, true, false, not, cond, List, [], ◌∷◌, ◌++◌, All, Contains, get_or, refl, sym, ap, ◌∙◌, arith}
use Rattle.std.specs.List.{AllPairs, remove}
use Rattle.std.specs.List.Sorted.{IsPermutation}
use Rattle.std.proofs.lemmas.Bool.{cases_lt, cases_order, lt-ltb, le-leb, and_from, cond-true}
use Rattle.std.proofs.lemmas.Bool.Decides.{nat_tests}
use Rattle.std.proofs.lemmas.List.Elements.{All-cons, All-tail}
use Rattle.std.proofs.lemmas.List.Kept.{AllPairs-cons}
use Rattle.std.proofs.lemmas.List.Sorted.{IsPermutation-remove, All-permutation, Contains-permutation, sum_by-IsPermutation}
use Rattle.std.proofs.lemmas.List.Sums.{sum_by-cons, sum_by-append, get_or-le-sum_by}
use Rattle.core_theory.specs.Tree.{Range, leaf_range, left_part, right_part, part_of, IsRange, IsParent, IsApart}
use Rattle.core_theory.specs.Core.{has_leaf, times_held}
use Rattle.core_theory.specs.Events.{raised}
use Rattle.core_theory.proofs.TreeLemmas.{leaf_law}

-- ---- one range

-- 1 where the range has the leaf, else 0
abbrev pub once_in : ℕ → Range → ℕ
once_in leaf range = cond (has_leaf leaf range) 1 0

pub in_range : (leaf : ℕ) (range : Range) → range.first ≤ leaf → leaf < range.last → once_in leaf range ≡ 1
in_range leaf range from upto = cond-true (has_leaf leaf range) 1 0 (and_from _ _ (le-leb _ _ from) (lt-ltb _ _ upto))

pub before_range : (leaf : ℕ) (range : Range) → leaf < range.first → once_in leaf range ≡ 0
before_range leaf range below = grind (arith, nat_tests)

pub after_range : (leaf : ℕ) (range : Range) → range.last ≤ leaf → once_in leaf range ≡ 0
after_range leaf range above = grind (arith, nat_tests)

-- a node has the leaves of its parts, each once
pub parts_once : (leaf : ℕ) {leaves : ℕ} {range node : Range} {is_left : Bool} → IsParent leaves range node is_left → once_in leaf node ≡ once_in leaf range + once_in leaf (part_of node (not is_left))
parts_once leaf {leaves} {range} {node} {is_left} parent = ap (λ n. n) (split_once is_left parent.inner.split ∙ ap (λ r. once_in leaf r + once_in leaf (part_of node (not is_left))) (sym parent.part))
  where
    halves : node.first + 2 ≤ node.last → once_in leaf node ≡ once_in leaf (left_part node) + once_in leaf (right_part node)
    halves split = grind (arith, nat_tests)

    split_once : (side : Bool) → node.first + 2 ≤ node.last → once_in leaf node ≡ once_in leaf (part_of node side) + once_in leaf (part_of node (not side))
    split_once true split = halves split
    split_once false split = let e = halves split in omega (arith, e)

-- ---- collections

pub times-cons : (leaf : ℕ) (range : Range) (ranges : List Range) → times_held (range ∷ ranges) leaf ≡ once_in leaf range + times_held ranges leaf
times-cons leaf range ranges = sum_by-cons (once_in leaf) range ranges

pub times-append : (leaf : ℕ) (ranges others : List Range) → times_held (ranges ++ others) leaf ≡ times_held ranges leaf + times_held others leaf
times-append leaf ranges others = sum_by-append (once_in leaf) ranges others

pub times-permutation : (leaf : ℕ) {ranges others : List Range} → IsPermutation ranges others → times_held others leaf ≡ times_held ranges leaf
times-permutation leaf {ranges} {others} same = sum_by-IsPermutation (once_in leaf) ranges others same

pub times_member : (leaf : ℕ) (ranges : List Range) {range : Range} → Contains ranges range → range.first ≤ leaf → leaf < range.last → 1 ≤ times_held ranges leaf
times_member leaf ranges {range} (k, inside, at) from upto =
    let least : once_in leaf (get_or ranges k range) ≤ times_held ranges leaf = get_or-le-sum_by (once_in leaf) ranges k range inside in
    let here : once_in leaf (get_or ranges k range) ≡ 1 = ap (once_in leaf) at ∙ in_range leaf range from upto in
    omega (arith, least, here)

pub member_cases : (x : Range) (xs : List Range) {y : Range} → Contains (x ∷ xs) y → (y ≡ x) ⊎ Contains xs y
member_cases x xs (zero, inside, at) = inl (sym at)
member_cases x xs (suc k, inside, at) = inr (k, omega (arith, inside), at)

pub member_first : (x : Range) (xs : List Range) → Contains (x ∷ xs) x
member_first x xs = (0, omega arith, refl)

pub member_later : (x : Range) (xs : List Range) {y : Range} → Contains xs y → Contains (x ∷ xs) y
member_later x xs (k, inside, at) = (suc k, omega (arith, inside), at)

pub no_member : {y : Range} → Contains [] y → ⊥
no_member (k, inside, at) = omega (arith, inside)

-- a member can be put first
pub taken_out : {ranges : List Range} {range : Range} → Contains ranges range → (rest : List Range) × IsPermutation ranges (range ∷ rest)
taken_out {ranges} {range} (k, inside, at) = (remove ranges k, IsPermutation-remove ranges k range inside (sym at))

-- ---- each leaf once

pub record HoldsOnce (leaves counter : ℕ) (ranges : List Range) : Type 0 where
  pub few : leaves < 2 ^ 64
  pub all : All (IsRange leaves) ranges
  pub once : (leaf : ℕ) → leaf < counter → leaf < leaves → times_held ranges leaf ≡ 1
  pub none : (leaf : ℕ) → (counter ≤ leaf) ⊎ (leaves ≤ leaf) → times_held ranges leaf ≡ 0

pub at_most_once : {leaves counter : ℕ} {ranges : List Range} → HoldsOnce leaves counter ranges → (leaf : ℕ) → times_held ranges leaf ≤ 1
at_most_once {leaves} {counter} {ranges} holds leaf =
    ⊎_elim
    (λ below. ⊎_elim (λ inside. omega (arith, holds.once leaf below inside)) (λ outside. omega (arith, holds.none leaf (inr outside))) (cases_lt leaf leaves))
    (λ above. omega (arith, holds.none leaf (inl above)))
    (cases_lt leaf counter)

pub holds_permutation : {leaves counter : ℕ} {ranges others : List Range} → HoldsOnce leaves counter ranges → IsPermutation ranges others → HoldsOnce leaves counter others
holds_permutation {leaves} {counter} {ranges} {others} holds same = record {
  few = holds.few;
  all = All-permutation (IsRange leaves) ranges others same holds.all;
  once = λ leaf below inside. times-permutation leaf same ∙ holds.once leaf below inside;
  none = λ leaf out. times-permutation leaf same ∙ holds.none leaf out;
}

-- a claim without a leaf
pub holds_raised : {leaves counter : ℕ} {ranges : List Range} → HoldsOnce leaves counter ranges → leaves ≤ counter → HoldsOnce leaves (raised counter) ranges
holds_raised {leaves} {counter} {ranges} holds past =
    let few : leaves < 2 ^ 64 = holds.few in
    record {
      few = holds.few;
      all = holds.all;
      once = λ leaf below inside. holds.once leaf (omega (arith, past, inside)) inside;
      none = λ leaf out. holds.none leaf (⊎_elim (λ above. inr (omega (arith, few, past, above))) (λ outside. inr outside) out);
    }

-- a claim with a leaf
pub holds_claimed : {leaves counter : ℕ} {ranges : List Range} → HoldsOnce leaves counter ranges → counter < leaves → HoldsOnce leaves (raised counter) (leaf_range counter ∷ ranges)
holds_claimed {leaves} {counter} {ranges} holds inside =
    let few : leaves < 2 ^ 64 = holds.few in
    record {
      few = holds.few;
      all = All-cons (IsRange leaves) (leaf_range counter) ranges (leaf_law leaves counter inside) holds.all;
      once = λ leaf below within. times-cons leaf (leaf_range counter) ranges ∙ ⊎_elim
          (λ same. let here = in_range leaf (leaf_range counter) (omega (arith, same)) (omega (arith, same)) in let rest = holds.none leaf (inl (omega (arith, same))) in omega (arith, here, rest))
          (λ differ. ⊎_elim
          (λ less. let here = before_range leaf (leaf_range counter) less in let rest = holds.once leaf less within in omega (arith, here, rest))
          (λ more. absurd (omega (arith, few, inside, more, below)))
          differ)
          (cases_order leaf counter);
      none = λ leaf out.
          let above : counter < leaf = ⊎_elim (λ up. omega (arith, few, inside, up)) (λ up. omega (arith, inside, up)) out in
          let here = after_range leaf (leaf_range counter) (omega (arith, above)) in
          let rest = holds.none leaf (inl (omega (arith, above))) in
          times-cons leaf (leaf_range counter) ranges ∙ omega (arith, here, rest);
    }

-- a node in place of its two parts
pub holds_joined : {leaves counter : ℕ} {range node : Range} {is_left : Bool} {ranges others : List Range} → HoldsOnce leaves counter ranges → IsParent leaves range node is_left → IsPermutation (node ∷ ranges) (range ∷ part_of node (not is_left) ∷ others) → HoldsOnce leaves counter others
holds_joined {leaves} {counter} {range} {node} {is_left} {ranges} {others} holds parent same =
    let sibling = part_of node (not is_left) in
    let count : (leaf : ℕ) → times_held others leaf ≡ times_held ranges leaf = λ leaf.
    let sum = times-permutation leaf same in
    let before = times-cons leaf node ranges in
    let after = times-cons leaf range (sibling ∷ others) in
    let later = times-cons leaf sibling others in
    let parts = parts_once leaf parent in
    omega (arith, sum, before, after, later, parts) in
    let whole = All-permutation (IsRange leaves) (node ∷ ranges) (range ∷ sibling ∷ others) same (All-cons (IsRange leaves) node ranges parent.inner.range holds.all) in
    record {
      few = holds.few;
      all = All-tail (IsRange leaves) sibling others (All-tail (IsRange leaves) range (sibling ∷ others) whole);
      once = λ leaf below inside. count leaf ∙ holds.once leaf below inside;
      none = λ leaf out. count leaf ∙ holds.none leaf out;
    }

-- two members with a leaf in common are one
pub alone : {leaves counter : ℕ} {ranges : List Range} {range other : Range} → HoldsOnce leaves counter ranges → Contains ranges range → Contains ranges other → (leaf : ℕ) → range.first ≤ leaf → leaf < range.last → other.first ≤ leaf → leaf < other.last → other ≡ range
alone {ranges = ranges} {range = range} {other = other} holds has too leaf from upto from1 upto1 =
    let out = taken_out has in
    ⊎_elim (λ same. same)
    (λ later.
    let sum = times-permutation leaf out.1 in
    let first = times-cons leaf range out.0 in
    let here = in_range leaf range from upto in
    let more = times_member leaf out.0 later from1 upto1 in
    let most = at_most_once holds leaf in
    absurd (omega (arith, sum, first, here, more, most)))
    (member_cases range out.0 (Contains-permutation ranges (range ∷ out.0) other out.1 too))

-- and stand in one place
pub not_twice : {leaves counter : ℕ} (ranges others : List Range) {range : Range} → HoldsOnce leaves counter (ranges ++ others) → Contains ranges range → Contains others range → range.first < range.last → ⊥
not_twice ranges others {range} holds has too some =
    let sum = times-append range.first ranges others in
    let first = times_member range.first ranges has (omega arith) some in
    let second = times_member range.first others too (omega arith) some in
    let most = at_most_once holds range.first in
    omega (arith, sum, first, second, most)

-- members have no leaf in common
pub apart_by_times : (ranges : List Range) → ((leaf : ℕ) → times_held ranges leaf ≤ 1) → AllPairs IsApart ranges
apart_by_times [] most = λ i j d before inside. absurd (omega (arith, inside))
apart_by_times (range ∷ ranges) most =
    AllPairs-cons IsApart range ranges
    (λ k d inside. record {
      apart = λ leaf from upto from1. ⊎_elim (λ h. h)
          (λ upto1.
          let first = times-cons leaf range ranges in
          let here = in_range leaf range from upto in
          let least = get_or-le-sum_by (once_in leaf) ranges k d inside in
          let there = in_range leaf (get_or ranges k d) from1 upto1 in
          absurd (omega (arith, first, here, least, there, most leaf)))
          (cases_gt (get_or ranges k d).last leaf);
    })
    (apart_by_times ranges (λ leaf. omega (arith, times-cons leaf range ranges, most leaf)))
  where
    cases_gt : (a b : ℕ) → (a ≤ b) ⊎ (b < a)
    cases_gt a b = ⊎_elim (λ h. inr h) (λ h. inl h) (cases_lt b a)
