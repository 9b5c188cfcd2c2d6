-- Each event keeps a covered state covered.
use Rattle.std.proofs.Common.{◌≡◌, ◌↔◌, ℕ, ◌+◌, ◌<◌, ◌≤◌, ◌⊎◌, inl, inr, ⊎_elim, Bool, true, false, not, cond, List, [], ◌∷◌, ◌++◌, length, All, Contains, Option, Some, None, refl, sym, ap, ◌∙◌, subst, arith, append_assoc, append-nil, eqb, eq-eqb}
use Rattle.std.specs.List.Sorted.{IsPermutation}
use Rattle.std.proofs.lemmas.Bool.{cases_lt, cases_eq, cases_Bool, true≢false, false≢true, cond-true, cond-false, ne_eqb}
use Rattle.std.proofs.lemmas.List.Elements.{All-contains, All-nil, Contains-append_left, Contains-append_right}
use Rattle.std.proofs.lemmas.List.Sorted.{IsPermutation-sym, IsPermutation-trans, IsPermutation-cons, IsPermutation-append, IsPermutation-middle, IsPermutation-refl, Contains-permutation, length_permutation}
use Rattle.core_theory.specs.Tree.{Range, whole_range, leaf_range, boundary_of, left_part, right_part, part_of, IsRange, IsNode, IsParent, IsWithin}
use Rattle.core_theory.specs.Core.{CoreState, word_of, live_ranges, times_held, IsCovered}
use Rattle.core_theory.specs.Events.{raised, KeepsWords, SetsWord, Claims, ArrivesFirst, ArrivesSecond, Finishes}
use Rattle.core_theory.specs.Runs.{Claimed, CameFirst, CameSecond, Finished}
use Rattle.core_theory.specs.Laws.{StartLaw, StepLaw, ReorderLaw, SiblingLaw, ApartLaw, DoneLaw}
use Rattle.core_theory.proofs.TreeLemmas.{range_inside, boundary_inside, within_trans, within_itself, part_leaf, not_within, nested, one_node, one_parent}
use Rattle.core_theory.proofs.LiveLemmas.{times-cons, times_member, in_range, member_cases, member_first, member_later, no_member, HoldsOnce, at_most_once, holds_permutation, holds_raised, holds_claimed, holds_joined, alone, not_twice, apart_by_times}

-- ---- the parts of a covered state

abbrev pub LiesIn : List Range → Range → Type 0
LiesIn ranges node = (range : Range) × Contains ranges range × IsWithin node range

abbrev pub PartIn : List Range → Range → Type 0
PartIn ranges node = Contains ranges (left_part node) ⊎ Contains ranges (right_part node)

abbrev ended_ranges : Bool → ℕ → List Range
ended_ranges done leaves = cond done (whole_range leaves ∷ []) []

pub covered_holds : {s : CoreState} → IsCovered s → HoldsOnce s.leaves s.counter (live_ranges s)
covered_holds covered = record { few = covered.few; all = covered.ranges; once = covered.once; none = covered.none }

-- a state that is covered but for another name of the number of its leaves
record IsCoveredBy (leaves : ℕ) (s : CoreState) : Type 0 where
  holds : HoldsOnce leaves s.counter (live_ranges s)
  words : (node : Range) → IsNode leaves node → word_of s (boundary_of node) ≡ true ↔ (PartIn s.waiting node ⊎ LiesIn (live_ranges s) node)
  one_part : (node : Range) → IsNode leaves node → ¬ (Contains s.waiting (left_part node) × Contains s.waiting (right_part node))
  not_whole : ¬ Contains s.waiting (whole_range leaves)
  ended : s.done ≡ true → (s.carried ≡ []) × (s.waiting ≡ [])

covered_named : {leaves : ℕ} {s : CoreState} → s.leaves ≡ leaves → IsCoveredBy leaves s → IsCovered s
covered_named {leaves} {s} same by =
    let here : IsCoveredBy s.leaves s = subst (λ n. IsCoveredBy n s) (sym same) by in
    record {
      few = here.holds.few;
      ranges = here.holds.all;
      once = here.holds.once;
      none = here.holds.none;
      words = here.words;
      one_part = here.one_part;
      not_whole = here.not_whole;
      ended = here.ended;
    }

node_boundary : {leaves : ℕ} {node : Range} → IsNode leaves node → (0 < boundary_of node) × (boundary_of node < leaves)
node_boundary {leaves} {node} is =
    let inside = boundary_inside node is.split in
    let whole = range_inside is.range in
    (omega (arith, inside.0), omega (arith, inside.1, whole.upto))

kept_word : (before after : CoreState) {node : Range} → KeepsWords before after → IsNode before.leaves node → word_of after (boundary_of node) ≡ word_of before (boundary_of node)
kept_word before after keeps is = let b = node_boundary is in keeps _ b.0 b.1

words_kept : {b c : Bool} {P Q : Type 0} → (b ≡ true ↔ P) → c ≡ b → (P → Q) → (Q → P) → (c ≡ true ↔ Q)
words_kept iff same forth back = (λ set. forth (iff.0 (sym same ∙ set)), λ why. same ∙ iff.1 (back why))

-- ---- collections in another order

pub contains_there : {ranges others : List Range} {range : Range} → IsPermutation ranges others → Contains ranges range → Contains others range
contains_there {ranges} {others} {range} same has = Contains-permutation ranges others range same has

pub contains_back : {ranges others : List Range} {range : Range} → IsPermutation ranges others → Contains others range → Contains ranges range
contains_back {ranges} {others} {range} same has = Contains-permutation others ranges range (IsPermutation-sym ranges others same) has

pub lies_there : {ranges others : List Range} {node : Range} → IsPermutation ranges others → LiesIn ranges node → LiesIn others node
lies_there same (range, has, within) = (range, contains_there same has, within)

part_in_there : {ranges others : List Range} (node : Range) → IsPermutation ranges others → PartIn ranges node → PartIn others node
part_in_there node same why = ⊎_elim (λ has. inl (contains_there same has)) (λ has. inr (contains_there same has)) why

nil_permutation : (ranges : List Range) → IsPermutation [] ranges → ranges ≡ []
nil_permutation [] same = refl
nil_permutation (range ∷ ranges) same = absurd (omega (arith, length_permutation [] (range ∷ ranges) same))

nil_there : {ranges others : List Range} → IsPermutation ranges others → ranges ≡ [] → others ≡ []
nil_there {ranges} {others} same nil = nil_permutation others (subst (λ l. IsPermutation l others) nil same)

no_cons : {ranges others : List Range} {range : Range} → IsPermutation ranges (range ∷ others) → ranges ≡ [] → ⊥
no_cons {ranges} {others} {range} same nil = let length_of = length_permutation ranges (range ∷ others) same in let none : length ranges ≡ 0 = ap length nil in omega (arith, length_of, none)

-- the live ranges of two states whose ends are the same
pub live_kept : (before after : CoreState) {carried waiting : List Range} → after.done ≡ before.done → after.leaves ≡ before.leaves → IsPermutation carried after.carried → IsPermutation waiting after.waiting → IsPermutation ((carried ++ waiting) ++ ended_ranges before.done before.leaves) (live_ranges after)
live_kept before after {carried} {waiting} same_done same_leaves same_carried same_waiting =
    let P : List Range → Type 0 = λ l. IsPermutation ((carried ++ waiting) ++ l) (live_ranges after) in
    let e : ended_ranges after.done after.leaves ≡ ended_ranges before.done before.leaves = λ i. ended_ranges (same_done i) (same_leaves i) in
    subst P e (IsPermutation-append _ _ _ _ (IsPermutation-append _ _ _ _ same_carried same_waiting) (IsPermutation-refl _))

-- ---- what a covered state gives

pub whole_live : (s : CoreState) → s.done ≡ true → Contains (live_ranges s) (whole_range s.leaves)
whole_live s done =
    let P : Bool → Type 0 = λ b. Contains ((s.carried ++ s.waiting) ++ ended_ranges b s.leaves) (whole_range s.leaves) in
    subst P (sym done) (Contains-append_right (s.carried ++ s.waiting) (whole_range s.leaves ∷ []) (whole_range s.leaves) (member_first (whole_range s.leaves) []))

pub done_law : DoneLaw
done_law s covered done = ⊎_elim
    (λ more.
    let none = covered.none s.counter (inl (omega arith)) in
    let some = times_member s.counter (live_ranges s) (whole_live s done) (omega arith) more in
    absurd (omega (arith, none, some)))
    (λ past. past)
    (cases_lt s.counter s.leaves)

pub carried_live : (s : CoreState) {range : Range} → Contains s.carried range → Contains (live_ranges s) range
carried_live s {range} has = Contains-append_left (s.carried ++ s.waiting) (ended_ranges s.done s.leaves) range (Contains-append_left s.carried s.waiting range has)

pub waiting_live : (s : CoreState) {range : Range} → Contains s.waiting range → Contains (live_ranges s) range
waiting_live s {range} has = Contains-append_left (s.carried ++ s.waiting) (ended_ranges s.done s.leaves) range (Contains-append_right s.carried s.waiting range has)

-- a carried part's node doesn't lie within a live range
pub node_not_live : {s : CoreState} {range node : Range} {is_left : Bool} → IsCovered s → Contains s.carried range → IsParent s.leaves range node is_left → LiesIn (live_ranges s) node → ⊥
node_not_live {s} {range} {node} covered has parent (live, live_has, within) =
    let leaf = part_leaf parent in
    let same : live ≡ range = alone (covered_holds covered) (carried_live s has) live_has range.first (omega arith) leaf.0 (omega (arith, leaf.1.from, within.from)) (omega (arith, leaf.0, leaf.1.upto, within.upto)) in
    not_within parent (subst (IsWithin node) same within)

-- and does not wait
carried_not_waiting : {s : CoreState} {range : Range} → IsCovered s → Contains s.carried range → Contains s.waiting range → range.first < range.last → ⊥
carried_not_waiting {s} {range} covered has waits some =
    let P : List Range → Type 0 = λ l. HoldsOnce s.leaves s.counter l in
    not_twice s.carried (s.waiting ++ ended_ranges s.done s.leaves) (subst P (append_assoc s.carried s.waiting (ended_ranges s.done s.leaves)) (covered_holds covered)) has (Contains-append_left s.waiting (ended_ranges s.done s.leaves) range waits) some

other_part : (waiting : List Range) {range node : Range} (is_left : Bool) → range ≡ part_of node is_left → (Contains waiting range → ⊥) → PartIn waiting node → Contains waiting (part_of node (not is_left))
other_part waiting true is not_here why = ⊎_elim (λ left. absurd (not_here (subst (Contains waiting) (sym is) left))) (λ right. right) why
other_part waiting false is not_here why = ⊎_elim (λ left. left) (λ right. absurd (not_here (subst (Contains waiting) (sym is) right))) why

pub sibling_law : SiblingLaw
sibling_law s range node is_left covered has parent set =
    ⊎_elim
    (λ waits. other_part s.waiting is_left parent.part (λ here. carried_not_waiting covered has here (part_leaf parent).0) waits)
    (λ lies. absurd (node_not_live covered has parent lies))
    ((covered.words node parent.inner).0 set)

pub apart_law : ApartLaw
apart_law s covered = apart_by_times (live_ranges s) (at_most_once (covered_holds covered))

-- ---- a start

pub start_law : StartLaw
start_law leaves s few start =
    let live : live_ranges s ≡ [] = λ i. (start.carried i ++ start.waiting i) ++ ended_ranges (start.done i) s.leaves in
    covered_named start.count (record {
      holds = record {
        few = few;
        all = subst (All (IsRange leaves)) (sym live) (All-nil (IsRange leaves));
        once = λ leaf below inside. absurd (omega (arith, start.counter, below));
        none = λ leaf out. ap (λ l. times_held l leaf) live;
      };
      words = λ node is. let b = node_boundary is in (
        λ set. absurd (true≢false (sym set ∙ start.words (boundary_of node) b.0 b.1)),
        λ why. absurd (⊎_elim
            (λ waits. ⊎_elim (λ has. no_member (subst (λ l. Contains l (left_part node)) start.waiting has)) (λ has. no_member (subst (λ l. Contains l (right_part node)) start.waiting has)) waits)
            (λ lies. no_member (subst (λ l. Contains l lies.0) live lies.1))
            why),
      );
      one_part = λ node is both. no_member (subst (λ l. Contains l (left_part node)) start.waiting both.0);
      not_whole = λ has. no_member (subst (λ l. Contains l (whole_range leaves)) start.waiting has);
      ended = λ done. absurd (true≢false (sym done ∙ start.done));
    })

-- ---- another order

pub reorder_law : ReorderLaw
reorder_law before after covered same =
    let live : IsPermutation (live_ranges before) (live_ranges after) = live_kept before after same.done same.leaves same.carried same.waiting in
    let holds : HoldsOnce before.leaves before.counter (live_ranges after) = holds_permutation (covered_holds covered) live in
    covered_named same.leaves (record {
      holds = subst (λ n. HoldsOnce before.leaves n (live_ranges after)) (sym same.counter) holds;
      words = λ node is. words_kept (covered.words node is) (kept_word before after same.words is)
          (λ why. ⊎_elim (λ waits. inl (part_in_there node same.waiting waits)) (λ lies. inr (lies_there live lies)) why)
          (λ why. ⊎_elim (λ waits. inl (part_in_there node (IsPermutation-sym _ _ same.waiting) waits)) (λ lies. inr (lies_there (IsPermutation-sym _ _ live) lies)) why);
      one_part = λ node is both. covered.one_part node is (contains_back same.waiting both.0, contains_back same.waiting both.1);
      not_whole = λ has. covered.not_whole (contains_back same.waiting has);
      ended = λ done. let none = covered.ended (sym same.done ∙ done) in (nil_there same.carried none.0, nil_there same.waiting none.1);
    })

-- ---- a claim

no_node_in_leaf : (leaf : ℕ) {node : Range} → node.first + 2 ≤ node.last → IsWithin node (leaf_range leaf) → ⊥
no_node_in_leaf leaf split within = omega (arith, split, within.from, within.upto)

pub claimed_lies : (leaf : ℕ) (ranges : List Range) {leaves : ℕ} {node : Range} → IsNode leaves node → LiesIn (leaf_range leaf ∷ ranges) node → LiesIn ranges node
claimed_lies leaf ranges {leaves} {node} is (range, has, within) = ⊎_elim
    (λ same. absurd (no_node_in_leaf leaf is.split (subst (IsWithin node) same within)))
    (λ later. (range, later, within))
    (member_cases (leaf_range leaf) ranges has)

claim_step : (before : CoreState) (found : Option ℕ) (after : CoreState) → IsCovered before → Claims before found after → IsCovered after
claim_step before None after covered claim =
    let live : IsPermutation (live_ranges before) (live_ranges after) = live_kept before after claim.done claim.leaves claim.carried claim.waiting in
    let past : before.leaves ≤ before.counter = ⊎_elim (λ more. absurd (claim.answer more)) (λ h. h) (cases_lt before.counter before.leaves) in
    let holds : HoldsOnce before.leaves (raised before.counter) (live_ranges after) = holds_raised (holds_permutation (covered_holds covered) live) past in
    covered_named claim.leaves (record {
      holds = subst (λ n. HoldsOnce before.leaves n (live_ranges after)) (sym claim.counter) holds;
      words = λ node is. words_kept (covered.words node is) (kept_word before after claim.words is)
          (λ why. ⊎_elim (λ waits. inl (part_in_there node claim.waiting waits)) (λ lies. inr (lies_there live lies)) why)
          (λ why. ⊎_elim (λ waits. inl (part_in_there node (IsPermutation-sym _ _ claim.waiting) waits)) (λ lies. inr (lies_there (IsPermutation-sym _ _ live) lies)) why);
      one_part = λ node is both. covered.one_part node is (contains_back claim.waiting both.0, contains_back claim.waiting both.1);
      not_whole = λ has. covered.not_whole (contains_back claim.waiting has);
      ended = λ done. let none = covered.ended (sym claim.done ∙ done) in (nil_there claim.carried none.0, nil_there claim.waiting none.1);
    })
claim_step before (Some leaf) after covered claim =
    let here : IsPermutation (leaf_range leaf ∷ live_ranges before) (live_ranges after) = live_kept before after claim.done claim.leaves claim.carried claim.waiting in
    let inside : before.counter < before.leaves = claim.answer.0 in
    let at : leaf ≡ before.counter = claim.answer.1 in
    let live : IsPermutation (leaf_range before.counter ∷ live_ranges before) (live_ranges after) = subst (λ n. IsPermutation (leaf_range n ∷ live_ranges before) (live_ranges after)) at here in
    let holds : HoldsOnce before.leaves (raised before.counter) (live_ranges after) = holds_permutation (holds_claimed (covered_holds covered) inside) live in
    covered_named claim.leaves (record {
      holds = subst (λ n. HoldsOnce before.leaves n (live_ranges after)) (sym claim.counter) holds;
      words = λ node is. words_kept (covered.words node is) (kept_word before after claim.words is)
          (λ why. ⊎_elim (λ waits. inl (part_in_there node claim.waiting waits)) (λ lies. inr (lies.0, contains_there here (member_later (leaf_range leaf) (live_ranges before) lies.1), lies.2)) why)
          (λ why. ⊎_elim (λ waits. inl (part_in_there node (IsPermutation-sym _ _ claim.waiting) waits)) (λ lies. inr (claimed_lies leaf (live_ranges before) is (lies_there (IsPermutation-sym _ _ here) lies))) why);
      one_part = λ node is both. covered.one_part node is (contains_back claim.waiting both.0, contains_back claim.waiting both.1);
      not_whole = λ has. covered.not_whole (contains_back claim.waiting has);
      ended = λ done. let past = done_law before covered (sym claim.done ∙ done) in absurd (omega (arith, past, inside));
    })

-- ---- words that are set

set_word : (before after : CoreState) (boundary : ℕ) {node : Range} → SetsWord boundary before after → IsNode before.leaves node → boundary_of node ≡ boundary → word_of after (boundary_of node) ≡ true
set_word before after boundary {node} sets is same =
    let b = node_boundary is in
    sets (boundary_of node) b.0 b.1 ∙ cond-true (eqb (boundary_of node) boundary) true (word_of before (boundary_of node)) (eq-eqb _ _ same)

other_word : (before after : CoreState) (boundary : ℕ) {node : Range} → SetsWord boundary before after → IsNode before.leaves node → (boundary_of node ≡ boundary → ⊥) → word_of after (boundary_of node) ≡ word_of before (boundary_of node)
other_word before after boundary {node} sets is differs =
    let b = node_boundary is in
    sets (boundary_of node) b.0 b.1 ∙ cond-false (eqb (boundary_of node) boundary) true (word_of before (boundary_of node)) (ne_eqb _ _ differs)

-- the parts of a node
pub part_is_parent : {leaves : ℕ} {node : Range} → IsNode leaves node → (is_left : Bool) → IsParent leaves (part_of node is_left) node is_left
part_is_parent is is_left = record { inner = is; part = refl }

-- a part of another node isn't a part of this one
not_its_part : {leaves : ℕ} {range node other : Range} {is_left : Bool} → IsParent leaves range node is_left → IsNode leaves other → (boundary_of other ≡ boundary_of node → ⊥) → (side : Bool) → part_of other side ≡ range → ⊥
not_its_part {leaves} {range} {node} {other} {is_left} parent is differs side same =
    let there : IsParent leaves range other side = record { inner = is; part = sym same } in
    differs (ap boundary_of (one_parent there parent).0)

-- ---- a first arrival

pub first_live : (before after : CoreState) {range node : Range} {is_left : Bool} → ArrivesFirst before range node is_left after → IsPermutation (live_ranges before) (live_ranges after)
first_live before after {range} first =
    let e = ended_ranges before.done before.leaves in
    let taken : IsPermutation (live_ranges before) (range ∷ ((after.carried ++ before.waiting) ++ e)) = IsPermutation-append _ _ _ _ (IsPermutation-append _ _ _ _ first.carried (IsPermutation-refl before.waiting)) (IsPermutation-refl e) in
    let middle : IsPermutation ((after.carried ++ range ∷ before.waiting) ++ e) (range ∷ ((after.carried ++ before.waiting) ++ e)) = IsPermutation-append _ _ _ _ (IsPermutation-middle after.carried range before.waiting) (IsPermutation-refl e) in
    let left : IsPermutation ((after.carried ++ range ∷ before.waiting) ++ e) (live_ranges after) = live_kept before after first.done first.leaves (IsPermutation-refl after.carried) first.waiting in
    IsPermutation-trans _ _ _ taken (IsPermutation-trans _ _ _ (IsPermutation-sym _ _ middle) left)

-- a part of another node that waits after a first arrival waited before
still_waits : {leaves : ℕ} {range node other : Range} {is_left : Bool} {before after : List Range} → IsParent leaves range node is_left → IsPermutation (range ∷ before) after → IsNode leaves other → (boundary_of other ≡ boundary_of node → ⊥) → (side : Bool) → Contains after (part_of other side) → Contains before (part_of other side)
still_waits {range = range} {other = other} {before = before} parent waiting is differs side has = ⊎_elim
    (λ same. absurd (not_its_part parent is differs side same))
    (λ later. later)
    (member_cases range before (contains_back waiting has))

-- a part of the node itself that waits after it is the range that came, where none waited before
it_waits : {range part : Range} {before after : List Range} → IsPermutation (range ∷ before) after → (Contains before part → ⊥) → Contains after part → part ≡ range
it_waits {range} {part} {before} waiting none has = ⊎_elim (λ same. same) (λ later. absurd (none later)) (member_cases range before (contains_back waiting has))

-- no part waits where the word is unset
none_waits : {s : CoreState} {node : Range} → IsCovered s → IsNode s.leaves node → word_of s (boundary_of node) ≡ false → PartIn s.waiting node → ⊥
none_waits {s} {node} covered is unset why = false≢true (sym unset ∙ (covered.words node is).1 (inl why))

parts_differ : {leaves : ℕ} {node range : Range} → IsNode leaves node → left_part node ≡ range → right_part node ≡ range → ⊥
parts_differ {leaves} {node} {range} is left right =
    let here : IsParent leaves range node true = record { inner = is; part = sym left } in
    let there : IsParent leaves range node false = record { inner = is; part = sym right } in
    true≢false (one_parent here there).1

part_waits : (waiting : List Range) {range node : Range} (is_left : Bool) → range ≡ part_of node is_left → Contains waiting range → PartIn waiting node
part_waits waiting true same has = inl (subst (λ r. Contains waiting r) same has)
part_waits waiting false same has = inr (subst (λ r. Contains waiting r) same has)

not_all : {leaves : ℕ} {range node : Range} {is_left : Bool} → IsParent leaves range node is_left → range ≡ whole_range leaves → ⊥
not_all {leaves} {range} {node} parent same =
    let inside = range_inside parent.inner.range in
    not_within parent (record { from = let first : range.first ≡ 0 = ap (λ r. r.first) same in omega (arith, first); upto = let last : range.last ≡ leaves = ap (λ r. r.last) same in omega (arith, last, inside.upto) })

first_step : (before : CoreState) (range node : Range) (is_left : Bool) (after : CoreState) → IsCovered before → ArrivesFirst before range node is_left after → IsCovered after
first_step before range node is_left after covered first =
    let live = first_live before after first in
    let none : PartIn before.waiting node → ⊥ = none_waits covered first.parent.inner first.unset in
    let holds : HoldsOnce before.leaves before.counter (live_ranges after) = holds_permutation (covered_holds covered) live in
    covered_named first.leaves (record {
      holds = subst (λ n. HoldsOnce before.leaves n (live_ranges after)) (sym first.counter) holds;
      words = λ other is. ⊎_elim
          (λ same.
          let one : other ≡ node = one_node is first.parent.inner same in
          let waits : PartIn after.waiting other = subst (PartIn after.waiting) (sym one) (part_waits after.waiting is_left first.parent.part (contains_there first.waiting (member_first range before.waiting))) in
          (λ _. inl waits, λ _. set_word before after (boundary_of node) first.words is same))
          (λ differs. words_kept (covered.words other is) (other_word before after (boundary_of node) first.words is differs)
          (λ why. ⊎_elim
          (λ waits. inl (⊎_elim (λ has. inl (contains_there first.waiting (member_later range before.waiting has))) (λ has. inr (contains_there first.waiting (member_later range before.waiting has))) waits))
          (λ lies. inr (lies_there live lies)) why)
          (λ why. ⊎_elim
          (λ waits. inl (⊎_elim (λ has. inl (still_waits first.parent first.waiting is differs true has)) (λ has. inr (still_waits first.parent first.waiting is differs false has)) waits))
          (λ lies. inr (lies_there (IsPermutation-sym _ _ live) lies)) why))
          (cases_eq (boundary_of other) (boundary_of node));
      one_part = λ other is both. ⊎_elim
          (λ same.
          let one : other ≡ node = one_node is first.parent.inner same in
          let none_here : PartIn before.waiting other → ⊥ = λ why. none (subst (PartIn before.waiting) one why) in
          parts_differ is (it_waits first.waiting (λ has. none_here (inl has)) both.0) (it_waits first.waiting (λ has. none_here (inr has)) both.1))
          (λ differs. covered.one_part other is (still_waits first.parent first.waiting is differs true both.0, still_waits first.parent first.waiting is differs false both.1))
          (cases_eq (boundary_of other) (boundary_of node));
      not_whole = λ has. ⊎_elim (λ same. not_all first.parent (sym same)) (λ later. covered.not_whole later) (member_cases range before.waiting (contains_back first.waiting has));
      ended = λ done. absurd (no_cons first.carried (covered.ended (sym first.done ∙ done)).0);
    })

-- ---- a second arrival

-- the node, with what was live, is its two parts and what is live
second_live : (before after : CoreState) {range node : Range} {is_left : Bool} → ArrivesSecond before range node is_left after → IsPermutation (node ∷ live_ranges before) (range ∷ part_of node (not is_left) ∷ live_ranges after)
second_live before after {range} {node} {is_left} second =
    let sibling = part_of node (not is_left) in
    let e = ended_ranges before.done before.leaves in
    let taken : IsPermutation (node ∷ live_ranges before) (range ∷ ((after.carried ++ sibling ∷ after.waiting) ++ e)) = IsPermutation-append _ _ _ _ (IsPermutation-append _ _ _ _ second.carried second.waiting) (IsPermutation-refl e) in
    let middle : IsPermutation ((after.carried ++ sibling ∷ after.waiting) ++ e) (sibling ∷ ((after.carried ++ after.waiting) ++ e)) = IsPermutation-append _ _ _ _ (IsPermutation-middle after.carried sibling after.waiting) (IsPermutation-refl e) in
    let left : IsPermutation ((after.carried ++ after.waiting) ++ e) (live_ranges after) = live_kept before after second.done second.leaves (IsPermutation-refl after.carried) (IsPermutation-refl after.waiting) in
    IsPermutation-trans _ _ _ taken (IsPermutation-cons range _ _ (IsPermutation-trans _ _ _ middle (IsPermutation-cons sibling _ _ left)))

sibling_parent : {leaves : ℕ} {range node : Range} {is_left : Bool} → IsParent leaves range node is_left → IsParent leaves (part_of node (not is_left)) node (not is_left)
sibling_parent {is_left = is_left} parent = part_is_parent parent.inner (not is_left)

node_differs : {leaves : ℕ} {range node : Range} {is_left : Bool} → IsParent leaves range node is_left → node ≡ range → ⊥
node_differs {node = node} parent same = not_within parent (subst (IsWithin node) same within_itself)

-- the node is live then
pub node_live : (before after : CoreState) {range node : Range} {is_left : Bool} → ArrivesSecond before range node is_left after → Contains (live_ranges after) node
node_live before after {range} {node} {is_left} second =
    let sibling = part_of node (not is_left) in
    ⊎_elim (λ same. absurd (node_differs second.parent same))
    (λ more. ⊎_elim (λ same. absurd (node_differs (sibling_parent second.parent) same)) (λ later. later) (member_cases sibling (live_ranges after) more))
    (member_cases range (sibling ∷ live_ranges after) (contains_there (second_live before after second) (member_first node (live_ranges before))))

-- the range that came was carried
pub came_carried : (before after : CoreState) {range node : Range} {is_left : Bool} → ArrivesSecond before range node is_left after → Contains before.carried range
came_carried before after {range} {node} second = ⊎_elim
    (λ same. absurd (node_differs second.parent (sym same)))
    (λ later. later)
    (member_cases node before.carried (contains_back second.carried (member_first range after.carried)))

side_cases : (side is_left : Bool) → (side ≡ is_left) ⊎ (side ≡ not is_left)
side_cases true true = inl refl
side_cases true false = inr refl
side_cases false true = inr refl
side_cases false false = inl refl

-- another node within this one lies within one of its parts
in_a_part : {leaves : ℕ} {node other : Range} → IsNode leaves node → IsNode leaves other → IsWithin other node → (boundary_of other ≡ boundary_of node → ⊥) → (side : Bool) × IsWithin other (part_of node side)
in_a_part {leaves} {node} {other} is too within differs =
    let inside = range_inside too.range in
    ⊎_elim (λ same. absurd (differs (ap boundary_of same)))
    (λ more. ⊎_elim
    (λ upper. absurd (not_within (part_is_parent upper.1 upper.0) (within_trans within upper.2)))
    (λ lower. (lower.0, lower.2))
    more)
    (nested other.first too.range is.range (omega arith) inside.some (omega (arith, within.from)) (omega (arith, inside.some, within.upto)))

-- the other nodes that lie within live ranges are the same before and after
pub lies_after : (before after : CoreState) {range node other : Range} {is_left : Bool} → ArrivesSecond before range node is_left after → LiesIn (live_ranges before) other → LiesIn (live_ranges after) other
lies_after before after {range} {node} {other} {is_left} second (live, has, within) =
    let sibling = part_of node (not is_left) in
    ⊎_elim
    (λ same. (node, node_live before after second, within_trans (subst (IsWithin other) same within) (part_leaf second.parent).1))
    (λ more. ⊎_elim
    (λ same. (node, node_live before after second, within_trans (subst (IsWithin other) same within) (part_leaf (sibling_parent second.parent)).1))
    (λ later. (live, later, within))
    (member_cases sibling (live_ranges after) more))
    (member_cases range (sibling ∷ live_ranges after) (contains_there (second_live before after second) (member_later node (live_ranges before) has)))

pub lies_before : (before after : CoreState) {range node other : Range} {is_left : Bool} → ArrivesSecond before range node is_left after → IsNode before.leaves other → (boundary_of other ≡ boundary_of node → ⊥) → LiesIn (live_ranges after) other → LiesIn (live_ranges before) other
lies_before before after {range} {node} {other} {is_left} second is differs (live, has, within) =
    let sibling = part_of node (not is_left) in
    let there : Contains (node ∷ live_ranges before) live = contains_back (second_live before after second) (member_later range (sibling ∷ live_ranges after) (member_later sibling (live_ranges after) has)) in
    ⊎_elim
    (λ same.
    let half = in_a_part second.parent.inner is (subst (IsWithin other) same within) differs in
    ⊎_elim
    (λ here. (range, carried_live before (came_carried before after second), subst (IsWithin other) (ap (part_of node) here ∙ sym second.parent.part) half.1))
    (λ there. (sibling, waiting_live before (contains_back second.waiting (member_first sibling after.waiting)), subst (IsWithin other) (ap (part_of node) there) half.1))
    (side_cases half.0 is_left))
    (λ later. (live, later, within))
    (member_cases node (live_ranges before) there)

-- a part of another node that waited before it waits still
waits_still : {leaves : ℕ} {range node other : Range} {is_left : Bool} {before after : List Range} → IsParent leaves range node is_left → IsPermutation before (range ∷ after) → IsNode leaves other → (boundary_of other ≡ boundary_of node → ⊥) → (side : Bool) → Contains before (part_of other side) → Contains after (part_of other side)
waits_still {range = range} {after = after} parent waiting is differs side has = ⊎_elim
    (λ same. absurd (not_its_part parent is differs side same))
    (λ later. later)
    (member_cases range after (contains_there waiting has))

waited : {sibling part : Range} {before after : List Range} → IsPermutation before (sibling ∷ after) → Contains after part → Contains before part
waited {sibling} {part} {before} {after} waiting has = contains_back waiting (member_later sibling after has)

second_step : (before : CoreState) (range node : Range) (is_left : Bool) (after : CoreState) → IsCovered before → ArrivesSecond before range node is_left after → IsCovered after
second_step before range node is_left after covered second =
    let sibling = part_of node (not is_left) in
    let holds : HoldsOnce before.leaves before.counter (live_ranges after) = holds_joined (covered_holds covered) second.parent (second_live before after second) in
    covered_named second.leaves (record {
      holds = subst (λ n. HoldsOnce before.leaves n (live_ranges after)) (sym second.counter) holds;
      words = λ other is. ⊎_elim
          (λ same.
          let one : other ≡ node = one_node is second.parent.inner same in
          let word : word_of after (boundary_of other) ≡ true = kept_word before after second.words is ∙ ap (word_of before) same ∙ second.set in
          (λ _. inr (node, node_live before after second, subst (λ n. IsWithin n node) (sym one) within_itself), λ _. word))
          (λ differs. words_kept (covered.words other is) (kept_word before after second.words is)
          (λ why. ⊎_elim
          (λ waits. inl (⊎_elim (λ has. inl (waits_still (sibling_parent second.parent) second.waiting is differs true has)) (λ has. inr (waits_still (sibling_parent second.parent) second.waiting is differs false has)) waits))
          (λ lies. inr (lies_after before after second lies)) why)
          (λ why. ⊎_elim
          (λ waits. inl (⊎_elim (λ has. inl (waited second.waiting has)) (λ has. inr (waited second.waiting has)) waits))
          (λ lies. inr (lies_before before after second is differs lies)) why))
          (cases_eq (boundary_of other) (boundary_of node));
      one_part = λ other is both. covered.one_part other is (waited second.waiting both.0, waited second.waiting both.1);
      not_whole = λ has. covered.not_whole (waited second.waiting has);
      ended = λ done. absurd (no_member (subst (λ l. Contains l range) (covered.ended (sym second.done ∙ done)).0 (came_carried before after second)));
    })

-- ---- the end

finish_not_done : (before after : CoreState) → IsCovered before → Finishes before after → before.done ≡ false
finish_not_done before after covered finish = ⊎_elim (λ done. absurd (no_cons finish.carried (covered.ended done).0)) (λ not_done. not_done) (cases_Bool before.done)

pub finish_live : (before after : CoreState) → IsCovered before → Finishes before after → IsPermutation (live_ranges before) (live_ranges after)
finish_live before after covered finish =
    let all = whole_range before.leaves in
    let none : ended_ranges before.done before.leaves ≡ [] = ap (λ b. ended_ranges b before.leaves) (finish_not_done before after covered finish) in
    let one : ended_ranges after.done after.leaves ≡ all ∷ [] = (λ i. ended_ranges (finish.done i) (finish.leaves i)) in
    let taken : IsPermutation ((before.carried ++ before.waiting) ++ []) (all ∷ ((after.carried ++ after.waiting) ++ [])) = IsPermutation-append _ _ _ _ (IsPermutation-append _ _ _ _ finish.carried finish.waiting) (IsPermutation-refl []) in
    let middle : IsPermutation ((after.carried ++ after.waiting) ++ all ∷ []) (all ∷ ((after.carried ++ after.waiting) ++ [])) = IsPermutation-middle (after.carried ++ after.waiting) all [] in
    let P : List Range → Type 0 = λ l. IsPermutation ((before.carried ++ before.waiting) ++ l) (live_ranges after) in
    let Q : List Range → Type 0 = λ l. IsPermutation ((before.carried ++ before.waiting) ++ []) ((after.carried ++ after.waiting) ++ l) in
    subst P (sym none) (subst Q (sym one) (IsPermutation-trans _ _ _ taken (IsPermutation-sym _ _ middle)))

-- beside the range of all leaves nothing is live
nothing_beside : {leaves counter : ℕ} (front : Range) (ranges : List Range) → HoldsOnce leaves counter (whole_range leaves ∷ ranges) → ranges ≡ []
nothing_beside {leaves} {counter} front [] holds = refl
nothing_beside {leaves} {counter} front (range ∷ ranges) holds =
    let inside = range_inside (All-contains (IsRange leaves) (whole_range leaves ∷ range ∷ ranges) range holds.all (member_later (whole_range leaves) (range ∷ ranges) (member_first range ranges))) in
    let first = times-cons range.first (whole_range leaves) (range ∷ ranges) in
    let here = in_range range.first (whole_range leaves) (omega arith) (omega (arith, inside.some, inside.upto)) in
    let more = times_member range.first (range ∷ ranges) (member_first range ranges) (omega arith) inside.some in
    let most = at_most_once holds range.first in
    absurd (omega (arith, first, here, more, most))

append_nothing : (xs ys : List Range) → xs ++ ys ≡ [] → (xs ≡ []) × (ys ≡ [])
append_nothing [] ys e = (refl, e)
append_nothing (x ∷ xs) ys e = absurd (cc)

finish_step : (before after : CoreState) → IsCovered before → Finishes before after → IsCovered after
finish_step before after covered finish =
    let all = whole_range before.leaves in
    let live = finish_live before after covered finish in
    let holds : HoldsOnce before.leaves before.counter (live_ranges after) = holds_permutation (covered_holds covered) live in
    let one : ended_ranges after.done after.leaves ≡ all ∷ [] = (λ i. ended_ranges (finish.done i) (finish.leaves i)) in
    let middle : IsPermutation ((after.carried ++ after.waiting) ++ all ∷ []) (all ∷ ((after.carried ++ after.waiting) ++ [])) = IsPermutation-middle (after.carried ++ after.waiting) all [] in
    let front : HoldsOnce before.leaves before.counter (all ∷ ((after.carried ++ after.waiting) ++ [])) = holds_permutation (subst (λ l. HoldsOnce before.leaves before.counter ((after.carried ++ after.waiting) ++ l)) one holds) middle in
    let nothing = append_nothing after.carried after.waiting (sym (append-nil (after.carried ++ after.waiting)) ∙ nothing_beside all ((after.carried ++ after.waiting) ++ []) front) in
    covered_named finish.leaves (record {
      holds = subst (λ n. HoldsOnce before.leaves n (live_ranges after)) (sym finish.counter) holds;
      words = λ node is. words_kept (covered.words node is) (kept_word before after finish.words is)
          (λ why. ⊎_elim (λ waits. inl (part_in_there node finish.waiting waits)) (λ lies. inr (lies_there live lies)) why)
          (λ why. ⊎_elim (λ waits. inl (part_in_there node (IsPermutation-sym _ _ finish.waiting) waits)) (λ lies. inr (lies_there (IsPermutation-sym _ _ live) lies)) why);
      one_part = λ node is both. covered.one_part node is (contains_back finish.waiting both.0, contains_back finish.waiting both.1);
      not_whole = λ has. covered.not_whole (contains_back finish.waiting has);
      ended = λ done. nothing;
    })

pub step_law : StepLaw
step_law before (Claimed found) after covered claim = claim_step before found after covered claim
step_law before (CameFirst range node is_left) after covered first = first_step before range node is_left after covered first
step_law before (CameSecond range node is_left) after covered second = second_step before range node is_left after covered second
step_law before Finished after covered finish = finish_step before after covered finish
