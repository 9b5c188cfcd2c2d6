-- Runs from a start: covered states, each leaf claimed once, each boundary joined once.
use Rattle.std.proofs.Common.{◌≡◌, ℕ, ◌+◌, ◌<◌, ◌≤◌, ◌^◌, inl, inr, ⊎_elim, cond, List, [], ◌∷◌, ◌++◌, Contains, Some, None, refl, sym, ap, ◌∙◌, subst, arith, append_assoc, append-nil, eqb, eq-eqb}
use Rattle.std.specs.List.Sorted.{IsPermutation}
use Rattle.std.proofs.lemmas.Bool.{cases_lt, cases_order, cases_eq, cond-true, cond-false, ne_eqb}
use Rattle.std.proofs.lemmas.List.Sorted.{IsPermutation-sym, IsPermutation-append_comm, sum_by-IsPermutation}
use Rattle.std.proofs.lemmas.List.Sums.{sum_by-cons, sum_by-append}
use Rattle.core_theory.specs.Tree.{Range, whole_range, leaf_range, boundary_of, IsNode, IsWithin}
use Rattle.core_theory.specs.Core.{CoreState, live_ranges, IsCovered}
use Rattle.core_theory.specs.Runs.{IsStart, Event, Claimed, CameFirst, CameSecond, Finished, IsStep, IsRun, begin, step, claimed_by, leaves_claimed, joined_by, boundaries_joined}
use Rattle.core_theory.specs.Laws.{times_in, ClaimsOnce, JoinsOnce, CoveredRunLaw, ClaimStepLaw, ClaimRunLaw, JoinStepLaw, JoinRunLaw, WholeRunLaw}
use Rattle.core_theory.proofs.TreeLemmas.{range_inside, within_itself, one_node, some_node_law}
use Rattle.core_theory.proofs.LiveLemmas.{member_later, no_member}
use Rattle.core_theory.proofs.CoverLemmas.{LiesIn, lies_there, contains_there, claimed_lies, live_kept, whole_live, node_not_live, came_carried, node_live, lies_after, lies_before, first_live, finish_live, start_law, step_law, done_law}

-- ---- covered states

pub step_leaves : (before : CoreState) (event : Event) (after : CoreState) → IsStep before event after → after.leaves ≡ before.leaves
step_leaves before (Claimed found) after claim = claim.leaves
step_leaves before (CameFirst range node is_left) after first = first.leaves
step_leaves before (CameSecond range node is_left) after second = second.leaves
step_leaves before Finished after finish = finish.leaves

pub run_leaves : {start : CoreState} {events : List Event} {s : CoreState} → IsRun start events s → s.leaves ≡ start.leaves
run_leaves begin = refl
run_leaves (step {before = before} {after = after} event run made) = step_leaves before event after made ∙ run_leaves run

pub covered_run : {start : CoreState} {events : List Event} {s : CoreState} → IsCovered start → IsRun start events s → IsCovered s
covered_run covered begin = covered
covered_run covered (step {before = before} {after = after} event run made) = step_law before event after (covered_run covered run) made

pub covered_run_law : CoveredRunLaw
covered_run_law leaves start events s few is run = covered_run (start_law leaves start few is) run

-- ---- lists of numbers

times-append : (number : ℕ) (xs ys : List ℕ) → times_in number (xs ++ ys) ≡ times_in number xs + times_in number ys
times-append number xs ys = sum_by-append (λ other. cond (eqb other number) 1 0) xs ys

times_one : (number other : ℕ) → times_in number (other ∷ []) ≡ cond (eqb other number) 1 0
times_one number other = let e = sum_by-cons (λ n. cond (eqb n number) 1 0) other [] in omega (arith, e)

times_same : (number other : ℕ) → other ≡ number → times_in number (other ∷ []) ≡ 1
times_same number other same = times_one number other ∙ cond-true (eqb other number) 1 0 (eq-eqb _ _ same)

times_other : (number other : ℕ) → (other ≡ number → ⊥) → times_in number (other ∷ []) ≡ 0
times_other number other differs = times_one number other ∙ cond-false (eqb other number) 1 0 (ne_eqb _ _ differs)

claimed-push : (events : List Event) (event : Event) → leaves_claimed (events ++ event ∷ []) ≡ leaves_claimed events ++ claimed_by event
claimed-push [] event = append-nil (claimed_by event)
claimed-push (first ∷ events) event = ap (λ l. claimed_by first ++ l) (claimed-push events event) ∙ sym (append_assoc (claimed_by first) (leaves_claimed events) (claimed_by event))

joined-push : (events : List Event) (event : Event) → boundaries_joined (events ++ event ∷ []) ≡ boundaries_joined events ++ joined_by event
joined-push [] event = append-nil (joined_by event)
joined-push (first ∷ events) event = ap (λ l. joined_by first ++ l) (joined-push events event) ∙ sym (append_assoc (joined_by first) (boundaries_joined events) (joined_by event))

-- a list that takes up what an event did
taken_up : (number : ℕ) (news numbers : List ℕ) {more : List ℕ} → IsPermutation (news ++ numbers) more → times_in number more ≡ times_in number news + times_in number numbers
taken_up number news numbers {more} same = sum_by-IsPermutation (λ other. cond (eqb other number) 1 0) (news ++ numbers) more same ∙ times-append number news numbers

-- ---- claims

-- no leaf was claimed by the event, and the counter stands as before
claims_kept : (before after : CoreState) (claimed more : List ℕ) {leaf : ℕ} → ClaimsOnce before claimed leaf → times_in leaf more ≡ times_in leaf claimed → after.counter ≡ before.counter → after.leaves ≡ before.leaves → ClaimsOnce after more leaf
claims_kept before after claimed more {leaf} was sum counter leaves = record {
  claimed_leaf = λ below inside. sum ∙ was.claimed_leaf (omega (arith, counter, below)) (omega (arith, leaves, inside));
  unclaimed_leaf = λ out. sum ∙ was.unclaimed_leaf (⊎_elim (λ above. inl (omega (arith, counter, above))) (λ outside. inr (omega (arith, leaves, outside))) out);
}

nothing_claimed : (leaf : ℕ) {claimed more : List ℕ} → IsPermutation claimed more → times_in leaf more ≡ times_in leaf claimed
nothing_claimed leaf {claimed} {more} same = sum_by-IsPermutation (λ other. cond (eqb other leaf) 1 0) claimed more same

pub claim_step_law : ClaimStepLaw
claim_step_law before (Claimed None) after claimed more leaf covered claim same was =
    let few : before.leaves < 2 ^ 64 = covered.few in
    let past : before.leaves ≤ before.counter = ⊎_elim (λ up. absurd (claim.answer up)) (λ h. h) (cases_lt before.counter before.leaves) in
    let counter = claim.counter in
    let leaves = claim.leaves in
    let sum = nothing_claimed leaf same in
    record {
      claimed_leaf = λ below inside. sum ∙ was.claimed_leaf (omega (arith, past, leaves, inside)) (omega (arith, leaves, inside));
      unclaimed_leaf = λ out. sum ∙ was.unclaimed_leaf (inr (⊎_elim (λ above. omega (arith, few, past, counter, above)) (λ outside. omega (arith, leaves, outside)) out));
    }
claim_step_law before (Claimed (Some found)) after claimed more leaf covered claim same was =
    let few : before.leaves < 2 ^ 64 = covered.few in
    let inside : before.counter < before.leaves = claim.answer.0 in
    let at : found ≡ before.counter = claim.answer.1 in
    let counter : after.counter ≡ before.counter + 1 = omega (arith, claim.counter, few, inside) in
    let leaves = claim.leaves in
    let sum : times_in leaf more ≡ times_in leaf (found ∷ []) + times_in leaf claimed = taken_up leaf (found ∷ []) claimed same in
    ⊎_elim
    (λ here.
    let now = times_same leaf found (omega (arith, at, here)) in
    let none = was.unclaimed_leaf (inl (omega (arith, here))) in
    record {
      claimed_leaf = λ below within. omega (arith, sum, now, none);
      unclaimed_leaf = λ out. absurd (⊎_elim (λ above. omega (arith, counter, here, above)) (λ outside. omega (arith, leaves, here, inside, outside)) out);
    })
    (λ differ.
    let now = times_other leaf found (λ e. ⊎_elim (λ less. omega (arith, at, e, less)) (λ up. omega (arith, at, e, up)) differ) in
    record {
      claimed_leaf = λ below within. let e = was.claimed_leaf (⊎_elim (λ less. less) (λ up. absurd (omega (arith, counter, below, up))) differ) (omega (arith, leaves, within)) in omega (arith, sum, now, e);
      unclaimed_leaf = λ out. let e = was.unclaimed_leaf (⊎_elim (λ above. inl (omega (arith, counter, above))) (λ outside. inr (omega (arith, leaves, outside))) out) in omega (arith, sum, now, e);
    })
    (cases_order leaf before.counter)
claim_step_law before (CameFirst range node is_left) after claimed more leaf covered first same was = claims_kept before after claimed more was (nothing_claimed leaf same) first.counter first.leaves
claim_step_law before (CameSecond range node is_left) after claimed more leaf covered second same was = claims_kept before after claimed more was (nothing_claimed leaf same) second.counter second.leaves
claim_step_law before Finished after claimed more leaf covered finish same was = claims_kept before after claimed more was (nothing_claimed leaf same) finish.counter finish.leaves

put_last : (numbers news : List ℕ) {more : List ℕ} → more ≡ numbers ++ news → IsPermutation (news ++ numbers) more
put_last numbers news {more} e = subst (IsPermutation (news ++ numbers)) (sym e) (IsPermutation-append_comm news numbers)

claims_run : {leaves : ℕ} {start : CoreState} {events : List Event} {s : CoreState} (leaf : ℕ) → leaves < 2 ^ 64 → IsStart leaves start → IsRun start events s → ClaimsOnce s (leaves_claimed events) leaf
claims_run leaf few is begin = record { claimed_leaf = λ below inside. absurd (omega (arith, is.counter, below)); unclaimed_leaf = λ out. refl }
claims_run {leaves} {start} leaf few is (step {events = events} {before = before} {after = after} event run made) =
    claim_step_law before event after (leaves_claimed events) (leaves_claimed (events ++ event ∷ [])) leaf (covered_run (start_law leaves start few is) run) made (put_last (leaves_claimed events) (claimed_by event) (claimed-push events event)) (claims_run leaf few is run)

pub claim_run_law : ClaimRunLaw
claim_run_law leaves start events s leaf few is run = claims_run leaf few is run

-- ---- joins

-- no boundary was joined by the event, and the same nodes lie within live ranges
joins_kept : (before after : CoreState) (joined more : List ℕ) {node : Range} → JoinsOnce before joined node → times_in (boundary_of node) more ≡ times_in (boundary_of node) joined → (LiesIn (live_ranges before) node → LiesIn (live_ranges after) node) → (LiesIn (live_ranges after) node → LiesIn (live_ranges before) node) → JoinsOnce after more node
joins_kept before after joined more {node} was sum forth back = record {
  joined_node = λ lies. sum ∙ was.joined_node (back lies);
  unjoined_node = λ not_live. sum ∙ was.unjoined_node (λ lies. not_live (forth lies));
}

pub join_step_law : JoinStepLaw
join_step_law before (Claimed None) after joined more node covered is claim same was =
    let live : IsPermutation (live_ranges before) (live_ranges after) = live_kept before after claim.done claim.leaves claim.carried claim.waiting in
    joins_kept before after joined more was (nothing_claimed (boundary_of node) same) (lies_there live) (lies_there (IsPermutation-sym _ _ live))
join_step_law before (Claimed (Some found)) after joined more node covered is claim same was =
    let live : IsPermutation (leaf_range found ∷ live_ranges before) (live_ranges after) = live_kept before after claim.done claim.leaves claim.carried claim.waiting in
    joins_kept before after joined more was (nothing_claimed (boundary_of node) same)
    (λ lies. (lies.0, contains_there live (member_later (leaf_range found) (live_ranges before) lies.1), lies.2))
    (λ lies. claimed_lies found (live_ranges before) is (lies_there (IsPermutation-sym _ _ live) lies))
join_step_law before (CameFirst range other is_left) after joined more node covered is first same was =
    let live = first_live before after first in
    joins_kept before after joined more was (nothing_claimed (boundary_of node) same) (lies_there live) (lies_there (IsPermutation-sym _ _ live))
join_step_law before (CameSecond range other is_left) after joined more node covered is second same was =
    let sum : times_in (boundary_of node) more ≡ times_in (boundary_of node) (boundary_of other ∷ []) + times_in (boundary_of node) joined = taken_up (boundary_of node) (boundary_of other ∷ []) joined same in
    ⊎_elim
    (λ here.
    let one : other ≡ node = one_node second.parent.inner is here in
    let now = times_same (boundary_of node) (boundary_of other) here in
    let none = was.unjoined_node (λ lies. node_not_live covered (came_carried before after second) second.parent (subst (LiesIn (live_ranges before)) (sym one) lies)) in
    let lies : LiesIn (live_ranges after) node = (other, node_live before after second, subst (λ n. IsWithin n other) one within_itself) in
    record { joined_node = λ _. omega (arith, sum, now, none); unjoined_node = λ not_live. absurd (not_live lies) })
    (λ differs.
    let now = times_other (boundary_of node) (boundary_of other) differs in
    joins_kept before after joined more was (omega (arith, sum, now)) (λ lies. lies_after before after second lies) (λ lies. lies_before before after second is (λ e. differs (sym e)) lies))
    (cases_eq (boundary_of other) (boundary_of node))
join_step_law before Finished after joined more node covered is finish same was =
    let live = finish_live before after covered finish in
    joins_kept before after joined more was (nothing_claimed (boundary_of node) same) (lies_there live) (lies_there (IsPermutation-sym _ _ live))

nothing_live : {leaves : ℕ} {start : CoreState} {node : Range} → IsStart leaves start → LiesIn (live_ranges start) node → ⊥
nothing_live {start = start} is (range, has, within) =
    let live : live_ranges start ≡ [] = λ i. (is.carried i ++ is.waiting i) ++ cond (is.done i) (whole_range start.leaves ∷ []) [] in
    no_member (subst (λ l. Contains l range) live has)

joins_run : {leaves : ℕ} {start : CoreState} {events : List Event} {s : CoreState} (node : Range) → leaves < 2 ^ 64 → IsStart leaves start → IsRun start events s → IsNode leaves node → JoinsOnce s (boundaries_joined events) node
joins_run node few start begin is = record { joined_node = λ lies. absurd (nothing_live start lies); unjoined_node = λ _. refl }
joins_run {leaves} {start} node few begun (step {events = events} {before = before} {after = after} event run made) is =
    join_step_law before event after (boundaries_joined events) (boundaries_joined (events ++ event ∷ [])) node (covered_run (start_law leaves start few begun) run) (subst (λ n. IsNode n node) (sym (run_leaves run ∙ begun.count)) is) made (put_last (boundaries_joined events) (joined_by event) (joined-push events event)) (joins_run node few begun run is)

pub join_run_law : JoinRunLaw
join_run_law leaves start events s node few begun run is = joins_run node few begun run is

-- ---- the end

pub whole_run_law : WholeRunLaw
whole_run_law leaves start events s few begun run done =
    let count : s.leaves ≡ leaves = run_leaves run ∙ begun.count in
    let past = done_law s (covered_run (start_law leaves start few begun) run) done in (
      λ leaf inside. (claims_run leaf few begun run).claimed_leaf (omega (arith, count, past, inside)) (omega (arith, count, inside)),
      λ boundary from upto.
          let node = some_node_law leaves boundary from upto in
          let inside = range_inside node.1.range in
          let lies : LiesIn (live_ranges s) node.0 = (whole_range s.leaves, whole_live s done, record { from = omega arith; upto = omega (arith, count, inside.upto) }) in
          subst (λ b. times_in b (boundaries_joined events) ≡ 1) node.2 ((joins_run node.0 few begun run node.1).joined_node lies),
    )
