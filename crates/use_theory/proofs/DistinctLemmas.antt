-- Each node is used once, step by step.
use Rattle.std.proofs.Common.{◌≡◌, ◌≢◌, ℕ, zero, suc, ◌+◌, ◌<◌, ◌≤◌, ◌⊎◌, inl, inr, List, [], ◌∷◌, ◌++◌, replicate, Contains, Option, Some, None, refl, sym, ap, ◌∙◌, subst, arith}
use Rattle.node_data.specs.declared.kid.Kid.{Kid}
use Rattle.node_data.specs.declared.kid.Kid.TheVariants.{Hidden}
use Rattle.tree_theory.specs.Stores.{Ref, Store}
use Rattle.tree_theory.specs.Walks.{Step, Enter, Leave}
use Rattle.tree_theory.proofs.ShownLemmas.{some_pair}
use Rattle.use_theory.specs.Counts.{count_in, times}
use Rattle.use_theory.specs.Fills.{holes, Filled}
use Rattle.use_theory.specs.Distinct.{IsDistinct, Renews, Unites, around, RenewedLaw, GrownLaw, FilledLaw, UnitedLaw}
use Rattle.use_theory.proofs.CountLemmas.{same_cases, same_self, same_zero, count-append, times-append}

-- ---- one node changes

none_not_some : {X : Type 0} {x : X} → ◌≡◌ {A = Option X} None (Some x) → ⊥
none_not_some e = cc

-- a node is this one or another
pub one_or_other : (P : Ref → Type 0) (m : Ref) → P m → ((n : Ref) → n ≢ m → P n) → (n : Ref) → P n
one_or_other P m here there n = elim (same_cases n m) as (λ _. P n) [ inl same ↦ subst P (sym same.1) here | inr other ↦ there n other.1 ]

pub renewed : {store new : Store} {m : Ref} {floors floors1 : List Ref} {steps steps1 : List Step} → Renews store new m floors floors1 steps steps1 → IsDistinct store floors steps → IsDistinct new floors1 steps1
renewed {store} {new} {m} {floors} {floors1} {steps} {steps1} by was = record {
  once = one_or_other (λ n. times n steps1 ≤ 1) m (let one = by.walk in omega (arith, one)) (λ n not. let same = by.walk_others n not in let less = was.once n in omega (arith, same, less));
  used = one_or_other (λ n. (r : ℕ) (kids : List Kid) → new n ≡ Some (r, kids) → 0 < times n steps1) m (λ r kids at. let one = by.walk in omega (arith, one))
      (λ n not r kids at. let same = by.walk_others n not in let some = was.used n r kids (sym (by.others n not) ∙ at) in omega (arith, same, some));
  there = one_or_other (λ n. 0 < times n steps1 → new n ≢ None) m (λ some none. none_not_some (sym none ∙ by.is))
      (λ n not some none. let same = by.walk_others n not in was.there n (omega (arith, same, some)) (sym (by.others n not) ∙ none));
  hidden = one_or_other (λ n. (r : ℕ) (kids : List Kid) → new n ≡ Some (r, kids) → Contains {X = Kid} kids Hidden → 0 < count_in n floors1) m
      (λ r kids at has. by.hidden (subst (λ l. Contains {X = Kid} l Hidden) (some_pair (sym at ∙ by.is)).1 has))
      (λ n not r kids at has. let same = by.floor_others n not in let some = was.hidden n r kids (sym (by.others n not) ∙ at) has in omega (arith, same, some));
  within = one_or_other (λ n. count_in n floors1 ≤ times n steps1) m (let one = by.walk in let most = by.floor in omega (arith, one, most))
      (λ n not. let same = by.walk_others n not in let floor = by.floor_others n not in let less = was.within n in omega (arith, same, floor, less));
}

pub renewed_law : RenewedLaw
renewed_law store new m floors floors1 steps steps1 by was = renewed by was

-- ---- a node is put around entries

pub holes_enter : (n m : Ref) (from hidden : ℕ) → times n (holes m from hidden) ≡ 0
holes_enter n m from zero = refl
holes_enter n m from (suc hidden) = holes_enter n m (suc from) hidden

pub around_times : (n m : Ref) (hidden : ℕ) (steps : List Step) → times n (around m hidden steps) ≡ times n (Enter m ∷ []) + times n steps
around_times n m hidden steps =
    let all = times-append n (holes m 0 hidden ++ steps) (Leave m ∷ []) in
    let parts = times-append n (holes m 0 hidden) steps in
    let none = holes_enter n m 0 hidden in
    omega (arith, all, parts, none)

parts_times : (n : Ref) (front inner after : List Step) → times n (front ++ (inner ++ after)) ≡ times n front + (times n inner + times n after)
parts_times n front inner after = let one = times-append n front (inner ++ after) in let two = times-append n inner after in omega (arith, one, two)

not_there : {store : Store} {floors : List Ref} {steps : List Step} (m : Ref) → IsDistinct store floors steps → store m ≡ None → times m steps ≡ 0
not_there {steps = steps} m was none = by (times m steps) refl
  where
    by : (k : ℕ) → times m steps ≡ k → times m steps ≡ 0
    by zero e = e
    by (suc k) e = absurd (was.there m (omega (arith, e)) none)

pub grown_law : GrownLaw
grown_law store new m r hidden kids floors floors1 front inner after none is others floor floor_others has was = renewed (record {
  rule = r;
  kids = kids;
  is = is;
  others = others;
  walk = (let zero_before = not_there m was none in let before = parts_times m front inner after in let now = parts_times m front (around m hidden inner) after in let more = around_times m m hidden inner in let one = same_self m in omega (arith, zero_before, before, now, more, one));
  walk_others = λ n not. (let before = parts_times n front inner after in let now = parts_times n front (around m hidden inner) after in let more = around_times n m hidden inner in let no = same_zero n m not in omega (arith, before, now, more, no));
  floor = floor;
  floor_others = floor_others;
  hidden = has;
}) was

-- ---- hidden kids are filled

-- such a walk enters what both walks enter
pub filled_times : {m : Ref} {still filled : ℕ} {inner steps steps1 : List Step} → Filled m still filled inner steps steps1 → (n : Ref) → times n steps1 ≡ times n inner + times n steps
filled_times {m} {still} {filled} {inner} {steps} {steps1} by n =
    let tail = holes m 0 still ++ (holes m still filled ++ by.back) in
    let tail1 = holes m 0 still ++ (inner ++ by.back) in
    let was = ap (times n) by.before ∙ times-append n by.front (Enter m ∷ tail) in
    let now = ap (times n) by.after ∙ times-append n by.front (Enter m ∷ tail1) in
    let first = times-append n (Enter m ∷ []) tail in
    let first1 = times-append n (Enter m ∷ []) tail1 in
    let two = parts_times n (holes m 0 still) (holes m still filled) by.back in
    let two1 = parts_times n (holes m 0 still) inner by.back in
    let none = holes_enter n m 0 still in
    let none1 = holes_enter n m still filled in
    omega (arith, was, now, first, first1, two, two1, none, none1)

four_times : (n : Ref) (front keep inner steps after : List Step) → times n (front ++ ((keep ++ inner) ++ (steps ++ after))) ≡ times n front + times n keep + times n inner + times n steps + times n after
four_times n front keep inner steps after =
    let one = times-append n front ((keep ++ inner) ++ (steps ++ after)) in
    let two = times-append n (keep ++ inner) (steps ++ after) in
    let three = times-append n keep inner in
    let four = times-append n steps after in
    omega (arith, one, two, three, four)

three_times : (n : Ref) (front keep steps after : List Step) → times n (front ++ (keep ++ (steps ++ after))) ≡ times n front + times n keep + times n steps + times n after
three_times n front keep steps after =
    let one = times-append n front (keep ++ (steps ++ after)) in
    let two = times-append n keep (steps ++ after) in
    let three = times-append n steps after in
    omega (arith, one, two, three)

pub filled_law : FilledLaw
filled_law store new m still kids floors floors1 front keep inner steps steps1 after part by some floor floor_others has was = renewed (record {
  rule = part.rule;
  kids = replicate still Hidden ++ (kids ++ part.further);
  is = part.after;
  others = part.others;
  walk = (let before = four_times m front keep inner steps after in let now = three_times m front keep steps1 after in let same = filled_times by m in let once = was.once m in omega (arith, before, now, same, once, some));
  walk_others = λ n not. (let before = four_times n front keep inner steps after in let now = three_times n front keep steps1 after in let same = filled_times by n in omega (arith, before, now, same));
  floor = floor;
  floor_others = floor_others;
  hidden = has;
}) was

-- ---- two stores

-- a node of a store with each node used once is counted there, and others are not
united : (first second new : Store) (floors floors1 : List Ref) (steps steps1 : List Step) → Unites first second new → IsDistinct first floors steps → IsDistinct second floors1 steps1 → IsDistinct new (floors ++ floors1) (steps ++ steps1)
united first second new floors floors1 steps steps1 by left right = record {
  once = λ m. once m (times m steps) (times m steps1) refl refl;
  used = λ m r kids at. used m r kids at (by.each m (λ none. none_not_some (sym none ∙ at)));
  there = λ m some. there m some (times m steps) refl;
  hidden = λ m r kids at has. hidden m r kids at has (by.each m (λ none. none_not_some (sym none ∙ at)));
  within = λ m. (let sum = times-append m steps steps1 in let floor = count-append m floors floors1 in let one = left.within m in let two = right.within m in omega (arith, sum, floor, one, two));
}
  where
    once : (m : Ref) (a b : ℕ) → times m steps ≡ a → times m steps1 ≡ b → times m (steps ++ steps1) ≤ 1
    once m zero b e f = let sum = times-append m steps steps1 in let less = right.once m in omega (arith, sum, less, e)
    once m (suc a) zero e f = let sum = times-append m steps steps1 in let less = left.once m in omega (arith, sum, less, f)
    once m (suc a) (suc b) e f = absurd (by.apart m (left.there m (omega (arith, e))) (right.there m (omega (arith, f))))

    used : (m : Ref) (r : ℕ) (kids : List Kid) → new m ≡ Some (r, kids) → (first m ≢ None) ⊎ (second m ≢ None) → 0 < times m (steps ++ steps1)
    used m r kids at (inl one) = let some = left.used m r kids (sym (by.of_first m one) ∙ at) in let sum = times-append m steps steps1 in omega (arith, some, sum)
    used m r kids at (inr two) = let some = right.used m r kids (sym (by.of_second m two) ∙ at) in let sum = times-append m steps steps1 in omega (arith, some, sum)

    there : (m : Ref) → 0 < times m (steps ++ steps1) → (a : ℕ) → times m steps ≡ a → new m ≢ None
    there m some zero e none = let sum = times-append m steps steps1 in let is = right.there m (omega (arith, some, sum, e)) in is (sym (by.of_second m is) ∙ none)
    there m some (suc a) e none = let is = left.there m (omega (arith, e)) in is (sym (by.of_first m is) ∙ none)

    hidden : (m : Ref) (r : ℕ) (kids : List Kid) → new m ≡ Some (r, kids) → Contains {X = Kid} kids Hidden → (first m ≢ None) ⊎ (second m ≢ None) → 0 < count_in m (floors ++ floors1)
    hidden m r kids at has (inl one) = let some = left.hidden m r kids (sym (by.of_first m one) ∙ at) has in let sum = count-append m floors floors1 in omega (arith, some, sum)
    hidden m r kids at has (inr two) = let some = right.hidden m r kids (sym (by.of_second m two) ∙ at) has in let sum = count-append m floors floors1 in omega (arith, some, sum)

pub united_law : UnitedLaw
united_law first second new floors floors1 steps steps1 by left right = united first second new floors floors1 steps steps1 by left right
