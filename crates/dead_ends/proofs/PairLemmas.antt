-- Pairs and the bits that stand for them.
use Rattle.std.proofs.Common.{◌≡◌, ◌≢◌, ℕ, ◌+◌, ◌-◌, ◌*◌, ◌/◌, ◌%◌, ◌<◌, ◌≤◌, ◌↔◌, ◌⊎◌, inl, inr, ⊎_elim, Bool, true, false, ◌==◌, ◌||◌, refl, sym, ap, ◌∙◌, subst, arith}
use Rattle.std.specs.Prelude.{Result, Ok, Err, OnErr}
use Rattle.std.proofs.lemmas.Bool.{or_cases, eqb-true, eq-eqb}
use Rattle.std.proofs.lemmas.Nat.{same_from_place, div-add-mod', mod_below, mul-le}
use Rattle.std.proofs.Math.Nat.{mul-mod_left}
use Rattle.position_sets.specs.Sets.{Has, has_place}
use Rattle.dead_ends.specs.Pairs.{Pairs, ArePairs, IsMark, IsIndex, CanKeep, Keeps, KeepSame, AreOfOneLine}

-- ---- one pair a bit, and one bit a pair
same_row : (a b step : ℕ) → 0 < step → a * step ≡ b * step → a ≡ b
same_row a b step apart same = (same_from_place a 0 b 0 step apart apart (ap (λ n. n + 0) same)).0

pub one_pair : (pairs : Pairs) (p s q t i : ℕ) → IsIndex pairs p s i → IsIndex pairs q t i → (p ≡ q) × (s ≡ t)
one_pair pairs p s q t i a b =
    let same = same_from_place a.row s b.row t pairs.states a.within b.within (sym a.index_is ∙ b.index_is) in
    (a.at ∙ ap (λ row. pairs.begin + row * pairs.step) same.0 ∙ sym b.at, same.1)

pub one_index : (pairs : Pairs) (p s i j : ℕ) → 0 < pairs.step → IsIndex pairs p s i → IsIndex pairs p s j → i ≡ j
one_index pairs p s i j apart a b =
    let rows : a.row * pairs.step ≡ b.row * pairs.step = (let one = a.at in let other = b.at in omega (arith, one, other)) in
    let row = same_row a.row b.row pairs.step apart rows in
    a.index_is ∙ ap (λ row. row * pairs.states + s) row ∙ sym b.index_is

-- ---- marks
whole_steps : (past step : ℕ) → past % step ≡ 0 → past ≡ past / step * step
whole_steps past step none = let parts : past / step * step + past % step ≡ past = div-add-mod' past step in omega (arith, parts, none)

no_rest : (row step past : ℕ) → past ≡ row * step → past % step ≡ 0
no_rest row step past is = ap (λ n. n % step) is ∙ mul-mod_left row step

pub index_here : (pairs : Pairs) (place state number : ℕ) → number ≡ state → pairs.begin ≤ place → (place - pairs.begin) % pairs.step ≡ 0 → number < pairs.states → IsIndex pairs place state ((place - pairs.begin) / pairs.step * pairs.states + number)
index_here pairs place state number is begun none within = record {
  row = (place - pairs.begin) / pairs.step;
  at = let whole = whole_steps (place - pairs.begin) pairs.step none in omega (arith, begun, whole);
  within = subst (λ n. n < pairs.states) is within;
  index_is = ap (λ n. (place - pairs.begin) / pairs.step * pairs.states + n) is;
}

pub no_mark : (pairs : Pairs) (place : ℕ) → (place - pairs.begin) % pairs.step ≢ 0 → IsMark pairs place → ⊥
no_mark pairs place rest (row, at) = rest (no_rest row pairs.step (place - pairs.begin) (omega (arith, at)))

pub mark_behind : (pairs : Pairs) (place : ℕ) → pairs.begin ≤ place → 0 < pairs.step → IsMark pairs (place + (pairs.step - (place - pairs.begin) % pairs.step))
mark_behind pairs place begun apart =
    let past : ℕ = place - pairs.begin in
    let parts : past / pairs.step * pairs.step + past % pairs.step ≡ past = div-add-mod' past pairs.step in
    let rest : past % pairs.step < pairs.step = mod_below past pairs.step apart in
    (past / pairs.step + 1, omega (arith, begun, parts, rest))

-- ---- how many words there are
pub words_for : (pairs : Pairs) (place state index : ℕ) → ArePairs pairs → IsIndex pairs place state index → index / 64 + 1 ≤ place - pairs.begin + pairs.step
words_for pairs place state index are here =
    let place_is = here.at in
    let is = here.index_is in
    let within = here.within in
    let bits : (here.row + 1) * pairs.states ≤ (here.row + 1) * (64 * pairs.step) = mul-le (here.row + 1) pairs.states (here.row + 1) (64 * pairs.step) (omega arith) are.few in
    omega (arith, place_is, is, within, bits)

-- ---- one pair more
or_left : (x y : Bool) → x ≡ true → (x || y) ≡ true
or_left true y is = refl
or_left false y is = absurd (cc)

or_right : (x y : Bool) → y ≡ true → (x || y) ≡ true
or_right true y is = refl
or_right false y is = is

other_way : (old new : Pairs) → AreOfOneLine old new → AreOfOneLine new old
other_way old new line = record { begin = sym line.begin; states = sym line.states; step = sym line.step }

moved_index : (old new : Pairs) (place state index : ℕ) → AreOfOneLine old new → IsIndex old place state index → IsIndex new place state index
moved_index old new place state index line here = record {
  row = here.row;
  at = here.at ∙ ap (λ n. n + here.row * old.step) (sym line.begin) ∙ ap (λ n. new.begin + here.row * n) (sym line.step);
  within = subst (λ n. state < n) (sym line.states) here.within;
  index_is = here.index_is ∙ ap (λ n. here.row * n + state) (sym line.states);
}

pub kept_same : (old new : Pairs) → AreOfOneLine old new → new.words ≡ old.words → KeepSame old new
kept_same old new line same place state = (
  λ (index, here, has). (index, moved_index new old place state index (other_way old new line) here, subst (λ ws. Has ws index) same has),
  λ (index, here, has). (index, moved_index old new place state index line here, subst (λ ws. Has ws index) (sym same) has),
)

pub on_err : {T E : Type 0} (r : Result T E) {P : Type 0} → P → OnErr r P
on_err (Ok x) fact = tt
on_err (Err e) fact = fact

pub kept_more : (old new : Pairs) (place state index : ℕ) → AreOfOneLine old new → 0 < old.step → IsIndex old place state index
    → ((other : ℕ) → has_place new.words other ≡ ((other == index) || has_place old.words other))
    → (p s : ℕ) → Keeps new p s ↔ (Keeps old p s ⊎ ((p ≡ place) × (s ≡ state) × CanKeep old place state))
kept_more old new place state index line apart here more p s = (to, from)
  where
    to : Keeps new p s → Keeps old p s ⊎ ((p ≡ place) × (s ≡ state) × CanKeep old place state)
    to (i, at, has) = ⊎_elim
        (λ is. let one = one_pair old p s place state i (moved_index new old p s i (other_way old new line) at) (subst (IsIndex old place state) (sym (eqb-true i index is)) here) in inr (one.0, one.1, ((here.row, here.at), here.within)))
        (λ before. inl (i, moved_index new old p s i (other_way old new line) at, before))
        (or_cases (i == index) (has_place old.words i) (sym (more i) ∙ has))

    from : Keeps old p s ⊎ ((p ≡ place) × (s ≡ state) × CanKeep old place state) → Keeps new p s
    from (inl (i, at, has)) = (i, moved_index old new p s i line at, more i ∙ or_right (i == index) (has_place old.words i) has)
    from (inr (is_place, is_state, can)) =
        let at : IsIndex new p s index = subst (λ q. IsIndex new q s index) (sym is_place) (subst (λ t. IsIndex new place t index) (sym is_state) (moved_index old new place state index line here)) in
        (index, at, more index ∙ or_left (index == index) (has_place old.words index) (eq-eqb index index refl))
