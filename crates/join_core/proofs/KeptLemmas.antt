-- What the writes of each event make of what is kept.
use Rattle.std.proofs.Common.{◌≡◌, ℕ, ◌+◌, ◌/◌, ◌<◌, ◌≤◌, ◌⊎◌, inl, inr, ⊎_elim, Bool, true, false, not, cond, List, [], ◌∷◌, length, get_or, set, Option, Some, None, Contains, refl, sym, ap, ◌∙◌, subst, arith, eqb, eq-eqb}
use Rattle.std.specs.List.Sorted.{IsPermutation}
use Rattle.std.proofs.lemmas.Bool.{cases_eq, cond-true, cond-false, ne_eqb}
use Rattle.std.proofs.lemmas.List.{get_or-set_same, get_or-set_other, length-set}
use Rattle.std.proofs.lemmas.List.Elements.{All-contains}
use Rattle.std.proofs.lemmas.List.Sorted.{IsPermutation-refl, IsPermutation-trans, IsPermutation-cons, IsPermutation-middle}
use Rattle.core_theory.specs.Tree.{Range, whole_range, boundary_of, part_of, IsRange, IsParent}
use Rattle.core_theory.specs.Core.{CoreState, word_of, live_ranges}
use Rattle.core_theory.specs.Events.{raised, SetsWord, Claims, ArrivesFirst, ArrivesSecond, Finishes}
use Rattle.core_theory.specs.Runs.{Event, IsStep}
use Rattle.core_theory.proofs.TreeLemmas.{range_inside, boundary_inside}
use Rattle.core_theory.proofs.LiveLemmas.{times_member}
use Rattle.core_theory.proofs.CoverLemmas.{carried_live, waiting_live, step_law, sibling_law}
use Rattle.join_core.specs.declared.arrival.Arrival.{Arrival}
use Rattle.join_core.specs.declared.arrival.Arrival.TheVariants.{First, Second}
use Rattle.join_core.specs.declared.held.Held.{Held}
use Rattle.join_core.specs.declared.held.Held.TheVariants.{NoRange, Carried, Waiting}
use Rattle.join_core.specs.Nodes.{range_from, Arrives}
use Rattle.join_core.specs.Ranges.{carried_end, waiting_end, ranges_of, kept_state, IsKept}
use Rattle.join_core.proofs.RangeLemmas.{kept_at, added_at, removed_at, replaced_at, member_at, member_there}

option_cases : (o : Option ℕ) → (o ≡ None) ⊎ ((x : ℕ) × (o ≡ Some x))
option_cases None = inl refl
option_cases (Some x) = inr (x, refl)

-- a carried place doesn't wait, and the other way round
pub carried_is : {held : Held} {last : ℕ} → carried_end held ≡ Some last → held ≡ Carried last
carried_is {held} {last} e = by_case held e
  where
    by_case : (h : Held) → carried_end h ≡ Some last → h ≡ Carried last
    by_case NoRange e = absurd (cc)
    by_case (Carried other) e = cc
    by_case (Waiting other) e = absurd (cc)

pub waiting_is : {held : Held} {last : ℕ} → waiting_end held ≡ Some last → held ≡ Waiting last
waiting_is {held} {last} e = by_case held e
  where
    by_case : (h : Held) → waiting_end h ≡ Some last → h ≡ Waiting last
    by_case NoRange e = absurd (cc)
    by_case (Carried other) e = absurd (cc)
    by_case (Waiting other) e = cc

-- what is kept after an event
pub kept_after : {leaves counter counter1 : ℕ} {words words1 : List Bool} {held held1 : List Held} {done done1 : Bool} (event : Event) → IsKept leaves counter words held done → length words1 ≡ length words → length held1 ≡ length held → IsStep (kept_state leaves counter words held done) event (kept_state leaves counter1 words1 held1 done1) → IsKept leaves counter1 words1 held1 done1
kept_after {leaves} {counter} {counter1} {words} {words1} {held} {held1} {done} {done1} event kept same_words same_held made = record {
  some = kept.some;
  few = kept.few;
  words_count = same_words ∙ kept.words_count;
  held_count = same_held ∙ kept.held_count;
  covered = step_law (kept_state leaves counter words held done) event (kept_state leaves counter1 words1 held1 done1) kept.covered made;
}

-- no range begins at a leaf that isn't claimed
nothing_there : {leaves counter : ℕ} {words : List Bool} {held : List Held} {done : Bool} (leaf last : ℕ) → IsKept leaves counter words held done → counter ≤ leaf → Contains (live_ranges (kept_state leaves counter words held done)) (range_from leaf last) → ⊥
nothing_there {leaves} {counter} {words} {held} {done} leaf last kept above has =
    let live = live_ranges (kept_state leaves counter words held done) in
    let is : IsRange leaves (range_from leaf last) = All-contains (IsRange leaves) live (range_from leaf last) kept.covered.ranges has in
    let inside = range_inside is in
    let some = times_member leaf live has (omega arith) inside.some in
    let none = kept.covered.none leaf (inl above) in
    omega (arith, some, none)

pub not_carried_there : {leaves counter : ℕ} {words : List Bool} {held : List Held} {done : Bool} (leaf : ℕ) (d : Held) → IsKept leaves counter words held done → counter ≤ leaf → leaf < leaves → carried_end (get_or held leaf d) ≡ None
not_carried_there {leaves} {counter} {words} {held} {done} leaf d kept above inside = ⊎_elim (λ none. none)
    (λ some. absurd (nothing_there leaf some.0 kept above (carried_live (kept_state leaves counter words held done) (member_there carried_end held leaf some.0 d (omega (arith, kept.held_count, inside)) some.1))))
    (option_cases (carried_end (get_or held leaf d)))

pub not_waiting_there : {leaves counter : ℕ} {words : List Bool} {held : List Held} {done : Bool} (leaf : ℕ) (d : Held) → IsKept leaves counter words held done → counter ≤ leaf → leaf < leaves → waiting_end (get_or held leaf d) ≡ None
not_waiting_there {leaves} {counter} {words} {held} {done} leaf d kept above inside = ⊎_elim (λ none. none)
    (λ some. absurd (nothing_there leaf some.0 kept above (waiting_live (kept_state leaves counter words held done) (member_there waiting_end held leaf some.0 d (omega (arith, kept.held_count, inside)) some.1))))
    (option_cases (waiting_end (get_or held leaf d)))

-- ---- claims

pub claims_none : (leaves counter : ℕ) (words : List Bool) (held : List Held) (done : Bool) → leaves ≤ counter → Claims (kept_state leaves counter words held done) None (kept_state leaves (raised counter) words held done)
claims_none leaves counter words held done past = record {
  answer = λ more. omega (arith, past, more);
  counter = refl;
  carried = IsPermutation-refl _;
  waiting = IsPermutation-refl _;
  leaves = refl;
  words = λ boundary from upto. refl;
  done = refl;
}

pub claims_leaf : {leaves counter : ℕ} {words : List Bool} {held : List Held} {done : Bool} → IsKept leaves counter words held done → counter < leaves → Claims (kept_state leaves counter words held done) (Some counter) (kept_state leaves (raised counter) words (set held counter (Carried (counter + 1))) done)
claims_leaf {leaves} {counter} {words} {held} {done} kept inside =
    let place : counter < length held = omega (arith, kept.held_count, inside) in
    record {
      answer = (inside, refl);
      counter = refl;
      carried = added_at carried_end held counter (counter + 1) NoRange (Carried (counter + 1)) place (not_carried_there counter NoRange kept (omega arith) inside) refl;
      waiting = kept_at waiting_end held counter NoRange (Carried (counter + 1)) place (not_waiting_there counter NoRange kept (omega arith) inside) refl;
      leaves = refl;
      words = λ boundary from upto. refl;
      done = refl;
    }

-- ---- arrivals

-- a carried range is one of the tree
pub carried_range : {leaves counter : ℕ} {words : List Bool} {held : List Held} {done : Bool} {range : Range} → IsKept leaves counter words held done → Contains (ranges_of carried_end 0 held) range → IsRange leaves range
carried_range {leaves} {counter} {words} {held} {done} {range} kept has =
    let s = kept_state leaves counter words held done in
    All-contains (IsRange leaves) (live_ranges s) range kept.covered.ranges (carried_live s has)

-- a node and its boundary have places
pub record HasPlaces (leaves first boundary last : ℕ) : Type 0 where
  pub rises : first < boundary
  pub inside : boundary < last
  pub upto : last ≤ leaves

pub has_places : {leaves first last boundary : ℕ} {range : Range} {is_left : Bool} → IsParent leaves range (range_from first last) is_left → boundary ≡ (first + last) / 2 → HasPlaces leaves first boundary last
has_places {leaves} {first} {last} {boundary} parent at =
    let inside = boundary_inside (range_from first last) parent.inner.split in
    record { rises = omega (arith, inside.0, at); inside = omega (arith, inside.1, at); upto = (range_inside parent.inner.range).upto }

sets_word : (leaves counter : ℕ) (words : List Bool) (held held1 : List Held) (done : Bool) (set_at : ℕ) → set_at < length words → SetsWord set_at (kept_state leaves counter words held done) (kept_state leaves counter (set words set_at true) held1 done)
sets_word leaves counter words held held1 done set_at inside boundary from upto = ⊎_elim
    (λ same.
    let P : ℕ → Type 0 = λ b. get_or (set words set_at true) b false ≡ true in
    subst P (sym same) (get_or-set_same words set_at true false inside) ∙ sym (cond-true (eqb boundary set_at) true (get_or words boundary false) (eq-eqb _ _ same)))
    (λ differs. get_or-set_other words set_at boundary true false differs ∙ sym (cond-false (eqb boundary set_at) true (get_or words boundary false) (ne_eqb _ _ differs)))
    (cases_eq boundary set_at)

pub comes_first : {leaves counter : ℕ} {words : List Bool} {held : List Held} {done : Bool} {first last from upto boundary : ℕ} {is_left : Bool} → IsKept leaves counter words held done → Contains (ranges_of carried_end 0 held) (range_from first last) → IsParent leaves (range_from first last) (range_from from upto) is_left → boundary ≡ (from + upto) / 2 → get_or words boundary false ≡ false → ArrivesFirst (kept_state leaves counter words held done) (range_from first last) (range_from from upto) is_left (kept_state leaves counter (set words boundary true) (set held first (Waiting last)) done)
comes_first {leaves} {counter} {words} {held} {done} {first} {last} {from} {upto} {boundary} {is_left} kept has parent at unset =
    let there = member_at carried_end held first last NoRange has in
    let is = carried_is there.1 in
    let places = has_places parent at in
    let P : ℕ → Type 0 = λ b. SetsWord b (kept_state leaves counter words held done) (kept_state leaves counter (set words boundary true) (set held first (Waiting last)) done) in
    record {
      parent = parent;
      unset = subst (λ b. get_or words b false ≡ false) at unset;
      carried = removed_at carried_end held first last NoRange (Waiting last) there.0 there.1 refl;
      waiting = added_at waiting_end held first last NoRange (Waiting last) there.0 (ap waiting_end is) refl;
      words = subst P at (sets_word leaves counter words held (set held first (Waiting last)) done boundary (omega (arith, kept.words_count, places.inside, places.upto)));
      leaves = refl;
      counter = refl;
      done = refl;
    }

-- the writes of a second arrival: the right part's place is emptied, and the left part's takes the node
abbrev pub joined_held : List Held → ℕ → ℕ → ℕ → List Held
joined_held held first boundary last = set (set held boundary NoRange) first (Carried last)

other_place : (held : List Held) (first boundary : ℕ) (d : Held) → first < boundary → get_or (set held boundary NoRange) first d ≡ get_or held first d
other_place held first boundary d below = get_or-set_other held boundary first NoRange d (λ same. omega (arith, below, same))

-- the left part came, and the right one waited
left_comes : (held : List Held) {first boundary last : ℕ} → first < boundary → boundary < length held → get_or held first NoRange ≡ Carried boundary → get_or held boundary NoRange ≡ Waiting last → IsPermutation (range_from first last ∷ ranges_of carried_end 0 held) (range_from first boundary ∷ ranges_of carried_end 0 (joined_held held first boundary last)) × IsPermutation (ranges_of waiting_end 0 held) (range_from boundary last ∷ ranges_of waiting_end 0 (joined_held held first boundary last))
left_comes held {first} {boundary} {last} below inside left right =
    let held1 = set held boundary NoRange in
    let place : first < length held1 = omega (arith, below, inside, length-set held boundary NoRange) in
    let there : get_or held1 first NoRange ≡ Carried boundary = other_place held first boundary NoRange below ∙ left in
    let same = kept_at carried_end held boundary NoRange NoRange inside (ap carried_end right) refl in
    let gone = removed_at waiting_end held boundary last NoRange NoRange inside (ap waiting_end right) refl in (
      IsPermutation-trans _ _ _ (IsPermutation-cons (range_from first last) _ _ same) (replaced_at carried_end held1 first boundary last NoRange (Carried last) place (ap carried_end there) refl),
      IsPermutation-trans _ _ _ gone (IsPermutation-cons (range_from boundary last) _ _ (kept_at waiting_end held1 first NoRange (Carried last) place (ap waiting_end there) refl)),
    )

-- the right part came, and the left one waited
right_comes : (held : List Held) {first boundary last : ℕ} → first < boundary → boundary < length held → get_or held boundary NoRange ≡ Carried last → get_or held first NoRange ≡ Waiting boundary → IsPermutation (range_from first last ∷ ranges_of carried_end 0 held) (range_from boundary last ∷ ranges_of carried_end 0 (joined_held held first boundary last)) × IsPermutation (ranges_of waiting_end 0 held) (range_from first boundary ∷ ranges_of waiting_end 0 (joined_held held first boundary last))
right_comes held {first} {boundary} {last} below inside right left =
    let held1 = set held boundary NoRange in
    let node = range_from first last in
    let came = range_from boundary last in
    let place : first < length held1 = omega (arith, below, inside, length-set held boundary NoRange) in
    let there : get_or held1 first NoRange ≡ Waiting boundary = other_place held first boundary NoRange below ∙ left in
    let gone = removed_at carried_end held boundary last NoRange NoRange inside (ap carried_end right) refl in
    let same = kept_at waiting_end held boundary NoRange NoRange inside (ap waiting_end right) refl in
    let put = added_at carried_end held1 first last NoRange (Carried last) place (ap carried_end there) refl in (
      IsPermutation-trans _ _ _ (IsPermutation-cons node _ _ gone) (IsPermutation-trans _ _ _ (IsPermutation-middle (node ∷ []) came (ranges_of carried_end 0 held1)) (IsPermutation-cons came _ _ put)),
      IsPermutation-trans _ _ _ same (removed_at waiting_end held1 first boundary NoRange (Carried last) place (ap waiting_end there) refl),
    )

-- the answer of a second arrival
abbrev pub other_part_of : Bool → ℕ → ℕ → ℕ → Arrival
other_part_of is_left first boundary last = cond is_left (Second boundary last) (Second first boundary)

-- what the writes change, whichever part came
abbrev IsJoined : List Held → Range → Range → Range → List Held → Type 0
IsJoined held node came other after = IsPermutation (node ∷ ranges_of carried_end 0 held) (came ∷ ranges_of carried_end 0 after) × IsPermutation (ranges_of waiting_end 0 held) (other ∷ ranges_of waiting_end 0 after)

parts_come : (held : List Held) {first last from : ℕ} (upto : ℕ) {boundary : ℕ} (side : Bool) → boundary ≡ (from + upto) / 2 → range_from first last ≡ part_of (range_from from upto) side → get_or held first NoRange ≡ Carried last → Contains (ranges_of waiting_end 0 held) (part_of (range_from from upto) (not side)) → boundary < length held → from < boundary → IsJoined held (range_from from upto) (range_from first last) (part_of (range_from from upto) (not side)) (joined_held held from boundary upto)
parts_come held {first} {last} {from} upto {boundary} true at same there other inside rises =
    let node = range_from from upto in
    let after = joined_held held from boundary upto in
    let left : get_or held from NoRange ≡ Carried boundary = ap (λ k. get_or held k NoRange) (sym (ap (λ r. r.first) same)) ∙ there ∙ ap Carried (ap (λ r. r.last) same ∙ sym at) in
    let here : Contains (ranges_of waiting_end 0 held) (range_from boundary upto) = subst (λ b. Contains (ranges_of waiting_end 0 held) (range_from b upto)) (sym at) other in
    let right : get_or held boundary NoRange ≡ Waiting upto = waiting_is (member_at waiting_end held boundary upto NoRange here).1 in
    let both = left_comes held rises inside left right in
    let came : range_from from boundary ≡ range_from first last = ap (range_from from) at ∙ sym same in (
      subst (λ r. IsPermutation (node ∷ ranges_of carried_end 0 held) (r ∷ ranges_of carried_end 0 after)) came both.0,
      subst (λ b. IsPermutation (ranges_of waiting_end 0 held) (range_from b upto ∷ ranges_of waiting_end 0 after)) at both.1,
    )
parts_come held {first} {last} {from} upto {boundary} false at same there other inside rises =
    let node = range_from from upto in
    let after = joined_held held from boundary upto in
    let right : get_or held boundary NoRange ≡ Carried upto = ap (λ k. get_or held k NoRange) (at ∙ sym (ap (λ r. r.first) same)) ∙ there ∙ ap Carried (ap (λ r. r.last) same) in
    let here : Contains (ranges_of waiting_end 0 held) (range_from from boundary) = subst (λ b. Contains (ranges_of waiting_end 0 held) (range_from from b)) (sym at) other in
    let left : get_or held from NoRange ≡ Waiting boundary = waiting_is (member_at waiting_end held from boundary NoRange here).1 in
    let both = right_comes held rises inside right left in
    let came : range_from boundary upto ≡ range_from first last = ap (λ b. range_from b upto) at ∙ sym same in (
      subst (λ r. IsPermutation (node ∷ ranges_of carried_end 0 held) (r ∷ ranges_of carried_end 0 after)) came both.0,
      subst (λ b. IsPermutation (ranges_of waiting_end 0 held) (range_from from b ∷ ranges_of waiting_end 0 after)) at both.1,
    )

pub comes_second : {leaves counter : ℕ} {words : List Bool} {held : List Held} {done : Bool} {first last from upto boundary : ℕ} (is_left : Bool) → IsKept leaves counter words held done → Contains (ranges_of carried_end 0 held) (range_from first last) → IsParent leaves (range_from first last) (range_from from upto) is_left → boundary ≡ (from + upto) / 2 → get_or words boundary false ≡ true → ArrivesSecond (kept_state leaves counter words held done) (range_from first last) (range_from from upto) is_left (kept_state leaves counter words (joined_held held from boundary upto) done)
comes_second {leaves} {counter} {words} {held} {done} {first} {last} {from} {upto} {boundary} is_left kept has parent at set_there =
    let s = kept_state leaves counter words held done in
    let word : word_of s (boundary_of (range_from from upto)) ≡ true = subst (λ b. get_or words b false ≡ true) at set_there in
    let places = has_places parent at in
    let other = sibling_law s (range_from first last) (range_from from upto) is_left kept.covered has parent word in
    let there = carried_is (member_at carried_end held first last NoRange has).1 in
    let both = parts_come held upto is_left at parent.part there other (omega (arith, kept.held_count, places.inside, places.upto)) places.rises in
    record {
      parent = parent;
      set = word;
      carried = both.0;
      waiting = both.1;
      words = λ b low high. refl;
      leaves = refl;
      counter = refl;
      done = refl;
    }

pub answers_first : {before after : CoreState} {range : Range} (node : Range) (is_left : Bool) → ArrivesFirst before range node is_left after → Arrives before range First after
answers_first node is_left first = (node, is_left, first)

pub answers_second : {before after : CoreState} {range : Range} {from upto boundary : ℕ} (is_left : Bool) → boundary ≡ (from + upto) / 2 → ArrivesSecond before range (range_from from upto) is_left after → Arrives before range (other_part_of is_left from boundary upto) after
answers_second {from = from} {upto = upto} true at second = (range_from from upto, true, second, ap (λ b. range_from b upto) at)
answers_second {from = from} {upto = upto} false at second = (range_from from upto, false, second, ap (λ b. range_from from b) at)

-- ---- the end

pub ends : {leaves counter : ℕ} {words : List Bool} {held : List Held} {done : Bool} → IsKept leaves counter words held done → Contains (ranges_of carried_end 0 held) (whole_range leaves) → Finishes (kept_state leaves counter words held done) (kept_state leaves counter words (set held 0 NoRange) true)
ends {leaves} {counter} {words} {held} {done} kept has =
    let there = member_at carried_end held 0 leaves NoRange has in
    let is = carried_is there.1 in
    record {
      carried = removed_at carried_end held 0 leaves NoRange NoRange there.0 there.1 refl;
      waiting = kept_at waiting_end held 0 NoRange NoRange there.0 (ap waiting_end is) refl;
      done = refl;
      words = λ boundary from upto. refl;
      leaves = refl;
      counter = refl;
    }
