-- Where patterns begin, from where their parts do.
use Rattle.std.proofs.Common.{◌≡◌, ℕ, zero, suc, ◌+◌, ◌-◌, ◌<◌, ◌≤◌, ◌↔◌, ◌⊎◌, inl, inr, true, false, ◌==◌, ◌||◌, List, [], ◌∷◌, length, get_or, drop, refl, sym, ap, ◌∙◌, subst, ⊎_elim, drop-cons, arith}
use Rattle.std.specs.Prelude.{◌&&◌}
use Rattle.std.proofs.lemmas.Bool.{false≢true, eq-eqb, eqb-true, or_cases, or_left, or_right, and_from, and_parts}
use Rattle.pattern_data.specs.declared.pattern.Pattern.{Pattern, out-Pattern}
use Rattle.pattern_data.specs.declared.pattern.Pattern.TheOpen.Pattern-F.{Set, Seq, Alt, Star, Plus, Opt}
use Rattle.pattern_data.specs.Language.{Matches, MatchesInOrder, positions_of}
use Rattle.pattern_data.specs.Language.Matches.{in_order, any_one, repeated, at_least_once, left_out}
use Rattle.pattern_data.specs.Language.MatchesInOrder.{no_member, first_member}
use Rattle.pattern_data.specs.Language.Repeats.{no_more}
use Rattle.position_theory.specs.Positions.{count_all, IsSet, IsSequence, IsChoice, HasInner, IsFirst, IsFirstInOrder, IsFirstOfOne}
use Rattle.position_theory.specs.Positions.IsLoop.{star_loop, plus_loop}
use Rattle.position_theory.specs.Positions.HasMembers.{sequence_members, choice_members}
use Rattle.position_theory.specs.Positions.HasInner.{loop_inner, option_inner}
use Rattle.position_theory.specs.Positions.IsFirst.{set_first, sequence_first, choice_first, inner_first}
use Rattle.position_theory.specs.Positions.IsFirstInOrder.{first_in_first, first_behind}
use Rattle.position_theory.specs.Positions.IsFirstOfOne.{first_in_this, first_in_later}
use Rattle.position_theory.proofs.LayerLemmas.{count_set, count_members, count_inner}
use Rattle.position_theory.proofs.PartLemmas.{first_set, first_sequence, first_choice, first_inner, empty_set, empty_sequence, empty_choice, empty_plus, order_empty, HasEmptyMember}
use Rattle.position_sets.specs.declared.begin.Begin.{Begin}
use Rattle.position_sets.specs.Begins.{SomeIsEmpty, IsPlaceOf, IsBeginOf, IsBegin, IsBeginInOrder, IsBeginOfOne}
use Rattle.position_sets.specs.Sets.{Has, IsSetOfWords, has_place}

-- the set of one place
pub one_place : (words none : List ℕ) (at : ℕ) → ((place : ℕ) → has_place none place ≡ false) → ((place : ℕ) → has_place words place ≡ ((place == at) || has_place none place)) → (place : ℕ) → Has words place ↔ (place ≡ at)
one_place words none at nothing inserted place = (
  λ has. ⊎_elim (λ e. eqb-true place at e) (λ e. absurd (false≢true (sym (nothing place) ∙ e))) (or_cases (place == at) (has_place none place) (sym (inserted place) ∙ has)),
  λ is. inserted place ∙ or_left (place == at) (has_place none place) (eq-eqb place at is),
)

-- ---- a pattern of a list
-- the pattern before those from a place on
pub rest_from : (members : List Pattern) (at : ℕ) (member : Pattern) → 0 < at → at ≤ length members → member ≡ get_or members (at - 1) member → drop (at - 1) members ≡ member ∷ drop at members
rest_from members at member some inside is =
    let next : suc (at - 1) ≡ at = omega arith in
    drop-cons members (at - 1) member (omega arith) ∙ ap (λ p. p ∷ drop (suc (at - 1)) members) (sym is) ∙ ap (λ n. member ∷ drop n members) next

pub count_drop : (members : List Pattern) (at : ℕ) → count_all (drop at members) ≤ count_all members
count_drop [] zero = omega arith
count_drop [] (suc at) = omega arith
count_drop (p ∷ ps) zero = omega arith
count_drop (p ∷ ps) (suc at) = let below = count_drop ps at in omega (arith, below)

pub count_rest : (members : List Pattern) (at : ℕ) (member : Pattern) → 0 < at → at ≤ length members → member ≡ get_or members (at - 1) member → count_all (drop (at - 1) members) ≡ positions_of member + count_all (drop at members)
count_rest members at member some inside is = ap count_all (rest_from members at member some inside is)

pub fits_member : (members : List Pattern) (at : ℕ) (member : Pattern) (base end_at bound : ℕ) → 0 < at → at ≤ length members → member ≡ get_or members (at - 1) member → end_at ≡ base + count_all (drop at members) → base + count_all members ≤ bound → end_at + positions_of member ≤ bound
fits_member members at member base end_at bound some inside is end_is fits =
    let more = count_rest members at member some inside is in
    let below = count_drop members (at - 1) in
    omega (arith, more, below)

-- ---- the same facts of another pattern
pub begin_as : (First Other : ℕ → Type 0) (Empty None : Type 0) (count number base size : ℕ) (begin : Begin) → ((k : ℕ) → First k ↔ Other k) → (Empty ↔ None) → count ≡ number
    → IsBeginOf First Empty count base size begin → IsBeginOf Other None number base size begin
begin_as First Other Empty None count number base size begin firsts empties counts h = record {
  set = h.set;
  first = λ place. (
    λ has. let at = (h.first place).0 has in (at.0, at.1, (firsts at.0).0 at.2),
    λ at. (h.first place).1 (at.0, at.1, (firsts at.0).1 at.2),
  );
  empty = (λ e. empties.0 (h.empty.0 e), λ e. h.empty.1 (empties.1 e));
  end_is = h.end_is ∙ ap (λ n. base + n) counts;
}

pub begin_sequence : (p : Pattern) (members : List Pattern) (base size : ℕ) (begin : Begin) → out-Pattern p ≡ Seq members → IsBeginInOrder members base size begin → IsBegin p base size begin
begin_sequence p members base size begin opens h =
    let is : IsSequence p members = record { opens = opens } in
    begin_as (IsFirstInOrder members) (IsFirst p) (MatchesInOrder members []) (Matches p []) (count_all members) (positions_of p) base size begin
    (λ k. (λ first. sequence_first is first, λ first. first_sequence is first)) (λ strings. in_order opens strings, λ string. empty_sequence is string) (sym (count_members (sequence_members is))) h

some_is_empty : (members : List Pattern) → HasEmptyMember members [] → SomeIsEmpty members
some_is_empty [] (member, one, string) = absurd (let below : one.0 < 0 = one.1 in omega arith)
some_is_empty (p ∷ ps) (member, (zero, inside, is), string) = let P : Pattern → Type 0 = λ x. Matches x [] in inl (subst P (sym is) string)
some_is_empty (p ∷ ps) (member, (suc k, inside, is), string) = inr (some_is_empty ps (member, (k, omega arith, is), string))

empty_member : (members : List Pattern) → SomeIsEmpty members → HasEmptyMember members []
empty_member [] none = absurd none
empty_member (p ∷ ps) (inl string) = (p, (0, omega arith, refl), string)
empty_member (p ∷ ps) (inr some) = let h = empty_member ps some in (h.0, (suc h.1.0, omega (arith, h.1.1), h.1.2), h.2)

pub choice_empty : (p : Pattern) (members : List Pattern) → out-Pattern p ≡ Alt members → SomeIsEmpty members ↔ Matches p []
choice_empty p members opens = (
  λ some. let h = empty_member members some in any_one opens h.1 h.2,
  λ string. some_is_empty members (empty_choice (record { opens = opens }) string),
)

pub begin_choice : (p : Pattern) (members : List Pattern) (base size : ℕ) (begin : Begin) → out-Pattern p ≡ Alt members → IsBeginOfOne members base size begin → IsBegin p base size begin
begin_choice p members base size begin opens h =
    let is : IsChoice p members = record { opens = opens } in
    begin_as (IsFirstOfOne members) (IsFirst p) (SomeIsEmpty members) (Matches p []) (count_all members) (positions_of p) base size begin
    (λ k. (λ first. choice_first is first, λ first. first_choice is first)) (choice_empty p members opens) (sym (count_members (choice_members is))) h

pub plus_empty : (p inner : Pattern) → out-Pattern p ≡ Plus inner → Matches inner [] ↔ Matches p []
plus_empty p inner opens = (λ string. at_least_once {u = []} {v = []} opens string (no_more refl) refl, λ string. empty_plus opens string refl)

pub begin_plus : (p inner : Pattern) (base size : ℕ) (begin : Begin) → out-Pattern p ≡ Plus inner → IsBegin inner base size begin → IsBegin p base size begin
begin_plus p inner base size begin opens h =
    let has : HasInner p inner = loop_inner (plus_loop opens) in
    begin_as (IsFirst inner) (IsFirst p) (Matches inner []) (Matches p []) (positions_of inner) (positions_of p) base size begin
    (λ k. (λ first. inner_first has first, λ first. first_inner has first)) (plus_empty p inner opens) (sym (count_inner has)) h

-- with the empty string
begin_inner : (p inner : Pattern) (base size : ℕ) (begin all : Begin) → HasInner p inner → Matches p [] → IsBegin inner base size begin → all.first ≡ begin.first → all.empty ≡ true → all.end ≡ begin.end → IsBegin p base size all
begin_inner p inner base size begin all has string h firsts empty end_is = record {
  set = subst (λ (v : _). IsSetOfWords size v.items) (sym firsts) h.set;
  first = λ place. (
    λ in_all. let at = (h.first place).0 (subst (λ (v : _). Has v.items place) firsts in_all) in (at.0, at.1, inner_first has at.2),
    λ at. subst (λ (v : _). Has v.items place) (sym firsts) ((h.first place).1 (at.0, at.1, first_inner has at.2)),
  );
  empty = (λ e. string, λ e. empty);
  end_is = end_is ∙ h.end_is ∙ ap (λ n. base + n) (sym (count_inner has));
}

pub begin_star : (p inner : Pattern) (base size : ℕ) (begin all : Begin) → out-Pattern p ≡ Star inner → IsBegin inner base size begin → all.first ≡ begin.first → all.empty ≡ true → all.end ≡ begin.end → IsBegin p base size all
begin_star p inner base size begin all opens h = begin_inner p inner base size begin all (loop_inner (star_loop opens)) (repeated opens (no_more refl)) h

pub begin_option : (p inner : Pattern) (base size : ℕ) (begin all : Begin) → out-Pattern p ≡ Opt inner → IsBegin inner base size begin → all.first ≡ begin.first → all.empty ≡ true → all.end ≡ begin.end → IsBegin p base size all
begin_option p inner base size begin all opens h = begin_inner p inner base size begin all (option_inner (record { opens = opens })) (left_out opens refl) h

pub begin_set : (p : Pattern) (words : List ℕ) (base size : ℕ) (begin : Begin) → out-Pattern p ≡ Set words → IsSetOfWords size begin.first.items → ((place : ℕ) → Has begin.first.items place ↔ (place ≡ base)) → begin.empty ≡ false → begin.end ≡ base + 1 → IsBegin p base size begin
begin_set p words base size begin opens set one empty end_is =
    let is : IsSet p words = record { opens = opens } in
    record {
      set = set;
      first = λ place. (
        λ has. (0, (one place).0 has ∙ omega arith, set_first is refl),
        λ at. let zeroth : at.0 ≡ 0 = first_set is at.2 in let here : place ≡ base + at.0 = at.1 in (one place).1 (omega arith),
      );
      empty = (λ e. absurd (false≢true (sym empty ∙ e)), λ string. absurd (empty_set is string));
      end_is = end_is ∙ ap (λ n. base + n) (sym (count_set is));
    }

-- ---- of a sequence
no_first_in_order : (k : ℕ) → IsFirstInOrder [] k → ⊥
no_first_in_order k first = elim first [ ]

no_first_of_one : (k : ℕ) → IsFirstOfOne [] k → ⊥
no_first_of_one k first = elim first [ ]

pub order_begins_none : (base size : ℕ) (begin : Begin) → IsSetOfWords size begin.first.items → ((place : ℕ) → has_place begin.first.items place ≡ false) → begin.empty ≡ true → begin.end ≡ base → IsBeginInOrder [] base size begin
order_begins_none base size begin set none empty end_is = record {
  set = set;
  first = λ place. (λ has. absurd (false≢true (sym (none place) ∙ has)), λ at. absurd (no_first_in_order at.0 at.2));
  empty = (λ e. no_member refl, λ e. empty);
  end_is = end_is ∙ omega arith;
}

pub one_begins_none : (base size : ℕ) (begin : Begin) → IsSetOfWords size begin.first.items → ((place : ℕ) → has_place begin.first.items place ≡ false) → begin.empty ≡ false → begin.end ≡ base → IsBeginOfOne [] base size begin
one_begins_none base size begin set none empty end_is = record {
  set = set;
  first = λ place. (λ has. absurd (false≢true (sym (none place) ∙ has)), λ at. absurd (no_first_of_one at.0 at.2));
  empty = (λ e. absurd (false≢true (sym empty ∙ e)), λ e. absurd e);
  end_is = end_is ∙ omega arith;
}

-- one more in front
module _ (p : Pattern) (ps : List Pattern) (base size : ℕ) (member rest begin : Begin) (here : IsBegin p rest.end size member) where
  more_place : rest.end ≡ base + count_all ps → (place k : ℕ) → place ≡ rest.end + k → place ≡ base + (count_all ps + k)
  more_place end_is place k at = omega arith

  less_place : rest.end ≡ base + count_all ps → (place k q : ℕ) → place ≡ base + q → q ≡ count_all ps + k → place ≡ rest.end + k
  less_place end_is place k q at is = omega arith

  more_end : rest.end ≡ base + count_all ps → begin.end ≡ member.end → begin.end ≡ base + count_all (p ∷ ps)
  more_end end_is same = let there : member.end ≡ rest.end + positions_of p = here.end_is in omega arith

  module _ (behind : IsBeginInOrder ps base size rest)
      (places : (place : ℕ) → has_place begin.first.items place ≡ (has_place member.first.items place || (member.empty && has_place rest.first.items place)))
      (set : IsSetOfWords size begin.first.items) (empty : begin.empty ≡ (member.empty && rest.empty)) (end_is : begin.end ≡ member.end) where
    order_place : (place : ℕ) → (has_place member.first.items place ≡ true) ⊎ ((member.empty && has_place rest.first.items place) ≡ true) → IsPlaceOf (IsFirstInOrder (p ∷ ps)) base place
    order_place place (inl has) = let at = (here.first place).0 has in (count_all ps + at.0, more_place behind.end_is place at.0 at.1, first_in_first at.2 refl)
    order_place place (inr both) =
        let h = and_parts member.empty (has_place rest.first.items place) both in
        let at = (behind.first place).0 h.1 in
        (at.0, at.1, first_behind (here.empty.0 h.0) at.2)

    order_has : (place q : ℕ) → place ≡ base + q → IsFirstInOrder (p ∷ ps) q → (has_place member.first.items place || (member.empty && has_place rest.first.items place)) ≡ true
    order_has place q at (first_in_first {k = k} first is) = or_left (has_place member.first.items place) _ ((here.first place).1 (k, less_place behind.end_is place k q at is, first))
    order_has place q at (first_behind string first) = or_right (has_place member.first.items place) _ (and_from member.empty (has_place rest.first.items place) (here.empty.1 string) ((behind.first place).1 (q, at, first)))

    pub order_begins_more : IsBeginInOrder (p ∷ ps) base size begin
    order_begins_more = record {
      set = set;
      first = λ place. (
        λ has. order_place place (or_cases (has_place member.first.items place) _ (sym (places place) ∙ has)),
        λ at. places place ∙ order_has place at.0 at.1 at.2,
      );
      empty = (
        λ e. let h = and_parts member.empty rest.empty (sym empty ∙ e) in first_member {u = []} {v = []} (here.empty.0 h.0) (behind.empty.0 h.1) refl,
        λ strings. let h = order_empty strings refl in empty ∙ and_from member.empty rest.empty (here.empty.1 h.0) (behind.empty.1 h.1),
      );
      end_is = more_end behind.end_is end_is;
    }

  module _ (others : IsBeginOfOne ps base size rest)
      (places : (place : ℕ) → has_place begin.first.items place ≡ (has_place member.first.items place || has_place rest.first.items place))
      (set : IsSetOfWords size begin.first.items) (empty : begin.empty ≡ (member.empty || rest.empty)) (end_is : begin.end ≡ member.end) where
    one_place_of : (place : ℕ) → (has_place member.first.items place ≡ true) ⊎ (has_place rest.first.items place ≡ true) → IsPlaceOf (IsFirstOfOne (p ∷ ps)) base place
    one_place_of place (inl has) = let at = (here.first place).0 has in (count_all ps + at.0, more_place others.end_is place at.0 at.1, first_in_this at.2 refl)
    one_place_of place (inr has) = let at = (others.first place).0 has in (at.0, at.1, first_in_later at.2)

    one_has : (place q : ℕ) → place ≡ base + q → IsFirstOfOne (p ∷ ps) q → (has_place member.first.items place || has_place rest.first.items place) ≡ true
    one_has place q at (first_in_this {k = k} first is) = or_left (has_place member.first.items place) _ ((here.first place).1 (k, less_place others.end_is place k q at is, first))
    one_has place q at (first_in_later first) = or_right (has_place member.first.items place) _ ((others.first place).1 (q, at, first))

    one_empty : (member.empty ≡ true) ⊎ (rest.empty ≡ true) → SomeIsEmpty (p ∷ ps)
    one_empty (inl e) = inl (here.empty.0 e)
    one_empty (inr e) = inr (others.empty.0 e)

    empty_one : SomeIsEmpty (p ∷ ps) → (member.empty || rest.empty) ≡ true
    empty_one (inl string) = or_left member.empty rest.empty (here.empty.1 string)
    empty_one (inr some) = or_right member.empty rest.empty (others.empty.1 some)

    pub one_begins_more : IsBeginOfOne (p ∷ ps) base size begin
    one_begins_more = record {
      set = set;
      first = λ place. (
        λ has. one_place_of place (or_cases (has_place member.first.items place) _ (sym (places place) ∙ has)),
        λ at. places place ∙ one_has place at.0 at.1 at.2,
      );
      empty = (λ e. one_empty (or_cases member.empty rest.empty (sym empty ∙ e)), λ some. empty ∙ empty_one some);
      end_is = more_end others.end_is end_is;
    }
