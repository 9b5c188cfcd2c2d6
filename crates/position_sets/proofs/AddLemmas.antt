-- The positions that are put last, from those of parts.
use Rattle.std.proofs.Common.{◌≡◌, ℕ, ◌+◌, ◌-◌, ◌<◌, ◌≤◌, ◌↔◌, ◌⊎◌, ◌||◌, false, List, [], ◌∷◌, ◌++◌, length, length-append, get_or, drop, append_assoc, sym, ap, ◌∙◌, subst, arith}
use Rattle.std.proofs.lemmas.List.{append-nil, drop_all}
use Rattle.pattern_data.specs.declared.pattern.Pattern.{Pattern}
use Rattle.pattern_data.specs.declared.pattern.Pattern.TheVariants.{Set as set_pattern, Seq as seq_pattern, Alt as alt_pattern, Star as star_pattern, Plus as plus_pattern, Opt as opt_pattern}
use Rattle.pattern_data.specs.Language.{positions_of}
use Rattle.position_theory.specs.Positions.{count_all, IsFirst, IsSet, IsSequence, IsChoice, IsOption}
use Rattle.position_theory.specs.Positions.IsLoop.{star_loop, plus_loop}
use Rattle.position_theory.specs.Positions.HasMembers.{sequence_members, choice_members}
use Rattle.position_theory.specs.Positions.HasInner.{loop_inner, option_inner}
use Rattle.position_theory.proofs.LayerLemmas.{count_set, count_members, count_inner}
use Rattle.position_sets.specs.declared.following.Position.{Position}
use Rattle.position_sets.specs.Begins.{IsPlaceOf}
use Rattle.position_sets.specs.Follows.{AddsPositions, AddsInOrder, AddsOfOne, IsSetAdded}
use Rattle.position_sets.specs.Sets.{Has, IsSetOfWords, has_place}
use Rattle.position_sets.proofs.BeginLemmas.{rest_from, fits_member}
use Rattle.position_sets.proofs.OpenLemmas.{opens_set, opens_sequence, opens_choice, opens_star, opens_plus, opens_option}
use Rattle.position_sets.proofs.FollowLemmas.{set_positions, sequence_positions, choice_positions, option_positions, star_positions, plus_positions, order_positions_none, order_positions_more, one_positions_none, one_positions_more}

-- ---- how many positions the parts have
pub set_count : (p : Pattern) (words : List ℕ) → p ≡ set_pattern words → positions_of p ≡ 1
set_count p words is = let h : IsSet p words = record { opens = opens_set p words is } in count_set h

pub sequence_count : (p : Pattern) (members others : List Pattern) → p ≡ seq_pattern members → others ≡ members → positions_of p ≡ count_all others
sequence_count p members others is same = let h : IsSequence p members = record { opens = opens_sequence p members is } in count_members (sequence_members h) ∙ sym (ap count_all same)

pub choice_count : (p : Pattern) (members others : List Pattern) → p ≡ alt_pattern members → others ≡ members → positions_of p ≡ count_all others
choice_count p members others is same = let h : IsChoice p members = record { opens = opens_choice p members is } in count_members (choice_members h) ∙ sym (ap count_all same)

pub star_count : (p inner other : Pattern) → p ≡ star_pattern inner → other ≡ inner → positions_of p ≡ positions_of other
star_count p inner other is same = count_inner (loop_inner (star_loop (opens_star p inner is))) ∙ sym (ap positions_of same)

pub plus_count : (p inner other : Pattern) → p ≡ plus_pattern inner → other ≡ inner → positions_of p ≡ positions_of other
plus_count p inner other is same = count_inner (loop_inner (plus_loop (opens_plus p inner is))) ∙ sym (ap positions_of same)

pub option_count : (p inner other : Pattern) → p ≡ opt_pattern inner → other ≡ inner → positions_of p ≡ positions_of other
option_count p inner other is same = let h : IsOption p inner = record { opens = opens_option p inner is } in count_inner (option_inner h) ∙ sym (ap positions_of same)

-- ---- one pattern
module _ (p : Pattern) (size : ℕ) (ahead : List ℕ) (old new : List Position) (front : List ℕ) where
  pub adds_set : (words : List ℕ) → p ≡ set_pattern words → IsSetOfWords size ahead → IsSetAdded words size ahead old new front → AddsPositions p size ahead old new front
  adds_set words is set added = (added.row ∷ [], added.added, set_positions p words size ahead old new front (opens_set p words is) set added)

  pub adds_sequence : (members others : List Pattern) → p ≡ seq_pattern members → others ≡ members → AddsInOrder others size ahead old new front → AddsPositions p size ahead old new front
  adds_sequence members others is same h =
      let g = subst (λ (ms : List Pattern). AddsInOrder ms size ahead old new front) same h in
      (g.0, g.1, sequence_positions p (length old) size (Has ahead) g.0 front members (opens_sequence p members is) g.2)

  pub adds_choice : (members others : List Pattern) → p ≡ alt_pattern members → others ≡ members → AddsOfOne others size ahead old new front → AddsPositions p size ahead old new front
  adds_choice members others is same h =
      let g = subst (λ (ms : List Pattern). AddsOfOne ms size ahead old new front) same h in
      (g.0, g.1, choice_positions p (length old) size (Has ahead) g.0 front members (opens_choice p members is) g.2)

  pub adds_option : (inner other : Pattern) (begins : List ℕ) → p ≡ opt_pattern inner → other ≡ inner → AddsPositions other size ahead old new begins → IsSetOfWords size front
      → ((place : ℕ) → has_place front place ≡ (has_place begins place || has_place ahead place)) → AddsPositions p size ahead old new front
  adds_option inner other begins is same h set union =
      let g = subst (λ (i : Pattern). AddsPositions i size ahead old new begins) same h in
      (g.0, g.1, option_positions p (length old) size (Has ahead) g.0 front inner ahead begins (opens_option p inner is) (λ place. (λ a. a, λ a. a)) g.2 set union)

  pub adds_star : (inner other again_at : Pattern) (again begins : List ℕ) → p ≡ star_pattern inner → other ≡ inner → again_at ≡ inner → again ≡ front → IsSetOfWords size front
      → ((place : ℕ) → Has front place ↔ (IsPlaceOf (IsFirst again_at) (length old) place ⊎ Has ahead place)) → AddsPositions other size again old new begins → AddsPositions p size ahead old new front
  adds_star inner other again_at again begins is same first_same again_same set places h =
      let g = subst (λ (i : Pattern). AddsPositions i size front old new begins) same (subst (λ (a : List ℕ). AddsPositions other size a old new begins) again_same h) in
      let starts = subst (λ (i : Pattern). (place : ℕ) → Has front place ↔ (IsPlaceOf (IsFirst i) (length old) place ⊎ Has ahead place)) first_same places in
      (g.0, g.1, star_positions p (length old) size (Has ahead) g.0 front inner begins (opens_star p inner is) starts set g.2)

  pub adds_plus : (inner other again_at : Pattern) (again given : List ℕ) → p ≡ plus_pattern inner → other ≡ inner → again_at ≡ inner → given ≡ again
      → ((place : ℕ) → Has again place ↔ (IsPlaceOf (IsFirst again_at) (length old) place ⊎ Has ahead place)) → AddsPositions other size given old new front → AddsPositions p size ahead old new front
  adds_plus inner other again_at again given is same first_same again_same places h =
      let g = subst (λ (i : Pattern). AddsPositions i size again old new front) same (subst (λ (a : List ℕ). AddsPositions other size a old new front) again_same h) in
      let starts = subst (λ (i : Pattern). (place : ℕ) → Has again place ↔ (IsPlaceOf (IsFirst i) (length old) place ⊎ Has ahead place)) first_same places in
      (g.0, g.1, plus_positions p (length old) size (Has ahead) g.0 front inner again (opens_plus p inner is) starts g.2)

-- ---- some patterns
pub adds_order_none : (members : List Pattern) (size : ℕ) (ahead : List ℕ) (old : List Position) (front : List ℕ) → IsSetOfWords size ahead → front ≡ ahead → AddsInOrder (drop (length members) members) size ahead old old front
adds_order_none members size ahead old front set same =
    let none : drop (length members) members ≡ [] = drop_all (length members) members (omega arith) in
    subst (λ (ms : List Pattern). AddsInOrder ms size ahead old old front) (sym none) (
      [],
      sym (append-nil old),
      order_positions_none (length old) size (Has ahead) front (subst (λ (ws : List ℕ). IsSetOfWords size ws) (sym same) set)
          (λ place. (λ has. subst (λ (ws : List ℕ). Has ws place) same has, λ has. subst (λ (ws : List ℕ). Has ws place) (sym same) has)),
    )

pub adds_one_none : (members : List Pattern) (size : ℕ) (ahead : List ℕ) (old : List Position) (front : List ℕ) → IsSetOfWords size front → ((place : ℕ) → has_place front place ≡ false) → AddsOfOne (drop (length members) members) size ahead old old front
adds_one_none members size ahead old front set nothing =
    let none : drop (length members) members ≡ [] = drop_all (length members) members (omega arith) in
    subst (λ (ms : List Pattern). AddsOfOne ms size ahead old old front) (sym none)
    ([], sym (append-nil old), one_positions_none (length old) size (Has ahead) front set nothing)

-- one more pattern in front of those from a place on
module _ (members : List Pattern) (at : ℕ) (p : Pattern) (some : 0 < at) (inside : at ≤ length members) (is : p ≡ get_or members (at - 1) p)
    (size : ℕ) (ahead : List ℕ) (old middle new : List Position) where
  order_length : (front : List ℕ) → AddsInOrder (drop at members) size ahead old middle front → length middle ≡ length old + count_all (drop at members)
  order_length front h = ap length h.1 ∙ length-append old h.0 ∙ ap (λ n. length old + n) h.2.count_is

  one_length : (front : List ℕ) → AddsOfOne (drop at members) size ahead old middle front → length middle ≡ length old + count_all (drop at members)
  one_length front h = ap length h.1 ∙ length-append old h.0 ∙ ap (λ n. length old + n) h.2.count_is

  pub order_room : (front : List ℕ) (bound : ℕ) → AddsInOrder (drop at members) size ahead old middle front → length old + count_all members ≤ bound → length middle + positions_of p ≤ bound
  order_room front bound h fits = fits_member members at p (length old) (length middle) bound some inside is (order_length front h) fits

  pub one_room : (front : List ℕ) (bound : ℕ) → AddsOfOne (drop at members) size ahead old middle front → length old + count_all members ≤ bound → length middle + positions_of p ≤ bound
  one_room front bound h fits = fits_member members at p (length old) (length middle) bound some inside is (one_length front h) fits

  joined : (first second : List Position) → middle ≡ old ++ first → new ≡ middle ++ second → new ≡ old ++ (first ++ second)
  joined first second a b = b ∙ ap (λ (x : List Position). x ++ second) a ∙ append_assoc old first second

  pub adds_order_more : (between given front : List ℕ) → given ≡ between → AddsInOrder (drop at members) size ahead old middle between → AddsPositions p size given middle new front → AddsInOrder (drop (at - 1) members) size ahead old new front
  adds_order_more between given front same h first =
      let g = subst (λ (a : List ℕ). AddsPositions p size a middle new front) same first in
      subst (λ (ms : List Pattern). AddsInOrder ms size ahead old new front) (sym (rest_from members at p some inside is))
      (h.0 ++ g.0, joined h.0 g.0 h.1 g.1, order_positions_more p (drop at members) (length old) size (Has ahead) h.0 g.0 between front (length middle) h.2 g.2 (ap length h.1 ∙ length-append old h.0))

  pub adds_one_more : (others begins front : List ℕ) → AddsOfOne (drop at members) size ahead old middle others → AddsPositions p size ahead middle new begins → IsSetOfWords size front
      → ((place : ℕ) → has_place front place ≡ (has_place others place || has_place begins place)) → AddsOfOne (drop (at - 1) members) size ahead old new front
  adds_one_more others begins front h g set union =
      subst (λ (ms : List Pattern). AddsOfOne ms size ahead old new front) (sym (rest_from members at p some inside is))
      (h.0 ++ g.0, joined h.0 g.0 h.1 g.1, one_positions_more p (drop at members) (length old) size (Has ahead) h.0 g.0 others begins front (length middle) h.2 g.2 (ap length h.1 ∙ length-append old h.0) set union)
