-- The positions of patterns, from those of their parts.
use Rattle.std.proofs.Common.{◌≡◌, ℕ, zero, suc, ◌+◌, ◌<◌, ◌↔◌, ◌⊎◌, inl, inr, ⊎_elim, true, false, ◌||◌, List, [], ◌∷◌, ◌++◌, length, length-append, refl, sym, ap, ◌∙◌, subst, arith}
use Rattle.std.specs.Prelude.{slice_get, Some}
use Rattle.std.proofs.lemmas.Bool.{false≢true, or_cases, or_left, or_right}
use Rattle.pattern_data.specs.declared.pattern.Pattern.{Pattern, out-Pattern}
use Rattle.pattern_data.specs.declared.pattern.Pattern.TheOpen.Pattern-F.{Set, Seq, Alt, Star, Plus, Opt}
use Rattle.pattern_data.specs.Bytes.{IsMember}
use Rattle.pattern_data.specs.Language.{Matches, MatchesInOrder, positions_of}
use Rattle.pattern_data.specs.Language.Matches.{in_order, repeated, left_out}
use Rattle.pattern_data.specs.Language.MatchesInOrder.{no_member, first_member}
use Rattle.pattern_data.specs.Language.Repeats.{no_more}
use Rattle.position_theory.specs.Positions.{count_all, IsSet, IsSequence, IsChoice, IsOption, IsLoop, HasInner, Reads, ReadsAmong, IsFirst, IsFirstInOrder, IsFirstOfOne, IsLast, IsLastInOrder, IsLastOfOne, Follows, FollowsInOrder, FollowsInOne}
use Rattle.position_theory.specs.Positions.IsLoop.{star_loop, plus_loop}
use Rattle.position_theory.specs.Positions.HasMembers.{sequence_members, choice_members}
use Rattle.position_theory.specs.Positions.HasInner.{loop_inner, option_inner}
use Rattle.position_theory.specs.Positions.Reads.{set_reads, member_reads, inner_reads}
use Rattle.position_theory.specs.Positions.ReadsAmong.{this_reads, later_reads}
use Rattle.position_theory.specs.Positions.IsFirst.{set_first, sequence_first, choice_first, inner_first}
use Rattle.position_theory.specs.Positions.IsFirstInOrder.{first_in_first, first_behind}
use Rattle.position_theory.specs.Positions.IsFirstOfOne.{first_in_this, first_in_later}
use Rattle.position_theory.specs.Positions.IsLast.{set_last, sequence_last, choice_last, inner_last}
use Rattle.position_theory.specs.Positions.IsLastInOrder.{last_in_first, last_behind}
use Rattle.position_theory.specs.Positions.IsLastOfOne.{last_in_this, last_in_later}
use Rattle.position_theory.specs.Positions.Follows.{sequence_follows, choice_follows, inner_follows, follows_again}
use Rattle.position_theory.specs.Positions.FollowsInOrder.{follows_within, follows_across, follows_behind}
use Rattle.position_theory.specs.Positions.FollowsInOne.{follows_in_this, follows_in_later}
use Rattle.position_theory.proofs.LayerLemmas.{count_set, count_members, count_inner}
use Rattle.position_theory.proofs.MatchLemmas.{last_sequence, last_choice, last_inner, last_first, last_rest, last_this, last_later}
use Rattle.position_theory.proofs.StepLemmas.{reads_set, reads_members, reads_inner, reads_this, reads_later}
use Rattle.position_theory.proofs.PartLemmas.{first_set, first_sequence, first_choice, first_inner, follows_set, follows_sequence, follows_choice, follows_option, follows_loop, FollowsInLoop, FollowsHere, order_follows_here, order_follows_rest, one_follows_here, one_follows_rest, empty_set, empty_sequence, order_empty}
use Rattle.position_sets.specs.declared.following.Position.{Position}
use Rattle.position_sets.specs.Begins.{SomeIsEmpty, IsPlaceOf}
use Rattle.position_sets.specs.Follows.{IsBehind, IsFront, ArePositions, ArePositionsInOrder, ArePositionsOfOne, IsSetAdded}
use Rattle.position_sets.specs.Sets.{Has, IsSetOfWords, has_place}
use Rattle.position_sets.proofs.BeginLemmas.{choice_empty, plus_empty}

-- ---- an element of a list and of two
pub one_element : {X : Type 0} (x y : X) (q : ℕ) → slice_get (x ∷ []) q ≡ Some y → (q ≡ 0) × (x ≡ y)
one_element x y zero is = (refl, cc)
one_element x y (suc q) is = absurd (cc)

pub two_lists : {X : Type 0} (xs ys : List X) (q : ℕ) (y : X) → slice_get (xs ++ ys) q ≡ Some y → ((q < length xs) × (slice_get xs q ≡ Some y)) ⊎ ((j : ℕ) × (q ≡ length xs + j) × (slice_get ys j ≡ Some y))
two_lists [] ys q y is = inr (q, omega arith, is)
two_lists (x ∷ xs) ys zero y is = inl (omega arith, is)
two_lists (x ∷ xs) ys (suc q) y is = ⊎_elim (λ h. inl (omega (arith, h.0), h.1)) (λ h. inr (h.0, omega (arith, h.1), h.2)) (two_lists xs ys q y is)

-- ---- the same of another pattern
module _ (p : Pattern) (base size : ℕ) (Ahead : ℕ → Type 0) (positions : List Position) (front : List ℕ) where
  pub sequence_positions : (members : List Pattern) → out-Pattern p ≡ Seq members → ArePositionsInOrder members base size Ahead positions front → ArePositions p base size Ahead positions front
  sequence_positions members opens h =
      let is : IsSequence p members = record { opens = opens } in
      record {
        count_is = h.count_is ∙ sym (count_members (sequence_members is));
        reads = λ q row at byte. (λ m. member_reads (sequence_members is) ((h.reads q row at byte).0 m), λ r. (h.reads q row at byte).1 (reads_members (sequence_members is) r));
        sets = h.sets;
        behind = λ q row at place. (
          λ has. ⊎_elim (λ f. inl (f.0, f.1, sequence_follows is f.2)) (λ l. inr (sequence_last is l.0, l.1)) ((h.behind q row at place).0 has),
          λ b. (h.behind q row at place).1 (⊎_elim (λ f. inl (f.0, f.1, follows_sequence is f.2)) (λ l. inr (last_sequence is l.0, l.1)) b),
        );
        front_set = h.front_set;
        front_has = λ place. (
          λ has. ⊎_elim (λ f. inl (f.0, f.1, sequence_first is f.2)) (λ l. inr (in_order opens l.0, l.1)) ((h.front_has place).0 has),
          λ b. (h.front_has place).1 (⊎_elim (λ f. inl (f.0, f.1, first_sequence is f.2)) (λ l. inr (empty_sequence is l.0, l.1)) b),
        );
      }

  pub choice_positions : (members : List Pattern) → out-Pattern p ≡ Alt members → ArePositionsOfOne members base size Ahead positions front → ArePositions p base size Ahead positions front
  choice_positions members opens h =
      let is : IsChoice p members = record { opens = opens } in
      let empty = choice_empty p members opens in
      record {
        count_is = h.count_is ∙ sym (count_members (choice_members is));
        reads = λ q row at byte. (λ m. member_reads (choice_members is) ((h.reads q row at byte).0 m), λ r. (h.reads q row at byte).1 (reads_members (choice_members is) r));
        sets = h.sets;
        behind = λ q row at place. (
          λ has. ⊎_elim (λ f. inl (f.0, f.1, choice_follows is f.2)) (λ l. inr (choice_last is l.0, l.1)) ((h.behind q row at place).0 has),
          λ b. (h.behind q row at place).1 (⊎_elim (λ f. inl (f.0, f.1, follows_choice is f.2)) (λ l. inr (last_choice is l.0, l.1)) b),
        );
        front_set = h.front_set;
        front_has = λ place. (
          λ has. ⊎_elim (λ f. inl (f.0, f.1, choice_first is f.2)) (λ l. inr (empty.0 l.0, l.1)) ((h.front_has place).0 has),
          λ b. (h.front_has place).1 (⊎_elim (λ f. inl (f.0, f.1, first_choice is f.2)) (λ l. inr (empty.1 l.0, l.1)) b),
        );
      }

  -- ---- an option
  pub option_positions : (inner : Pattern) (ahead : List ℕ) (begins : List ℕ) → out-Pattern p ≡ Opt inner → ((place : ℕ) → Has ahead place ↔ Ahead place) → ArePositions inner base size Ahead positions begins
      → IsSetOfWords size front → ((place : ℕ) → has_place front place ≡ (has_place begins place || has_place ahead place)) → ArePositions p base size Ahead positions front
  option_positions inner ahead begins opens is_ahead h set union =
      let is : IsOption p inner = record { opens = opens } in
      let has : HasInner p inner = option_inner is in
      record {
        count_is = h.count_is ∙ sym (count_inner has);
        reads = λ q row at byte. (λ m. inner_reads has ((h.reads q row at byte).0 m), λ r. (h.reads q row at byte).1 (reads_inner has r));
        sets = h.sets;
        behind = λ q row at place. (
          λ there. ⊎_elim (λ f. inl (f.0, f.1, inner_follows has f.2)) (λ l. inr (inner_last has l.0, l.1)) ((h.behind q row at place).0 there),
          λ b. (h.behind q row at place).1 (⊎_elim (λ f. inl (f.0, f.1, follows_option is f.2)) (λ l. inr (last_inner has l.0, l.1)) b),
        );
        front_set = set;
        front_has = λ place. (
          λ there. ⊎_elim
              (λ begin. ⊎_elim (λ f. inl (f.0, f.1, inner_first has f.2)) (λ l. inr (left_out opens refl, l.1)) ((h.front_has place).0 begin))
              (λ a. inr (left_out opens refl, (is_ahead place).0 a))
              (or_cases (has_place begins place) (has_place ahead place) (sym (union place) ∙ there)),
          λ b. union place ∙ ⊎_elim
              (λ f. or_left (has_place begins place) (has_place ahead place) ((h.front_has place).1 (inl (f.0, f.1, first_inner has f.2))))
              (λ l. or_right (has_place begins place) (has_place ahead place) ((is_ahead place).1 l.1)) b,
        );
      }

  -- ---- a loop, within which its inner pattern may begin again
  module _ (inner : Pattern) (again begins : List ℕ) (loop : IsLoop p inner)
      (places : (place : ℕ) → Has again place ↔ (IsPlaceOf (IsFirst inner) base place ⊎ Ahead place)) (h : ArePositions inner base size (Has again) positions begins) where
    from_again : (q place : ℕ) → IsLast inner q → IsPlaceOf (IsFirst inner) base place ⊎ Ahead place → IsBehind (Follows p) (IsLast p) Ahead base q place
    from_again q place last (inl first) = inl (first.0, first.1, follows_again loop last first.2)
    from_again q place last (inr ahead) = inr (inner_last (loop_inner loop) last, ahead)

    loop_from : (q place : ℕ) → IsBehind (Follows inner) (IsLast inner) (Has again) base q place → IsBehind (Follows p) (IsLast p) Ahead base q place
    loop_from q place (inl f) = inl (f.0, f.1, inner_follows (loop_inner loop) f.2)
    loop_from q place (inr l) = from_again q place l.0 ((places place).0 l.1)

    to_again : (q place k : ℕ) → place ≡ base + k → FollowsInLoop inner q k → IsBehind (Follows inner) (IsLast inner) (Has again) base q place
    to_again q place k at (inl follows) = inl (k, at, follows)
    to_again q place k at (inr both) = inr (both.0, (places place).1 (inl (k, at, both.1)))

    loop_to : (q place : ℕ) → IsBehind (Follows p) (IsLast p) Ahead base q place → IsBehind (Follows inner) (IsLast inner) (Has again) base q place
    loop_to q place (inl f) = to_again q place f.0 f.1 (follows_loop loop f.2)
    loop_to q place (inr l) = inr (last_inner (loop_inner loop) l.0, (places place).1 (inr l.1))

    loop_positions : IsSetOfWords size front → ((place : ℕ) → Has front place ↔ IsFront (IsFirst p) (Matches p []) Ahead base place) → ArePositions p base size Ahead positions front
    loop_positions set fronts = record {
      count_is = h.count_is ∙ sym (count_inner (loop_inner loop));
      reads = λ q row at byte. (λ m. inner_reads (loop_inner loop) ((h.reads q row at byte).0 m), λ r. (h.reads q row at byte).1 (reads_inner (loop_inner loop) r));
      sets = h.sets;
      behind = λ q row at place. (λ has. loop_from q place ((h.behind q row at place).0 has), λ b. (h.behind q row at place).1 (loop_to q place b));
      front_set = set;
      front_has = fronts;
    }

  pub star_positions : (inner : Pattern) (begins : List ℕ) → out-Pattern p ≡ Star inner → ((place : ℕ) → Has front place ↔ (IsPlaceOf (IsFirst inner) base place ⊎ Ahead place)) → IsSetOfWords size front
      → ArePositions inner base size (Has front) positions begins → ArePositions p base size Ahead positions front
  star_positions inner begins opens places set h =
      let has : HasInner p inner = loop_inner (star_loop opens) in
      loop_positions inner front begins (star_loop opens) places h set (λ place. (
        λ there. ⊎_elim (λ f. inl (f.0, f.1, inner_first has f.2)) (λ a. inr (repeated opens (no_more refl), a)) ((places place).0 there),
        λ b. (places place).1 (⊎_elim (λ f. inl (f.0, f.1, first_inner has f.2)) (λ l. inr l.1) b),
      ))

  pub plus_positions : (inner : Pattern) (again : List ℕ) → out-Pattern p ≡ Plus inner → ((place : ℕ) → Has again place ↔ (IsPlaceOf (IsFirst inner) base place ⊎ Ahead place))
      → ArePositions inner base size (Has again) positions front → ArePositions p base size Ahead positions front
  plus_positions inner again opens places h =
      let has : HasInner p inner = loop_inner (plus_loop opens) in
      let empty = plus_empty p inner opens in
      loop_positions inner again front (plus_loop opens) places h h.front_set (λ place. (
        λ there. ⊎_elim (λ f. inl (f.0, f.1, inner_first has f.2))
            (λ l. ⊎_elim (λ f. inl (f.0, f.1, inner_first has f.2)) (λ a. inr (empty.0 l.0, a)) ((places place).0 l.1))
            ((h.front_has place).0 there),
        λ b. (h.front_has place).1 (⊎_elim (λ f. inl (f.0, f.1, first_inner has f.2)) (λ l. inr (empty.1 l.0, (places place).1 (inr l.1))) b),
      ))

-- ---- one set
pub set_positions : (p : Pattern) (words : List ℕ) (size : ℕ) (ahead : List ℕ) (old new : List Position) (front : List ℕ) → out-Pattern p ≡ Set words → IsSetOfWords size ahead → (added : IsSetAdded words size ahead old new front)
    → ArePositions p (length old) size (Has ahead) (added.row ∷ []) front
set_positions p words size ahead old new front opens set added =
    let is : IsSet p words = record { opens = opens } in
    record {
      count_is = sym (count_set is);
      reads = λ q row at byte.
          let h = one_element added.row row q at in
          let same : row.bytes ≡ words = ap (λ (r : Position). r.bytes) (sym h.1) ∙ added.bytes_are in
          (λ m. set_reads is h.0 (subst (λ (ws : List ℕ). IsMember ws byte) same m), λ r. subst (λ (ws : List ℕ). IsMember ws byte) (sym same) (reads_set is r));
      sets = λ q row at.
          let h = one_element added.row row q at in
          let same : row.next.items ≡ ahead = ap (λ (r : Position). r.next.items) (sym h.1) ∙ added.next_is in
          subst (λ (ws : List ℕ). IsSetOfWords size ws) (sym same) set;
      behind = λ q row at place.
          let h = one_element added.row row q at in
          let same : row.next.items ≡ ahead = ap (λ (r : Position). r.next.items) (sym h.1) ∙ added.next_is in (
            λ has. inr (set_last is h.0, subst (λ (ws : List ℕ). Has ws place) same has),
            λ b. subst (λ (ws : List ℕ). Has ws place) (sym same) (⊎_elim (λ f. absurd (follows_set is f.2)) (λ l. l.1) b),
          );
      front_set = added.front_set;
      front_has = λ place. (
        λ has. inl (0, (added.front_has place).0 has ∙ omega arith, set_first is refl),
        λ b. (added.front_has place).1 (⊎_elim (λ f. let first : f.0 ≡ 0 = first_set is f.2 in let at : place ≡ length old + f.0 = f.1 in omega arith) (λ l. absurd (empty_set is l.0)) b),
      );
    }

-- ---- of no patterns
no_first_in_order : (k : ℕ) → IsFirstInOrder [] k → ⊥
no_first_in_order k first = elim first [ ]

no_first_of_one : (k : ℕ) → IsFirstOfOne [] k → ⊥
no_first_of_one k first = elim first [ ]

no_element : {X : Type 0} (x : X) (q : ℕ) → slice_get [] q ≡ Some x → ⊥
no_element x q is = cc

pub order_positions_none : (base size : ℕ) (Ahead : ℕ → Type 0) (front : List ℕ) → IsSetOfWords size front → ((place : ℕ) → Has front place ↔ Ahead place) → ArePositionsInOrder [] base size Ahead [] front
order_positions_none base size Ahead front set is = record {
  count_is = refl;
  reads = λ q row at byte. absurd (no_element row q at);
  sets = λ q row at. absurd (no_element row q at);
  behind = λ q row at place. absurd (no_element row q at);
  front_set = set;
  front_has = λ place. (λ has. inr (no_member refl, (is place).0 has), λ b. (is place).1 (⊎_elim (λ f. absurd (no_first_in_order f.0 f.2)) (λ l. l.1) b));
}

pub one_positions_none : (base size : ℕ) (Ahead : ℕ → Type 0) (front : List ℕ) → IsSetOfWords size front → ((place : ℕ) → has_place front place ≡ false) → ArePositionsOfOne [] base size Ahead [] front
one_positions_none base size Ahead front set none = record {
  count_is = refl;
  reads = λ q row at byte. absurd (no_element row q at);
  sets = λ q row at. absurd (no_element row q at);
  behind = λ q row at place. absurd (no_element row q at);
  front_set = set;
  front_has = λ place. (λ has. absurd (false≢true (sym (none place) ∙ has)), λ b. ⊎_elim (λ f. absurd (no_first_of_one f.0 f.2)) (λ l. absurd l.0) b);
}

-- ---- one more pattern in front of others
module _ (p : Pattern) (ps : List Pattern) (base size : ℕ) (Ahead : ℕ → Type 0) (rest here : List Position) where
  counted : {n : ℕ} → length rest ≡ count_all ps → n ≡ base + length rest → (place k : ℕ) → place ≡ n + k → place ≡ base + (count_all ps + k)
  counted same is place k at = omega arith

  back : {n : ℕ} → length rest ≡ count_all ps → n ≡ base + length rest → (place k q : ℕ) → place ≡ base + q → q ≡ count_all ps + k → place ≡ n + k
  back same is place k q at e = omega arith

  pub both_count : length rest ≡ count_all ps → length here ≡ positions_of p → length (rest ++ here) ≡ count_all (p ∷ ps)
  both_count same other = omega (arith, length-append rest here)

  pub here_at : length rest ≡ count_all ps → (q j : ℕ) → q ≡ length rest + j → q ≡ count_all ps + j
  here_at same q j is = omega arith

  pub reads_both : length rest ≡ count_all ps → ((q : ℕ) (row : Position) → slice_get rest q ≡ Some row → (byte : ℕ) → IsMember row.bytes byte ↔ ReadsAmong ps q byte)
      → ((q : ℕ) (row : Position) → slice_get here q ≡ Some row → (byte : ℕ) → IsMember row.bytes byte ↔ Reads p q byte)
      → (q : ℕ) (row : Position) → slice_get (rest ++ here) q ≡ Some row → (byte : ℕ) → IsMember row.bytes byte ↔ ReadsAmong (p ∷ ps) q byte
  reads_both same behind front q row at byte = ⊎_elim
      (λ h. let below : q < count_all ps = omega (arith, h.0) in
      (λ m. later_reads ((behind q row h.1 byte).0 m), λ r. (behind q row h.1 byte).1 (reads_later below r)))
      (λ h. let is : q ≡ count_all ps + h.0 = here_at same q h.0 h.1 in
      (λ m. this_reads ((front h.0 row h.2 byte).0 m) is, λ r. (front h.0 row h.2 byte).1 (reads_this is r)))
      (two_lists rest here q row at)

  pub sets_both : ((q : ℕ) (row : Position) → slice_get rest q ≡ Some row → IsSetOfWords size row.next.items) → ((q : ℕ) (row : Position) → slice_get here q ≡ Some row → IsSetOfWords size row.next.items)
      → (q : ℕ) (row : Position) → slice_get (rest ++ here) q ≡ Some row → IsSetOfWords size row.next.items
  sets_both behind front q row at = ⊎_elim (λ h. behind q row h.1) (λ h. front h.0 row h.2) (two_lists rest here q row at)

  -- in a sequence
  module _ (middle front : List ℕ) (n : ℕ) (h : ArePositionsInOrder ps base size Ahead rest middle) (g : ArePositions p n size (Has middle) here front) (starts : n ≡ base + length rest) where
    order_front : (place : ℕ) → IsFront (IsFirst p) (Matches p []) (Has middle) n place → IsFront (IsFirstInOrder (p ∷ ps)) (MatchesInOrder (p ∷ ps) []) Ahead base place
    order_front place (inl f) = inl (count_all ps + f.0, counted h.count_is starts place f.0 f.1, first_in_first f.2 refl)
    order_front place (inr l) = ⊎_elim (λ f. inl (f.0, f.1, first_behind l.0 f.2)) (λ e. inr (first_member {u = []} {v = []} l.0 e.0 refl, e.1)) ((h.front_has place).0 l.1)

    order_front_first : (place q : ℕ) → place ≡ base + q → IsFirstInOrder (p ∷ ps) q → IsFront (IsFirst p) (Matches p []) (Has middle) n place
    order_front_first place q at (first_in_first {k = k} first is) = inl (k, back h.count_is starts place k q at is, first)
    order_front_first place q at (first_behind string first) = inr (string, (h.front_has place).1 (inl (q, at, first)))

    order_front_to : (place : ℕ) → IsFront (IsFirstInOrder (p ∷ ps)) (MatchesInOrder (p ∷ ps) []) Ahead base place → IsFront (IsFirst p) (Matches p []) (Has middle) n place
    order_front_to place (inl f) = order_front_first place f.0 f.1 f.2
    order_front_to place (inr l) = let e = order_empty l.0 refl in inr (e.0, (h.front_has place).1 (inr (e.1, l.1)))

    -- behind a position of the rest
    order_rest_from : (q place : ℕ) → IsBehind (FollowsInOrder ps) (IsLastInOrder ps) Ahead base q place → IsBehind (FollowsInOrder (p ∷ ps)) (IsLastInOrder (p ∷ ps)) Ahead base q place
    order_rest_from q place (inl f) = inl (f.0, f.1, follows_behind f.2)
    order_rest_from q place (inr l) = inr (last_behind l.0, l.1)

    order_rest_to : (q place : ℕ) → q < count_all ps → IsBehind (FollowsInOrder (p ∷ ps)) (IsLastInOrder (p ∷ ps)) Ahead base q place → IsBehind (FollowsInOrder ps) (IsLastInOrder ps) Ahead base q place
    order_rest_to q place below (inl f) = inl (f.0, f.1, order_follows_rest below f.2)
    order_rest_to q place below (inr l) = inr (last_rest below l.0, l.1)

    -- behind a position of the first pattern
    order_here_from : (q j place : ℕ) → q ≡ count_all ps + j → IsBehind (Follows p) (IsLast p) (Has middle) n j place → IsBehind (FollowsInOrder (p ∷ ps)) (IsLastInOrder (p ∷ ps)) Ahead base q place
    order_here_from q j place is (inl f) = inl (count_all ps + f.0, counted h.count_is starts place f.0 f.1, follows_within f.2 is refl)
    order_here_from q j place is (inr l) = ⊎_elim (λ f. inl (f.0, f.1, follows_across l.0 is f.2)) (λ e. inr (last_in_first l.0 e.0 is, e.1)) ((h.front_has place).0 l.1)

    order_here_follows : (j place k : ℕ) → place ≡ base + k → FollowsHere p ps j k → IsBehind (Follows p) (IsLast p) (Has middle) n j place
    order_here_follows j place k at (inl f) = inl (f.0, back h.count_is starts place f.0 k at f.1, f.2)
    order_here_follows j place k at (inr both) = inr (both.0, (h.front_has place).1 (inl (k, at, both.1)))

    order_here_to : (q j place : ℕ) → q ≡ count_all ps + j → IsBehind (FollowsInOrder (p ∷ ps)) (IsLastInOrder (p ∷ ps)) Ahead base q place → IsBehind (Follows p) (IsLast p) (Has middle) n j place
    order_here_to q j place is (inl f) = order_here_follows j place f.0 f.1 (order_follows_here is f.2)
    order_here_to q j place is (inr l) = let e = last_first is l.0 in inr (e.0, (h.front_has place).1 (inr (e.1, l.1)))

    pub order_positions_more : ArePositionsInOrder (p ∷ ps) base size Ahead (rest ++ here) front
    order_positions_more = record {
      count_is = both_count h.count_is g.count_is;
      reads = reads_both h.count_is h.reads g.reads;
      sets = sets_both h.sets g.sets;
      behind = λ q row at place. ⊎_elim
          (λ l. let below : q < count_all ps = omega (arith, h.count_is, l.0) in
          (λ has. order_rest_from q place ((h.behind q row l.1 place).0 has), λ b. (h.behind q row l.1 place).1 (order_rest_to q place below b)))
          (λ l. let is : q ≡ count_all ps + l.0 = here_at h.count_is q l.0 l.1 in
          (λ has. order_here_from q l.0 place is ((g.behind l.0 row l.2 place).0 has), λ b. (g.behind l.0 row l.2 place).1 (order_here_to q l.0 place is b)))
          (two_lists rest here q row at);
      front_set = g.front_set;
      front_has = λ place. (λ has. order_front place ((g.front_has place).0 has), λ b. (g.front_has place).1 (order_front_to place b));
    }

  -- of which one is read
  module _ (others begins front : List ℕ) (n : ℕ) (h : ArePositionsOfOne ps base size Ahead rest others) (g : ArePositions p n size Ahead here begins) (starts : n ≡ base + length rest)
      (set : IsSetOfWords size front) (union : (place : ℕ) → has_place front place ≡ (has_place others place || has_place begins place)) where
    one_front_here : (place : ℕ) → IsFront (IsFirst p) (Matches p []) Ahead n place → IsFront (IsFirstOfOne (p ∷ ps)) (SomeIsEmpty (p ∷ ps)) Ahead base place
    one_front_here place (inl f) = inl (count_all ps + f.0, counted h.count_is starts place f.0 f.1, first_in_this f.2 refl)
    one_front_here place (inr l) = inr (inl l.0, l.1)

    one_front_rest : (place : ℕ) → IsFront (IsFirstOfOne ps) (SomeIsEmpty ps) Ahead base place → IsFront (IsFirstOfOne (p ∷ ps)) (SomeIsEmpty (p ∷ ps)) Ahead base place
    one_front_rest place (inl f) = inl (f.0, f.1, first_in_later f.2)
    one_front_rest place (inr l) = inr (inr l.0, l.1)

    one_front_first : (place q : ℕ) → place ≡ base + q → IsFirstOfOne (p ∷ ps) q → (has_place others place || has_place begins place) ≡ true
    one_front_first place q at (first_in_this {k = k} first is) = or_right (has_place others place) _ ((g.front_has place).1 (inl (k, back h.count_is starts place k q at is, first)))
    one_front_first place q at (first_in_later first) = or_left (has_place others place) (has_place begins place) ((h.front_has place).1 (inl (q, at, first)))

    one_front_empty : (place : ℕ) → SomeIsEmpty (p ∷ ps) → Ahead place → (has_place others place || has_place begins place) ≡ true
    one_front_empty place (inl string) ahead = or_right (has_place others place) _ ((g.front_has place).1 (inr (string, ahead)))
    one_front_empty place (inr some) ahead = or_left (has_place others place) (has_place begins place) ((h.front_has place).1 (inr (some, ahead)))

    one_front_to : (place : ℕ) → IsFront (IsFirstOfOne (p ∷ ps)) (SomeIsEmpty (p ∷ ps)) Ahead base place → (has_place others place || has_place begins place) ≡ true
    one_front_to place (inl f) = one_front_first place f.0 f.1 f.2
    one_front_to place (inr l) = one_front_empty place l.0 l.1

    one_rest_from : (q place : ℕ) → IsBehind (FollowsInOne ps) (IsLastOfOne ps) Ahead base q place → IsBehind (FollowsInOne (p ∷ ps)) (IsLastOfOne (p ∷ ps)) Ahead base q place
    one_rest_from q place (inl f) = inl (f.0, f.1, follows_in_later f.2)
    one_rest_from q place (inr l) = inr (last_in_later l.0, l.1)

    one_rest_to : (q place : ℕ) → q < count_all ps → IsBehind (FollowsInOne (p ∷ ps)) (IsLastOfOne (p ∷ ps)) Ahead base q place → IsBehind (FollowsInOne ps) (IsLastOfOne ps) Ahead base q place
    one_rest_to q place below (inl f) = inl (f.0, f.1, one_follows_rest below f.2)
    one_rest_to q place below (inr l) = inr (last_later below l.0, l.1)

    one_here_from : (q j place : ℕ) → q ≡ count_all ps + j → IsBehind (Follows p) (IsLast p) Ahead n j place → IsBehind (FollowsInOne (p ∷ ps)) (IsLastOfOne (p ∷ ps)) Ahead base q place
    one_here_from q j place is (inl f) = inl (count_all ps + f.0, counted h.count_is starts place f.0 f.1, follows_in_this f.2 is refl)
    one_here_from q j place is (inr l) = inr (last_in_this l.0 is, l.1)

    one_here_to : (q j place : ℕ) → q ≡ count_all ps + j → IsBehind (FollowsInOne (p ∷ ps)) (IsLastOfOne (p ∷ ps)) Ahead base q place → IsBehind (Follows p) (IsLast p) Ahead n j place
    one_here_to q j place is (inl f) = let t = one_follows_here is f.2 in inl (t.0, back h.count_is starts place t.0 f.0 f.1 t.1, t.2)
    one_here_to q j place is (inr l) = inr (last_this is l.0, l.1)

    pub one_positions_more : ArePositionsOfOne (p ∷ ps) base size Ahead (rest ++ here) front
    one_positions_more = record {
      count_is = both_count h.count_is g.count_is;
      reads = reads_both h.count_is h.reads g.reads;
      sets = sets_both h.sets g.sets;
      behind = λ q row at place. ⊎_elim
          (λ l. let below : q < count_all ps = omega (arith, h.count_is, l.0) in
          (λ has. one_rest_from q place ((h.behind q row l.1 place).0 has), λ b. (h.behind q row l.1 place).1 (one_rest_to q place below b)))
          (λ l. let is : q ≡ count_all ps + l.0 = here_at h.count_is q l.0 l.1 in
          (λ has. one_here_from q l.0 place is ((g.behind l.0 row l.2 place).0 has), λ b. (g.behind l.0 row l.2 place).1 (one_here_to q l.0 place is b)))
          (two_lists rest here q row at);
      front_set = set;
      front_has = λ place. (
        λ has. ⊎_elim (λ o. one_front_rest place ((h.front_has place).0 o)) (λ b. one_front_here place ((g.front_has place).0 b)) (or_cases (has_place others place) (has_place begins place) (sym (union place) ∙ has)),
        λ b. union place ∙ one_front_to place b,
      );
    }
