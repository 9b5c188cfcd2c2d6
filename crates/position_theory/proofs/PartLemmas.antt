-- What is said of a pattern is said of its parts: first positions, followers, and the empty string.
use Rattle.std.proofs.Common.{◌≡◌, ℕ, ◌+◌, ◌<◌, ◌⊎◌, inl, inr, List, [], ◌∷◌, ◌++◌, refl, sym, ◌∙◌, subst, arith}
use Rattle.std.specs.Prelude.{Contains}
use Rattle.pattern_data.specs.declared.pattern.Pattern.{Pattern, out-Pattern}
use Rattle.pattern_data.specs.declared.pattern.Pattern.TheOpen.Pattern-F.{Plus}
use Rattle.pattern_data.specs.Language.{Matches, MatchesInOrder}
use Rattle.pattern_data.specs.Language.Matches.{one_byte, in_order, any_one, repeated, at_least_once, once, left_out}
use Rattle.pattern_data.specs.Language.MatchesInOrder.{first_member}
use Rattle.position_theory.specs.Positions.{count_all, IsSet, IsSequence, IsChoice, IsOption, IsLoop, HasInner, IsFirst, IsFirstInOrder, IsFirstOfOne, IsLast, Follows, FollowsInOrder, FollowsInOne}
use Rattle.position_theory.specs.Positions.IsLoop.{star_loop, plus_loop}
use Rattle.position_theory.specs.Positions.HasMembers.{sequence_members, choice_members}
use Rattle.position_theory.specs.Positions.HasInner.{loop_inner, option_inner}
use Rattle.position_theory.specs.Positions.IsFirst.{set_first, sequence_first, choice_first, inner_first}
use Rattle.position_theory.specs.Positions.Follows.{sequence_follows, choice_follows, inner_follows, follows_again}
use Rattle.position_theory.specs.Positions.FollowsInOrder.{follows_within, follows_across, follows_behind}
use Rattle.position_theory.specs.Positions.FollowsInOne.{follows_in_this, follows_in_later}
use Rattle.position_theory.proofs.LayerLemmas.{set_no_members, set_no_inner, members_no_inner, sequence_no_choice, loop_no_option, members_same, inners_same}
use Rattle.position_theory.proofs.BoundLemmas.{order_follows_below, one_follows_below}

-- ---- first positions
pub first_set : {p : Pattern} {words : List ℕ} {q : ℕ} → IsSet p words → IsFirst p q → q ≡ 0
first_set is (set_first other at) = at
first_set is (sequence_first other first) = absurd (set_no_members is (sequence_members other))
first_set is (choice_first other first) = absurd (set_no_members is (choice_members other))
first_set is (inner_first inner first) = absurd (set_no_inner is inner)

pub first_sequence : {p : Pattern} {members : List Pattern} {q : ℕ} → IsSequence p members → IsFirst p q → IsFirstInOrder members q
first_sequence is (set_first other at) = absurd (set_no_members other (sequence_members is))
first_sequence {q = q} is (sequence_first other first) = let P : List Pattern → Type 0 = λ ms. IsFirstInOrder ms q in subst P (members_same (sequence_members other) (sequence_members is)) first
first_sequence is (choice_first other first) = absurd (sequence_no_choice is other)
first_sequence is (inner_first inner first) = absurd (members_no_inner (sequence_members is) inner)

pub first_choice : {p : Pattern} {members : List Pattern} {q : ℕ} → IsChoice p members → IsFirst p q → IsFirstOfOne members q
first_choice is (set_first other at) = absurd (set_no_members other (choice_members is))
first_choice is (sequence_first other first) = absurd (sequence_no_choice other is)
first_choice {q = q} is (choice_first other first) = let P : List Pattern → Type 0 = λ ms. IsFirstOfOne ms q in subst P (members_same (choice_members other) (choice_members is)) first
first_choice is (inner_first inner first) = absurd (members_no_inner (choice_members is) inner)

pub first_inner : {p inner : Pattern} {q : ℕ} → HasInner p inner → IsFirst p q → IsFirst inner q
first_inner has (set_first other at) = absurd (set_no_inner other has)
first_inner has (sequence_first other first) = absurd (members_no_inner (sequence_members other) has)
first_inner has (choice_first other first) = absurd (members_no_inner (choice_members other) has)
first_inner {q = q} has (inner_first other first) = let P : Pattern → Type 0 = λ i. IsFirst i q in subst P (inners_same other has) first

-- ---- followers
pub follows_set : {p : Pattern} {words : List ℕ} {q t : ℕ} → IsSet p words → Follows p q t → ⊥
follows_set is (sequence_follows other follows) = set_no_members is (sequence_members other)
follows_set is (choice_follows other follows) = set_no_members is (choice_members other)
follows_set is (inner_follows inner follows) = set_no_inner is inner
follows_set is (follows_again loop last first) = set_no_inner is (loop_inner loop)

pub follows_sequence : {p : Pattern} {members : List Pattern} {q t : ℕ} → IsSequence p members → Follows p q t → FollowsInOrder members q t
follows_sequence {q = q} {t = t} is (sequence_follows other follows) = let P : List Pattern → Type 0 = λ ms. FollowsInOrder ms q t in subst P (members_same (sequence_members other) (sequence_members is)) follows
follows_sequence is (choice_follows other follows) = absurd (sequence_no_choice is other)
follows_sequence is (inner_follows inner follows) = absurd (members_no_inner (sequence_members is) inner)
follows_sequence is (follows_again loop last first) = absurd (members_no_inner (sequence_members is) (loop_inner loop))

pub follows_choice : {p : Pattern} {members : List Pattern} {q t : ℕ} → IsChoice p members → Follows p q t → FollowsInOne members q t
follows_choice is (sequence_follows other follows) = absurd (sequence_no_choice other is)
follows_choice {q = q} {t = t} is (choice_follows other follows) = let P : List Pattern → Type 0 = λ ms. FollowsInOne ms q t in subst P (members_same (choice_members other) (choice_members is)) follows
follows_choice is (inner_follows inner follows) = absurd (members_no_inner (choice_members is) inner)
follows_choice is (follows_again loop last first) = absurd (members_no_inner (choice_members is) (loop_inner loop))

pub follows_option : {p inner : Pattern} {q t : ℕ} → IsOption p inner → Follows p q t → Follows inner q t
follows_option is (sequence_follows other follows) = absurd (members_no_inner (sequence_members other) (option_inner is))
follows_option is (choice_follows other follows) = absurd (members_no_inner (choice_members other) (option_inner is))
follows_option {q = q} {t = t} is (inner_follows inner follows) = let P : Pattern → Type 0 = λ i. Follows i q t in subst P (inners_same inner (option_inner is)) follows
follows_option is (follows_again loop last first) = absurd (loop_no_option loop is)

abbrev pub FollowsInLoop : Pattern → ℕ → ℕ → Type 0
FollowsInLoop inner q t = Follows inner q t ⊎ (IsLast inner q × IsFirst inner t)

pub follows_loop : {p inner : Pattern} {q t : ℕ} → IsLoop p inner → Follows p q t → FollowsInLoop inner q t
follows_loop is (sequence_follows other follows) = absurd (members_no_inner (sequence_members other) (loop_inner is))
follows_loop is (choice_follows other follows) = absurd (members_no_inner (choice_members other) (loop_inner is))
follows_loop {q = q} {t = t} is (inner_follows inner follows) = let P : Pattern → Type 0 = λ i. Follows i q t in inl (subst P (inners_same inner (loop_inner is)) follows)
follows_loop {q = q} {t = t} is (follows_again loop last first) = let P : Pattern → Type 0 = λ i. FollowsInLoop i q t in subst P (inners_same (loop_inner loop) (loop_inner is)) (inr (last, first))

-- of a list of patterns: of a position of the first one, and of one of the rest
abbrev pub FollowsHere : Pattern → List Pattern → ℕ → ℕ → Type 0
FollowsHere p ps j t = ((k : ℕ) × (t ≡ count_all ps + k) × Follows p j k) ⊎ (IsLast p j × IsFirstInOrder ps t)

pub order_follows_here : {p : Pattern} {ps : List Pattern} {j q t : ℕ} → q ≡ count_all ps + j → FollowsInOrder (p ∷ ps) q t → FollowsHere p ps j t
order_follows_here {p = p} {ps = ps} {j = j} {t = t} is (follows_within {j = other} {k = k} follows from to) = let same : other ≡ j = omega arith in let P : ℕ → Type 0 = λ n. Follows p n k in inl (k, to, subst P same follows)
order_follows_here {p = p} {j = j} is (follows_across {j = other} last from first) = let same : other ≡ j = omega arith in let P : ℕ → Type 0 = λ n. IsLast p n in inr (subst P same last, first)
order_follows_here is (follows_behind follows) = absurd (let below = order_follows_below follows in omega arith)

pub order_follows_rest : {p : Pattern} {ps : List Pattern} {q t : ℕ} → q < count_all ps → FollowsInOrder (p ∷ ps) q t → FollowsInOrder ps q t
order_follows_rest below (follows_within follows from to) = absurd (omega arith)
order_follows_rest below (follows_across last from first) = absurd (omega arith)
order_follows_rest below (follows_behind follows) = follows

abbrev pub FollowsThis : Pattern → List Pattern → ℕ → ℕ → Type 0
FollowsThis p ps j t = (k : ℕ) × (t ≡ count_all ps + k) × Follows p j k

pub one_follows_here : {p : Pattern} {ps : List Pattern} {j q t : ℕ} → q ≡ count_all ps + j → FollowsInOne (p ∷ ps) q t → FollowsThis p ps j t
one_follows_here {p = p} {j = j} is (follows_in_this {j = other} {k = k} follows from to) = let same : other ≡ j = omega arith in let P : ℕ → Type 0 = λ n. Follows p n k in (k, to, subst P same follows)
one_follows_here is (follows_in_later follows) = absurd (let below = one_follows_below follows in omega arith)

pub one_follows_rest : {p : Pattern} {ps : List Pattern} {q t : ℕ} → q < count_all ps → FollowsInOne (p ∷ ps) q t → FollowsInOne ps q t
one_follows_rest below (follows_in_this follows from to) = absurd (omega arith)
one_follows_rest below (follows_in_later follows) = follows

-- ---- the empty string
no_byte_empty : {byte : ℕ} {w : List ℕ} → w ≡ byte ∷ [] → w ≡ [] → ⊥
no_byte_empty is none = cc

front_empty : (u v : List ℕ) → [] ≡ u ++ v → (u ≡ []) × (v ≡ [])
front_empty [] v is = (refl, sym is)
front_empty (b ∷ u) v is = absurd (cc)

pub empty_set : {p : Pattern} {words : List ℕ} → IsSet p words → Matches p [] → ⊥
empty_set is (one_byte opens member string) = no_byte_empty string refl
empty_set is (in_order opens strings) = set_no_members is (sequence_members (record { opens = opens }))
empty_set is (any_one opens one string) = set_no_members is (choice_members (record { opens = opens }))
empty_set is (repeated opens strings) = set_no_inner is (loop_inner (star_loop opens))
empty_set is (at_least_once opens string strings parts) = set_no_inner is (loop_inner (plus_loop opens))
empty_set is (once opens string) = set_no_inner is (option_inner (record { opens = opens }))
empty_set is (left_out opens none) = set_no_inner is (option_inner (record { opens = opens }))

pub empty_sequence : {p : Pattern} {members : List Pattern} {w : List ℕ} → IsSequence p members → Matches p w → MatchesInOrder members w
empty_sequence is (one_byte opens member string) = absurd (set_no_members (record { opens = opens }) (sequence_members is))
empty_sequence {w = w} is (in_order opens strings) = let P : List Pattern → Type 0 = λ ms. MatchesInOrder ms w in subst P (members_same (sequence_members (record { opens = opens })) (sequence_members is)) strings
empty_sequence is (any_one opens one string) = absurd (sequence_no_choice is (record { opens = opens }))
empty_sequence is (repeated opens strings) = absurd (members_no_inner (sequence_members is) (loop_inner (star_loop opens)))
empty_sequence is (at_least_once opens string strings parts) = absurd (members_no_inner (sequence_members is) (loop_inner (plus_loop opens)))
empty_sequence is (once opens string) = absurd (members_no_inner (sequence_members is) (option_inner (record { opens = opens })))
empty_sequence is (left_out opens none) = absurd (members_no_inner (sequence_members is) (option_inner (record { opens = opens })))

abbrev pub HasEmptyMember : List Pattern → List ℕ → Type 0
HasEmptyMember members w = (member : Pattern) × Contains members member × Matches member w

pub empty_choice : {p : Pattern} {members : List Pattern} {w : List ℕ} → IsChoice p members → Matches p w → HasEmptyMember members w
empty_choice is (one_byte opens member string) = absurd (set_no_members (record { opens = opens }) (choice_members is))
empty_choice is (in_order opens strings) = absurd (sequence_no_choice (record { opens = opens }) is)
empty_choice {w = w} is (any_one {member = member} opens one string) = let P : List Pattern → Type 0 = λ ms. HasEmptyMember ms w in subst P (members_same (choice_members (record { opens = opens })) (choice_members is)) (member, one, string)
empty_choice is (repeated opens strings) = absurd (members_no_inner (choice_members is) (loop_inner (star_loop opens)))
empty_choice is (at_least_once opens string strings parts) = absurd (members_no_inner (choice_members is) (loop_inner (plus_loop opens)))
empty_choice is (once opens string) = absurd (members_no_inner (choice_members is) (option_inner (record { opens = opens })))
empty_choice is (left_out opens none) = absurd (members_no_inner (choice_members is) (option_inner (record { opens = opens })))

plus_no_other : {p inner other : Pattern} → out-Pattern p ≡ Plus inner → IsLoop p other → inner ≡ other
plus_no_other opens (star_loop e) = absurd (cc)
plus_no_other opens (plus_loop e) = cc

-- a repetition at least once has the empty string where its inner pattern has it
pub empty_plus : {p inner : Pattern} {w : List ℕ} → out-Pattern p ≡ Plus inner → Matches p w → w ≡ [] → Matches inner []
empty_plus is (one_byte opens member string) none = absurd (no_byte_empty string none)
empty_plus is (in_order opens strings) none = absurd (members_no_inner (sequence_members (record { opens = opens })) (loop_inner (plus_loop is)))
empty_plus is (any_one opens one string) none = absurd (members_no_inner (choice_members (record { opens = opens })) (loop_inner (plus_loop is)))
empty_plus is (repeated opens strings) none = absurd (cc)
empty_plus is (at_least_once {inner = other} {u = u} {v = v} opens string strings parts) none =
    let same : other ≡ _ = plus_no_other opens (plus_loop is) in
    let front = front_empty u v (sym none ∙ parts) in
    let P : Pattern → Type 0 = λ i. Matches i [] in
    let Q : List ℕ → Type 0 = λ x. Matches other x in
    subst P same (subst Q front.0 string)
empty_plus is (once opens string) none = absurd (loop_no_option (plus_loop is) (record { opens = opens }))
empty_plus is (left_out opens nothing) none = absurd (loop_no_option (plus_loop is) (record { opens = opens }))

-- the empty string of a sequence: each member has it
pub order_empty : {p : Pattern} {ps : List Pattern} {w : List ℕ} → MatchesInOrder (p ∷ ps) w → w ≡ [] → Matches p [] × MatchesInOrder ps []
order_empty {p = p} {ps = ps} (first_member {u = u} {v = v} string strings parts) none =
    let front = front_empty u v (sym none ∙ parts) in
    let P : List ℕ → Type 0 = λ x. Matches p x in
    let Q : List ℕ → Type 0 = λ x. MatchesInOrder ps x in
    (subst P front.0 string, subst Q front.1 strings)
