-- How a pattern is made: in one way, and with as many positions as its parts have.
use Rattle.std.proofs.Common.{◌≡◌, ℕ, ◌+◌, List, [], ◌∷◌, map, sum, ap, ◌∙◌, arith}
use Rattle.std.specs.Prelude.{fold}
use Rattle.pattern_data.specs.declared.pattern.Pattern.{Pattern, out-Pattern, map-Pattern, fold_out-Pattern}
use Rattle.pattern_data.specs.Language.{positions_step, positions_of}
use Rattle.position_theory.specs.Positions.{count_all, IsSet, IsSequence, IsChoice, IsOption, IsLoop, HasMembers, HasInner}
use Rattle.position_theory.specs.Positions.IsLoop.{star_loop, plus_loop}
use Rattle.position_theory.specs.Positions.HasMembers.{sequence_members, choice_members}
use Rattle.position_theory.specs.Positions.HasInner.{loop_inner, option_inner}

-- ---- one way
pub set_no_members : {p : Pattern} {words : List ℕ} {members : List Pattern} → IsSet p words → HasMembers p members → ⊥
set_no_members is (sequence_members other) = cc
set_no_members is (choice_members other) = cc

pub set_no_inner : {p inner : Pattern} {words : List ℕ} → IsSet p words → HasInner p inner → ⊥
set_no_inner is (loop_inner (star_loop opens)) = cc
set_no_inner is (loop_inner (plus_loop opens)) = cc
set_no_inner is (option_inner other) = cc

pub members_no_inner : {p inner : Pattern} {members : List Pattern} → HasMembers p members → HasInner p inner → ⊥
members_no_inner (sequence_members is) (loop_inner (star_loop opens)) = cc
members_no_inner (sequence_members is) (loop_inner (plus_loop opens)) = cc
members_no_inner (sequence_members is) (option_inner other) = cc
members_no_inner (choice_members is) (loop_inner (star_loop opens)) = cc
members_no_inner (choice_members is) (loop_inner (plus_loop opens)) = cc
members_no_inner (choice_members is) (option_inner other) = cc

pub sets_same : {p : Pattern} {words others : List ℕ} → IsSet p words → IsSet p others → words ≡ others
sets_same is other = cc

pub sequence_no_choice : {p : Pattern} {members others : List Pattern} → IsSequence p members → IsChoice p others → ⊥
sequence_no_choice is other = cc

pub members_same : {p : Pattern} {members others : List Pattern} → HasMembers p members → HasMembers p others → members ≡ others
members_same (sequence_members is) (sequence_members other) = cc
members_same (sequence_members is) (choice_members other) = absurd (sequence_no_choice is other)
members_same (choice_members is) (sequence_members other) = absurd (sequence_no_choice other is)
members_same (choice_members is) (choice_members other) = cc

pub loop_no_option : {p inner other : Pattern} → IsLoop p inner → IsOption p other → ⊥
loop_no_option (star_loop opens) is = cc
loop_no_option (plus_loop opens) is = cc

loops_same : {p inner other : Pattern} → IsLoop p inner → IsLoop p other → inner ≡ other
loops_same (star_loop opens) (star_loop e) = cc
loops_same (star_loop opens) (plus_loop e) = absurd (cc)
loops_same (plus_loop opens) (star_loop e) = absurd (cc)
loops_same (plus_loop opens) (plus_loop e) = cc

pub inners_same : {p inner other : Pattern} → HasInner p inner → HasInner p other → inner ≡ other
inners_same (loop_inner loop) (loop_inner e) = loops_same loop e
inners_same (loop_inner loop) (option_inner e) = absurd (loop_no_option loop e)
inners_same (option_inner is) (loop_inner e) = absurd (loop_no_option e is)
inners_same (option_inner is) (option_inner e) = cc

-- ---- positions
positions_of-out : (p : Pattern) → positions_of p ≡ positions_step (map-Pattern Pattern ℕ positions_of (out-Pattern p))
unfolding positions_of
positions_of-out p = fold_out-Pattern ℕ positions_step p

fold_counts : (ps : List Pattern) (acc : ℕ) → fold ◌+◌ acc (map positions_of ps) ≡ acc + count_all ps
fold_counts [] acc = omega arith
fold_counts (p ∷ ps) acc = fold_counts ps (acc + positions_of p) ∙ omega arith

pub sum_counts : (ps : List Pattern) → sum (map positions_of ps) ≡ count_all ps
sum_counts ps = fold_counts ps 0 ∙ omega arith

pub count_set : {p : Pattern} {words : List ℕ} → IsSet p words → positions_of p ≡ 1
count_set {p = p} is = positions_of-out p ∙ ap (λ layer. positions_step (map-Pattern Pattern ℕ positions_of layer)) is.opens

pub count_members : {p : Pattern} {members : List Pattern} → HasMembers p members → positions_of p ≡ count_all members
count_members {p = p} {members = members} (sequence_members is) = positions_of-out p ∙ ap (λ layer. positions_step (map-Pattern Pattern ℕ positions_of layer)) is.opens ∙ sum_counts members
count_members {p = p} {members = members} (choice_members is) = positions_of-out p ∙ ap (λ layer. positions_step (map-Pattern Pattern ℕ positions_of layer)) is.opens ∙ sum_counts members

pub count_inner : {p inner : Pattern} → HasInner p inner → positions_of p ≡ positions_of inner
count_inner {p = p} (loop_inner (star_loop opens)) = positions_of-out p ∙ ap (λ layer. positions_step (map-Pattern Pattern ℕ positions_of layer)) opens
count_inner {p = p} (loop_inner (plus_loop opens)) = positions_of-out p ∙ ap (λ layer. positions_step (map-Pattern Pattern ℕ positions_of layer)) opens
count_inner {p = p} (option_inner is) = positions_of-out p ∙ ap (λ layer. positions_step (map-Pattern Pattern ℕ positions_of layer)) is.opens
