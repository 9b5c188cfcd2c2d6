-- What is said of a position is said of one of the pattern's: its number is below that of its positions.
use Rattle.std.proofs.Common.{◌≡◌, ℕ, ◌+◌, ◌<◌, List, ◌∷◌, arith}
use Rattle.pattern_data.specs.declared.pattern.Pattern.{Pattern}
use Rattle.pattern_data.specs.Language.{positions_of}
use Rattle.position_theory.specs.Positions.{count_all, Reads, ReadsAmong, Reaches, ReachesInOrder, ReachesOne, IsFirst, IsFirstInOrder, IsFirstOfOne, IsLast, IsLastInOrder, IsLastOfOne, Follows, FollowsInOrder, FollowsInOne, Ends}
use Rattle.position_theory.specs.Positions.HasMembers.{sequence_members, choice_members}
use Rattle.position_theory.specs.Positions.HasInner.{loop_inner, option_inner}
use Rattle.position_theory.specs.Positions.Reads.{set_reads, member_reads, inner_reads}
use Rattle.position_theory.specs.Positions.ReadsAmong.{this_reads, later_reads}
use Rattle.position_theory.specs.Positions.Reaches.{by_byte, in_sequence, in_choice, in_loop, in_option}
use Rattle.position_theory.specs.Positions.ReachesInOrder.{reaches_first, reaches_behind}
use Rattle.position_theory.specs.Positions.ReachesOne.{reaches_this, reaches_later}
use Rattle.position_theory.specs.Positions.IsFirst.{set_first, sequence_first, choice_first, inner_first}
use Rattle.position_theory.specs.Positions.IsFirstInOrder.{first_in_first, first_behind}
use Rattle.position_theory.specs.Positions.IsFirstOfOne.{first_in_this, first_in_later}
use Rattle.position_theory.specs.Positions.IsLast.{set_last, sequence_last, choice_last, inner_last}
use Rattle.position_theory.specs.Positions.IsLastInOrder.{last_in_first, last_behind}
use Rattle.position_theory.specs.Positions.IsLastOfOne.{last_in_this, last_in_later}
use Rattle.position_theory.specs.Positions.Follows.{sequence_follows, choice_follows, inner_follows, follows_again}
use Rattle.position_theory.specs.Positions.FollowsInOrder.{follows_within, follows_across, follows_behind}
use Rattle.position_theory.specs.Positions.FollowsInOne.{follows_in_this, follows_in_later}
use Rattle.position_theory.specs.Positions.Ends.{this_ends, later_ends}
use Rattle.position_theory.proofs.LayerLemmas.{count_set, count_members, count_inner}

-- of one of the positions of a set, of members, of an inner pattern
one_below : {q n : ℕ} → q ≡ 0 → n ≡ 1 → q < n
one_below is count = omega arith

part_below : {q n m : ℕ} → m ≡ n → q < n → q < m
part_below count below = omega arith

this_below : (p : Pattern) (ps : List Pattern) (k q : ℕ) → k < positions_of p → q ≡ count_all ps + k → q < count_all (p ∷ ps)
this_below p ps k q below is = omega arith

later_below : (p : Pattern) (ps : List Pattern) (q : ℕ) → q < count_all ps → q < count_all (p ∷ ps)
later_below p ps q below = omega arith

mutual
  pub reads_below : {p : Pattern} {q byte : ℕ} → Reads p q byte → q < positions_of p
  reads_below (set_reads opens is member) = one_below is (count_set opens)
  reads_below (member_reads members reads) = part_below (count_members members) (reads_all_below reads)
  reads_below (inner_reads inner reads) = part_below (count_inner inner) (reads_below reads)

  pub reads_all_below : {ps : List Pattern} {q byte : ℕ} → ReadsAmong ps q byte → q < count_all ps
  reads_all_below (this_reads {p = p} {ps = ps} reads is) = this_below p ps _ _ (reads_below reads) is
  reads_all_below (later_reads {p = p} {ps = ps} reads) = later_below p ps _ (reads_all_below reads)

mutual
  pub reaches_below : {p : Pattern} {w : List ℕ} {q : ℕ} → Reaches p w q → q < positions_of p
  reaches_below (by_byte opens member string is) = one_below is (count_set opens)
  reaches_below (in_sequence opens reach) = part_below (count_members (sequence_members opens)) (order_below reach)
  reaches_below (in_choice opens reach) = part_below (count_members (choice_members opens)) (one_reached_below reach)
  reaches_below (in_loop loop strings reach string) = part_below (count_inner (loop_inner loop)) (reaches_below reach)
  reaches_below (in_option opens reach) = part_below (count_inner (option_inner opens)) (reaches_below reach)

  pub order_below : {ps : List Pattern} {w : List ℕ} {q : ℕ} → ReachesInOrder ps w q → q < count_all ps
  order_below (reaches_first {p = p} {ps = ps} reach is) = this_below p ps _ _ (reaches_below reach) is
  order_below (reaches_behind {p = p} {ps = ps} string reach is) = later_below p ps _ (order_below reach)

  pub one_reached_below : {ps : List Pattern} {w : List ℕ} {q : ℕ} → ReachesOne ps w q → q < count_all ps
  one_reached_below (reaches_this {p = p} {ps = ps} reach is) = this_below p ps _ _ (reaches_below reach) is
  one_reached_below (reaches_later {p = p} {ps = ps} reach) = later_below p ps _ (one_reached_below reach)

mutual
  pub first_below : {p : Pattern} {q : ℕ} → IsFirst p q → q < positions_of p
  first_below (set_first opens is) = one_below is (count_set opens)
  first_below (sequence_first opens first) = part_below (count_members (sequence_members opens)) (order_first_below first)
  first_below (choice_first opens first) = part_below (count_members (choice_members opens)) (one_first_below first)
  first_below (inner_first inner first) = part_below (count_inner inner) (first_below first)

  pub order_first_below : {ps : List Pattern} {q : ℕ} → IsFirstInOrder ps q → q < count_all ps
  order_first_below (first_in_first {p = p} {ps = ps} first is) = this_below p ps _ _ (first_below first) is
  order_first_below (first_behind {p = p} {ps = ps} empty first) = later_below p ps _ (order_first_below first)

  pub one_first_below : {ps : List Pattern} {q : ℕ} → IsFirstOfOne ps q → q < count_all ps
  one_first_below (first_in_this {p = p} {ps = ps} first is) = this_below p ps _ _ (first_below first) is
  one_first_below (first_in_later {p = p} {ps = ps} first) = later_below p ps _ (one_first_below first)

mutual
  pub last_below : {p : Pattern} {q : ℕ} → IsLast p q → q < positions_of p
  last_below (set_last opens is) = one_below is (count_set opens)
  last_below (sequence_last opens last) = part_below (count_members (sequence_members opens)) (order_last_below last)
  last_below (choice_last opens last) = part_below (count_members (choice_members opens)) (one_last_below last)
  last_below (inner_last inner last) = part_below (count_inner inner) (last_below last)

  pub order_last_below : {ps : List Pattern} {q : ℕ} → IsLastInOrder ps q → q < count_all ps
  order_last_below (last_in_first {p = p} {ps = ps} last empty is) = this_below p ps _ _ (last_below last) is
  order_last_below (last_behind {p = p} {ps = ps} last) = later_below p ps _ (order_last_below last)

  pub one_last_below : {ps : List Pattern} {q : ℕ} → IsLastOfOne ps q → q < count_all ps
  one_last_below (last_in_this {p = p} {ps = ps} last is) = this_below p ps _ _ (last_below last) is
  one_last_below (last_in_later {p = p} {ps = ps} last) = later_below p ps _ (one_last_below last)

pub ends_below : {ps : List Pattern} {rank q : ℕ} → Ends ps rank q → q < count_all ps
ends_below (this_ends {p = p} {ps = ps} zero last is) = this_below p ps _ _ (last_below last) is
ends_below (later_ends {p = p} {ps = ps} lower ends) = later_below p ps _ (ends_below ends)

-- both positions
mutual
  pub follows_below : {p : Pattern} {q t : ℕ} → Follows p q t → (q < positions_of p) × (t < positions_of p)
  follows_below (sequence_follows opens follows) = let h = order_follows_below follows in (part_below (count_members (sequence_members opens)) h.0, part_below (count_members (sequence_members opens)) h.1)
  follows_below (choice_follows opens follows) = let h = one_follows_below follows in (part_below (count_members (choice_members opens)) h.0, part_below (count_members (choice_members opens)) h.1)
  follows_below (inner_follows inner follows) = let h = follows_below follows in (part_below (count_inner inner) h.0, part_below (count_inner inner) h.1)
  follows_below (follows_again loop last first) = (part_below (count_inner (loop_inner loop)) (last_below last), part_below (count_inner (loop_inner loop)) (first_below first))

  pub order_follows_below : {ps : List Pattern} {q t : ℕ} → FollowsInOrder ps q t → (q < count_all ps) × (t < count_all ps)
  order_follows_below (follows_within {p = p} {ps = ps} follows from to) = let h = follows_below follows in (this_below p ps _ _ h.0 from, this_below p ps _ _ h.1 to)
  order_follows_below (follows_across {p = p} {ps = ps} last from first) = (this_below p ps _ _ (last_below last) from, later_below p ps _ (order_first_below first))
  order_follows_below (follows_behind {p = p} {ps = ps} follows) = let h = order_follows_below follows in (later_below p ps _ h.0, later_below p ps _ h.1)

  pub one_follows_below : {ps : List Pattern} {q t : ℕ} → FollowsInOne ps q t → (q < count_all ps) × (t < count_all ps)
  one_follows_below (follows_in_this {p = p} {ps = ps} follows from to) = let h = follows_below follows in (this_below p ps _ _ h.0 from, this_below p ps _ _ h.1 to)
  one_follows_below (follows_in_later {p = p} {ps = ps} follows) = let h = one_follows_below follows in (later_below p ps _ h.0, later_below p ps _ h.1)
