-- The way down the tree to the node of which a range is a part.
use Rattle.std.proofs.Common.{◌≡◌, ℕ, ◌+◌, ◌/◌, ◌<◌, ◌≤◌, ⊎_elim, Bool, true, false, sym, ap, ◌∙◌, subst, arith}
use Rattle.core_theory.specs.Tree.{Range, left_part, right_part, part_of, IsRange, part, IsNode, IsWithin}
use Rattle.core_theory.proofs.TreeLemmas.{range_inside, within_trans, not_within, nested}
use Rattle.core_theory.proofs.CoverLemmas.{part_is_parent}
use Rattle.join_core.specs.Nodes.{range_from}

-- a range within another of the tree lies within a part of it
proper_part : {leaves : ℕ} {range node : Range} → IsRange leaves range → IsRange leaves node → IsWithin range node → (range ≡ node → ⊥) → (side : Bool) × IsNode leaves node × IsWithin range (part_of node side)
proper_part {leaves} {range} {node} is too within differs =
    let inside = range_inside is in
    ⊎_elim (λ same. absurd (differs same))
    (λ more. ⊎_elim
    (λ upper. absurd (not_within (part_is_parent upper.1 upper.0) (within_trans within upper.2)))
    (λ lower. lower)
    more)
    (nested range.first is too (omega arith) inside.some (omega (arith, within.from)) (omega (arith, inside.some, within.upto)))

-- the range from `low` up to `high` is one of the tree, and the one that is looked for lies within it
pub record IsOnWay (leaves first last low high : ℕ) : Type 0 where
  pub range : IsRange leaves (range_from low high)
  pub within : IsWithin (range_from first last) (range_from low high)
  pub differs : range_from first last ≡ range_from low high → ⊥

pub split_in_two : {leaves first last low high : ℕ} → IsRange leaves (range_from first last) → IsOnWay leaves first last low high → low + 2 ≤ high
split_in_two is way = (proper_part is way.range way.within way.differs).1.split

-- where the range ends before the boundary it lies in the left part
in_left : {leaves first last low high : ℕ} → IsRange leaves (range_from first last) → IsOnWay leaves first last low high → last ≤ (low + high) / 2 → IsWithin (range_from first last) (left_part (range_from low high))
in_left {leaves} {first} {last} {low} {high} is way before =
    let part = proper_part is way.range way.within way.differs in
    let some = (range_inside is).some in
    side part.0 part.2 some
  where
    side : (is_left : Bool) → IsWithin (range_from first last) (part_of (range_from low high) is_left) → first < last → IsWithin (range_from first last) (left_part (range_from low high))
    side true within some = within
    side false within some = absurd (omega (arith, within.from, some, before))

in_right : {leaves first last low high : ℕ} → IsRange leaves (range_from first last) → IsOnWay leaves first last low high → (low + high) / 2 < last → IsWithin (range_from first last) (right_part (range_from low high))
in_right {leaves} {first} {last} {low} {high} is way behind =
    let part = proper_part is way.range way.within way.differs in
    side part.0 part.2
  where
    side : (is_left : Bool) → IsWithin (range_from first last) (part_of (range_from low high) is_left) → IsWithin (range_from first last) (right_part (range_from low high))
    side true within = absurd (omega (arith, within.upto, behind))
    side false within = within

pub way_left : {leaves first last low high boundary : ℕ} → IsRange leaves (range_from first last) → IsOnWay leaves first last low high → boundary ≡ (low + high) / 2 → last ≤ boundary → (first ≡ low → last ≡ boundary → ⊥) → IsOnWay leaves first last low boundary
way_left {leaves} {first} {last} {low} {high} {boundary} is way at before differs =
    let P : ℕ → Type 0 = λ b. IsOnWay leaves first last low b in
    let within = in_left is way (omega (arith, at, before)) in
    subst P (sym at) (record {
      range = part true way.range (split_in_two is way);
      within = within;
      differs = λ same. differs (ap (λ r. r.first) same) (ap (λ r. r.last) same ∙ sym at);
    })

pub way_right : {leaves first last low high boundary : ℕ} → IsRange leaves (range_from first last) → IsOnWay leaves first last low high → boundary ≡ (low + high) / 2 → boundary < last → (first ≡ boundary → last ≡ high → ⊥) → IsOnWay leaves first last boundary high
way_right {leaves} {first} {last} {low} {high} {boundary} is way at behind differs =
    let P : ℕ → Type 0 = λ b. IsOnWay leaves first last b high in
    let within = in_right is way (omega (arith, at, behind)) in
    subst P (sym at) (record {
      range = part false way.range (split_in_two is way);
      within = within;
      differs = λ same. differs (ap (λ r. r.first) same ∙ sym at) (ap (λ r. r.last) same);
    })
