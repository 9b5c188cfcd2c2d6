-- The join tree: ranges with a leaf in common are nested, boundaries name nodes, ranges have parents, leaves are ranges.
use Rattle.std.proofs.Common.{◌≡◌, ℕ, zero, suc, ◌+◌, ◌-◌, ◌<◌, ◌≤◌, ◌⊎◌, inl, inr, ⊎_elim, Bool, true, false, cond, nat_lt, nat_le, refl, sym, ap, ◌∙◌, subst, arith}
use Rattle.std.proofs.lemmas.Bool.{cases_lt, cases_order, lt-ltb, le-ltb, le-leb, lt-leb, cond-true, cond-false}
use Rattle.core_theory.specs.Tree.{Range, whole_range, leaf_range, boundary_of, left_part, right_part, part_of, IsRange, whole, part, IsNode, IsParent, IsWithin}
use Rattle.core_theory.specs.Laws.{NestedLaw, SomeNodeLaw, OneNodeLaw, SomeParentLaw, OneParentLaw, LeafLaw}

pub cases_le : (a b : ℕ) → (a ≤ b) ⊎ (b < a)
cases_le a b = ⊎_elim (λ h. inr h) (λ h. inl h) (cases_lt b a)

-- ---- ranges inside the whole

pub record IsInside (leaves : ℕ) (range : Range) : Type 0 where
  pub some : range.first < range.last
  pub upto : range.last ≤ leaves

part_inside : {leaves : ℕ} {node : Range} (is_left : Bool) → IsInside leaves node → node.first + 2 ≤ node.last → IsInside leaves (part_of node is_left)
part_inside true inside split = record { some = omega arith; upto = omega arith }
part_inside false inside split = record { some = omega arith; upto = omega arith }

pub range_inside : {leaves : ℕ} {range : Range} → IsRange leaves range → IsInside leaves range
range_inside (whole some) = record { some = some; upto = omega arith }
range_inside (part is_left node split) = part_inside is_left (range_inside node) split

-- a boundary lies strictly within its node
pub boundary_inside : (node : Range) → node.first + 2 ≤ node.last → (node.first < boundary_of node) × (boundary_of node < node.last)
boundary_inside node split = (omega arith, omega arith)

pub within_trans : {a b c : Range} → IsWithin a b → IsWithin b c → IsWithin a c
within_trans ab bc = record { from = omega arith; upto = omega arith }

pub within_itself : {a : Range} → IsWithin a a
within_itself {a} = record { from = omega arith; upto = omega arith }

pub part_within : (node : Range) (is_left : Bool) → node.first + 2 ≤ node.last → IsWithin (part_of node is_left) node
part_within node true split = record { from = omega arith; upto = omega arith }
part_within node false split = record { from = omega arith; upto = omega arith }

-- ---- the way down to a leaf

-- the part of a range that has the leaf, or the range itself where it isn't split
abbrev below : ℕ → Range → Range
below leaf range = cond (nat_le (range.first + 2) range.last) (part_of range (nat_lt leaf (boundary_of range))) range

abbrev down : ℕ → Range → ℕ → Range
down leaf range zero = range
down leaf range (suc depth) = below leaf (down leaf range depth)

below_split : (leaf : ℕ) (range : Range) → range.first + 2 ≤ range.last → below leaf range ≡ part_of range (nat_lt leaf (boundary_of range))
below_split leaf range split = cond-true (nat_le (range.first + 2) range.last) _ _ (le-leb _ _ split)

below_whole : (leaf : ℕ) (range : Range) → range.last < range.first + 2 → below leaf range ≡ range
below_whole leaf range small = cond-false (nat_le (range.first + 2) range.last) _ _ (lt-leb _ _ small)

side_of : {leaf : ℕ} (node : Range) (is_left : Bool) → (part_of node is_left).first ≤ leaf → leaf < (part_of node is_left).last → nat_lt leaf (boundary_of node) ≡ is_left
side_of node true from upto = lt-ltb _ _ upto
side_of node false from upto = le-ltb _ _ from

on_way : {leaves leaf : ℕ} {range : Range} → IsRange leaves range → range.first ≤ leaf → leaf < range.last → (depth : ℕ) × (range ≡ down leaf (whole_range leaves) depth)
on_way (whole some) from upto = (0, refl)
on_way {leaves} {leaf} (part {node = node} is_left is split) from upto =
    let in_node = part_within node is_left split in
    let up = on_way {leaf = leaf} is (omega (arith, in_node.from)) (omega (arith, in_node.upto)) in
    let here : part_of node is_left ≡ below leaf node = ap (part_of node) (sym (side_of node is_left from upto)) ∙ sym (below_split leaf node split) in
    (suc up.0, here ∙ ap (below leaf) up.1)

-- a way is a way from each of its ranges on
way_from : (leaf : ℕ) (range : Range) (depth more : ℕ) → (end : ℕ) → end ≡ more + depth → down leaf range end ≡ down leaf (down leaf range depth) more
way_from leaf range depth zero end e = let same : end ≡ depth = omega (arith, e) in ap (down leaf range) same
way_from leaf range depth (suc more) end e =
    let here : end ≡ suc (more + depth) = omega (arith, e) in
    ap (down leaf range) here ∙ ap (below leaf) (way_from leaf range depth more (more + depth) refl)

below_within : (leaf : ℕ) (range : Range) → IsWithin (below leaf range) range
below_within leaf range = ⊎_elim
    (λ split. subst (λ r. IsWithin r range) (sym (below_split leaf range split)) (part_within range _ split))
    (λ small. subst (λ r. IsWithin r range) (sym (below_whole leaf range (omega (arith, small)))) within_itself)
    (cases_le (range.first + 2) range.last)

way_within : (leaf : ℕ) (range : Range) (more : ℕ) → IsWithin (down leaf range (suc more)) (below leaf range)
way_within leaf range zero = within_itself
way_within leaf range (suc more) = within_trans (below_within leaf (down leaf range (suc more))) (way_within leaf range more)

way_stays : (leaf : ℕ) (range : Range) (more : ℕ) → range.last < range.first + 2 → down leaf range more ≡ range
way_stays leaf range zero small = refl
way_stays leaf range (suc more) small = ap (below leaf) (way_stays leaf range more small) ∙ below_whole leaf range small

-- ---- nested ranges

abbrev pub IsBelow : ℕ → Range → Range → Type 0
IsBelow leaves upper lower = (is_left : Bool) × IsNode leaves upper × IsWithin lower (part_of upper is_left)

-- further down on the same way
further : {leaves : ℕ} (leaf : ℕ) {upper lower : Range} (more : ℕ) → IsRange leaves upper → lower ≡ down leaf upper (suc more) → (upper ≡ lower) ⊎ IsBelow leaves upper lower
further {leaves} leaf {upper} {lower} more is e = ⊎_elim
    (λ split.
    let down_here : IsWithin (down leaf upper (suc more)) (part_of upper (nat_lt leaf (boundary_of upper))) = subst (λ r. IsWithin (down leaf upper (suc more)) r) (below_split leaf upper split) (way_within leaf upper more) in
    inr (nat_lt leaf (boundary_of upper), record { range = is; split = split }, subst (λ r. IsWithin r (part_of upper (nat_lt leaf (boundary_of upper)))) (sym e) down_here))
    (λ small. inl (sym (e ∙ way_stays leaf upper (suc more) (omega (arith, small)))))
    (cases_le (upper.first + 2) upper.last)

pub nested : {leaves : ℕ} {range other : Range} (leaf : ℕ) → IsRange leaves range → IsRange leaves other → range.first ≤ leaf → leaf < range.last → other.first ≤ leaf → leaf < other.last → (range ≡ other) ⊎ (IsBelow leaves range other ⊎ IsBelow leaves other range)
nested {leaves} {range} {other} leaf is too from upto from1 upto1 =
    let here = on_way {leaf = leaf} is from upto in
    let there = on_way {leaf = leaf} too from1 upto1 in
    ⊎_elim
    (λ same. inl (here.1 ∙ ap (down leaf (whole_range leaves)) same ∙ sym there.1))
    (λ differ. ⊎_elim
    (λ lower.
    let way : other ≡ down leaf range (suc (there.0 - here.0 - 1)) = there.1 ∙ way_from leaf (whole_range leaves) here.0 (suc (there.0 - here.0 - 1)) there.0 (omega (arith, lower)) ∙ ap (λ r. down leaf r (suc (there.0 - here.0 - 1))) (sym here.1) in
    ⊎_elim (λ same. inl same) (λ under. inr (inl under)) (further leaf (there.0 - here.0 - 1) is way))
    (λ upper.
    let way : range ≡ down leaf other (suc (here.0 - there.0 - 1)) = here.1 ∙ way_from leaf (whole_range leaves) there.0 (suc (here.0 - there.0 - 1)) here.0 (omega (arith, upper)) ∙ ap (λ r. down leaf r (suc (here.0 - there.0 - 1))) (sym there.1) in
    ⊎_elim (λ same. inl (sym same)) (λ under. inr (inr under)) (further leaf (here.0 - there.0 - 1) too way))
    differ)
    (cases_order here.0 there.0)

pub nested_law : NestedLaw
nested_law leaves range other leaf is too from upto from1 upto1 = nested leaf is too from upto from1 upto1

-- ---- boundaries and parents

-- nothing that has the boundary's leaf and the one before it lies within a part
straddles : {leaves : ℕ} {node other : Range} → IsBelow leaves node other → other.first < boundary_of node → boundary_of node < other.last → ⊥
straddles (true, is, within) from upto = omega (arith, within.upto)
straddles (false, is, within) from upto = omega (arith, within.from)

pub one_node : {leaves : ℕ} {node other : Range} → IsNode leaves node → IsNode leaves other → boundary_of node ≡ boundary_of other → node ≡ other
one_node {leaves} {node} {other} is too same =
    let inside = boundary_inside node is.split in
    let inside1 = boundary_inside other too.split in
    let from1 : other.first < boundary_of node = omega (arith, same, inside1.0) in
    let upto1 : boundary_of node < other.last = omega (arith, same, inside1.1) in
    let from : node.first < boundary_of other = omega (arith, same, inside.0) in
    let upto : boundary_of other < node.last = omega (arith, same, inside.1) in
    ⊎_elim (λ e. e) (λ more. ⊎_elim (λ under. absurd (straddles under from1 upto1)) (λ under. absurd (straddles under from upto)) more)
    (nested (boundary_of node) is.range too.range (omega (arith, inside.0)) inside.1 (omega (arith, from1)) upto1)

pub one_node_law : OneNodeLaw
one_node_law leaves node other is too same = one_node is too same

-- a part has the first leaf of it, as its node does
pub part_leaf : {leaves : ℕ} {range node : Range} {is_left : Bool} → IsParent leaves range node is_left → (range.first < range.last) × IsWithin range node
part_leaf {leaves} {range} {node} {is_left} parent =
    let P : Range → Type 0 = λ r. (r.first < r.last) × IsWithin r node in
    subst P (sym parent.part) ((part_inside is_left (range_inside parent.inner.range) parent.inner.split).some, part_within node is_left parent.inner.split)

-- a leaf is in one part of a node at most
sides : (node : Range) (is_left is_other_left : Bool) (leaf : ℕ) → (part_of node is_left).first ≤ leaf → leaf < (part_of node is_left).last → (part_of node is_other_left).first ≤ leaf → leaf < (part_of node is_other_left).last → is_left ≡ is_other_left
sides node is_left is_other_left leaf from upto from1 upto1 = sym (side_of {leaf = leaf} node is_left from upto) ∙ side_of {leaf = leaf} node is_other_left from1 upto1

-- a part doesn't have all of its node
smaller : {leaves : ℕ} {range node : Range} (is_left : Bool) → IsNode leaves node → range ≡ part_of node is_left → IsWithin node range → ⊥
smaller {range = range} {node = node} true is e within = let last : range.last ≡ boundary_of node = ap (λ r. r.last) e in omega (arith, last, within.upto, is.split)
smaller {range = range} {node = node} false is e within = let first : range.first ≡ boundary_of node = ap (λ r. r.first) e in omega (arith, first, within.from, is.split)

pub not_within : {leaves : ℕ} {range node : Range} {is_left : Bool} → IsParent leaves range node is_left → IsWithin node range → ⊥
not_within {is_left = is_left} parent within = smaller is_left parent.inner parent.part within

-- a node that has a part of another doesn't lie within a part of the other
no_lower : {leaves : ℕ} {range node other : Range} {is_left is_other_left : Bool} → IsParent leaves range node is_left → IsParent leaves range other is_other_left → IsBelow leaves node other → ⊥
no_lower {leaves} {range} {node} {other} {is_left} {is_other_left} parent parent1 (side, is, within) =
    let leaf = part_leaf parent in
    let leaf1 = part_leaf parent1 in
    let in_part : IsWithin range (part_of node is_left) = subst (IsWithin range) parent.part within_itself in
    let same : side ≡ is_left = sides node side is_left range.first (omega (arith, leaf1.1.from, within.from)) (omega (arith, leaf.0, leaf1.1.upto, within.upto)) (omega (arith, in_part.from)) (omega (arith, leaf.0, in_part.upto)) in
    not_within parent1 (subst (IsWithin other) (ap (part_of node) same ∙ sym parent.part) within)

pub one_parent : {leaves : ℕ} {range node other : Range} {is_left is_other_left : Bool} → IsParent leaves range node is_left → IsParent leaves range other is_other_left → (node ≡ other) × (is_left ≡ is_other_left)
one_parent {leaves} {range} {node} {other} {is_left} {is_other_left} parent parent1 =
    let leaf = part_leaf parent in
    let leaf1 = part_leaf parent1 in
    let same : node ≡ other =
    ⊎_elim (λ e. e) (λ more. ⊎_elim (λ under. absurd (no_lower parent parent1 under)) (λ under. absurd (no_lower parent1 parent under)) more)
    (nested range.first parent.inner.range parent1.inner.range leaf.1.from (omega (arith, leaf.0, leaf.1.upto)) leaf1.1.from (omega (arith, leaf.0, leaf1.1.upto))) in
    let here : IsWithin range (part_of node is_left) = subst (IsWithin range) parent.part within_itself in
    let there : IsWithin range (part_of node is_other_left) = subst (λ n. IsWithin range (part_of n is_other_left)) (sym same) (subst (IsWithin range) parent1.part within_itself) in
    (same, sides node is_left is_other_left range.first here.from (omega (arith, leaf.0, here.upto)) there.from (omega (arith, leaf.0, there.upto)))

pub one_parent_law : OneParentLaw
one_parent_law leaves range node other is_left is_other_left parent parent1 = one_parent parent parent1

pub some_parent_law : SomeParentLaw
some_parent_law leaves range (whole some) differs = absurd (differs refl)
some_parent_law leaves range (part {node = node} is_left is split) differs = (node, is_left, record { inner = record { range = is; split = split }; part = refl })

node_at : (leaves boundary fuel : ℕ) (range : Range) → range.last ≤ range.first + fuel → IsRange leaves range → range.first < boundary → boundary < range.last → (node : Range) × IsNode leaves node × (boundary_of node ≡ boundary)
node_at leaves boundary zero range size is from upto = absurd (omega (arith, size, from, upto))
node_at leaves boundary (suc fuel) range size is from upto =
    let split : range.first + 2 ≤ range.last = omega arith in
    ⊎_elim (λ same. (range, record { range = is; split = split }, sym same))
    (λ differ. ⊎_elim
    (λ left. node_at leaves boundary fuel (left_part range) (omega arith) (part true is split) from left)
    (λ right. node_at leaves boundary fuel (right_part range) (omega arith) (part false is split) right upto)
    differ)
    (cases_order boundary (boundary_of range))

pub some_node_law : SomeNodeLaw
some_node_law leaves boundary from upto = node_at leaves boundary leaves (whole_range leaves) (omega arith) (whole (omega arith)) from upto

leaf_at : (leaves leaf fuel : ℕ) (range : Range) → range.last ≤ range.first + fuel → IsRange leaves range → range.first ≤ leaf → leaf < range.last → IsRange leaves (leaf_range leaf)
leaf_at leaves leaf zero range size is from upto = absurd (omega (arith, size, from, upto))
leaf_at leaves leaf (suc fuel) range size is from upto =
    ⊎_elim
    (λ split. ⊎_elim
    (λ left. leaf_at leaves leaf fuel (left_part range) (omega arith) (part true is split) from left)
    (λ right. leaf_at leaves leaf fuel (right_part range) (omega arith) (part false is split) right upto)
    (cases_lt leaf (boundary_of range)))
    (λ small.
    let first : range.first ≡ leaf = omega arith in
    let last : range.last ≡ leaf + 1 = omega arith in
    let same : range ≡ leaf_range leaf = λ i. record { first = first i; last = last i } in
    subst (IsRange leaves) same is)
    (cases_le (range.first + 2) range.last)

pub leaf_law : LeafLaw
leaf_law leaves leaf inside = leaf_at leaves leaf leaves (whole_range leaves) (omega arith) (whole (omega arith)) (omega arith) inside
