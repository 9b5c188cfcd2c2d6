-- How deep a pattern is: more than each of its parts.
use Rattle.std.proofs.Common.{◌≡◌, ℕ, zero, suc, ◌+◌, ◌<◌, max, List, [], ◌∷◌, length, get_or, map, ap, ◌∙◌, arith}
use Rattle.pattern_data.specs.declared.pattern.Pattern.{Pattern, Pattern-F, out-Pattern, map-Pattern, fold-Pattern, fold_out-Pattern}
use Rattle.pattern_data.specs.declared.pattern.Pattern.TheOpen.Pattern-F.{Set, Seq, Alt, Star, Plus, Opt}

-- more than each of these numbers
abbrev pub above_all : List ℕ → ℕ
above_all [] = 0
above_all (n ∷ ns) = max (n + 1) (above_all ns)

abbrev pub depth_step : Pattern-F ℕ → ℕ
depth_step (Set words) = 0
depth_step (Seq depths) = above_all depths + 1
depth_step (Alt depths) = above_all depths + 1
depth_step (Star depth) = depth + 1
depth_step (Plus depth) = depth + 1
depth_step (Opt depth) = depth + 1

unfoldable pub depth_of : Pattern → ℕ
depth_of = fold-Pattern ℕ depth_step

abbrev pub depth_of_all : List Pattern → ℕ
depth_of_all ps = above_all (map depth_of ps)

depth_of-out : (p : Pattern) → depth_of p ≡ depth_step (map-Pattern Pattern ℕ depth_of (out-Pattern p))
unfolding depth_of
depth_of-out p = fold_out-Pattern ℕ depth_step p

pub sequence_deeper : (p : Pattern) (members others : List Pattern) → out-Pattern p ≡ Seq members → others ≡ members → depth_of_all others < depth_of p
sequence_deeper p members others opens same =
    let is : depth_of p ≡ depth_of_all members + 1 = depth_of-out p ∙ ap (λ layer. depth_step (map-Pattern Pattern ℕ depth_of layer)) opens in
    let e : depth_of_all others ≡ depth_of_all members = ap depth_of_all same in omega (arith, is, e)

pub choice_deeper : (p : Pattern) (members others : List Pattern) → out-Pattern p ≡ Alt members → others ≡ members → depth_of_all others < depth_of p
choice_deeper p members others opens same =
    let is : depth_of p ≡ depth_of_all members + 1 = depth_of-out p ∙ ap (λ layer. depth_step (map-Pattern Pattern ℕ depth_of layer)) opens in
    let e : depth_of_all others ≡ depth_of_all members = ap depth_of_all same in omega (arith, is, e)

pub star_deeper : (p inner other : Pattern) → out-Pattern p ≡ Star inner → other ≡ inner → depth_of other < depth_of p
star_deeper p inner other opens same =
    let is : depth_of p ≡ depth_of inner + 1 = depth_of-out p ∙ ap (λ layer. depth_step (map-Pattern Pattern ℕ depth_of layer)) opens in
    let e : depth_of other ≡ depth_of inner = ap depth_of same in omega (arith, is, e)

pub plus_deeper : (p inner other : Pattern) → out-Pattern p ≡ Plus inner → other ≡ inner → depth_of other < depth_of p
plus_deeper p inner other opens same =
    let is : depth_of p ≡ depth_of inner + 1 = depth_of-out p ∙ ap (λ layer. depth_step (map-Pattern Pattern ℕ depth_of layer)) opens in
    let e : depth_of other ≡ depth_of inner = ap depth_of same in omega (arith, is, e)

pub option_deeper : (p inner other : Pattern) → out-Pattern p ≡ Opt inner → other ≡ inner → depth_of other < depth_of p
option_deeper p inner other opens same =
    let is : depth_of p ≡ depth_of inner + 1 = depth_of-out p ∙ ap (λ layer. depth_step (map-Pattern Pattern ℕ depth_of layer)) opens in
    let e : depth_of other ≡ depth_of inner = ap depth_of same in omega (arith, is, e)

pub member_deeper : (members : List Pattern) (k : ℕ) (member : Pattern) → k < length members → member ≡ get_or members k member → depth_of member < depth_of_all members
member_deeper [] k member inside is = absurd (omega arith)
member_deeper (p ∷ ps) zero member inside is = let e : depth_of member ≡ depth_of p = ap depth_of is in omega (arith, e)
member_deeper (p ∷ ps) (suc k) member inside is = let below = member_deeper ps k member (omega arith) is in omega (arith, below)
