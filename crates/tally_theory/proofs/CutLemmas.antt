-- A text is cut in one way, and its bounds are a cutting.
use Rattle.std.proofs.Common.{◌≡◌, ℕ, zero, suc, ◌+◌, ◌*◌, ◌/◌, ◌<◌, List, [], ◌∷◌, length, slice_get, Some, refl, sym, ap, ap₂, ◌∙◌, subst, arith}
use Rattle.cutting_theory.specs.Cuttings.{IsCutting, IsEven, bounds_at}
use Rattle.cutting_theory.proofs.BoundLemmas.{even_cuts, at_cuts}
use Rattle.tally_theory.specs.declared.cut.Cut.TheVariants.{Even, At}
use Rattle.tally_theory.specs.Laws.{CutLaw, OneCutLaw, SomeCutLaw}

pub cutting : CutLaw
cutting (Even segments) lines bounds can has = even_cuts lines segments bounds can.0 can.1 has
cutting (At begins) lines bounds can has = subst (IsCutting lines) (sym has) (at_cuts lines begins can)

-- as long lists with the same in each place are the same
pub same_by_places : {X : Type 0} (xs ys : List X) → length xs ≡ length ys → ((i : ℕ) → i < length xs → slice_get xs i ≡ slice_get ys i) → xs ≡ ys
same_by_places [] [] count same = refl
same_by_places [] (y ∷ ys) count same = absurd (omega (arith, count))
same_by_places (x ∷ xs) [] count same = absurd (omega (arith, count))
same_by_places (x ∷ xs) (y ∷ ys) count same =
    let first = same 0 (omega arith) in
    ap₂ (λ a l. a ∷ l) (cc) (same_by_places xs ys (omega (arith, count)) (λ i less. same (suc i) (omega (arith, less))))

one_even : (lines segments : ℕ) (bounds others : List ℕ) → IsEven lines segments bounds → IsEven lines segments others → bounds ≡ others
one_even lines segments bounds others one two = same_by_places bounds others (one.many ∙ sym two.many) (λ i less. let many = one.many in one.each i (omega (arith, many, less)) ∙ sym (two.each i (omega (arith, many, less))))

pub one_cut : OneCutLaw
one_cut (Even segments) lines bounds others one two = one_even lines segments bounds others one two
one_cut (At begins) lines bounds others one two = one ∙ sym two

-- so many bounds from this one on
abbrev even_bounds : ℕ → ℕ → ℕ → ℕ → List ℕ
even_bounds lines segments from zero = []
even_bounds lines segments from (suc count) = ((from * lines) / segments) ∷ even_bounds lines segments (suc from) count

even_many : (lines segments from count : ℕ) → length (even_bounds lines segments from count) ≡ count
even_many lines segments from zero = refl
even_many lines segments from (suc count) = ap suc (even_many lines segments (suc from) count)

even_each : (lines segments from count i at : ℕ) → i < count → at ≡ from + i → slice_get (even_bounds lines segments from count) i ≡ Some ((at * lines) / segments)
even_each lines segments from zero i at less e = absurd (omega (arith, less))
even_each lines segments from (suc count) zero at less e = let same : from ≡ at = omega (arith, e) in ap (λ n. Some ((n * lines) / segments)) same
even_each lines segments from (suc count) (suc i) at less e = even_each lines segments (suc from) count i at (omega (arith, less)) (omega (arith, e))

pub some_cut : SomeCutLaw
some_cut (Even segments) lines = (
  even_bounds lines segments 0 (suc segments),
  record {
    many = let count = even_many lines segments 0 (suc segments) in omega (arith, count);
    each = λ i less. even_each lines segments 0 (suc segments) i i (omega (arith, less)) (omega arith);
  },
)
some_cut (At begins) lines = (bounds_at lines begins, refl)
