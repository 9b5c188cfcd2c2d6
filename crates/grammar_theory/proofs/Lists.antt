-- Where an element of a list that is joined of two stands.
use Rattle.std.proofs.Common.{◌≡◌, List, [], ◌∷◌, ◌++◌, refl, ap}

-- `z` stands in `xs`, or in `ys`
pub data Splits {X : Type 0} (xs ys front : List X) (z : X) (back : List X) : Type 0 where
  in_first : (mid : List X) → xs ≡ front ++ z ∷ mid → back ≡ mid ++ ys → Splits xs ys front z back
  in_second : (mid : List X) → front ≡ xs ++ mid → ys ≡ mid ++ z ∷ back → Splits xs ys front z back

splits_along : {X : Type 0} {x y : X} {xs ys front : List X} {z : X} {back : List X} → x ≡ y → Splits xs ys front z back → Splits (x ∷ xs) ys (y ∷ front) z back
splits_along {x = x} e (in_first mid at rest) = in_first mid (cc) rest
splits_along {x = x} e (in_second mid at rest) = in_second mid (cc) rest

pub splits : {X : Type 0} (xs ys front : List X) (z : X) (back : List X) → xs ++ ys ≡ front ++ z ∷ back → Splits xs ys front z back
splits [] ys front z back e = in_second front refl e
splits (x ∷ xs) ys [] z back e = in_first xs (cc) (cc)
splits (x ∷ xs) ys (y ∷ front) z back e = splits_along (cc) (splits xs ys front z back (cc))

-- a list is empty, or one with a last element
pub data Pushed {X : Type 0} (ys : List X) : Type 0 where
  empty : ys ≡ [] → Pushed ys
  pushed : (xs : List X) (x : X) → ys ≡ xs ++ x ∷ [] → Pushed ys

pub pushed_front : {X : Type 0} (y : X) {ys : List X} → Pushed ys → Pushed (y ∷ ys)
pushed_front y (empty e) = pushed [] y (ap (λ l. y ∷ l) e)
pushed_front y (pushed xs x e) = pushed (y ∷ xs) x (ap (λ l. y ∷ l) e)

pub all_pushed : {X : Type 0} (ys : List X) → Pushed ys
all_pushed [] = empty refl
all_pushed (y ∷ ys) = pushed_front y (all_pushed ys)
