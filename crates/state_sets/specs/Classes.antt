-- The classes of a map: starts with one target are one class, and classes are numbered by the order in which their targets
-- first stand.
use Rattle.std.specs.Prelude.{◌≡◌, ◌≢◌, ◌↔◌, ℕ, ◌==◌, if◌then◌else◌, List, [], ◌∷◌, ◌++◌, map, fold, AllPairs, Contains, Some}
use Rattle.std.specs.List.{list_any}
use Rattle.map_theory.specs.Maps.{StateMap, IsRising, target}

-- the list, with the number at its end if it wasn't in it
abbrev pub put_once : List ℕ → ℕ → List ℕ
put_once ps p = (if list_any (λ x. p == x) ps then ps else ps ++ p ∷ [])

-- the different targets, in the order in which they first stand: that of each class
abbrev pub targets_of : StateMap → List ℕ
targets_of m = fold put_once [] (map (λ pair. pair.1) m)

-- each of these states, to itself
abbrev pub themselves : List ℕ → StateMap
themselves states = map (λ p. (p, p)) states

-- each target stands once among the targets of the classes, and nothing else does
abbrev pub ClassLaw : Type 0
ClassLaw = (m : StateMap) → IsRising m → AllPairs (λ x y. x ≢ y) (targets_of m) × ((p : ℕ) → Contains (targets_of m) p ↔ ((q : ℕ) × (target m q ≡ Some p)))
