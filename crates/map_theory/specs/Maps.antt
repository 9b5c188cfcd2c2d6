-- Finite partial maps from states to states: lists of pairs of a start and its target, the starts rising. Where a parse begins
-- in the middle of a text, an entry of its stack has one: for each state that may stand below, the state on top.
-- Source: Fischer, On Parsing Context-Free Languages in Parallel Environments, 1975; Mickunas and Schell, Parallel Compilation
-- in a Multiprocessor Environment, 1978.
use Rattle.std.specs.Prelude.{◌≡◌, ℕ, ◌<◌, ◌==◌, if◌then◌else◌, List, [], ◌∷◌, AllPairs, filter_map, Option, Some, None, option_and_then}
use Rattle.std.specs.Option.{option_map}
use Rattle.grammar_data.specs.declared.rule.Sym.{Sym}
use Rattle.table_data.specs.Tables.{Tables, step_by}

abbrev pub StateMap : Type 0
StateMap = List (ℕ × ℕ)

-- the target of a start, if it is one
abbrev pub target : StateMap → ℕ → Option ℕ
target [] q = None
target (pair ∷ m) q = (if pair.0 == q then Some pair.1 else target m q)

-- each start stands once, the smaller before the greater
abbrev pub IsRising : StateMap → Type 0
IsRising m = AllPairs (λ x y. x.0 < y.0) m

-- the map is that of the function
pub record IsMapOf (f : ℕ → Option ℕ) (m : StateMap) : Type 0 where
  pub rising : IsRising m
  pub targets : (q : ℕ) → target m q ≡ f q

-- the state that the symbols lead to from a state, one step after another, if there is one
abbrev pub walk_by : Tables → ℕ → List Sym → Option ℕ
walk_by t q [] = Some q
walk_by t q (x ∷ xs) = option_and_then (λ p. walk_by t p xs) (step_by t q x)

-- what another function makes of each target: the pairs for which it gives something, with what it gives
abbrev pub followed : (ℕ → ℕ → Option ℕ) → StateMap → StateMap
followed f m = filter_map (λ pair. option_map (λ p. (pair.0, p)) (f pair.0 pair.1)) m
