-- The laws of maps of states.
use Rattle.std.specs.Prelude.{◌≡◌, ℕ, Bool, if◌then◌else◌, List, ◌++◌, Option, None, option_and_then, filter}
use Rattle.grammar_data.specs.declared.rule.Sym.{Sym}
use Rattle.table_data.specs.Tables.{Tables}
use Rattle.map_theory.specs.declared.agree.Agree.{Agree}
use Rattle.map_theory.specs.Maps.{StateMap, target, IsRising, IsMapOf, walk_by, followed}
use Rattle.map_theory.specs.Agreements.{Agrees}

-- a function has one map
abbrev pub OneMapLaw : Type 0
OneMapLaw = (f : ℕ → Option ℕ) (m n : StateMap) → IsMapOf f m → IsMapOf f n → m ≡ n

-- what a function makes of each target of a rising map is a map
abbrev pub FollowedLaw : Type 0
FollowedLaw = (f : ℕ → ℕ → Option ℕ) (m : StateMap) → IsRising m → IsMapOf (λ q. option_and_then (f q) (target m q)) (followed f m)

-- the pairs whose starts pass a test are a map
abbrev pub KeepLaw : Type 0
KeepLaw = (keep : ℕ → Bool) (m : StateMap) → IsRising m → IsMapOf (λ q. if keep q then target m q else None) (filter (λ pair. keep pair.0) m)

-- a walk along two lists
abbrev pub WalkLaw : Type 0
WalkLaw = (t : Tables) (q : ℕ) (xs ys : List Sym) → walk_by t q (xs ++ ys) ≡ option_and_then (λ p. walk_by t p ys) (walk_by t q xs)

-- the targets of a map agree in something
abbrev pub SomeAgreementLaw : Type 0
SomeAgreementLaw = (t : Tables) (a : ℕ) (m : StateMap) → IsRising m → (agree : Agree) × Agrees t a m agree

-- and in one thing alone
abbrev pub OneAgreementLaw : Type 0
OneAgreementLaw = (t : Tables) (a : ℕ) (m : StateMap) (one other : Agree) → Agrees t a m one → Agrees t a m other → one ≡ other
