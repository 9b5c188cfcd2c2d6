-- How maps of states come from tables and from other maps. Each relation fixes the one map that is meant.
use Rattle.std.specs.Prelude.{ℕ, Bool, true, false, if◌then◌else◌, List, Some, None, is_some, option_and_then}
use Rattle.grammar_data.specs.declared.rule.Sym.{Sym}
use Rattle.grammar_data.specs.declared.rule.Sym.TheVariants.{Token}
use Rattle.table_data.specs.declared.act.Act.{Act}
use Rattle.table_data.specs.declared.act.Act.TheVariants.{Shift, Reduce, Accept, Error}
use Rattle.table_data.specs.Tables.{Tables, act_in, step_by}
use Rattle.map_theory.specs.Maps.{StateMap, target, IsMapOf, walk_by}

abbrev pub is_error : Act → Bool
is_error (Shift p) = false
is_error (Reduce r) = false
is_error Accept = false
is_error Error = true

-- each state that shifts the token, to the state that it shifts to
abbrev pub AreShiftStarts : Tables → ℕ → StateMap → Type 0
AreShiftStarts t a n = IsMapOf (λ q. step_by t q (Token a)) n

-- each start of `m`, to itself
abbrev pub IsIdentityOf : StateMap → StateMap → Type 0
IsIdentityOf m n = IsMapOf (λ q. if is_some (target m q) then Some q else None) n

-- each target followed along the symbol; a start is left out where there is no step
abbrev pub IsThenSymbol : Tables → Sym → StateMap → StateMap → Type 0
IsThenSymbol t x m n = IsMapOf (λ q. option_and_then (λ p. step_by t p x) (target m q)) n

-- the starts whose target is a start of `next`, to the target of `next`
abbrev pub IsComposed : StateMap → StateMap → StateMap → Type 0
IsComposed m next n = IsMapOf (λ q. option_and_then (target next) (target m q)) n

-- the pairs of `m` whose start is a start of `keep`
abbrev pub IsRestricted : StateMap → StateMap → StateMap → Type 0
IsRestricted m keep n = IsMapOf (λ q. if is_some (target keep q) then target m q else None) n

-- the pairs whose target has another action than an error on the token
abbrev pub AreAlive : Tables → ℕ → StateMap → StateMap → Type 0
AreAlive t a m n = IsMapOf (λ q. option_and_then (λ p. if is_error (act_in t p a) then None else Some p) (target m q)) n

-- the pairs whose target errs on the token
abbrev pub AreDead : Tables → ℕ → StateMap → StateMap → Type 0
AreDead t a m n = IsMapOf (λ q. option_and_then (λ p. if is_error (act_in t p a) then Some p else None) (target m q)) n

-- each state from which the symbols lead to a start of `m`, to that start
abbrev pub IsBack : Tables → List Sym → StateMap → StateMap → Type 0
IsBack t xs m n = IsMapOf (λ q. option_and_then (λ p. if is_some (target m p) then Some p else None) (walk_by t q xs)) n
