-- The maps of a table, by their numbers, and what a look at a token says of a map.
use Rattle.std.specs.Prelude.{◌≡◌, ◌≢◌, ℕ, ◌<◌, ◌≤◌, ◌⊎◌, List, [], ◌++◌, length, slice_index_or, Some}
use Rattle.grammar_data.specs.declared.rule.Sym.TheVariants.{Token}
use Rattle.table_data.specs.declared.act.Act.TheVariants.{Error}
use Rattle.table_data.specs.Tables.{Tables, act_in}
use Rattle.map_theory.specs.Maps.{StateMap, target}
use Rattle.map_theory.specs.Agreements.{NoneLeft, AllShift, AllReduce, AreSeveral}
use Rattle.map_theory.specs.Relations.{AreAlive, IsThenSymbol}
use Rattle.arrow_table.specs.declared.look.Look.{Look}
use Rattle.arrow_table.specs.declared.look.Look.TheVariants as look

-- the map with this number
abbrev pub map_at : List StateMap → ℕ → StateMap
map_at maps id = slice_index_or maps id []

-- a map with this number is there, and this holds of it
pub record HasMap (maps : List StateMap) (id : ℕ) (P : StateMap → Type 0) : Type 0 where
  pub within : id < length maps
  pub is : P (map_at maps id)

-- maps are added behind the others, which stay
abbrev pub Grows : List StateMap → List StateMap → Type 0
Grows old new = (more : List StateMap) × (new ≡ old ++ more)

-- some target errs on the token
abbrev pub SomeErrs : Tables → ℕ → StateMap → Type 0
SomeErrs t a m = (q : ℕ) × (z : ℕ) × (target m q ≡ Some z) × (act_in t z a ≡ Error)

-- no target errs on the token
abbrev pub NoneErrs : Tables → ℕ → StateMap → Type 0
NoneErrs t a m = (q z : ℕ) → target m q ≡ Some z → act_in t z a ≢ Error

-- what a look at the token says of a map: some targets err, and this map has the others; or none errs, and all shift, and
-- this map has what they shift to; or all reduce by a rule; or they agree on nothing, or there is none
abbrev pub IsLook : Tables → ℕ → StateMap → List StateMap → Look → Type 0
IsLook t a m maps (look.Died alive) = SomeErrs t a m × HasMap maps alive (AreAlive t a m)
IsLook t a m maps (look.Shift to) = NoneErrs t a m × AllShift t a m × HasMap maps to (IsThenSymbol t (Token a) m)
IsLook t a m maps (look.Reduce rule) = NoneErrs t a m × AllReduce t a rule m
IsLook t a m maps look.Stuck = NoneErrs t a m × (NoneLeft t a m ⊎ AreSeveral t a m)

-- the number of the map that a look names, if any, isn't below this one
abbrev pub IsLookFrom : ℕ → Look → Type 0
IsLookFrom base (look.Died alive) = base ≤ alive
IsLookFrom base (look.Shift to) = base ≤ to
IsLookFrom base (look.Reduce rule) = Unit {0}
IsLookFrom base look.Stuck = Unit {0}
