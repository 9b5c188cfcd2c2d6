-- In what the targets of a map agree on a token, those left aside that err: nothing is left, all that are left shift, all
-- reduce by one rule, or they do several things.
use Rattle.std.specs.Prelude.{◌≡◌, ◌≢◌, ℕ, ◌==◌, if◌then◌else◌, ◌⊎◌, Some}
use Rattle.table_data.specs.declared.act.Act.{Act}
use Rattle.table_data.specs.declared.act.Act.TheVariants.{Shift, Reduce, Accept, Error}
use Rattle.table_data.specs.Tables.{Tables, act_in}
use Rattle.map_theory.specs.declared.agree.Agree.{Agree}
use Rattle.map_theory.specs.declared.agree.Agree.TheVariants as agree
use Rattle.map_theory.specs.Maps.{StateMap, target}

-- every target errs
abbrev pub NoneLeft : Tables → ℕ → StateMap → Type 0
NoneLeft t a m = (q p : ℕ) → target m q ≡ Some p → act_in t p a ≡ Error

-- some target does something, and every one that doesn't err does this
pub record AllDo (does : Act → Type 0) (t : Tables) (a : ℕ) (m : StateMap) : Type 0 where
  pub some : (q : ℕ) × (p : ℕ) × (target m q ≡ Some p) × does (act_in t p a)
  pub each : (q p : ℕ) → target m q ≡ Some p → (act_in t p a ≡ Error) ⊎ does (act_in t p a)

abbrev pub IsShift : Act → Type 0
IsShift act = (p : ℕ) × (act ≡ Shift p)

abbrev pub AllShift : Tables → ℕ → StateMap → Type 0
AllShift t a m = AllDo IsShift t a m

abbrev pub AllReduce : Tables → ℕ → ℕ → StateMap → Type 0
AllReduce t a r m = AllDo (λ act. act ≡ Reduce r) t a m

-- two actions are moves, and not the same move: a shift and a reduction, or reductions by two rules
abbrev pub Differ : Act → Act → Type 0
Differ (Shift p) (Reduce r) = Unit {0}
Differ (Reduce r) (Shift p) = Unit {0}
Differ (Reduce r) (Reduce s) = r ≢ s
Differ x y = ⊥

-- two targets make moves that differ, or one accepts
pub data AreSeveral (t : Tables) (a : ℕ) (m : StateMap) : Type 0 where
  two_differ : (q p y z : ℕ) → target m q ≡ Some p → target m y ≡ Some z → Differ (act_in t p a) (act_in t z a) → AreSeveral t a m
  one_accepts : (q p : ℕ) → target m q ≡ Some p → act_in t p a ≡ Accept → AreSeveral t a m

-- this is what the targets agree in
abbrev pub Agrees : Tables → ℕ → StateMap → Agree → Type 0
Agrees t a m agree.NoneLeft = NoneLeft t a m
Agrees t a m agree.Shift = AllShift t a m
Agrees t a m (agree.Reduce r) = AllReduce t a r m
Agrees t a m agree.Several = AreSeveral t a m

-- in what targets agree that agree in something, and one more that does this
abbrev pub agreed : Agree → Act → Agree
agreed agreement Error = agreement
agreed agreement Accept = agree.Several
agreed agree.NoneLeft (Shift p) = agree.Shift
agreed agree.Shift (Shift p) = agree.Shift
agreed (agree.Reduce r) (Shift p) = agree.Several
agreed agree.Several (Shift p) = agree.Several
agreed agree.NoneLeft (Reduce s) = agree.Reduce s
agreed agree.Shift (Reduce s) = agree.Several
agreed (agree.Reduce r) (Reduce s) = (if r == s then agree.Reduce r else agree.Several)
agreed agree.Several (Reduce s) = agree.Several
