-- The first of the faults that were noted.
use Rattle.std.specs.Prelude.{◌≡◌, ◌⊎◌, Option, None, Some}
use Rattle.outline_data.specs.declared.fault.SheetFault.{SheetFault}
use Rattle.outline_data.specs.Keys.{IsNoLater}

-- the first fault comes no later than this one
abbrev pub IsCovered : Option SheetFault → SheetFault → Type 0
IsCovered None fault = ⊥
IsCovered (Some first) fault = IsNoLater first fault

-- all faults of a kind were noted: the first fault comes no later than any of them, nor than what came no earlier before;
-- and it is what it was before, or one of them
pub record Noted (before after : Option SheetFault) (Has : SheetFault → Type 0) : Type 0 where
  pub kept : (fault : SheetFault) → IsCovered before fault → IsCovered after fault
  pub noted : (fault : SheetFault) → Has fault → IsCovered after fault
  pub from : (after ≡ before) ⊎ ((fault : SheetFault) × ((after ≡ Some fault) × Has fault))
