-- What a refusal says.
use Rattle.std.specs.Prelude.{◌≡◌, ◌≢◌, ℕ, ◌⊎◌, List, []}
use Rattle.outline_data.specs.declared.fault.SheetFault.{SheetFault}
use Rattle.outline_data.specs.declared.fault.SheetFault.TheVariants.{NoRules, NoMemory}
use Rattle.outline_data.specs.Parts.{OutlineParts}
use Rattle.outline_theory.specs.LineFaults.{IsFirstLineFault}
use Rattle.outline_theory.specs.Reading.{IsFirstFault}

-- want of memory, or the bytes' first fault
abbrev pub IsReadFault : List ℕ → SheetFault → Type 0
IsReadFault bytes fault = (fault ≡ NoMemory) ⊎ IsFirstFault bytes fault

-- want of memory, the want of rules, or the first fault on a line
pub data IsOutlineRefused (outline : OutlineParts) : SheetFault → Type 0 where
  no_memory : IsOutlineRefused outline NoMemory
  no_rules : outline.groups ≡ [] → IsOutlineRefused outline NoRules
  on_line : {fault : SheetFault} → outline.groups ≢ [] → IsFirstLineFault outline fault → IsOutlineRefused outline fault
