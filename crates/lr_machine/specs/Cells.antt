-- How a cell of 32 bits tells an action: its last two bits tell the kind, and the others the number of the state or rule.
use Rattle.std.specs.Prelude.{ℕ, ◌+◌, ◌*◌, ◌/◌, ◌%◌, ◌==◌, if◌then◌else◌}
use Rattle.table_data.specs.declared.act.Act.{Act}
use Rattle.table_data.specs.declared.act.Act.TheVariants.{Shift, Reduce, Accept, Error}

-- the action of a code
abbrev pub act_of : ℕ → Act
act_of code = (if code % 4 == 0 then Error else (if code % 4 == 1 then Accept else (if code % 4 == 2 then Shift (code / 4) else Reduce (code / 4))))

abbrev pub act_code : Act → ℕ
act_code Error = 0
act_code Accept = 1
act_code (Shift p) = p * 4 + 2
act_code (Reduce r) = r * 4 + 3
