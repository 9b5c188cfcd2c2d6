-- How a cell of 32 bits tells what is known: 0 tells that nothing is. In others the last two bits tell the kind, and the rest
-- the number of the map or rule.
use Rattle.std.specs.Prelude.{ℕ, ◌+◌, ◌*◌, ◌/◌, ◌%◌, ◌^◌, ◌<◌, ◌==◌, if◌then◌else◌}
use Rattle.arrow_table.specs.declared.known.Known.{Known}
use Rattle.arrow_table.specs.declared.known.Known.TheVariants.{Nothing, Died, Step, Reduce, Stuck}

abbrev pub known_of : ℕ → Known
known_of code = (if code == 0 then Nothing else (if code % 4 == 0 then Stuck else (if code % 4 == 1 then Died (code / 4) else (if code % 4 == 2 then Step (code / 4) else Reduce (code / 4)))))

abbrev pub code_of : Known → ℕ
code_of Nothing = 0
code_of (Died m) = m * 4 + 1
code_of (Step m) = m * 4 + 2
code_of (Reduce r) = r * 4 + 3
code_of Stuck = 4

-- its number fits in the bits above the kind
abbrev pub IsSmall : Known → Type 0
IsSmall Nothing = Unit {0}
IsSmall (Died m) = m < 2 ^ 30
IsSmall (Step m) = m < 2 ^ 30
IsSmall (Reduce r) = r < 2 ^ 30
IsSmall Stuck = Unit {0}
