-- The line on which a place stands.
use Rattle.std.specs.Prelude.{ℕ, ◌+◌, min, max, List, length, filter}
use Rattle.std.specs.List.{range_with_len}
use Rattle.scanning_theory.specs.Lines.{begins_line}

-- how many lines begin before a place
unfoldable pub lines_before : List ℕ → ℕ → ℕ
lines_before bytes at = length (filter (begins_line bytes) (range_with_len 0 at))

-- the line of a place, counted from 1: how many lines begin at it or before it. The end of the bytes stands on their last
-- line, and on line 1 where they have none
abbrev pub line_of : List ℕ → ℕ → ℕ
line_of bytes at = max 1 (lines_before bytes (min (at + 1) (length bytes)))
