-- The lines of a text. A line ends after a line feed, or at the end of the text; the empty text has no line, and none
-- begins after a line feed that ends the text.
use Rattle.std.specs.Prelude.{◌≡◌, ℕ, ◌-◌, Bool, ◌||◌, ◌==◌, List, length, filter, slice_get, slice_index, Some, ◌⊎◌}
use Rattle.std.specs.List.{range_with_len}

abbrev pub line_feed : ℕ
line_feed = 10

-- a line begins at the first byte and behind each line feed (asked of the places of the text's bytes alone)
abbrev pub begins_line : List ℕ → ℕ → Bool
begins_line text at = (at == 0) || (slice_index text (at - 1) == line_feed)

-- where the lines begin, in rising order: line k, counted from 0, begins at place k of this list
unfoldable pub line_starts : List ℕ → List ℕ
line_starts text = filter (begins_line text) (range_with_len 0 (length text))

-- no byte of the line is left: the text ends here, or the line's feed stands here
abbrev pub IsLineEnd : List ℕ → ℕ → Type 0
IsLineEnd text at = (at ≡ length text) ⊎ (slice_get text at ≡ Some line_feed)
