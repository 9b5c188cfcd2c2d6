-- Texts between two of a closing byte: quoted texts, strings and patterns.
use Rattle.std.specs.Prelude.{ℕ, zero, suc, ◌+◌, ◌-◌, Bool, false, ◌&&◌, ◌||◌, ◌==◌, not, nat_lt, List, length, slice_index, slice_range}
use Rattle.std.specs.List.{list_any}
use Rattle.scanning_theory.specs.Lines.{line_feed}
use Rattle.sheet_theory.specs.Names.{backslash}
use Rattle.lexeme_theory.specs.SheetBytes.{is_bad_in_text}
use Rattle.lexeme_theory.specs.Runs.{IsRun}

-- so many bytes behind the beginning of a text, a backslash takes the byte: one stands before it that none takes
abbrev pub is_taken_at : List ℕ → ℕ → ℕ → Bool
is_taken_at bytes from zero = false
is_taken_at bytes from (suc before) = (slice_index bytes (from + before) == backslash) && not (is_taken_at bytes from before)

-- the text that begins at `from` goes on at a place: no line feed stands there, nor a closing byte that no backslash
-- takes
abbrev pub text_goes_on : ℕ → List ℕ → ℕ → ℕ → Bool
text_goes_on closing bytes from at =
    not (slice_index bytes at == line_feed) && (not (slice_index bytes at == closing) || is_taken_at bytes from (at - from))

-- the text that begins at `from` ends before `to`: at its closing byte, at the line feed or at the end
abbrev pub IsTextRun : ℕ → List ℕ → ℕ → ℕ → Type 0
IsTextRun closing bytes from to = IsRun (text_goes_on closing bytes from) (length bytes) from to

-- the closing byte stands there
abbrev pub is_closed : ℕ → List ℕ → ℕ → Bool
is_closed closing bytes to = nat_lt to (length bytes) && (slice_index bytes to == closing)

-- one of the bytes up to `to` is bad
abbrev pub has_bad_byte : List ℕ → ℕ → ℕ → Bool
has_bad_byte bytes from to = list_any is_bad_in_text (slice_range bytes from to)
