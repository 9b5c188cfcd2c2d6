-- The printed token list of a text.
use Rattle.std.specs.Prelude.{ℕ, ◌+◌, ◌-◌, max, List, [], ◌∷◌, ◌++◌, length, slice_get, slice_index, unwrap_or, codes}
use Rattle.std.specs.List.{flat_map}
use Rattle.std.specs.Fmt.{decimal}
use Rattle.grammar_data.specs.declared.token.Token.{Token}
use Rattle.scanning_theory.specs.Lines.{line_starts, line_feed}
use Rattle.sheet_data.specs.Sheet.{Sheet}
use Rattle.sheet_theory.specs.Names.{token_names}

-- a token's column, by the places where the lines begin: 1 plus its offset in its line
abbrev pub column_of : List ℕ → Token → ℕ
column_of starts token = token.place.start - slice_index starts (token.place.line - 1) + 1

-- a token's line of the list: its line, column, length and printed name, with one space between
abbrev pub token_line : List (List ℕ) → List ℕ → Token → List ℕ
token_line names starts token =
    decimal token.place.line ++ (32 ∷ (decimal (column_of starts token) ++ (32 ∷ (decimal token.place.len ++ (32 ∷ (unwrap_or (slice_get names token.id) [] ++ (line_feed ∷ [])))))))

-- the last line of the list: the line of the end of the text, which is that of its last line, or 1 where it has none
abbrev pub end_line : List ℕ → List ℕ
end_line starts = decimal (max 1 (length starts)) ++ codes " end of text\n"

-- a line for each token, and one for the end of the text
unfoldable pub listed_tokens : List (List ℕ) → List ℕ → List Token → List ℕ
listed_tokens names starts tokens = flat_map (token_line names starts) tokens ++ end_line starts

-- the token list of a text by a sheet
abbrev pub token_list : Sheet → List ℕ → List Token → List ℕ
token_list sheet text tokens = listed_tokens (token_names sheet) (line_starts text) tokens
