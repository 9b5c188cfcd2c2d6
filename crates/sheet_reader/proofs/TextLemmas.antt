-- All printed names of a sheet's tokens.
use Rattle.std.proofs.Common.{◌≡◌, ℕ, ◌+◌, ◌≤◌, List, [], ◌∷◌, ◌++◌, length, map, take, get_or, ap, ◌∙◌, arith, length-append}
use Rattle.std.specs.Prelude.{slice_get, Some, codes}
use Rattle.std.proofs.lemmas.List.{take_more, take_all, length-map}
use Rattle.std.proofs.lemmas.Option.{slice_get_within, slice_get-get_or}
use Rattle.sheet_data.specs.Sheet.{Sheet}
use Rattle.sheet_theory.specs.Names.{quote, escaped, declared_names, token_names}
use Rattle.sheet_reader.specs.WellFormed.{IsWellFormed}

-- there are few tokens
pub few_tokens : (sheet : Sheet) → IsWellFormed sheet → sheet.grammar.tokens ≤ 250
few_tokens sheet well = omega (arith, well.tokens, well.count)

-- each token has a printed name, and so have the end mark and the bad byte
pub length-token_names : (sheet : Sheet) → IsWellFormed sheet → length (token_names sheet) ≡ sheet.grammar.tokens + 2
unfolding token_names
length-token_names sheet well =
    omega (arith, well.tokens, length-append (declared_names sheet.decls) (map (escaped quote) sheet.literals ++ (codes "end of text" ∷ codes "bad byte" ∷ [])), length-append (map (escaped quote) sheet.literals) (codes "end of text" ∷ codes "bad byte" ∷ []), length-map sheet.literals (escaped quote))

-- one element more
pub take_found : {X : Type 0} (xs : List X) (i : ℕ) (x : X) → slice_get xs i ≡ Some x → take (i + 1) xs ≡ take i xs ++ x ∷ []
take_found xs i x found =
    let within = slice_get_within xs i x found in
    let same : get_or xs i x ≡ x = cc (slice_get-get_or xs i x within, found) in
    take_more xs i x within ∙ ap (λ y. take i xs ++ y ∷ []) same

-- all of them
pub all_names : (sheet : Sheet) (count : ℕ) → IsWellFormed sheet → sheet.grammar.tokens + 2 ≤ count → take count (token_names sheet) ≡ token_names sheet
all_names sheet count well enough = take_all count (token_names sheet) (omega (arith, length-token_names sheet well))
