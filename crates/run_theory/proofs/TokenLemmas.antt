-- The numbers of the tokens that a sheet's patterns find.
use Rattle.std.proofs.Common.{◌≡◌, ℕ, zero, suc, ◌+◌, ◌<◌, ◌≤◌, List, [], ◌∷◌, ◌++◌, length, map, refl, sym, ap, subst, ◌∙◌, arith}
use Rattle.std.specs.Prelude.{All, slice_get, Some}
use Rattle.std.specs.List.{flat_map}
use Rattle.std.proofs.lemmas.List.{length-map}
use Rattle.std.proofs.lemmas.List.Elements.{All-nil, All-cons, All-append}
use Rattle.std.proofs.lemmas.Option.{none-some, same_Some}
use Rattle.grammar_data.specs.declared.token.Token.{Token as TextToken}
use Rattle.pattern_data.specs.declared.pattern.Meaning.{Meaning}
use Rattle.pattern_data.specs.declared.pattern.Meaning.TheVariants.{Token as token_meaning, Skip as skip_meaning}
use Rattle.scanning_theory.specs.Scan.{bad_byte, token_at, AreTokensFrom, AreTokensOfLines}
use Rattle.scanning_theory.specs.Scan.AreTokensFrom.{at_end, takes_token, skips, takes_bad_byte}
use Rattle.scanning_theory.specs.Scan.AreTokensOfLines.{no_line, first_line}
use Rattle.sheet_data.specs.Sheet.{Sheet}
use Rattle.sheet_data.specs.declared.parts.Decl.{Decl}
use Rattle.sheet_data.specs.declared.parts.Decl.TheVariants.{Literal, Matched, Skip}
use Rattle.sheet_theory.specs.Names.{declared_names}
use Rattle.sheet_theory.specs.ScanOrder.{Ranked, declared_literals, unnamed_literals, declared_patterns, scan_order, scanning_of}
use Rattle.outline_data.specs.declared.outline.Declaration.{Declaration}
use Rattle.outline_theory.specs.Words.{token_in}
use Rattle.outline_theory.specs.Numbering.{AreDecls, no_decl, literal_first, matched_first, skip_first, start_first}
use Rattle.run_theory.specs.SheetTokens.{CountsTokens, IsTokenOf, CountedLaw, SheetTokensLaw}

-- ---- how many tokens there are

counted_decls : {ds : List Declaration} {decls : List Decl} → AreDecls ds decls → length (declared_names decls) ≡ length (flat_map token_in ds)
counted_decls no_decl = refl
counted_decls (literal_first are is) = ap (λ d. length (declared_names d)) is ∙ ap suc (counted_decls are)
counted_decls (matched_first spelled are is) = ap (λ d. length (declared_names d)) is ∙ ap suc (counted_decls are)
counted_decls (skip_first spelled are is) = ap (λ d. length (declared_names d)) is ∙ counted_decls are
counted_decls (start_first are) = counted_decls are

pub counted : CountedLaw
counted bytes sheet reads =
    let tokens = reads.says.tokens in
    let declared = counted_decls reads.says.decls in
    omega (arith, tokens, declared)

-- ---- the meanings of ranks

-- a token's number is below this
abbrev Fits : ℕ → Meaning → Type 0
Fits bound (token_meaning id) = id < bound
Fits bound skip_meaning = Unit {0}

abbrev AllFit : ℕ → List Ranked → Type 0
AllFit bound [] = Unit {0}
AllFit bound (ranked ∷ more) = Fits bound ranked.1 × AllFit bound more

fit_append : (bound : ℕ) (ranks more : List Ranked) → AllFit bound ranks → AllFit bound more → AllFit bound (ranks ++ more)
fit_append bound [] more fit other = other
fit_append bound (ranked ∷ ranks) more fit other = (fit.0, fit_append bound ranks more fit.1 other)

fit_declared : (bound token : ℕ) (decls : List Decl) → token + length (declared_names decls) ≤ bound → AllFit bound (declared_literals token decls)
fit_declared bound token [] within = tt
fit_declared bound token (Literal name bytes ∷ decls) within = (omega (arith, within), fit_declared bound (token + 1) decls (omega (arith, within)))
fit_declared bound token (Matched name pattern ∷ decls) within = fit_declared bound (token + 1) decls (omega (arith, within))
fit_declared bound token (Skip pattern ∷ decls) within = fit_declared bound token decls within

fit_unnamed : (bound token : ℕ) (literals : List (List ℕ)) → token + length literals ≤ bound → AllFit bound (unnamed_literals token literals)
fit_unnamed bound token [] within = tt
fit_unnamed bound token (bytes ∷ literals) within = (omega (arith, within), fit_unnamed bound (token + 1) literals (omega (arith, within)))

fit_patterns : (bound token : ℕ) (decls : List Decl) → token + length (declared_names decls) ≤ bound → AllFit bound (declared_patterns token decls)
fit_patterns bound token [] within = tt
fit_patterns bound token (Literal name bytes ∷ decls) within = fit_patterns bound (token + 1) decls (omega (arith, within))
fit_patterns bound token (Matched name pattern ∷ decls) within = (omega (arith, within), fit_patterns bound (token + 1) decls (omega (arith, within)))
fit_patterns bound token (Skip pattern ∷ decls) within = (tt, fit_patterns bound token decls within)

fit_order : (sheet : Sheet) → CountsTokens sheet → AllFit sheet.grammar.tokens (scan_order sheet)
unfolding scan_order
fit_order sheet counts =
    let bound : ℕ = sheet.grammar.tokens in
    let declared : ℕ = length (declared_names sheet.decls) in
    fit_append bound (declared_literals 0 sheet.decls) (unnamed_literals declared sheet.literals ++ declared_patterns 0 sheet.decls)
    (fit_declared bound 0 sheet.decls (omega (arith, counts)))
    (fit_append bound (unnamed_literals declared sheet.literals) (declared_patterns 0 sheet.decls)
    (fit_unnamed bound declared sheet.literals (omega (arith, counts)))
    (fit_patterns bound 0 sheet.decls (omega (arith, counts))))

fit_by : (bound id : ℕ) (meaning : Meaning) → meaning ≡ token_meaning id → Fits bound meaning → id < bound
fit_by bound id meaning e fits = subst (Fits bound) e fits

fit_at : (bound : ℕ) (ranks : List Ranked) (rank id : ℕ) → AllFit bound ranks → slice_get (map (λ (r : Ranked). r.1) ranks) rank ≡ Some (token_meaning id) → id < bound
fit_at bound [] rank id fit at = absurd (none-some (token_meaning id) at)
fit_at bound (ranked ∷ ranks) zero id fit at = fit_by bound id ranked.1 (same_Some ranked.1 (token_meaning id) at) fit.0
fit_at bound (ranked ∷ ranks) (suc rank) id fit at = fit_at bound ranks rank id fit.1 at

-- ---- tokens

module _ (sheet : Sheet) (counts : CountsTokens sheet) (text : List ℕ) where
  found_token : (line at len rank id : ℕ) → slice_get (scanning_of sheet).means rank ≡ Some (token_meaning id) → IsTokenOf sheet (token_at id line at len)
  found_token line at len rank id means =
      let less = fit_at sheet.grammar.tokens (scan_order sheet) rank id (fit_order sheet counts) means in
      record { below = omega (arith, less); not_end = (λ same. omega (arith, same, less)) }

  bad_token : (line at : ℕ) → IsTokenOf sheet (token_at (bad_byte (scanning_of sheet)) line at 1)
  bad_token line at = record { below = omega arith; not_end = (λ same. omega (arith, same)) }

  of_line : {line at : ℕ} {tokens : List TextToken} → AreTokensFrom (scanning_of sheet) text line at tokens → All (IsTokenOf sheet) tokens
  of_line (at_end ends) = All-nil (IsTokenOf sheet)
  of_line {line = line} {at = at} (takes_token {rank = rank} {id = id} {rest = rest} len not_end longest means more is) =
      subst (All (IsTokenOf sheet)) (sym is) (All-cons (IsTokenOf sheet) (token_at id line at len) rest (found_token line at len rank id means) (of_line more))
  of_line (skips len not_end longest means more) = of_line more
  of_line {line = line} {at = at} (takes_bad_byte {rest = rest} not_end none more is) =
      subst (All (IsTokenOf sheet)) (sym is) (All-cons (IsTokenOf sheet) (token_at (bad_byte (scanning_of sheet)) line at 1) rest (bad_token line at) (of_line more))

  of_lines : {to from : ℕ} {tokens : List TextToken} → AreTokensOfLines (scanning_of sheet) text to from tokens → All (IsTokenOf sheet) tokens
  of_lines (no_line same) = All-nil (IsTokenOf sheet)
  of_lines (first_line {here = here} {rest = rest} less start tokens more is) =
      subst (All (IsTokenOf sheet)) (sym is) (All-append (IsTokenOf sheet) here rest (of_line tokens) (of_lines more))

pub sheet_tokens : SheetTokensLaw
sheet_tokens sheet counts text tokens are = of_lines sheet counts text are

pub ranks_have_meanings : (sheet : Sheet) → length (scanning_of sheet).patterns ≡ length (scanning_of sheet).means
ranks_have_meanings sheet =
    length-map (scan_order sheet) (λ (r : Ranked). r.0) ∙ sym (length-map (scan_order sheet) (λ (r : Ranked). r.1))
