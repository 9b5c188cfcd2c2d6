use Rattle.std.proofs.Common.{◌≡◌, [], ◌∷◌, refl, sym, subst}
use Rattle.sheet_data.specs.declared.parts.Decl.TheVariants.{Literal, Matched, Skip}
use Rattle.outline_theory.specs.Numbering.{AreDecls, no_decl, literal_first, matched_first, skip_first, start_first}
use Rattle.sheet_reader.proofs.parts.decl_of.Goals as goal

pub returns-in_ok-copy_bytes-in-Literal-2 : goal.returns-in_ok-copy_bytes-in-Literal-2
returns-in_ok-copy_bytes-in-Literal-2 c =
    let kept = Literal c.in_ok-copy_bytes-in-Literal.field-0 c.in_ok-copy_bytes-in-Literal-2.field-0 ∷ [] in
    let same : kept ≡ Literal c.in-Literal.name.bytes c.in-Literal.literal.bytes ∷ [] = cc (c.in_ok-copy_bytes-in-Literal.ensures, c.in_ok-copy_bytes-in-Literal-2.ensures) in
    subst (λ d. AreDecls (d ∷ []) kept) (sym c.in-Literal.is) (literal_first no_decl same)

pub returns-in_ok-pattern_of-in-Matched : goal.returns-in_ok-pattern_of-in-Matched
returns-in_ok-pattern_of-in-Matched c =
    let kept = Matched c.in_ok-copy_bytes-in-Matched.field-0 c.in_ok-pattern_of-in-Matched.field-0 ∷ [] in
    let same : kept ≡ Matched c.in-Matched.name.bytes c.in_ok-pattern_of-in-Matched.field-0 ∷ [] = cc (c.in_ok-copy_bytes-in-Matched.ensures) in
    subst (λ d. AreDecls (d ∷ []) kept) (sym c.in-Matched.is) (matched_first c.in_ok-pattern_of-in-Matched.ensures no_decl same)

pub returns-in_ok-pattern_of-in-Skip : goal.returns-in_ok-pattern_of-in-Skip
returns-in_ok-pattern_of-in-Skip c =
    subst (λ d. AreDecls (d ∷ []) (Skip c.in_ok-pattern_of-in-Skip.field-0 ∷ [])) (sym c.in-Skip.is) (skip_first c.in_ok-pattern_of-in-Skip.ensures no_decl refl)

pub returns-in-Start : goal.returns-in-Start
returns-in-Start c = subst (λ d. AreDecls (d ∷ []) []) (sym c.in-Start.is) (start_first no_decl)
