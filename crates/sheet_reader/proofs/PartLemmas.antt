-- The declarations that a sheet keeps.
use Rattle.std.proofs.Common.{◌≡◌, ℕ, ◌+◌, ◌<◌, List, [], ◌∷◌, ◌++◌, length, take, get_or, sym, ap, subst, ◌∙◌}
use Rattle.std.specs.Prelude.{Option, None, Some}
use Rattle.std.proofs.lemmas.List.{append-nil, take_more}
use Rattle.sheet_data.specs.declared.parts.Decl.{Decl}
use Rattle.outline_data.specs.declared.outline.Declaration.{Declaration}
use Rattle.outline_theory.specs.Numbering.{AreDecls, no_decl, literal_first, matched_first, skip_first, start_first}
use Rattle.sheet_reader.specs.RuleTexts.{IsKept}

decls_append : (declarations more : List Declaration) (decls others : List Decl) → AreDecls declarations decls → AreDecls more others → AreDecls (declarations ++ more) (decls ++ others)
decls_append [] more decls others no_decl rest = rest
decls_append (d ∷ declarations) more all others (literal_first {decls = decls} are e) rest =
    literal_first (decls_append declarations more decls others are rest) (ap (λ ds. ds ++ others) e)
decls_append (d ∷ declarations) more all others (matched_first {decls = decls} spelled are e) rest =
    matched_first spelled (decls_append declarations more decls others are rest) (ap (λ ds. ds ++ others) e)
decls_append (d ∷ declarations) more all others (skip_first {decls = decls} spelled are e) rest =
    skip_first spelled (decls_append declarations more decls others are rest) (ap (λ ds. ds ++ others) e)
decls_append (d ∷ declarations) more decls others (start_first are) rest = start_first (decls_append declarations more decls others are rest)

decls_next : (declarations : List Declaration) (i : ℕ) (declaration : Declaration) (decls others : List Decl) → i < length declarations → declaration ≡ get_or declarations i declaration → AreDecls (take i declarations) decls → AreDecls (declaration ∷ []) others → AreDecls (take (i + 1) declarations) (decls ++ others)
decls_next declarations i declaration decls others within read are here =
    let taken : take i declarations ++ declaration ∷ [] ≡ take (i + 1) declarations = ap (λ d. take i declarations ++ d ∷ []) read ∙ sym (take_more declarations i declaration within) in
    subst (λ ds. AreDecls ds (decls ++ others)) taken (decls_append (take i declarations) (declaration ∷ []) decls others are here)

-- with the declaration that is kept, or without one
pub kept_next : (declarations : List Declaration) (i : ℕ) (declaration : Declaration) (kept : Option Decl) (decl : Decl) (decls all : List Decl) → i < length declarations → declaration ≡ get_or declarations i declaration → AreDecls (take i declarations) decls → IsKept declaration kept → kept ≡ Some decl → all ≡ decls ++ decl ∷ [] → AreDecls (take (i + 1) declarations) all
kept_next declarations i declaration kept decl decls all within read are here is more =
    subst (AreDecls (take (i + 1) declarations)) (sym more) (decls_next declarations i declaration decls (decl ∷ []) within read are (subst (IsKept declaration) is here))

pub left_next : (declarations : List Declaration) (i : ℕ) (declaration : Declaration) (kept : Option Decl) (decls : List Decl) → i < length declarations → declaration ≡ get_or declarations i declaration → AreDecls (take i declarations) decls → IsKept declaration kept → kept ≡ None → AreDecls (take (i + 1) declarations) decls
left_next declarations i declaration kept decls within read are here is =
    subst (AreDecls (take (i + 1) declarations)) (append-nil decls) (decls_next declarations i declaration decls [] within read are (subst (IsKept declaration) is here))
