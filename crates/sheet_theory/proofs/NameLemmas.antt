-- The printed names by the number of their token.
use Rattle.std.proofs.Common.{◌≡◌, ℕ, zero, suc, ◌+◌, List, [], ◌∷◌, ◌++◌, length, map, refl, sym, ap, ◌∙◌, arith}
use Rattle.std.specs.Prelude.{Some, slice_get, codes}
use Rattle.std.proofs.lemmas.List.{length-map}
use Rattle.std.proofs.lemmas.Option.{none-some, slice_get-map}
use Rattle.sheet_data.specs.Sheet.{Sheet}
use Rattle.sheet_theory.specs.Names.{quote, escaped, declared_names, token_names}

get-append_left : {X : Type 0} (xs ys : List X) (i : ℕ) (x : X) → slice_get xs i ≡ Some x → slice_get (xs ++ ys) i ≡ Some x
get-append_left [] ys i x e = absurd (none-some x e)
get-append_left (y ∷ xs) ys zero x e = e
get-append_left (y ∷ xs) ys (suc i) x e = get-append_left xs ys i x e

get-append_add : {X : Type 0} (xs ys : List X) (i : ℕ) → slice_get (xs ++ ys) (length xs + i) ≡ slice_get ys i
get-append_add [] ys i = let e : 0 + i ≡ i = omega arith in ap (slice_get ys) e
get-append_add (x ∷ xs) ys i =
    let e : suc (length xs) + i ≡ suc (length xs + i) = omega arith in
    ap (slice_get (x ∷ (xs ++ ys))) e ∙ get-append_add xs ys i

-- a declared name
pub token_names-declared : (sheet : Sheet) (a : ℕ) (name : List ℕ) → slice_get (declared_names sheet.decls) a ≡ Some name → slice_get (token_names sheet) a ≡ Some name
unfolding token_names
token_names-declared sheet a name found = get-append_left (declared_names sheet.decls) _ a name found

-- a literal without a name
pub token_names-literal : (sheet : Sheet) (i : ℕ) (bytes : List ℕ) → slice_get sheet.literals i ≡ Some bytes → slice_get (token_names sheet) (length (declared_names sheet.decls) + i) ≡ Some (escaped quote bytes)
unfolding token_names
token_names-literal sheet i bytes found =
    get-append_add (declared_names sheet.decls) _ i ∙ get-append_left (map (escaped quote) sheet.literals) _ i (escaped quote bytes) (rw (slice_get-map (escaped quote) sheet.literals i, found) refl)

behind_literals : (literals marks : List (List ℕ)) (k : ℕ) → slice_get (map (escaped quote) literals ++ marks) (length literals + k) ≡ slice_get marks k
behind_literals literals marks k =
    ap (λ n. slice_get (map (escaped quote) literals ++ marks) (n + k)) (sym (length-map literals (escaped quote))) ∙ get-append_add (map (escaped quote) literals) marks k

-- the end mark
pub token_names-end : (sheet : Sheet) → slice_get (token_names sheet) (length (declared_names sheet.decls) + length sheet.literals) ≡ Some (codes "end of text")
unfolding token_names
token_names-end sheet =
    let e : length sheet.literals ≡ length sheet.literals + 0 = omega arith in
    get-append_add (declared_names sheet.decls) _ (length sheet.literals) ∙ ap (slice_get (map (escaped quote) sheet.literals ++ (codes "end of text" ∷ codes "bad byte" ∷ []))) e ∙ behind_literals sheet.literals _ 0

-- the bad byte
pub token_names-bad_byte : (sheet : Sheet) → slice_get (token_names sheet) (length (declared_names sheet.decls) + (length sheet.literals + 1)) ≡ Some (codes "bad byte")
unfolding token_names
token_names-bad_byte sheet = get-append_add (declared_names sheet.decls) _ (length sheet.literals + 1) ∙ behind_literals sheet.literals _ 1
