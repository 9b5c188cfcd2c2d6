-- The literals of a sheet, and the texts of its patterns, are written by the lexemes that spell its outline.
use Rattle.std.proofs.Common.{◌≡◌, ℕ, ◌+◌, ◌≤◌, Bool, true, false, List, [], ◌∷◌, ◌++◌, length, refl, sym, ap, subst, ◌∙◌, arith}
use Rattle.std.specs.Prelude.{map, not, filter, sum_by, if◌then◌else◌}
use Rattle.std.specs.List.{flat_map}
use Rattle.std.specs.Str.{bytes_eq}
use Rattle.std.proofs.lemmas.List.Sums.{sum_by-cons}
use Rattle.position_theory.proofs.SpellingLemmas.{spelled_within}
use Rattle.sheet_data.specs.Sheet.{Sheet}
use Rattle.sheet_data.specs.declared.parts.Decl.{Decl}
use Rattle.sheet_data.specs.declared.parts.Decl.TheVariants.{Literal as literal_decl, Matched as matched_decl, Skip as skip_decl}
use Rattle.lexeme_theory.specs.declared.lexeme.Lexeme.TheVariants.{Mark}
use Rattle.lexeme_theory.specs.declared.lexeme.Single.{Single}
use Rattle.lexeme_theory.specs.declared.lexeme.Single.TheVariants.{Colon, Bar, Semicolon}
use Rattle.outline_data.specs.declared.outline.Word.{Word}
use Rattle.outline_data.specs.declared.outline.Declaration.{Declaration}
use Rattle.outline_data.specs.declared.outline.Declaration.TheVariants.{Literal, Matched, Skip, Start}
use Rattle.outline_data.specs.declared.rules.Symbol.{Symbol}
use Rattle.outline_data.specs.declared.rules.Symbol.TheVariants.{Name, Quoted}
use Rattle.outline_data.specs.AlternativeParts.{AlternativeParts}
use Rattle.outline_data.specs.GroupParts.{GroupParts}
use Rattle.outline_data.specs.Parts.{OutlineParts}
use Rattle.outline_theory.specs.Spelling.{Kept, kept, bare, single, spelled_declaration, spelled_symbol, spelled_template, spelled_mark, spelled_alternative, spelled_sides, spelled_group, spelled_rest, spelled_outline}
use Rattle.outline_theory.specs.Words.{texts, literal_words, quoted_in, side_literals}
use Rattle.outline_theory.specs.Outlines.{IsOutlineOf}
use Rattle.outline_theory.specs.Limits.{positions_in}
use Rattle.outline_theory.specs.Numbering.{is_one_of, distinct, unnamed_literals, AreDecls, IsSheetOf}
use Rattle.outline_theory.specs.Numbering.AreDecls.{no_decl, literal_first, matched_first, skip_first, start_first}
use Rattle.sheet_laws.proofs.LexemeSizes.{sizes, lexemes_within, reading_inside}

-- the lengths of words together
abbrev lengths : List (List ℕ) → ℕ
lengths [] = 0
lengths (word ∷ words) = length word + lengths words

lengths_sum : (words : List (List ℕ)) → sum_by length words ≡ lengths words
lengths_sum [] = refl
lengths_sum (word ∷ words) = sum_by-cons length word words ∙ ap (λ n. length word + n) (lengths_sum words)

lengths_append : (words others : List (List ℕ)) → lengths (words ++ others) ≡ lengths words + lengths others
lengths_append [] others = omega arith
lengths_append (word ∷ words) others = let e = lengths_append words others in omega (arith, e)

sizes_append : (ks ls : List Kept) → sizes (ks ++ ls) ≡ sizes ks + sizes ls
sizes_append [] ls = omega arith
sizes_append (k ∷ ks) ls = let e = sizes_append ks ls in omega (arith, e)

filter_step : (p : List ℕ → Bool) (word : List ℕ) (words : List (List ℕ)) (b : Bool) → p word ≡ b → lengths (filter p words) ≤ lengths words → lengths (filter p (word ∷ words)) ≤ lengths (word ∷ words)
filter_step p word words true e h =
    let is : filter p (word ∷ words) ≡ word ∷ filter p words = ap (λ x. if x then word ∷ filter p words else filter p words) e in
    let P : List (List ℕ) → Type 0 = λ l. lengths l ≤ lengths (word ∷ words) in
    subst P (sym is) (omega (arith, h))
filter_step p word words false e h =
    let is : filter p (word ∷ words) ≡ filter p words = ap (λ x. if x then word ∷ filter p words else filter p words) e in
    let P : List (List ℕ) → Type 0 = λ l. lengths l ≤ lengths (word ∷ words) in
    subst P (sym is) (omega (arith, h))

filter_within : (p : List ℕ → Bool) (words : List (List ℕ)) → lengths (filter p words) ≤ lengths words
filter_within p [] = omega arith
filter_within p (word ∷ words) = filter_step p word words (p word) refl (filter_within p words)

distinct_within : (words : List (List ℕ)) → lengths (distinct words) ≤ lengths words
distinct_within [] = omega arith
distinct_within (word ∷ words) =
    let one = filter_within (λ other. not (bytes_eq word other)) (distinct words) in
    let more = distinct_within words in
    omega (arith, one, more)

-- the positions of declarations
positions_more : (d : Declaration) (ds : List Declaration) (decl : Decl) (decls all : List Decl) → all ≡ decl ∷ decls → positions_in decl ≤ sizes (spelled_declaration d) → sum_by positions_in decls ≤ sizes (flat_map spelled_declaration ds) → sum_by positions_in all ≤ sizes (flat_map spelled_declaration (d ∷ ds))
positions_more d ds decl decls all are one more =
    let sum : sum_by positions_in all ≡ positions_in decl + sum_by positions_in decls = ap (sum_by positions_in) are ∙ sum_by-cons positions_in decl decls in
    let lexemes = sizes_append (spelled_declaration d) (flat_map spelled_declaration ds) in
    omega (arith, sum, one, more, lexemes)

declarations_within : {ds : List Declaration} {decls : List Decl} → AreDecls ds decls → sum_by positions_in decls ≤ sizes (flat_map spelled_declaration ds)
declarations_within no_decl = omega arith
declarations_within {decls = all} (literal_first {name = name} {literal = literal} {declarations = ds} {decls = decls} are is) =
    positions_more (Literal name literal) ds (literal_decl name.bytes literal.bytes) decls all is (omega arith) (declarations_within are)
declarations_within {decls = all} (matched_first {name = name} {word = word} {pattern = pattern} {declarations = ds} {decls = decls} spelled are is) =
    let few = spelled_within word.bytes pattern spelled in
    positions_more (Matched name word) ds (matched_decl name.bytes pattern) decls all is (omega (arith, few)) (declarations_within are)
declarations_within {decls = all} (skip_first {word = word} {pattern = pattern} {declarations = ds} {decls = decls} spelled are is) =
    let few = spelled_within word.bytes pattern spelled in
    positions_more (Skip word) ds (skip_decl pattern) decls all is (omega (arith, few)) (declarations_within are)
declarations_within {decls = decls} (start_first {line = line} {name = name} {declarations = ds} are) =
    let more : sum_by positions_in decls ≤ sizes (flat_map spelled_declaration ds) = declarations_within are in
    let lexemes = sizes_append (spelled_declaration (Start line name)) (flat_map spelled_declaration ds) in
    omega (arith, more, lexemes)

-- those of right sides
right_within : (ss : List Symbol) → lengths (texts (flat_map quoted_in ss)) ≡ sizes (map spelled_symbol ss)
right_within [] = refl
right_within (Name word ∷ ss) = let e = right_within ss in omega (arith, e)
right_within (Quoted word ∷ ss) = let e = right_within ss in omega (arith, e)

abbrev quoted_of : List AlternativeParts → List (List ℕ)
quoted_of sides = texts (flat_map (λ (a : AlternativeParts). flat_map quoted_in a.right) sides)

texts_append : (words others : List Word) → texts (words ++ others) ≡ texts words ++ texts others
texts_append [] others = refl
texts_append (w ∷ words) others = ap (λ l. w.bytes ∷ l) (texts_append words others)

quoted_more : (a : AlternativeParts) (sides : List AlternativeParts) → lengths (quoted_of (a ∷ sides)) ≡ sizes (map spelled_symbol a.right) + lengths (quoted_of sides)
quoted_more a sides =
    ap lengths (texts_append (flat_map quoted_in a.right) (flat_map (λ (b : AlternativeParts). flat_map quoted_in b.right) sides))
    ∙ lengths_append (texts (flat_map quoted_in a.right)) (quoted_of sides)
    ∙ ap (λ n. n + lengths (quoted_of sides)) (right_within a.right)

quoted_append : (sides others : List AlternativeParts) → lengths (quoted_of (sides ++ others)) ≡ lengths (quoted_of sides) + lengths (quoted_of others)
quoted_append [] others = omega arith
quoted_append (a ∷ sides) others =
    let e = quoted_append sides others in
    let one = quoted_more a (sides ++ others) in
    let other = quoted_more a sides in
    omega (arith, e, one, other)

sides_within : (separator : Single) (sides : List AlternativeParts) → lengths (quoted_of sides) ≤ sizes (spelled_sides separator sides)
sides_within separator [] = omega arith
sides_within separator (a ∷ sides) =
    let more = sides_within Bar sides in
    let one = quoted_more a sides in
    let behind = sizes_append (map spelled_symbol a.right) (spelled_template a.template ++ flat_map spelled_mark a.marks) in
    let all = sizes_append (spelled_alternative a) (spelled_sides Bar sides) in
    omega (arith, more, one, behind, all)

groups_within : (gs : List GroupParts) → lengths (quoted_of (flat_map (λ (g : GroupParts). g.alternatives) gs)) ≤ sizes (flat_map spelled_group gs)
groups_within [] = omega arith
groups_within (g ∷ gs) =
    let more = groups_within gs in
    let one = sides_within Colon g.alternatives in
    let words = quoted_append g.alternatives (flat_map (λ (h : GroupParts). h.alternatives) gs) in
    let group = sizes_append (spelled_sides Colon g.alternatives) (single Semicolon ∷ []) in
    let all = sizes_append (spelled_group g) (flat_map spelled_group gs) in
    omega (arith, more, one, words, group, all)

unnamed_within : (o : OutlineParts) → lengths (unnamed_literals o) ≤ lengths (texts (side_literals o))
unfolding unnamed_literals
unnamed_within o =
    let p : List ℕ → Bool = λ word. not (is_one_of (texts (literal_words o)) word) in
    let one = distinct_within (filter p (texts (side_literals o))) in
    let other = filter_within p (texts (side_literals o)) in
    omega (arith, one, other)

outline_within : (o : OutlineParts) (decls : List Decl) → AreDecls o.declarations decls → sum_by positions_in decls + lengths (unnamed_literals o) ≤ sizes (spelled_outline o)
unfolding spelled_outline
outline_within o decls are =
    let declared : sum_by positions_in decls ≤ sizes (flat_map spelled_declaration o.declarations) = declarations_within are in
    let unnamed = unnamed_within o in
    let rules = groups_within o.groups in
    let lexemes = sizes_append (flat_map spelled_declaration o.declarations) (bare Mark ∷ (flat_map spelled_group o.groups ++ spelled_rest o.has_rest)) in
    let behind = sizes_append (flat_map spelled_group o.groups) (spelled_rest o.has_rest) in
    omega (arith, declared, unnamed, rules, lexemes, behind)

-- a sheet has no more positions than the bytes of its outline
pub declared_within : (bytes : List ℕ) (o : OutlineParts) (decls : List Decl) → IsOutlineOf bytes o → AreDecls o.declarations decls → sum_by positions_in decls + sum_by length (unnamed_literals o) ≤ length bytes
declared_within bytes o decls h are =
    let sum = lengths_sum (unnamed_literals o) in
    let outline = outline_within o decls are in
    let spelled : sizes (map kept h.lexemes) ≡ sizes (spelled_outline o) = ap sizes h.spelled in
    let read = lexemes_within bytes h.read in
    let end = reading_inside bytes h.read (omega arith) in
    omega (arith, sum, outline, spelled, read, end)

pub positions_within : (bytes : List ℕ) (o : OutlineParts) (sheet : Sheet) → IsOutlineOf bytes o → IsSheetOf o sheet → sum_by positions_in sheet.decls + sum_by length sheet.literals ≤ length bytes
positions_within bytes o sheet h is =
    let P : List (List ℕ) → Type 0 = λ literals. sum_by positions_in sheet.decls + sum_by length literals ≤ length bytes in
    subst P (sym is.literals) (declared_within bytes o sheet.decls h is.decls)
