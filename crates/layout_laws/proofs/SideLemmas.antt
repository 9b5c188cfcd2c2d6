-- The rules of an outline, one by one.
use Rattle.std.proofs.Common.{◌≡◌, ◌≢◌, ℕ, List, [], ◌∷◌, ◌++◌, map, refl, ap, ◌∙◌}
use Rattle.std.specs.Prelude.{All, filter, not}
use Rattle.std.specs.Str.{bytes_eq}
use Rattle.std.specs.List.{flat_map}
use Rattle.std.proofs.lemmas.List.{map-append}
use Rattle.std.proofs.lemmas.List.Elements.{All-head, All-tail}
use Rattle.grammar_data.specs.Grammar.{Rule}
use Rattle.sheet_data.specs.Sheet.{Sheet}
use Rattle.sheet_data.specs.declared.parts.Part.{Part}
use Rattle.outline_data.specs.declared.outline.Word.{Word}
use Rattle.outline_data.specs.AlternativeParts.{AlternativeParts}
use Rattle.outline_data.specs.GroupParts.{GroupParts}
use Rattle.outline_theory.specs.Words.{texts}
use Rattle.outline_theory.specs.Numbering.{index_of, distinct, WordLists, rule_by, rules_by}
use Rattle.outline_theory.specs.Layout.{rule_words, rule_lines}
use Rattle.layout_laws.proofs.IndexLemmas.{Words, distinct_twice}

-- a left side, and one right side of it
abbrev pub Side : Type 0
Side = Word × AlternativeParts

abbrev pub alternatives_in : List GroupParts → List AlternativeParts
alternatives_in gs = flat_map (λ (g : GroupParts). g.alternatives) gs

abbrev pub lefts_in : List GroupParts → List Word
lefts_in gs = map (λ (g : GroupParts). g.left) gs

abbrev pub sides_by : Word → List AlternativeParts → List Side
sides_by left alternatives = map (λ (a : AlternativeParts). (left, a)) alternatives

abbrev pub sides_in : List GroupParts → List Side
sides_in gs = flat_map (λ (g : GroupParts). sides_by g.left g.alternatives) gs

abbrev pub left_of : Side → List ℕ
left_of side = side.0.bytes

abbrev pub rule_at : WordLists → Side → Rule
rule_at lists side = rule_by lists (index_of lists.names side.0.bytes) side.1

map_by : {A : Type 0} (f : Side → A) (left : Word) (alternatives : List AlternativeParts) → map f (sides_by left alternatives) ≡ map (λ (a : AlternativeParts). f (left, a)) alternatives
map_by f left [] = refl
map_by f left (a ∷ alternatives) = ap (λ l. f (left, a) ∷ l) (map_by f left alternatives)

map_more : {A : Type 0} (f : Side → A) (g : GroupParts) (gs : List GroupParts) → map f (sides_in (g ∷ gs)) ≡ map (λ (a : AlternativeParts). f (g.left, a)) g.alternatives ++ map f (sides_in gs)
map_more f g gs = map-append f (sides_by g.left g.alternatives) (sides_in gs) ∙ ap (λ l. l ++ map f (sides_in gs)) (map_by f g.left g.alternatives)

map_same : (alternatives : List AlternativeParts) → map (λ (a : AlternativeParts). a) alternatives ≡ alternatives
map_same [] = refl
map_same (a ∷ alternatives) = ap (λ l. a ∷ l) (map_same alternatives)

pub sides_alternatives : (gs : List GroupParts) → map (λ (side : Side). side.1) (sides_in gs) ≡ alternatives_in gs
sides_alternatives [] = refl
sides_alternatives (g ∷ gs) =
    map_more (λ (side : Side). side.1) g gs ∙ ap (λ l. l ++ map (λ (side : Side). side.1) (sides_in gs)) (map_same g.alternatives) ∙ ap (λ l. g.alternatives ++ l) (sides_alternatives gs)

pub sides_rules : (lists : WordLists) (gs : List GroupParts) → map (rule_at lists) (sides_in gs) ≡ flat_map (rules_by lists) gs
sides_rules lists [] = refl
sides_rules lists (g ∷ gs) = map_more (rule_at lists) g gs ∙ ap (λ l. rules_by lists g ++ l) (sides_rules lists gs)

-- the left sides are the same names, in order
same_lefts : (left : List ℕ) (a : AlternativeParts) (alternatives : List AlternativeParts) (names others : Words) → distinct names ≡ distinct others
    → distinct (map (λ (a : AlternativeParts). left) (a ∷ alternatives) ++ names) ≡ distinct (left ∷ others)
same_lefts left a [] names others e = ap (λ l. left ∷ filter (λ other. not (bytes_eq left other)) l) e
same_lefts left a (b ∷ alternatives) names others e =
    distinct_twice left (map (λ (a : AlternativeParts). left) alternatives ++ names) ∙ same_lefts left b alternatives names others e

more_lefts : (left : List ℕ) (alternatives : List AlternativeParts) (names others : Words) → alternatives ≢ [] → distinct names ≡ distinct others
    → distinct (map (λ (a : AlternativeParts). left) alternatives ++ names) ≡ distinct (left ∷ others)
more_lefts left [] names others some e = absurd (some refl)
more_lefts left (a ∷ alternatives) names others some e = same_lefts left a alternatives names others e

pub sides_lefts : (gs : List GroupParts) → All (λ (g : GroupParts). g.alternatives ≢ []) gs → distinct (map left_of (sides_in gs)) ≡ distinct (texts (lefts_in gs))
sides_lefts [] shaped = refl
sides_lefts (g ∷ gs) shaped =
    let P : GroupParts → Type 0 = λ (h : GroupParts). h.alternatives ≢ [] in
    ap distinct (map_more left_of g gs) ∙ more_lefts g.left.bytes g.alternatives (map left_of (sides_in gs)) (texts (lefts_in gs)) (All-head P g gs shaped) (sides_lefts gs (All-tail P g gs shaped))

-- the lines of rules
pub rule_lines_at : (sheet : Sheet) (rule : Side → Rule) (template : Side → List Part) (declares : Side → List ℕ) (sides : List Side)
    → rule_lines sheet (map rule sides) (map template sides) (map declares sides) ≡ map (λ side. rule_words sheet (rule side) (template side) (declares side)) sides
rule_lines_at sheet rule template declares [] = refl
rule_lines_at sheet rule template declares (side ∷ sides) = ap (λ l. rule_words sheet (rule side) (template side) (declares side) ∷ l) (rule_lines_at sheet rule template declares sides)

pub map_twice : {A B C : Type 0} (f : B → C) (g : A → B) (xs : List A) → map f (map g xs) ≡ map (λ x. f (g x)) xs
map_twice f g [] = refl
map_twice f g (x ∷ xs) = ap (λ l. f (g x) ∷ l) (map_twice f g xs)

pub flat_mapped : {A B : Type 0} (g : A → List B) (xs : List A) → flat_map (λ l. l) (map g xs) ≡ flat_map g xs
flat_mapped g [] = refl
flat_mapped g (x ∷ xs) = ap (λ l. g x ++ l) (flat_mapped g xs)

-- ---- each rule as a group of its own
abbrev pub group_of : Side → GroupParts
group_of side = record { left = side.0; alternatives = side.1 ∷ [] }

abbrev pub groups_of : List Side → List GroupParts
groups_of sides = map group_of sides

pub groups_alternatives : (sides : List Side) → alternatives_in (groups_of sides) ≡ map (λ (side : Side). side.1) sides
groups_alternatives [] = refl
groups_alternatives (side ∷ sides) = ap (λ l. side.1 ∷ l) (groups_alternatives sides)

pub groups_lefts : (sides : List Side) → texts (lefts_in (groups_of sides)) ≡ map left_of sides
groups_lefts [] = refl
groups_lefts (side ∷ sides) = ap (λ l. left_of side ∷ l) (groups_lefts sides)

pub groups_rules : (lists : WordLists) (sides : List Side) → flat_map (rules_by lists) (groups_of sides) ≡ map (rule_at lists) sides
groups_rules lists [] = refl
groups_rules lists (side ∷ sides) = ap (λ l. rule_at lists side ∷ l) (groups_rules lists sides)
