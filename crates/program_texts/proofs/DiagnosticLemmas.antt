-- The names of expected tokens, one after another.
use Rattle.std.proofs.Common.{◌≡◌, ℕ, List, [], ◌∷◌, ◌++◌, map, codes, sym, refl, ap, ◌∙◌, append_assoc}
use Rattle.std.specs.List.{flat_map}
use Rattle.std.specs.Fmt.{decimal}
use Rattle.sheet_data.specs.Sheet.{Sheet}
use Rattle.sheet_theory.specs.Names.{token_names}
use Rattle.translation_theory.specs.Diagnostics.{listed, unexpected_text}
use Rattle.program_texts.specs.Diagnostics.{name_by, listed_behind}

behind_all : (names : List (List ℕ)) (tokens : List ℕ) → listed_behind names tokens ≡ flat_map (λ other. codes ", " ++ other) (map (name_by names) tokens)
behind_all names [] = refl
behind_all names (token ∷ tokens) = ap (λ l. (codes ", " ++ name_by names token) ++ l) (behind_all names tokens)

-- a first name, and then the others
pub listed_parts : (names : List (List ℕ)) (tokens others : List ℕ) (first : ℕ) (before middle after : List ℕ) → tokens ≡ first ∷ others → middle ≡ before ++ name_by names first → after ≡ middle ++ listed_behind names others → after ≡ before ++ listed (map (name_by names) tokens)
listed_parts names tokens others first before middle after e one two =
    two ∙ ap (λ l. l ++ listed_behind names others) one ∙ append_assoc before (name_by names first) (listed_behind names others)
    ∙ ap (λ l. before ++ (name_by names first ++ l)) (behind_all names others) ∙ ap (λ l. before ++ listed (map (name_by names) l)) (sym e)

-- what is said, by the names of all tokens
abbrev pub said_by : List (List ℕ) → ℕ → ℕ → List ℕ → List ℕ
said_by names line token expected =
    codes "line " ++ (decimal line ++ (codes ": unexpected " ++ (name_by names token ++ (codes "; expected " ++ (listed (map (name_by names) expected) ++ codes "\n")))))

onto : (t u a r : List ℕ) → u ≡ t ++ a → u ++ r ≡ t ++ (a ++ r)
onto t u a r e = ap (λ l. l ++ r) e ∙ append_assoc t a r

-- seven texts, one after another
pub seven_parts : (t u v w x y z a b c d e f g : List ℕ) → t ≡ a → u ≡ t ++ b → v ≡ u ++ c → w ≡ v ++ d → x ≡ w ++ e → y ≡ x ++ f → z ≡ y ++ g → z ≡ a ++ (b ++ (c ++ (d ++ (e ++ (f ++ g)))))
seven_parts t u v w x y z a b c d e f g first second third fourth fifth sixth seventh =
    seventh ∙ onto x y f g sixth ∙ onto w x e (f ++ g) fifth ∙ onto v w d (e ++ (f ++ g)) fourth ∙ onto u v c (d ++ (e ++ (f ++ g))) third ∙ onto t u b (c ++ (d ++ (e ++ (f ++ g)))) second
    ∙ ap (λ l. l ++ (b ++ (c ++ (d ++ (e ++ (f ++ g)))))) first

-- by the printed names of a sheet's tokens it is what is said of the sheet
pub said_of_sheet : (sheet : Sheet) (names : List (List ℕ)) (line token : ℕ) (expected : List ℕ) → names ≡ token_names sheet → said_by names line token expected ≡ unexpected_text sheet line token expected
said_of_sheet sheet names line token expected e = ap (λ n. said_by n line token expected) e
