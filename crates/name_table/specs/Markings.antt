-- Which parts of a sheet's rules may have marked leaves. A name is marking, where one of its rules declares a part or mentions a
-- marking name.
use Rattle.std.specs.Prelude.{◌≡◌, ℕ, suc, ◌<◌, ◌==◌, Bool, false, List, [], ◌∷◌, ◌++◌, Vec, length, map, slice_get, slice_index_or, Some, unwrap_or, sum_by, if◌then◌else◌}
use Rattle.std.specs.Global.{Global}
use Rattle.std.specs.List.{list_any}
use Rattle.std.specs.Option.{option_map}
use Rattle.grammar_data.specs.Grammar.{Rule}
use Rattle.grammar_data.specs.declared.rule.Sym.{Sym}
use Rattle.grammar_data.specs.declared.rule.Sym.TheVariants.{Token, Name}
use Rattle.grammar_theory.specs.Rules.{IsRule, AllNames}
use Rattle.grammar_theory.specs.Trees.{Tree, IsTree}
use Rattle.sheet_data.specs.Sheet.{Sheet}
use Rattle.translation_theory.specs.Marks.{marked_leaves}

-- the places that a rule declares
abbrev pub declared_by : Sheet → ℕ → List ℕ
declared_by sheet r = unwrap_or (slice_get sheet.declares r) []

-- whether the name is one of those that are marked in a list
abbrev pub is_marking : List Bool → ℕ → Bool
is_marking marking n = slice_index_or marking n false

-- how many names aren't
abbrev pub unmarking : List Bool → ℕ
unmarking marking = sum_by (λ b. if b then 0 else 1) marking

-- where the rule's name isn't among the marking ones, it declares nothing, and mentions none of them
abbrev pub IsSettled : Sheet → List Bool → ℕ → Type 0
IsSettled sheet marking r = (n : ℕ) (right : List Sym) → IsRule sheet.grammar.rules r n right → is_marking marking n ≡ false → (declared_by sheet r ≡ []) × AllNames (λ m. is_marking marking m ≡ false) right

-- so it is of each rule
abbrev pub AreSettled : Sheet → List Bool → Type 0
AreSettled sheet marking = (r : ℕ) → r < length sheet.grammar.rules → IsSettled sheet marking r

-- no tree of the name has a marked leaf
abbrev pub IsUnmarked : Sheet → ℕ → Type 0
IsUnmarked sheet n = (tree : Tree) → IsTree sheet.grammar.rules (Name n) tree → marked_leaves sheet tree ≡ []

-- whether part `i` of a rule that declares these places may have marked leaves, or be one: it is a token that is declared, or
-- a marking name
abbrev pub is_marked_part : List ℕ → List Bool → ℕ → Sym → Bool
is_marked_part declared marking i (Token a) = list_any (λ place. place == i) declared
is_marked_part declared marking i (Name n) = is_marking marking n

-- the places of those parts of a right side, from a place on, that may have marked leaves or be one, counted from 0, the last
-- one first
abbrev pub marked_places : List ℕ → List Bool → ℕ → List Sym → List ℕ
marked_places declared marking i [] = []
marked_places declared marking i (x ∷ xs) = marked_places declared marking (suc i) xs ++ (if is_marked_part declared marking (suc i) x then i ∷ [] else [])

-- the right side of a rule
abbrev pub right_of : Sheet → ℕ → List Sym
right_of sheet r = unwrap_or (option_map (λ (rule : Rule). rule.1) (slice_get sheet.grammar.rules r)) []

-- the lists that a list of vectors has
abbrev pub lists_of : List (Vec ℕ Global) → List (List ℕ)
lists_of vectors = map (λ (vector : Vec ℕ Global). vector.items) vectors

-- for each rule the places of its parts that may have marked leaves
abbrev pub AreMarkedPlaces : Sheet → List Bool → List (List ℕ) → Type 0
AreMarkedPlaces sheet marking lists = (r : ℕ) → r < length sheet.grammar.rules → slice_get lists r ≡ Some (marked_places (declared_by sheet r) marking 0 (right_of sheet r))
