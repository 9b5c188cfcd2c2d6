-- Names and parts without marked leaves.
use Rattle.std.proofs.Common.{◌≡◌, ℕ, suc, ◌+◌, ◌<◌, List, [], ◌∷◌, ◌++◌, length, take, get_or, set, Bool, true, false, refl, sym, ap, subst, ◌∙◌, arith}
use Rattle.std.specs.Prelude.{if◌then◌else◌, ◌==◌, slice_get, Option, Some, unwrap_or}
use Rattle.std.specs.Option.{option_map}
use Rattle.std.specs.List.{list_any}
use Rattle.std.proofs.lemmas.List.{take_more}
use Rattle.std.proofs.lemmas.List.Sums.{sum_by-set}
use Rattle.std.proofs.lemmas.Option.{slice_get_within, same_Some}
use Rattle.grammar_data.specs.declared.rule.Sym.{Sym}
use Rattle.grammar_data.specs.declared.rule.Sym.TheVariants.{Token, Name}
use Rattle.grammar_data.specs.declared.token.Token.{Token as TextToken}
use Rattle.grammar_data.specs.Grammar.{Rule}
use Rattle.grammar_theory.specs.Rules.{AllNames}
use Rattle.grammar_theory.specs.Trees.{Tree, Leaf, Node as Inner, Forest, IsTree, AreTrees, token_tree, node_tree, no_tree, tree_first}
use Rattle.sheet_data.specs.Sheet.{Sheet}
use Rattle.translation_theory.specs.Marks.{leaf_at, marked_leaves, marked_among}
use Rattle.name_table.specs.Markings.{AreSettled, IsSettled, declared_by, is_marking, unmarking}

leaf_none : (sheet : Sheet) (r i : ℕ) (tree : Tree) → declared_by sheet r ≡ [] → leaf_at sheet r i tree ≡ []
leaf_none sheet r i (Leaf token) none = ap (λ (declared : List ℕ). if list_any (λ place. place == i) declared then token ∷ [] else []) none
leaf_none sheet r i (Inner q kids) none = refl

nothing : (leaf inner more : List TextToken) → leaf ≡ [] → inner ≡ [] → more ≡ [] → leaf ++ (inner ++ more) ≡ []
nothing leaf inner more no_leaf no_inner no_more = ap (λ l. l ++ (inner ++ more)) no_leaf ∙ ap (λ l. l ++ more) no_inner ∙ no_more

first_and_rest : (P : ℕ → Type 0) (x : Sym) (xs : List Sym) → AllNames P (x ∷ xs) → AllNames P (x ∷ []) × AllNames P xs
first_and_rest P (Token a) xs all = (tt, all)
first_and_rest P (Name n) xs all = ((all.0, tt), all.1)

module _ (sheet : Sheet) (marking : List Bool) (settled : AreSettled sheet marking) where
  abbrev IsNone : ℕ → Type 0
  IsNone n = is_marking marking n ≡ false

  mutual
    none_below : {x : Sym} {tree : Tree} → IsTree sheet.grammar.rules x tree → AllNames IsNone (x ∷ []) → marked_leaves sheet tree ≡ []
    none_below (token_tree same) none = refl
    none_below (node_tree {n = n} {r = r} {right = right} rule kids) none =
        let within = slice_get_within sheet.grammar.rules r (n, right) rule.found in
        let rest = settled r within n right rule none.0 in
        none_among r 1 rest.0 kids rest.1

    none_among : {xs : List Sym} {trees : Forest} (r i : ℕ) → declared_by sheet r ≡ [] → AreTrees sheet.grammar.rules xs trees → AllNames IsNone xs → marked_among sheet r i trees ≡ []
    none_among r i declared no_tree none = refl
    none_among r i declared (tree_first {x = x} {xs = xs} {tree = tree} {trees = trees} first rest) none =
        let parts = first_and_rest IsNone x xs none in
        nothing (leaf_at sheet r i tree) (marked_leaves sheet tree) (marked_among sheet r (suc i) trees) (leaf_none sheet r i tree declared) (none_below first parts.0) (none_among r (suc i) declared rest parts.1)

  -- a tree of a name that isn't a marking one has no marked leaf
  pub none_of_name : {n : ℕ} {tree : Tree} → IsTree sheet.grammar.rules (Name n) tree → is_marking marking n ≡ false → marked_leaves sheet tree ≡ []
  none_of_name tree none = none_below tree (none, tt)

-- ---- how many names aren't marking ones

pub fewer : (marking : List Bool) (n : ℕ) → n < length marking → is_marking marking n ≡ false → unmarking (set marking n true) < unmarking marking
fewer marking n inside none =
    let sums = sum_by-set (λ (b : Bool). if b then 0 else 1) marking n true false inside in
    let here : ◌≡◌ {A = ℕ} (if get_or marking n false then 0 else 1) 1 = ap (λ (b : Bool). if b then 0 else 1) none in
    omega (arith, sums, here)

-- ---- the symbols up to a place

pub names_then : (P : ℕ → Type 0) (xs ys : List Sym) → AllNames P xs → AllNames P ys → AllNames P (xs ++ ys)
names_then P [] ys all more = more
names_then P (Token a ∷ xs) ys all more = names_then P xs ys all more
names_then P (Name n ∷ xs) ys all more = (all.0, names_then P xs ys all.1 more)

pub names_more : (P : ℕ → Type 0) (xs : List Sym) (i : ℕ) (x : Sym) → i < length xs → get_or xs i x ≡ x → AllNames P (take i xs) → AllNames P (x ∷ []) → AllNames P (take (i + 1) xs)
names_more P xs i x inside is all one =
    subst (AllNames P) (sym (take_more xs i x inside ∙ ap (λ y. take i xs ++ y ∷ []) is)) (names_then P (take i xs) (x ∷ []) all one)

-- ---- a rule that declares nothing and mentions no marking name

pub settled_by : (sheet : Sheet) (marking : List Bool) (r : ℕ) (declared : List ℕ) (right : List Sym) → slice_get sheet.declares r ≡ Some declared → declared ≡ [] → option_map (λ (rule : Rule). rule.1) (slice_get sheet.grammar.rules r) ≡ Some right → AllNames (λ n. is_marking marking n ≡ false) right → IsSettled sheet marking r
settled_by sheet marking r declared right at none right_at names n side rule no_mark =
    let same : right ≡ side = same_Some right side (sym right_at ∙ ap (option_map (λ (one : Rule). one.1)) rule.found) in
    (ap (λ (o : Option (List ℕ)). unwrap_or o []) at ∙ none, subst (AllNames (λ m. is_marking marking m ≡ false)) same names)

pub none_from : (xs : List ℕ) → length xs ≡ 0 → xs ≡ []
none_from [] none = refl
none_from (x ∷ xs) none = absurd (omega (arith, none))
