-- Parts of trees that are still to be looked at for marked leaves, the next one last.
use Rattle.std.specs.Prelude.{◌≡◌, ℕ, suc, Bool, if◌then◌else◌, List, [], ◌∷◌, ◌++◌, All, map, slice_index_or}
use Rattle.grammar_data.specs.declared.rule.Sym.{Sym}
use Rattle.grammar_data.specs.declared.token.Token.{Token as TextToken}
use Rattle.grammar_theory.specs.Trees.{Tree, IsTree, yield}
use Rattle.node_data.specs.declared.kid.Kid.{Kid}
use Rattle.node_data.specs.declared.kid.Kid.TheVariants.{Token, Node, Hidden}
use Rattle.tree_theory.specs.Stores.{Ref, Store, Shows}
use Rattle.sheet_data.specs.Sheet.{Sheet}
use Rattle.translation_theory.specs.TokenTexts.{IsInText}
use Rattle.translation_theory.specs.Marks.{marked_leaves}
use Rattle.translation_theory.specs.DeclaredNames.{Row, rows_of}
use Rattle.name_table.specs.Markings.{is_marked_part}

-- those of a node's kids that may have marked leaves, the first of which is part `i`, the last one first; the symbols are
-- those of the right side of its rule, which declares these places
abbrev pub pending_kids : List ℕ → List Bool → ℕ → List Sym → List Kid → List Kid
pending_kids declared marking i [] kids = []
pending_kids declared marking i (x ∷ xs) [] = []
pending_kids declared marking i (x ∷ xs) (kid ∷ kids) = pending_kids declared marking (suc i) xs kids ++ (if is_marked_part declared marking i x then kid ∷ [] else [])

-- the kids at these places, counted from 0
abbrev pub kids_at : List Kid → List ℕ → List Kid
kids_at kids places = map (λ (place : ℕ). slice_index_or kids place Hidden) places

-- the marked leaves of parts: each is a marked leaf, or shows a tree
pub data ArePending (sheet : Sheet) (text : List ℕ) (store : Store) : List Kid → List TextToken → Type 0 where
  none_pending : ArePending sheet text store [] []
  leaf_pending : {parts all : List Kid} {token : TextToken} {leaves more : List TextToken} → all ≡ parts ++ Token token ∷ [] → IsInText text token → ArePending sheet text store parts more → leaves ≡ token ∷ more → ArePending sheet text store all leaves
  node_pending : {parts all : List Kid} {n m : Ref} {i : ℕ} {x : Sym} {tree : Tree} {leaves more : List TextToken} → all ≡ parts ++ Node m ∷ [] → Shows store [] n i (Node m) tree → IsTree sheet.grammar.rules x tree → All (IsInText text) (yield tree) → ArePending sheet text store parts more → leaves ≡ marked_leaves sheet tree ++ more → ArePending sheet text store all leaves

-- of all the marked leaves some have been noted, and the others are those of the parts
pub record IsUnderWay (sheet : Sheet) (text : List ℕ) (store : Store) (all : List TextToken) (parts : List Kid) (rows : List Row) : Type 0 where
  pub done : List TextToken
  pub more : List TextToken
  pub are : all ≡ done ++ more
  pub rows_are : rows ≡ rows_of text done
  pub pending : ArePending sheet text store parts more
