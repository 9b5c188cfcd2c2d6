-- The translation of a tree: that of a token is its bytes; that of a node is what the parts of its rule's template give,
-- one after another.
-- Source: syntax-directed translation as in Aho and Ullman, The Theory of Parsing, Translation, and Compiling, volume 1,
-- section 3.1; the templates are this project's own.
use Rattle.std.specs.Prelude.{ℕ, ◌-◌, List, [], ◌∷◌, slice_get, slice_index_or, unwrap_or}
use Rattle.std.specs.List.{flat_map}
use Rattle.std.specs.Fmt.{decimal}
use Rattle.grammar_theory.specs.Trees.{Tree, Leaf, Node, Forest, NoTree, FirstTree}
use Rattle.sheet_data.specs.Sheet.{Sheet}
use Rattle.sheet_data.specs.declared.parts.Part.{Part}
use Rattle.sheet_data.specs.declared.parts.Part.TheVariants.{Text, Fold, Number}
use Rattle.translation_theory.specs.TokenTexts.{bytes_of}
use Rattle.translation_theory.specs.DeclaredNames.{Row, number_in, names_of}

abbrev pub template_in : Sheet → ℕ → List Part
template_in sheet r = unwrap_or (slice_get sheet.templates r) []

-- the bytes of a tree that is a token
abbrev pub leaf_bytes : List ℕ → Tree → List ℕ
leaf_bytes text (Leaf token) = bytes_of text token
leaf_bytes text (Node r kids) = []

abbrev pub kid_bytes : List ℕ → Forest → List (List ℕ)
kid_bytes text NoTree = []
kid_bytes text (FirstTree tree trees) = leaf_bytes text tree ∷ kid_bytes text trees

-- what stands at a place, counted from 1
abbrev pub at_place : List (List ℕ) → ℕ → List ℕ
at_place texts place = slice_index_or texts (place - 1) []

-- what a part of a template gives, by the names, the translations of the kids, and their bytes: a text part its bytes,
-- `$i` the translation of part `i`, and `#i` the number of part `i`'s bytes among the names, in decimal digits
abbrev pub part_given : List Row → List (List ℕ) → List (List ℕ) → Part → List ℕ
part_given names translations bytes (Text written) = written
part_given names translations bytes (Fold place) = at_place translations place
part_given names translations bytes (Number place) = decimal (number_in names (at_place bytes place))

-- by these names: the translation of a tree, and those of trees
abbrev mutual
  pub translation_by : Sheet → List ℕ → List Row → Tree → List ℕ
  translation_by sheet text names (Leaf token) = bytes_of text token
  translation_by sheet text names (Node r kids) = flat_map (part_given names (translations_by sheet text names kids) (kid_bytes text kids)) (template_in sheet r)

  pub translations_by : Sheet → List ℕ → List Row → Forest → List (List ℕ)
  translations_by sheet text names NoTree = []
  translations_by sheet text names (FirstTree tree trees) = translation_by sheet text names tree ∷ translations_by sheet text names trees

-- the translation of a whole tree, by its own names
abbrev pub translation_of : Sheet → List ℕ → Tree → List ℕ
translation_of sheet text tree = translation_by sheet text (names_of sheet text tree) tree
