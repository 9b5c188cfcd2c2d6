-- What a translation goes by, and the trees below a node of a store.
use Rattle.std.specs.Prelude.{◌≡◌, ℕ, ◌-◌, ◌<◌, List, [], length, slice_get, Some, unwrap_or}
use Rattle.std.specs.List.{flat_map}
use Rattle.grammar_data.specs.declared.rule.Sym.{Sym}
use Rattle.grammar_theory.specs.Trees.{Tree, Leaf, Node, Forest, NoTree, FirstTree, IsTree}
use Rattle.node_data.specs.declared.kid.Kid.{Kid}
use Rattle.node_data.specs.declared.kid.Kid.TheVariants.{Token, Node as NodeKid, Hidden}
use Rattle.node_store.specs.Chunks.{Chunk, store_of}
use Rattle.sheet_data.specs.Sheet.{Sheet}
use Rattle.sheet_data.specs.declared.parts.Part.{Part}
use Rattle.translation_theory.specs.DeclaredNames.{Row}
use Rattle.translation_theory.specs.TokenTexts.{bytes_of}
use Rattle.translation_theory.specs.Translations.{part_given, translations_by, kid_bytes}
use Rattle.tree_theory.specs.Stores.{Ref, Shows, ShowsAll}

-- the sheet with the templates, the nodes, the text that their tokens stand in, and the names that are numbered
pub record Source : Type 0 where
  pub sheet : Sheet
  pub chunks : List Chunk
  pub text : List ℕ
  pub names : List Row

-- a node shows the tree, and nothing below it is hidden
abbrev pub IsTreeAt : List Chunk → Ref → Tree → Type 0
IsTreeAt chunks node tree = Shows (store_of chunks) [] node 0 (NodeKid node) tree

-- each inner node of the tree, of the trees, has a rule of the sheet
abbrev mutual
  pub HasRules : Sheet → Tree → Type 0
  HasRules sheet (Leaf token) = Unit {0}
  HasRules sheet (Node r kids) = (r < length sheet.grammar.rules) × HaveRules sheet kids

  pub HaveRules : Sheet → Forest → Type 0
  HaveRules sheet NoTree = Unit {0}
  HaveRules sheet (FirstTree tree trees) = HasRules sheet tree × HaveRules sheet trees

-- a node shows a tree, and each inner node of it has a rule of the sheet
pub record HasTree (sheet : Sheet) (chunks : List Chunk) (node : Ref) : Type 0 where
  pub tree : Tree
  pub shown : IsTreeAt chunks node tree
  pub rules : HasRules sheet tree

-- there is a node, and its rule is one of the sheet
pub record HasTemplate (source : Source) (node : Ref) : Type 0 where
  pub rule : ℕ
  pub kids : List Kid
  pub at : store_of source.chunks node ≡ Some (rule, kids)
  pub known : rule < length source.sheet.grammar.rules

-- these are all kids of a node, and show the trees, with rules of the sheet
pub record AreKids (source : Source) (kids : List Kid) (trees : Forest) : Type 0 where
  pub node : Ref
  pub shown : ShowsAll (store_of source.chunks) [] node 0 kids trees
  pub rules : HaveRules source.sheet trees

abbrev pub HasForest : Source → List Kid → Type 0
HasForest source kids = (trees : Forest) × AreKids source kids trees

-- the kid at a place, counted from 1; where there is none, as a hidden one
abbrev pub kid_at : List Kid → ℕ → Kid
kid_at kids place = unwrap_or (slice_get kids (place - 1)) Hidden

-- the bytes of a kid that is a token
abbrev pub token_bytes : List ℕ → Kid → List ℕ
token_bytes text (Token token) = bytes_of text token
token_bytes text (NodeKid node) = []
token_bytes text Hidden = []

-- what a part of a template gives of a node whose kids show these trees
abbrev pub given : Source → Forest → Part → List ℕ
given source trees part = part_given source.names (translations_by source.sheet source.text source.names trees) (kid_bytes source.text trees) part

-- what several give, one after another
abbrev pub all_given : Source → Forest → List Part → List ℕ
all_given source trees parts = flat_map (given source trees) parts

-- the trees of symbols of the sheet's grammar have such rules
abbrev pub TreeRulesLaw : Type 0
TreeRulesLaw = (sheet : Sheet) (x : Sym) (tree : Tree) → IsTree sheet.grammar.rules x tree → HasRules sheet tree
