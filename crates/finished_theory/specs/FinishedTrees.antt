-- A finished tree of a sheet over a text, under a root in a store: it is shown with nothing supplied, so that it is finite,
-- its references are good, and no kid is hidden; its root has a rule of the start, and its tokens stand in the text.
use Rattle.std.specs.Prelude.{◌≡◌, ℕ, List, []}
use Rattle.grammar_data.specs.declared.rule.Sym.TheVariants.{Name}
use Rattle.grammar_theory.specs.Trees.{Tree, IsTree, yield}
use Rattle.node_data.specs.declared.kid.Kid.TheVariants.{Node}
use Rattle.tree_theory.specs.Stores.{Ref, Store, Shows}
use Rattle.scanning_theory.specs.Scan.{Scanning, AreTokens}
use Rattle.sheet_data.specs.Sheet.{Sheet}
use Rattle.translation_theory.specs.TokenTexts.{AreInText}

pub record IsFinished (sheet : Sheet) (text : List ℕ) (store : Store) (root : Ref) (tree : Tree) : Type 0 where
  pub shows : Shows store [] root 0 (Node root) tree
  pub of_start : IsTree sheet.grammar.rules (Name sheet.grammar.start) tree
  pub in_text : AreInText text (yield tree)

-- a root has one at most
abbrev pub OneFinishedLaw : Type 0
OneFinishedLaw = (sheet : Sheet) (text : List ℕ) (store : Store) (root : Ref) (tree other : Tree) → IsFinished sheet text store root tree → IsFinished sheet text store root other → tree ≡ other

-- a tree of the start whose yield is the tokens of the text is one, where it is shown
abbrev pub FinishedLaw : Type 0
FinishedLaw = (sheet : Sheet) (scanning : Scanning) (text : List ℕ) (store : Store) (root : Ref) (tree : Tree) → Shows store [] root 0 (Node root) tree → IsTree sheet.grammar.rules (Name sheet.grammar.start) tree → AreTokens scanning text (yield tree) → IsFinished sheet text store root tree
