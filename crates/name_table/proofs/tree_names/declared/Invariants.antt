use Rattle.std.proofs.Common.{List, ℕ}
use Rattle.grammar_theory.specs.Trees.{Tree}
use Rattle.node_data.specs.declared.kid.Kid.{Kid}
use Rattle.node_store.specs.Chunks.{store_of}
use Rattle.sheet_data.specs.Sheet.{Sheet}
use Rattle.tree_theory.specs.Stores.{Ref, Store}
use Rattle.translation_theory.specs.Marks.{marked_leaves}
use Rattle.translation_theory.specs.DeclaredNames.{Row}
use Rattle.finished_theory.specs.FinishedTrees.{IsFinished}
use Rattle.name_table.specs.Pending.{IsUnderWay}
use Rattle.name_table.proofs.tree_names.declared.Given as goal

-- the marked leaves of a finished tree are under way
pub record AreTaken (sheet : Sheet) (text : List ℕ) (store : Store) (root : Ref) (parts : List Kid) (rows : List Row) : Type 0 where
  pub tree : Tree
  pub finished : IsFinished sheet text store root tree
  pub way : IsUnderWay sheet text store (marked_leaves sheet tree) parts rows

abbrev pub invariant-loop : goal.invariant-loop
invariant-loop l = AreTaken l.sheet l.text (store_of l.store) l.fn.root l.parts.items l.names
