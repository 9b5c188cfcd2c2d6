-- The report of a text, by its tree and what was counted where it was parsed.
use Rattle.std.specs.Prelude.{◌≡◌, ℕ, List, []}
use Rattle.grammar_theory.specs.Trees.{Tree, nodes}
use Rattle.node_data.specs.declared.kid.Kid.TheVariants.{Node as NodeKid}
use Rattle.tree_theory.specs.Stores.{Ref, Shows}
use Rattle.node_store.specs.Chunks.{store_of}
use Rattle.tally_theory.specs.Reports.{Tally, report_text}
use Rattle.lrpar_cli.specs.declared.segments.Counts.{Counts}
use Rattle.lrpar_cli.specs.declared.translating.TextTree.{TextTree}

abbrev pub tally_of : Counts → ℕ → Tally
tally_of counts nodes = record { segments = counts.segments; tokens = counts.tokens; pieces = counts.pieces; nodes = nodes }

-- the report by the nodes of the tree that the root shows
abbrev pub IsReportOf : TextTree → List ℕ → Type 0
IsReportOf found text = (n : Ref) (i : ℕ) (tree : Tree) → Shows (store_of found.store) [] n i (NodeKid found.root) tree → text ≡ report_text (tally_of found.counts (nodes tree))
