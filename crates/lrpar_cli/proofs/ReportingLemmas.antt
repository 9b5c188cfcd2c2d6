-- The report of a text.
use Rattle.std.proofs.Common.{◌≡◌, ℕ, List, [], refl, ap, ◌∙◌}
use Rattle.grammar_theory.specs.Trees.{Tree, yield, nodes}
use Rattle.node_data.specs.declared.kid.Kid.TheVariants.{Node as NodeKid}
use Rattle.tree_theory.specs.Stores.{Ref, Shows}
use Rattle.node_store.specs.Chunks.{store_of}
use Rattle.sheet_data.specs.Sheet.{Sheet}
use Rattle.run_theory.specs.RunAnswers.{Given}
use Rattle.tally_theory.specs.declared.cut.Cut.{Cut}
use Rattle.tally_theory.specs.Reports.{IsReportAnswer, report_text, tally_given}
use Rattle.lrpar_cli.specs.declared.translating.TextTree.{TextTree}
use Rattle.lrpar_cli.specs.Reporting.{IsReportOf, tally_of}
use Rattle.lrpar_cli.specs.Segments.{AreCountsOf}
use Rattle.lrpar_cli.specs.Translating.{HasTextTree}

-- the report of a tree has the number of its nodes
pub report_of : (found : TextTree) (count : ℕ) (bytes : List ℕ) → bytes ≡ report_text (tally_of found.counts count) → ((n : Ref) (i : ℕ) (tree : Tree) → Shows (store_of found.store) [] n i (NodeKid found.root) tree → count ≡ nodes tree) → IsReportOf found bytes
report_of found count bytes is counts = λ n i tree shows. is ∙ ap (λ number. report_text (tally_of found.counts number)) (counts n i tree shows)

-- so it is given
pub report_given : (sheet : Sheet) (text bytes : List ℕ) (cut : Cut) (found : TextTree) → HasTextTree sheet text found → AreCountsOf sheet text cut found.counts → IsReportOf found bytes → IsReportAnswer sheet text cut (Given bytes)
report_given sheet text bytes cut found h counts is =
    tally_given {tree = h.tree} {tally = tally_of found.counts (nodes h.tree)} h.of_text
    (record { pieces = counts.pieces; tokens = counts.tokens (yield h.tree) h.of_text.tokens; nodes_are = refl })
    (is found.root 0 h.tree (h.shown found.root 0))
