use Rattle.std.proofs.Common.{List, ℕ, subst}
use Rattle.item_sets.specs.Layout.{IsLaidOut}
use Rattle.item_sets.proofs.LayoutLemmas.{closure_of}
use Rattle.item_sets.proofs.layout.closure.Goals as goal

pub returns : goal.returns
returns c =
    let g = c.args.grammar.now in
    let kernel = c.args.kernel.now in
    closure_of g c.args.table.now.rows.items c.args.table.now.fronts.items c.requires.setting kernel c.in_ok-aheads.aheads.items c.in_ok-entries.entries.items c.in_ok-aheads.ensures.closing
    (subst (λ (a : List (List ℕ)). IsLaidOut g kernel a c.in_ok-entries.entries.items) c.deref.ensures.value c.in_ok-entries.ensures)
