use Rattle.std.proofs.Common.{◌≡◌, ◌<◌, ◌+◌, ◌++◌, ◌∷◌, List, [], length, take, get_or, slice_get, refl, sym, ap, subst, ◌∙◌}
use Rattle.std.proofs.lemmas.List.{take_more}
use Rattle.std.proofs.lemmas.List.Elements.{All-get_or}
use Rattle.collection_data.specs.declared.entry.Entry.{Entry}
use Rattle.item_sets.specs.Successors.{AreSuccessors}
use Rattle.item_sets.proofs.SuccessorLemmas.{successors_more}
use Rattle.item_sets.proofs.successors.successors.Goals as goal

pub loop-entry-preserved : goal.loop-entry-preserved
loop-entry-preserved c =
    let rows = c.args.table.now.rows.items in
    let entries = c.args.entries.now in
    let k = c.loop-entry.entry-index in
    let e = c.entry-item.result in
    let more : take (k + 1) entries ≡ take k entries ++ e ∷ [] = take_more entries k e c.loop-entry-test.true ∙ ap (λ d. take k entries ++ d ∷ []) (sym c.entry-item.is) in
    let within : e.rule < length rows = subst (λ (d : Entry). d.rule < length rows) (sym c.entry-item.is) (All-get_or (λ (d : Entry). d.rule < length rows) entries k e c.loop-entry-test.true c.requires.rules) in
    subst (λ (es : List Entry). AreSuccessors rows c.args.width es c.push_moved.new.kernels.items) (sym more)
    (successors_more rows c.args.width (take k entries) e c.loop-entry.kernels.items c.push_moved.new.kernels.items c.loop-entry.invariant c.requires.columns within
    (slice_get (get_or rows e.rule []) e.dot) refl c.in_ok-push_moved.ensures)
