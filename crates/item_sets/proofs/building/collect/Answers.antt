use Rattle.std.proofs.Common.{◌≡◌, List, length, All, sym, subst, arith}
use Rattle.grammar_data.specs.Grammar.{Grammar}
use Rattle.collection_data.specs.declared.entry.Entry.{Entry}
use Rattle.collection_data.specs.Collection.{CollectionParts, IsCollectionOf}
use Rattle.collection_data.specs.Rows.{AreAllRowsOf}
use Rattle.collection_data.proofs.MadeCollection.{collection_of, few_states}
use Rattle.item_sets.specs.Searching.{IsStateSet}
use Rattle.item_sets.proofs.StateFinding.{set_at_state}
use Rattle.item_sets.proofs.building.collect.Goals as goal

pub returns-clause-collection : goal.returns-clause-collection
returns-clause-collection c =
    let g = c.args.grammar.now in
    let sets = c.into_sets.result.items in
    let t : CollectionParts = record { tokens = c.tokens-2.result; names = c.names-2.result; states = sets; steps = c.loop-state.steps.items } in
    let each : All (IsStateSet g) sets = subst (λ (f : Grammar). All (IsStateSet f) sets) c.loop-state.invariant.grammar c.into_sets.ensures.each in
    let last : c.loop-state.state ≡ length c.loop-state.states.states = omega arith in
    let rows : AreAllRowsOf g sets c.loop-state.steps.items = subst (λ (l : List (List Entry)). AreAllRowsOf g l c.loop-state.steps.items) (sym c.into_sets.ensures.sets) (c.loop-state.invariant.search.end last) in
    subst (λ (s : CollectionParts). IsCollectionOf g s) (sym c.from_parts.ensures)
    (collection_of g c.in_ok-table.ensures.range t c.tokens-2.ensures c.names-2.ensures rows (λ q es at. (set_at_state g sets each q es at).are))

pub returns-clause-few : goal.returns-clause-few
returns-clause-few c =
    let g = c.args.grammar.now in
    let sets = c.into_sets.result.items in
    let t : CollectionParts = record { tokens = c.tokens-2.result; names = c.names-2.result; states = sets; steps = c.loop-state.steps.items } in
    let each : All (IsStateSet g) sets = subst (λ (f : Grammar). All (IsStateSet f) sets) c.loop-state.invariant.grammar c.into_sets.ensures.each in
    let last : c.loop-state.state ≡ length c.loop-state.states.states = omega arith in
    let rows : AreAllRowsOf g sets c.loop-state.steps.items = subst (λ (l : List (List Entry)). AreAllRowsOf g l c.loop-state.steps.items) (sym c.into_sets.ensures.sets) (c.loop-state.invariant.search.end last) in
    few_states g c.in_ok-table.ensures.range t c.tokens-2.ensures c.names-2.ensures rows (λ q es at. (set_at_state g sets each q es at).are) 10000 c.into_sets.ensures.few
