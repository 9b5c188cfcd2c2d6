use Rattle.std.proofs.Common.{◌≡◌, ◌++◌, ◌∷◌, List, [], sym, ap, subst, ◌∙◌, arith}
use Rattle.collection_data.specs.declared.entry.Entry.{Entry}
use Rattle.item_sets.specs.Searching.{AreFoundSoFar, IsSearchAt}
use Rattle.item_sets.proofs.StepLemmas.{search_first}
use Rattle.item_sets.proofs.SettingLemmas.{first_kernel, first_only, first_set, first_finds}
use Rattle.item_sets.proofs.states.States.first.Goals as goal

pub closure-requires-clause-kernel : goal.closure-requires-clause-kernel
closure-requires-clause-kernel c = first_kernel c.args.grammar.now c.first_entry.result c.first_entry.ensures

pub invariant_of-result : goal.invariant_of-result
invariant_of-result c =
    let g = c.args.grammar.now in
    let e = c.first_entry.result in
    let set = c.in_ok-set.set in
    let one : c.push.new.self.items ≡ set ∷ [] = c.in_ok-push.ensures.items ∙ ap (λ (l : List (List Entry)). l ++ set ∷ []) c.new-sets.ensures.items in
    subst (λ (l : List (List Entry)). AreFoundSoFar g c.args.table.now.rows.items c.args.table.now.fronts.items l c.note.new.found) (sym one) (record {
      setting = c.requires;
      few = omega arith;
      each = first_set g e c.first_entry.ensures set c.in_ok-set.ensures;
      finds = first_finds g e c.first_entry.ensures set c.in_ok-set.ensures c.new-found.result c.note.new.found c.new.result c.new-found.ensures.empty c.new.ensures.items c.in_ok-note.ensures.noted;
    })

pub returns-clause-search : goal.returns-clause-search
returns-clause-search c =
    let g = c.args.grammar.now in
    let set = c.in_ok-set.set in
    let first = c.first_entry.result in
    let one : c.push.new.self.items ≡ set ∷ [] = c.in_ok-push.ensures.items ∙ ap (λ (l : List (List Entry)). l ++ set ∷ []) c.new-sets.ensures.items in
    subst (λ (l : List (List Entry)). IsSearchAt g l [] 0 0) (sym one) (search_first g c.requires.range (first ∷ []) set (first_only g first c.first_entry.ensures) c.in_ok-set.ensures)
