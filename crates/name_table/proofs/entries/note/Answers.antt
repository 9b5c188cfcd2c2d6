use Rattle.std.proofs.Common.{◌≡◌, ◌<◌, ap, ◌∙◌, arith}
use Rattle.std.specs.Prelude.{unwrap_or}
use Rattle.indexmap.specs.Entry.{map_with_value}
use Rattle.indexmap.specs.IndexMap.{insert_entry}
use Rattle.translation_theory.specs.DeclaredNames.{noted}
use Rattle.name_table.specs.declared.tally.Tally.{Tally}
use Rattle.name_table.specs.Tallies.{rows_of_entries}
use Rattle.name_table.proofs.EntryLemmas.{same_key, one_more, found_or_new, noted_entries, few_found}
use Rattle.name_table.proofs.entries.note.Goals as goal

pub overflow_add-tally : goal.overflow_add-tally
overflow_add-tally c =
    let found : c.or_insert-tally.result.now ≡ found_or_new c.args.entries.now.entries c.args.text c.args.line = c.or_insert-tally.ensures.value ∙ ap (λ o. unwrap_or o (record { line = c.args.line; times = 0 })) c.in_ok-entries.ensures.value in
    let few : (found_or_new c.args.entries.now.entries c.args.text c.args.line).times < 4294967295 = few_found c.args.entries.now.entries c.args.text c.args.line 4294967295 (omega arith) (λ k d inside. (let room = c.requires k d inside in omega (arith, room))) in
    let same : c.or_insert-tally.result.now.times ≡ (found_or_new c.args.entries.now.entries c.args.text c.args.line).times = ap (λ (t : Tally). t.times) found in
    omega (arith, same, few)

pub returns-clause-noted : goal.returns-clause-noted
returns-clause-noted c =
    let found : c.or_insert-tally.result.now ≡ found_or_new c.args.entries.now.entries c.args.text c.args.line = c.or_insert-tally.ensures.value ∙ ap (λ o. unwrap_or o (record { line = c.args.line; times = 0 })) c.in_ok-entries.ensures.value in
    let written : Tally = one_more c.or_insert-tally.result.now in
    let put : (map_with_value c.in_ok-entries.field-0 written).entries ≡ insert_entry same_key c.args.entries.now.entries c.args.text written = c.in_ok-entries.ensures.update.1 written in
    let rows : rows_of_entries (map_with_value c.in_ok-entries.field-0 written).entries ≡ noted (rows_of_entries c.args.entries.now.entries) c.args.text.now c.args.line = ap rows_of_entries put ∙ ap (λ t. rows_of_entries (insert_entry same_key c.args.entries.now.entries c.args.text (one_more t))) found ∙ noted_entries c.args.entries.now.entries c.args.text c.args.line in
    grind (arith, rows)
