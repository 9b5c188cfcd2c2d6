use Rattle.std.proofs.Common.{◌≡◌, ◌<◌, List, sym, subst, arith}
use Rattle.collection_data.specs.declared.entry.Entry.{Entry}
use Rattle.collection_data.specs.Entries.{AreEntries}
use Rattle.collection_data.specs.Collection.{items_in, has_item, state_count, step_in}
use Rattle.grammar_laws.proofs.RangeLemmas.{in_range}
use Rattle.lr_machine.specs.IsTables.{AreBlank}
use Rattle.table_theory.specs.Clashes.{HasClash}
use Rattle.table_theory.specs.Conflicts.{IsFirstConflict}
use Rattle.lr_tables.specs.EntryDeeds.{HaveItem}
use Rattle.lr_tables.specs.Clashing.{IsClashOn}
use Rattle.lawful_theory.proofs.CanonicalLemmas.{canonical_lawful_law}
use Rattle.lr_tables.proofs.RowLemmas.{entries_of, filled_none, filled_more, first_conflict_at, tables_filled, free_of_conflicts}
use Rattle.lr_tables.proofs.building.build.Goals as goal

pub loop-number-init : goal.loop-number-init
loop-number-init c =
    let g = c.args.grammar.now in
    filled_none g c.args.collection.now c.in_ok-tables.tables (in_range g c.holds.ensures) c.requires
    (subst (λ n. AreBlank g n c.in_ok-tables.tables) c.states.ensures.states c.in_ok-tables.ensures)

pub first_clash-requires-clause-entries : goal.first_clash-requires-clause-entries
first_clash-requires-clause-entries c =
    let g = c.args.grammar.now in
    let less : c.loop-number.number < state_count c.args.collection.now = omega (arith, c.loop-number-test.true, c.states-number-end.ensures.states) in
    subst (λ (l : List Entry). AreEntries g l) (sym c.items-entries.ensures) (entries_of g c.args.collection.now c.requires c.loop-number.number less)

pub first_clash-requires-clause-clash : goal.first_clash-requires-clause-clash
first_clash-requires-clause-clash c =
    let clash = c.in-Err.ensures.clash in
    (clash.0, clash.1, subst (λ (l : List Entry). HasClash c.args.grammar.now (HaveItem l) clash.0) (sym c.items-entries.ensures) clash.2)

pub returns-in-Err-clause-conflict : goal.returns-in-Err-clause-conflict
returns-in-Err-clause-conflict c =
    let g = c.args.grammar.now in
    let q = c.loop-number.number in
    let es = items_in c.args.collection.now q in
    let found = c.first_clash.result in
    let less : q < state_count c.args.collection.now = omega (arith, c.loop-number-test.true, c.states-number-end.ensures.states) in
    let clash = subst (λ (l : List Entry). IsClashOn g l found.token found.first found.second) c.items-entries.ensures c.first_clash.ensures.clash in
    subst (λ p. IsFirstConflict g p found.token found.first found.second) (sym c.first_clash.ensures.state)
    (first_conflict_at g c.args.collection.now q c.loop-number.tables c.loop-number.invariant found.token found.first found.second less clash
    (λ b before h. c.first_clash.ensures.least b before (subst (λ (l : List Entry). HasClash g (HaveItem l) b) (sym c.items-entries.ensures) h)))

pub loop-number-preserved : goal.loop-number-preserved
loop-number-preserved c =
    filled_more c.args.grammar.now c.args.collection.now c.loop-number.number c.loop-number.tables c.loop-number.invariant c.set_gotos.new.tables c.set_acts.new.tables c.set_gotos.ensures c.in_default.ensures.acts

pub returns-clause-free : goal.returns-clause-free
returns-clause-free c =
    let last : c.loop-number.number ≡ state_count c.args.collection.now = omega (arith, c.loop-number-test.false, c.loop-number.auto.number-end, c.states-number-end.ensures.states) in
    free_of_conflicts c.args.grammar.now c.args.collection.now c.loop-number.number c.loop-number.tables c.loop-number.invariant last

pub returns-clause-lawful : goal.returns-clause-lawful
returns-clause-lawful c = λ productive reachable.
    let g = c.args.grammar.now in
    let now = c.args.collection.now in
    let filled = c.loop-number.invariant in
    let last : c.loop-number.number ≡ state_count now = omega (arith, c.loop-number-test.false, c.loop-number.auto.number-end, c.states-number-end.ensures.states) in
    canonical_lawful_law g filled.setting.range productive reachable (state_count now) (has_item now) (step_in now) c.loop-number.tables c.requires.collection
    (tables_filled g now c.loop-number.number c.loop-number.tables filled last)
