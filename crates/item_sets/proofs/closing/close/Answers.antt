use Rattle.std.proofs.Common.{◌≡◌, ℕ, ◌+◌, ◌++◌, ◌∷◌, List, [], length, take, All, Contains, IsTrue, sym, ap, subst, ◌∙◌, arith}
use Rattle.std.proofs.lemmas.List.{take_more}
use Rattle.std.proofs.lemmas.List.Elements.{All-get_or, Contains-push}
use Rattle.collection_data.specs.declared.entry.Entry.{Entry}
use Rattle.item_sets.specs.declared.spot.Spot.{Spot}
use Rattle.collection_data.specs.Entries.{IsEntry, entry_has}
use Rattle.item_sets.specs.Closing.{IsNameWithin, IsClosing, IsUnopened, PartClosure}
use Rattle.item_sets.proofs.ClosingLemmas.{rows_within, fronts_within}
use Rattle.collection_data.proofs.EntryLemmas.{have_at}
use Rattle.item_sets.proofs.ClosureExact.{closing_none, closing_seed, closing_name}
use Rattle.item_sets.proofs.closing.close.Goals as goal

pub loop-entry-init : goal.loop-entry-init
loop-entry-init c =
    let g = c.args.grammar.now in
    closing_none g c.args.table.now.rows.items c.args.table.now.fronts.items c.requires.setting c.args.kernel.now c.in_ok-closing.closing
    (subst (λ n. IsUnopened n c.in_ok-closing.closing) c.names.ensures c.in_ok-closing.ensures)

pub open_behind-requires-clause-within : goal.open_behind-requires-clause-within
open_behind-requires-clause-within c =
    let rows = c.args.table.now.rows.items in
    subst (λ k. All (λ row. All (λ (spot : Spot). IsNameWithin k spot.symbol) row) rows) (sym c.loop-entry.invariant.count)
    (rows_within c.args.grammar.now rows c.args.table.now.fronts.items c.requires.setting.table)

pub loop-entry-preserved : goal.loop-entry-preserved
loop-entry-preserved c =
    let g = c.args.grammar.now in
    let kernel = c.args.kernel.now in
    let k = c.loop-entry.entry-index in
    let e = c.entry-item.result in
    let more : take (k + 1) kernel ≡ take k kernel ++ e ∷ [] = take_more kernel k e c.loop-entry-test.true ∙ ap (λ d. take k kernel ++ d ∷ []) (sym c.entry-item.is) in
    let entry : IsEntry g e = subst (λ (d : Entry). IsEntry g d) (sym c.entry-item.is) (All-get_or (IsEntry g) kernel k e c.loop-entry-test.true c.requires.kernel.each) in
    subst (λ (es : List Entry). IsClosing g kernel es c.open_behind.new.self.aheads c.open_behind.new.self.work) (sym more)
    (closing_seed g c.args.table.now.rows.items c.args.table.now.fronts.items c.requires.setting kernel (take k kernel) e entry
    (λ i h. have_at kernel k e i c.loop-entry-test.true (subst (λ (d : Entry). IsTrue (entry_has d i)) c.entry-item.is h))
    c.loop-entry.closing.aheads c.loop-entry.closing.work c.open_behind.new.self.aheads c.open_behind.new.self.work c.loop-entry.invariant c.in_ok-open_behind.ensures)

pub open_name-requires-clause-name : goal.open_name-requires-clause-name
open_name-requires-clause-name c =
    let next = c.in-Some.ensures in
    let waits = c.loop-name.invariant.waiting c.in-Some.name (subst (λ (w : List ℕ). Contains w c.in-Some.name) (sym next.work) (Contains-push c.next.new.self.work c.in-Some.name)) in
    omega (arith, waits.0, c.requires.setting.table.count)

pub open_name-requires-clause-within : goal.open_name-requires-clause-within
open_name-requires-clause-within c =
    let fronts = c.args.table.now.fronts.items in
    subst (λ k. All (λ row. All (λ (spot : Spot). IsNameWithin k spot.symbol) row) fronts) (sym (ap length c.in-Some.ensures.aheads ∙ c.loop-name.invariant.count))
    (fronts_within c.args.grammar.now c.args.table.now.rows.items fronts c.requires.setting.table)

pub loop-name-preserved : goal.loop-name-preserved
loop-name-preserved c =
    let g = c.args.grammar.now in
    let kernel = c.args.kernel.now in
    let next = c.in-Some.ensures in
    let popped = c.next.new.self in
    closing_name g c.args.table.now.rows.items c.args.table.now.fronts.items c.requires.setting kernel c.in-Some.name
    popped.aheads popped.work c.open_name.new.self.aheads c.open_name.new.self.work
    (subst (λ (a : List (List ℕ)). IsClosing g kernel kernel a (popped.work ++ c.in-Some.name ∷ [])) (sym next.aheads)
    (subst (λ (w : List ℕ). IsClosing g kernel kernel c.loop-name.closing.aheads w) next.work c.loop-name.invariant)) c.in_ok-open_name.ensures

pub returns-clause-closing : goal.returns-clause-closing
returns-clause-closing c =
    let g = c.args.grammar.now in
    let kernel = c.args.kernel.now in
    subst (λ (a : List (List ℕ)). IsClosing g kernel kernel a []) (sym (c.into_lookaheads.ensures.lookaheads ∙ ap (λ (p : PartClosure). p.aheads) c.in_default.ensures.1))
    (subst (λ (w : List ℕ). IsClosing g kernel kernel c.loop-name.closing.aheads w) c.in_default.ensures.0 c.loop-name.invariant)
