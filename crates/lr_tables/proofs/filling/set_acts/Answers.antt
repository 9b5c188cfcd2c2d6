use Rattle.std.proofs.Common.{◌≡◌, ◌<◌, List, length, take, get_or, ap, subst, ◌∙◌, arith}
use Rattle.std.proofs.lemmas.List.{take_all}
use Rattle.collection_data.specs.declared.entry.Entry.{Entry}
use Rattle.collection_data.specs.Collection.{items_in}
use Rattle.table_data.specs.Tables.{Tables}
use Rattle.lr_tables.specs.Filling.{HasClashWithin, IsRow}
use Rattle.lr_tables.proofs.RowLemmas.{row_more, row_clash, row_acts, err_of}
use Rattle.lr_tables.proofs.filling.set_acts.Goals as goal

pub returns-in_err-put_entry-clause-clash : goal.returns-in_err-put_entry-clause-clash
returns-in_err-put_entry-clause-clash c =
    let g = c.args.grammar.now in
    let es = items_in c.args.collection.now c.args.state in
    let same = c.items-entry-items.ensures in
    let e = c.entry-item.result in
    let k = c.loop-entry.entry-index in
    let less : k < length es = omega (arith, c.loop-entry-test.true, ap (λ (l : List Entry). length l) same) in
    let here : e ≡ get_or es k e = c.entry-item.is ∙ ap (λ (l : List Entry). get_or l k e) same in
    let clash : HasClashWithin g c.args.collection.now c.args.state = row_clash g c.args.collection.now es c.args.state k e less here c.loop-entry.tables c.loop-entry.invariant.row c.in_err-put_entry.ensures.taken in
    err_of c.from_residual.result clash

pub loop-entry-preserved : goal.loop-entry-preserved
loop-entry-preserved c =
    let g = c.args.grammar.now in
    let es = items_in c.args.collection.now c.args.state in
    let same = c.items-entry-items.ensures in
    let e = c.entry-item.result in
    let k = c.loop-entry.entry-index in
    let less : k < length es = omega (arith, c.loop-entry-test.true, ap (λ (l : List Entry). length l) same) in
    let here : e ≡ get_or es k e = c.entry-item.is ∙ ap (λ (l : List Entry). get_or l k e) same in
    let put = c.in_ok-put_entry.ensures.put in
    record {
      row = row_more g c.args.collection.now es c.args.state k e less here c.loop-entry.tables c.loop-entry.invariant.row c.put_entry.new.tables put;
      others = λ p a apart. put.others p a apart ∙ c.loop-entry.invariant.others p a apart;
      rest = put.rest ∙ ap (λ (t : Tables). record t { acts = c.put_entry.new.tables.acts }) c.loop-entry.invariant.rest;
    }

pub returns-clause-acts : goal.returns-clause-acts
returns-clause-acts c =
    let g = c.args.grammar.now in
    let es = items_in c.args.collection.now c.args.state in
    let k = c.loop-entry.entry-index in
    let whole : take k es ≡ es = take_all k es (omega (arith, c.loop-entry-test.false, ap (λ (l : List Entry). length l) c.items-entry-items.ensures)) in
    record {
      acts = row_acts g c.args.collection.now c.args.state c.loop-entry.tables (subst (λ (l : List Entry). IsRow g c.args.collection.now l c.args.state c.loop-entry.tables) whole c.loop-entry.invariant.row);
      others = c.loop-entry.invariant.others;
      rest = c.loop-entry.invariant.rest;
    }
