use Rattle.std.proofs.Common.{◌+◌, ap, subst, sym, ◌∙◌, arith}
use Rattle.std.proofs.lemmas.Result.{on_ok_weaker, on_err_weaker}
use Rattle.grammar_data.specs.declared.rule.Sym.TheVariants.{Token}
use Rattle.lr_tables.specs.declared.deed.EntryDeed.{EntryDeed}
use Rattle.lr_tables.specs.EntryDeeds.{IsDeedIn, IsDeedOf}
use Rattle.lr_tables.proofs.EntryDeedLemmas.{deed_shift}
use Rattle.lr_tables.proofs.PutLemmas.{step_within, some_step, shift_put, reduce_put, accept_put, shift_in_the_way, reduce_in_the_way, accept_in_the_way}
use Rattle.lr_tables.proofs.filling.put_entry.Goals as goal

pub put-requires-clause-act : goal.put-requires-clause-act
put-requires-clause-act c =
    let setting = c.requires.setting in
    let within = step_within c.args.grammar.now c.args.collection.now setting.collection c.args.state c.in-Some-step.to (Token c.in-Shift.token) c.requires.state (sym c.step.ensures ∙ c.in-Some-step.is) in
    omega (arith, within, setting.states)

pub unreachable-requires : goal.unreachable-requires
unreachable-requires c =
    let setting = c.requires.setting in
    let has = deed_shift c.args.grammar.now c.args.entry.now c.in-Shift.token c.requires.entry (subst (λ (d : EntryDeed). IsDeedOf c.args.grammar.now c.args.entry.now d) c.in-Shift.is c.in-Some.ensures.does) in
    some_step c.args.grammar.now c.args.collection.now setting.range setting.collection c.args.state c.in-Shift.token c.requires.state (has.0, c.requires.items has.0 has.1, has.2) (sym c.step.ensures ∙ c.in-None.is)

pub returns-in-Some-step-clause-put : goal.returns-in-Some-step-clause-put
returns-in-Some-step-clause-put c =
    on_ok_weaker c.put.result
    (shift_put c.args.grammar.now c.args.collection.now c.args.entry.now c.args.state c.args.tables.now c.requires.shifts c.put.new.tables c.in-Shift.token c.in-Some-step.to c.requires.entry (subst (λ (d : EntryDeed). IsDeedOf c.args.grammar.now c.args.entry.now d) c.in-Shift.is c.in-Some.ensures.does) (sym c.step.ensures ∙ c.in-Some-step.is))
    c.put.ensures.put

pub returns-in-Some-step-clause-taken : goal.returns-in-Some-step-clause-taken
returns-in-Some-step-clause-taken c =
    let within = subst (λ (d : EntryDeed). IsDeedIn c.args.grammar.now c.args.entry.now d) c.in-Shift.is c.in-Some.ensures.in_range in
    on_err_weaker c.put.result
    (shift_in_the_way c.args.grammar.now c.args.collection.now c.args.entry.now c.args.state c.args.tables.now c.requires.shifts c.in-Shift.token c.in-Some-step.to (omega (arith, within)) c.requires.entry (subst (λ (d : EntryDeed). IsDeedOf c.args.grammar.now c.args.entry.now d) c.in-Shift.is c.in-Some.ensures.does) (sym c.step.ensures ∙ c.in-Some-step.is))
    c.put.ensures.taken

pub returns-in-Reduce-clause-put : goal.returns-in-Reduce-clause-put
returns-in-Reduce-clause-put c =
    on_ok_weaker c.put_reduces.result
    (reduce_put c.args.grammar.now c.args.collection.now c.args.entry.now c.args.state c.args.tables.now c.requires.shifts c.put_reduces.new.tables c.in-Reduce.rule (c.args.tables.now.tokens + 1) (ap (λ n. n + 1) c.requires.setting.tokens) (subst (λ (d : EntryDeed). IsDeedOf c.args.grammar.now c.args.entry.now d) c.in-Reduce.is c.in-Some.ensures.does))
    c.put_reduces.ensures.put

pub returns-in-Reduce-clause-taken : goal.returns-in-Reduce-clause-taken
returns-in-Reduce-clause-taken c =
    on_err_weaker c.put_reduces.result
    (reduce_in_the_way c.args.grammar.now c.args.collection.now c.args.entry.now c.args.state c.args.tables.now c.requires.shifts c.in-Reduce.rule (c.args.tables.now.tokens + 1) (ap (λ n. n + 1) c.requires.setting.tokens) (subst (λ (d : EntryDeed). IsDeedOf c.args.grammar.now c.args.entry.now d) c.in-Reduce.is c.in-Some.ensures.does))
    c.put_reduces.ensures.taken

pub returns-in-Accept-clause-put : goal.returns-in-Accept-clause-put
returns-in-Accept-clause-put c =
    on_ok_weaker c.put-in-Accept.result
    (accept_put c.args.grammar.now c.args.collection.now c.args.entry.now c.args.state c.args.tables.now c.requires.shifts c.put-in-Accept.new.tables c.end-end.result (omega (arith, c.end-end.ensures.end, c.requires.setting.tokens)) c.requires.entry (subst (λ (d : EntryDeed). IsDeedOf c.args.grammar.now c.args.entry.now d) c.in-Accept.is c.in-Some.ensures.does))
    c.put-in-Accept.ensures.put

pub returns-in-Accept-clause-taken : goal.returns-in-Accept-clause-taken
returns-in-Accept-clause-taken c =
    on_err_weaker c.put-in-Accept.result
    (accept_in_the_way c.args.grammar.now c.args.collection.now c.args.entry.now c.args.state c.args.tables.now c.requires.shifts c.end-end.result (omega (arith, c.end-end.ensures.end, c.requires.setting.tokens)) c.requires.entry (subst (λ (d : EntryDeed). IsDeedOf c.args.grammar.now c.args.entry.now d) c.in-Accept.is c.in-Some.ensures.does))
    c.put-in-Accept.ensures.taken
