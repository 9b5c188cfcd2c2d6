use Rattle.std.proofs.Common.{◌==◌, ◌∙◌, ap, subst, sym}
use Rattle.lr_tables.specs.declared.deed.EntryDeed.{EntryDeed}
use Rattle.lr_tables.specs.EntryDeeds.{IsDeedOf}
use Rattle.lr_tables.proofs.EntryDeedLemmas.{acts_shift, acts_reduce, acts_accept, test_for}
use Rattle.lr_tables.proofs.deed.acts.Goals as goal

pub returns-in-Shift : goal.returns-in-Shift
returns-in-Shift c =
    let g = c.args.grammar.now in
    let e = c.args.entry.now in
    test_for c.eq.result c.in-Shift.behind c.args.token c.eq.ensures
    (acts_shift g e c.in-Shift.behind c.requires.entry (subst (λ (d : EntryDeed). IsDeedOf g e d) c.in-Shift.is c.requires.does) c.args.token)

pub returns-in-Reduce : goal.returns-in-Reduce
returns-in-Reduce c =
    let g = c.args.grammar.now in
    let e = c.args.entry.now in
    let iff = acts_reduce g e c.in-Reduce.field-0 (subst (λ (d : EntryDeed). IsDeedOf g e d) c.in-Reduce.is c.requires.does) c.args.token in
    (λ h. iff.0 (sym c.has.ensures.has ∙ h), λ h. c.has.ensures.has ∙ iff.1 h)

pub returns-in-Accept : goal.returns-in-Accept
returns-in-Accept c =
    let g = c.args.grammar.now in
    let e = c.args.entry.now in
    let iff = acts_accept g e c.requires.entry (subst (λ (d : EntryDeed). IsDeedOf g e d) c.in-Accept.is c.requires.does) c.args.token in
    test_for c.eq-in-Accept.result c.args.token g.tokens (c.eq-in-Accept.ensures ∙ ap (λ end. c.args.token == end) c.end.ensures) iff
