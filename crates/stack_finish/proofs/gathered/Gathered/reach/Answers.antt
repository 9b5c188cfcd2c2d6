use Rattle.std.proofs.Common.{◌∷◌, ⊎_elim, refl, sym, ap, ◌∙◌}
use Rattle.grammar_data.specs.declared.token.Token.{Token as TextToken}
use Rattle.table_data.specs.Tables.{act_in}
use Rattle.piece_theory.specs.Lists.{nodes_of_floors}
use Rattle.stack_finish.specs.Gathering.{top_of}
use Rattle.stack_finish.proofs.PieceLemmas.{under_next, settled_again, stops, not_yet, fault_tells}
use Rattle.stack_finish.proofs.gathered.Gathered.reach.Goals as goal

pub settle-requires-clause-under : goal.settle-requires-clause-under
settle-requires-clause-under c =
    let at = c.requires.at in
    (at.6.ending.tokens, at.1.first, nodes_of_floors (at.1 ∷ at.2), at.6.ending.rest_steps, ap (λ (x : TextToken). x.id) at.5, under_next at.6 at.1.first refl)

pub unreachable-requires : goal.unreachable-requires
unreachable-requires c =
    let t = c.args.tables.now in
    let at = c.requires.at in
    let s = c.settle.new.self in
    let here = settled_again at.6 s c.args.first at.5 c.in_ok-settle.ensures.under c.in_ok-settle.ensures.more c.in_ok-settle.ensures.same.2 in
    ⊎_elim
    (λ e. not_yet c.requires.lawful here at.4 (ap (λ (x : TextToken). act_in t (top_of s) x.id) at.5 ∙ sym c.in_ok-settle.ensures.act.0 ∙ e))
    (λ h. c.in_ok-settle.ensures.act.1 h.0 h.1)
    c.in-Accept.is

pub returns-in-Shift-clause-at : goal.returns-in-Shift-clause-at
returns-in-Shift-clause-at c base right rest w same at =
    let t = c.args.tables.now in
    let s = c.settle.new.self in
    let here = settled_again at s c.args.first same c.in_ok-settle.ensures.under c.in_ok-settle.ensures.more c.in_ok-settle.ensures.same.2 in
    (here, (c.in-Shift.field-0, ap (λ (x : TextToken). act_in t (top_of s) x.id) same ∙ sym c.in_ok-settle.ensures.act.0 ∙ c.in-Shift.is))

pub returns-in-Error-clause-at : goal.returns-in-Error-clause-at
returns-in-Error-clause-at c base right rest w same at =
    let t = c.args.tables.now in
    let s = c.settle.new.self in
    let here = settled_again at s c.args.first same c.in_ok-settle.ensures.under c.in_ok-settle.ensures.more c.in_ok-settle.ensures.same.2 in
    fault_tells c.error.ensures same (stops c.requires.lawful here (ap (λ (x : TextToken). act_in t (top_of s) x.id) same ∙ sym c.in_ok-settle.ensures.act.0 ∙ c.in-Error.is))
