use Rattle.std.proofs.Common.{ℕ, [], ⊎_elim, sym, ap, ◌∙◌}
use Rattle.table_data.specs.Tables.{act_in}
use Rattle.plain_parse.specs.Runs.{end_of}
use Rattle.stack_finish.specs.Gathering.{top_of}
use Rattle.stack_finish.proofs.ClosingLemmas.{under_end, root_left, no_shift, tree_answer, wrong_answer}
use Rattle.stack_finish.proofs.gathered.Gathered.close.Goals as goal

pub settle-requires-clause-under : goal.settle-requires-clause-under
settle-requires-clause-under c = (c.requires.at.1, end_of c.args.tables.now, [], [], sym c.end.ensures.end, under_end c.requires.at.2)

pub into_tree-requires : goal.into_tree-requires
into_tree-requires c =
    let t = c.args.tables.now in
    let s = c.settle.new.self in
    let under = c.in_ok-settle.ensures.under c.requires.at.1 (end_of t) [] [] (sym c.end.ensures.end) (under_end c.requires.at.2) in
    root_left c.requires.lawful.1 s under (ap (λ (a : ℕ). act_in t (top_of s) a) (sym c.end.ensures.end) ∙ sym c.in_ok-settle.ensures.act.0 ∙ c.in-Accept.is)

pub unreachable-requires : goal.unreachable-requires
unreachable-requires c =
    let t = c.args.tables.now in
    let s = c.settle.new.self in
    let under = c.in_ok-settle.ensures.under c.requires.at.1 (end_of t) [] [] (sym c.end.ensures.end) (under_end c.requires.at.2) in
    ⊎_elim
    (λ h. no_shift c.requires.lawful.1 s under (ap (λ (a : ℕ). act_in t (top_of s) a) (sym c.end.ensures.end) ∙ sym c.in_ok-settle.ensures.act.0 ∙ h.1))
    (λ h. c.in_ok-settle.ensures.act.1 h.0 h.1)
    c.in-Shift.is

pub returns-in-Accept : goal.returns-in-Accept
returns-in-Accept c g base w lawful at =
    let t = c.args.tables.now in
    let s = c.settle.new.self in
    let under = c.in_ok-settle.ensures.under w (end_of t) [] [] (sym c.end.ensures.end) (under_end at) in
    tree_answer at s under c.in_ok-settle.ensures.more c.in_ok-settle.ensures.same.0 c.in_ok-settle.ensures.same.2 lawful (ap (λ (a : ℕ). act_in t (top_of s) a) (sym c.end.ensures.end) ∙ sym c.in_ok-settle.ensures.act.0 ∙ c.in-Accept.is) c.into_tree.ensures

pub returns-in-Error : goal.returns-in-Error
returns-in-Error c g base w lawful at =
    let t = c.args.tables.now in
    let s = c.settle.new.self in
    let under = c.in_ok-settle.ensures.under w (end_of t) [] [] (sym c.end.ensures.end) (under_end at) in
    wrong_answer at s under c.in_ok-settle.ensures.more c.in_ok-settle.ensures.same.0 c.in_ok-settle.ensures.same.2 lawful (ap (λ (a : ℕ). act_in t (top_of s) a) (sym c.end.ensures.end) ∙ sym c.in_ok-settle.ensures.act.0 ∙ c.in-Error.is) c.top.ensures
