use Rattle.std.proofs.Common.{◌≡◌, ℕ, suc, List, length, sym, ap, ◌∙◌, arith}
use Rattle.std.specs.Prelude.{slice_get}
use Rattle.std.proofs.lemmas.Option.{slice_get_within}
use Rattle.sample_theory.specs.Choices.{next_number, number_at, picked, rules_of}
use Rattle.sample_theory.proofs.ChoiceLemmas.{number_next}
use Rattle.sample_text.specs.Choosing.{is_drawn}
use Rattle.sample_text.proofs.choices.Chooser.draw.Goals as goal

pub returns-clause-number : goal.returns-clause-number
returns-clause-number c = λ from number. c.next-draws.ensures ∙ ap next_number number ∙ sym (number_next from c.args.draws.now.drawn) ∙ ap (number_at from) (omega arith)

pub returns-clause-choice : goal.returns-clause-choice
returns-clause-choice c = λ from number.
    let e = c.picked_rule.ensures in
    let now : c.next-draws.result ≡ number_at from (suc c.args.draws.now.drawn) = c.next-draws.ensures ∙ ap next_number number ∙ sym (number_next from c.args.draws.now.drawn) in
    let g = c.args.self.now.grammar.now in
    let list : List ℕ = rules_of g.rules c.args.name in
    is_drawn c.requires.left (omega arith) (record { rule = e.1.rule; here = ap (λ x. slice_get list (picked x (length list))) (sym now) ∙ e.1.here })

pub returns-clause-rule : goal.returns-clause-rule
returns-clause-rule c =
    let e = c.picked_rule.ensures in
    slice_get_within c.args.self.now.grammar.now.rules c.picked_rule.result (c.args.name, e.0) e.1.rule.found
