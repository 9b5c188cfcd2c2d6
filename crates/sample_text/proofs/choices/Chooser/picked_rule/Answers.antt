use Rattle.std.proofs.Common.{◌≡◌, ℕ, ◌<◌, List, length, get_or, sym, ap, ◌∙◌, arith}
use Rattle.std.specs.Prelude.{slice_get, Some}
use Rattle.std.specs.Global.{Vec}
use Rattle.std.proofs.lemmas.Option.{slice_get-get_or}
use Rattle.sample_theory.specs.Choices.{picked, rules_of}
use Rattle.sample_theory.proofs.ChoiceLemmas.{some_rule, rule_of_name}
use Rattle.sample_text.proofs.choices.Chooser.picked_rule.Goals as goal

pub pick-requires : goal.pick-requires
pick-requires c =
    let s = c.args.self.now in
    let n = c.args.name in
    let rules = s.grammar.now.rules in
    let list : Vec ℕ = c.index-rules.result.now in
    let below : n < length s.lists.items = omega (arith, c.requires.name, c.requires.can.count) in
    let here : slice_get s.lists.items n ≡ Some list = slice_get-get_or s.lists.items n list below ∙ ap Some (ap (λ k. get_or s.lists.items k list) (sym c.name.view_is) ∙ sym c.index-rules.ensures) in
    let size : length list.items ≡ length (rules_of rules n) = ap length (c.requires.can.lists_are n list here) in
    let closing = c.requires.can.closings_are n c.requires.name in
    let some = some_rule rules n closing.0.rule closing.2.right closing.2.closing.rule in
    omega (arith, size, some, c.len.ensures)

pub returns : goal.returns
returns c =
    let s = c.args.self.now in
    let n = c.args.name in
    let rules = s.grammar.now.rules in
    let list : Vec ℕ = c.index-rules.result.now in
    let r = c.index.result.now in
    let below : n < length s.lists.items = omega (arith, c.requires.name, c.requires.can.count) in
    let here : slice_get s.lists.items n ≡ Some list = slice_get-get_or s.lists.items n list below ∙ ap Some (ap (λ k. get_or s.lists.items k list) (sym c.name.view_is) ∙ sym c.index-rules.ensures) in
    let same : list.items ≡ rules_of rules n = c.requires.can.lists_are n list here in
    let inside : c.pick.result < length list.items = omega (arith, c.pick.ensures.inside, c.len.ensures) in
    let at : slice_get list.items c.pick.result ≡ Some r = slice_get-get_or list.items c.pick.result r inside ∙ ap Some (sym c.index.ensures) in
    let count : c.len.result ≡ length (rules_of rules n) = (let size = ap length same in omega (arith, size, c.len.ensures)) in
    let place : c.pick.result ≡ picked c.args.number (length (rules_of rules n)) = c.pick.ensures.picked ∙ ap (picked c.args.number) count in
    let there : slice_get (rules_of rules n) (picked c.args.number (length (rules_of rules n))) ≡ Some r = ap (λ k. slice_get (rules_of rules n) k) (sym place) ∙ ap (λ (l : List ℕ). slice_get l c.pick.result) (sym same) ∙ at in
    let found = rule_of_name rules n (picked c.args.number (length (rules_of rules n))) r there in
    (found.0, record { rule = found.1; here = there })
