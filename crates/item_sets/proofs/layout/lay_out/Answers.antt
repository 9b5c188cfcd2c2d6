use Rattle.std.proofs.Common.{◌≡◌, suc, ◌+◌, ◌<◌, ◌++◌, [], length, get_or, sym, ap, subst, ◌∙◌, arith}
use Rattle.std.proofs.lemmas.List.{get_or_default, take_rest}
use Rattle.grammar_data.specs.TokenSet.{IsTokenSet}
use Rattle.std.proofs.lemmas.List.Elements.{All-get_or}
use Rattle.item_sets.specs.Layout.{IsLaid}
use Rattle.item_sets.proofs.LayoutLemmas.{rule_with_left, laid_front, laid_moved, laid_end}
use Rattle.item_sets.proofs.layout.lay_out.Goals as goal

pub loop-rule-preserved : goal.loop-rule-preserved
loop-rule-preserved c =
    let g = c.args.grammar.now in
    let kernel = c.args.kernel.now in
    let aheads = c.args.aheads.now in
    let r = c.loop-rule.rule in
    let n = c.left-name.result in
    let at = rule_with_left g r n c.left-name.ensures.left in
    let ahead = c.index-aheads-name.result in
    let within : n < length aheads = omega (arith, c.left-name.ensures.in_range, c.requires.count) in
    let here : ahead ≡ get_or aheads n ahead = cc in
    let is : ahead ≡ get_or aheads n [] = here ∙ get_or_default aheads n ahead [] within in
    let set : IsTokenSet ahead = subst (λ t. IsTokenSet t) (sym is) (All-get_or IsTokenSet aheads n [] within c.requires.sets) in
    let front = laid_front g kernel aheads r c.loop-rule.next n at.0 ahead c.loop-rule.entries.items c.loop-rule.invariant c.requires.kernel at.1 set is c.lay_front.new.entries.items c.in_ok-lay_front.ensures in
    let moved = laid_moved g kernel aheads r c.loop-rule.next c.lay_front.new.entries.items c.in_ok-next.next c.lay_moved.new.entries.items front c.in_ok-next.ensures c.requires.kernel.entries.rising in
    let one : suc r ≡ r + 1 = omega arith in
    subst (λ k. IsLaid g kernel aheads k k c.in_ok-next.next c.lay_moved.new.entries.items) one moved

pub returns : goal.returns
returns c =
    let g = c.args.grammar.now in
    let kernel = c.args.kernel.now in
    let aheads = c.args.aheads.now in
    let next = c.loop-rule.next in
    let entries = c.loop-rule.entries.items in
    let last : c.loop-rule.rule ≡ length g.rules = omega arith in
    let laid : IsLaid g kernel aheads (length g.rules) (length g.rules) next entries = subst (λ k. IsLaid g kernel aheads k k next entries) last c.loop-rule.invariant in
    laid_end g kernel aheads next entries c.extend_from_slice.new.self.items laid (c.in_ok-extend_from_slice.ensures.items ∙ ap (λ l. entries ++ l) (take_rest kernel next))
