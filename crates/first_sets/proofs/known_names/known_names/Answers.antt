use Rattle.std.proofs.Common.{◌≡◌, ℕ, ◌<◌, false, [], ◌∷◌, ◌++◌, length, replicate, Contains, sym, ap, subst, ◌∙◌, arith}
use Rattle.std.proofs.lemmas.List.Elements.{Contains-push}
use Rattle.first_sets.proofs.UseLemmas.{left_is}
use Rattle.grammar_theory.proofs.RuleLemmas.{rule_once}
use Rattle.first_sets.proofs.KnownLemmas.{IsSpreading, spread_none, spread_closed, spread_marked, spread_done}
use Rattle.first_sets.proofs.known_names.known_names.Goals as goal

pub loop-rule-init : goal.loop-rule-init
loop-rule-init c =
    let g = c.args.grammar.now in
    let none : c.in_ok-known.known.items ≡ replicate g.names false = c.in_ok-known.ensures.items_if_clones_equal (λ y e. e) ∙ ap (λ n. replicate n false) c.names.ensures in
    let all : (r : ℕ) → r < length g.rules → Contains c.in_ok-pending.pending.items r = λ r less. (c.in_ok-pending.ensures.members r).1 (omega (arith, c.rule_count.ensures)) in
    let within : (r : ℕ) → Contains c.in_ok-pending.pending.items r → r < length g.rules = λ r has. (let less = (c.in_ok-pending.ensures.members r).0 has in omega (arith, c.rule_count.ensures)) in
    subst (λ l. IsSpreading g c.args.lists l c.in_ok-pending.pending.items) (sym none) (spread_none g c.args.lists c.in_ok-pending.pending.items all within)

pub mark_left-requires-clause-rule : goal.mark_left-requires-clause-rule
mark_left-requires-clause-rule c =
    c.loop-rule.invariant.rules c.in-Some.rule (subst (λ l. Contains l c.in-Some.rule) (sym c.in-Some.ensures.items) (Contains-push c.pop.new.self.items c.in-Some.rule))

pub left-requires : goal.left-requires
left-requires c =
    c.loop-rule.invariant.rules c.in-Some.rule (subst (λ l. Contains l c.in-Some.rule) (sym c.in-Some.ensures.items) (Contains-push c.pop.new.self.items c.in-Some.rule))

pub loop-rule-preserved-in-Continue-branch-3 : goal.loop-rule-preserved-in-Continue-branch-3
loop-rule-preserved-in-Continue-branch-3 c =
    let g = c.args.grammar.now in
    let r = c.in-Some.rule in
    let rest = c.pop.new.self.items in
    let new = c.push_all-then-mark_left.new.values.items in
    let known = c.loop-rule.known.items in
    let left = c.push_all.inside.0 in
    let marked = c.if-mark_left.ensures in
    let read : marked.left ≡ left =
    (rule_once marked.rule (left_is g.rules r marked.left c.left.result marked.right marked.rule c.left.ensures.left)).0 ∙ sym c.push_all.view_is in
    let s : IsSpreading g c.args.lists known (rest ++ r ∷ []) = subst (λ l. IsSpreading g c.args.lists known l) c.in-Some.ensures.items c.loop-rule.invariant in
    spread_marked g c.args.lists known rest new r left c.args.uses.now.pairs c.mark_left.new.known.items marked read c.requires.uses c.in_ok-push_all.ensures
    (sym c.loop-rule.invariant.names) (omega (arith, c.push_all.view_is, c.left.ensures.in_range)) s

pub loop-rule-preserved : goal.loop-rule-preserved
loop-rule-preserved c =
    let g = c.args.grammar.now in
    let rest = c.pop.new.self.items in
    let known = c.loop-rule.known.items in
    let s : IsSpreading g c.args.lists known (rest ++ c.in-Some.rule ∷ []) = subst (λ l. IsSpreading g c.args.lists known l) c.in-Some.ensures.items c.loop-rule.invariant in
    let same = c.if-mark_left.ensures.1 in
    spread_closed g c.args.lists c.mark_left.new.known.items rest c.in-Some.rule (subst (λ l. IsSpreading g c.args.lists l (rest ++ c.in-Some.rule ∷ [])) (sym same) s) c.if-mark_left.ensures.0

pub returns-clause-known : goal.returns-clause-known
returns-clause-known c = spread_done c.args.grammar.now c.args.lists c.loop-rule.known.items c.loop-rule.pending.items (omega (arith, c.loop-rule.pending.ok.0, c.in_default.ensures.cases.0)) c.loop-rule.invariant
