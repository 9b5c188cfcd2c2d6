use Rattle.std.proofs.Common.{◌≡◌, ◌∙◌, List, map, take, ap, sym, arith}
use Rattle.std.specs.List.{list_any, list_all}
use Rattle.std.proofs.lemmas.List.{take_all}
use Rattle.pattern_data.specs.declared.pattern.Pattern.{Pattern}
use Rattle.pattern_data.specs.Empty.{has_empty}
use Rattle.pattern_data.proofs.EmptyLemmas.{has_empty-set, has_empty-seq, has_empty-alt, has_empty-star, has_empty-plus, has_empty-opt, all_fail, any_has_it}
use Rattle.pattern_data.proofs.empty.+allows_nothing.Goals as goal

pub returns-then-not-allows_nothing : goal.returns-then-not-allows_nothing
returns-then-not-allows_nothing t c =
    let members : List Pattern = c.as_slice-member-items.result.now in
    sym (has_empty-seq c.args.pattern.now members (cc) ∙ all_fail members c.loop-member.member-index c.member-item.result c.loop-member-test.true c.member-item.is (sym c.allows_nothing.ensures ∙ c.if-not-allows_nothing.true))

pub returns-then-allows_nothing : goal.returns-then-allows_nothing
returns-then-allows_nothing t c =
    let members : List Pattern = c.as_slice-member-items-in-Alt.result.now in
    sym (has_empty-alt c.args.pattern.now members (cc) ∙ any_has_it members c.loop-member-2.member-index c.member-item-in-loop-member-2.result c.loop-member-2-test.true c.member-item-in-loop-member-2.is (sym c.allows_nothing-in-loop-member-2.ensures ∙ c.if-allows_nothing.true))

pub returns-in-Set : goal.returns-in-Set
returns-in-Set t c = sym (has_empty-set c.args.pattern.now _ c.in-Set.is)

pub returns-after-loop-member : goal.returns-after-loop-member
returns-after-loop-member t c =
    let members : List Pattern = c.as_slice-member-items.result.now in
    let whole : take c.loop-member.member-index members ≡ members = take_all c.loop-member.member-index members (omega (arith, c.loop-member-test.false)) in
    sym (has_empty-seq c.args.pattern.now members (cc) ∙ ap (λ ms. list_all (λ b. b) (map has_empty ms)) (sym whole) ∙ c.loop-member.invariant)

pub returns-after-loop-member-2 : goal.returns-after-loop-member-2
returns-after-loop-member-2 t c =
    let members : List Pattern = c.as_slice-member-items-in-Alt.result.now in
    let whole : take c.loop-member-2.member-index members ≡ members = take_all c.loop-member-2.member-index members (omega (arith, c.loop-member-2-test.false)) in
    sym (has_empty-alt c.args.pattern.now members (cc) ∙ ap (λ ms. list_any (λ b. b) (map has_empty ms)) (sym whole) ∙ c.loop-member-2.invariant)

pub returns-in-Plus : goal.returns-in-Plus
returns-in-Plus t c = c.allows_nothing-in-Plus.ensures ∙ ap has_empty c.get.ensures ∙ sym (has_empty-plus c.args.pattern.now c.in-Plus.inner c.in-Plus.is)

pub returns-in-Star : goal.returns-in-Star
returns-in-Star t c = sym (has_empty-star c.args.pattern.now _ c.in-Star.is)

pub returns-in-Opt : goal.returns-in-Opt
returns-in-Opt t c = sym (has_empty-opt c.args.pattern.now _ c.in-Opt.is)
