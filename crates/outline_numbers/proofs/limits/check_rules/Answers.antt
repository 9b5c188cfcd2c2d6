use Rattle.std.proofs.Common.{◌≤◌, ◌*◌, [], length, refl, subst, arith}
use Rattle.std.specs.Prelude.{nat_lt}
use Rattle.lr_base.specs.IsGrammar.{symbols_of}
use Rattle.outline_data.specs.declared.fault.LimitKind.TheVariants.{Rules, RightSide}
use Rattle.numbering_theory.proofs.LimitLemmas.{at_most, few_symbols}
use Rattle.outline_numbers.proofs.limits.check_rules.Goals as goal

pub count_symbols-requires : goal.count_symbols-requires
count_symbols-requires c =
    let short : c.first_long_side.result ≤ 20 = at_most RightSide c.first_long_side.result 20 [] c.in_ok-within-2.ensures (nat_lt 20 c.first_long_side.result) refl in
    let few : symbols_of c.args.rules.now ≤ 20 * length c.args.rules.now = few_symbols c.args.rules.now (subst (λ n. n ≤ 20) c.first_long_side.ensures short) in
    let count : length c.args.rules.now ≤ 1000 = at_most Rules (length c.args.rules.now) 1000 [] c.in_ok-within.ensures (nat_lt 1000 (length c.args.rules.now)) refl in
    omega arith
