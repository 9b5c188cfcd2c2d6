use Rattle.std.proofs.Common.{refl}
use Rattle.std.specs.Prelude.{nat_lt}
use Rattle.numbering_theory.proofs.LimitLemmas.{passed_one}
use Rattle.outline_numbers.proofs.limits.within.Goals as goal

pub returns-then-most-count : goal.returns-then-most-count
returns-then-most-count c = record {
  measure = record { kind = c.args.kind; count = c.args.count; most = c.args.most };
  passed = passed_one c.args.kind c.args.count c.args.most (nat_lt c.args.most c.args.count) refl c.if-most-count.true;
  is = refl;
}
