use Rattle.landing_laws.proofs.CarryLemmas.{carry_law, carry_none_law}
use Rattle.landing_laws.proofs.WideLemmas.{join_wide_law}
use Rattle.landing_laws.proofs.carry_laws.Goals as goal

pub returns : goal.returns
returns c = record {
  carry = carry_law;
  none = carry_none_law;
  wide = join_wide_law;
}
