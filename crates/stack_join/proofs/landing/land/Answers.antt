use Rattle.std.proofs.Common.{sym, ap, ◌∙◌}
use Rattle.stack_join.proofs.LandLemmas.{can_supply, lands_on, supplied_has, supplied_closed}
use Rattle.stack_join.proofs.landing.land.Goals as goal

pub supply-requires-clause-can : goal.supply-requires-clause-can
supply-requires-clause-can c = can_supply c.requires.lawful.1 c.requires.lead c.requires.at.2 c.opened.result (sym c.opened.ensures)

pub supply-requires-clause-has : goal.supply-requires-clause-has
supply-requires-clause-has c = c.requires.at.2.has

pub carry-requires-clause-has : goal.carry-requires-clause-has
carry-requires-clause-has c = supplied_has c.requires.at.2.has c.in_ok-supply.ensures.supplied

pub returns-clause-closed : goal.returns-clause-closed
returns-clause-closed c = ap (λ b. b.closed) c.in_ok-carry.ensures.carried.block ∙ supplied_closed c.in_ok-supply.ensures.supplied

pub returns-clause-at : goal.returns-clause-at
returns-clause-at c met further at = lands_on c.requires.lawful.1 c.requires.lead at c.opened.result (sym c.opened.ensures) c.in_ok-supply.ensures.supplied c.supply.ensures.grows c.in_ok-carry.ensures.carried
