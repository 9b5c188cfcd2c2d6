use Rattle.std.proofs.Common.{sym, subst}
use Rattle.join_core.specs.declared.call.Call.{Call}
use Rattle.join_core.specs.Calls.{IsMade}
use Rattle.join_core.proofs.CallLemmas.{claim_made, arrive_made}
use Rattle.join_core.proofs.running.make.Goals as goal

pub returns-in-Claim-clause-made : goal.returns-in-Claim-clause-made
returns-in-Claim-clause-made c =
    let P : Call → Type 0 = λ call. IsMade c.args.core.now call c.claim-leaf.new.self in
    subst P (sym c.in-Claim.is) (claim_made c.claim-leaf.ensures.claims)

pub returns-in-Arrive-clause-made : goal.returns-in-Arrive-clause-made
returns-in-Arrive-clause-made c =
    let P : Call → Type 0 = λ call. IsMade c.args.core.now call c.arrive-arrival.new.self in
    subst P (sym c.in-Arrive.is) (arrive_made c.arrive-arrival.result c.arrive-arrival.ensures.arrives)
