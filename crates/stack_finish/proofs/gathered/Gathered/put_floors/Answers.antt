use Rattle.std.proofs.Common.{◌+◌, [], sym, ap, ◌∙◌, subst}
use Rattle.std.proofs.Math.ListN.{drop_of_length-le}
use Rattle.piece_theory.specs.Pieces.{fault_at}
use Rattle.machine_theory.specs.Machine.{Errs}
use Rattle.stack_finish.specs.Putting.{IsPutting}
use Rattle.stack_finish.proofs.FloorLemmas.{next_floor, fits_floor, taken_goes_on, taken_fails}
use Rattle.stack_finish.proofs.gathered.Gathered.put_floors.Goals as goal

pub supply-requires : goal.supply-requires
supply-requires c =
    let at = c.requires.at in
    let floor = c.floor-item.result in
    let ahead = next_floor c.args.floors.now c.loop-floor.floor-index floor c.loop-floor-test.true c.floor-item.is in
    let here = subst (λ l. IsPutting at.0 at.1 c.loop-floor.self at.2 at.3 l at.4 at.5) ahead (c.loop-floor.invariant.at at.0 at.1 at.2 at.3 at.4 at.5 at.6) in
    fits_floor here c.opened.result (sym c.opened.ensures)

pub returns-in-Some-clause-at : goal.returns-in-Some-clause-at
returns-in-Some-clause-at c t store left right rest w lawful old =
    let floor = c.floor-item.result in
    let ahead = next_floor c.args.floors.now c.loop-floor.floor-index floor c.loop-floor-test.true c.floor-item.is in
    let here = subst (λ l. IsPutting t store c.loop-floor.self left right l rest w) ahead (c.loop-floor.invariant.at t store left right rest w old) in
    let next = c.supply.new.self in
    let fault = ap (λ q. fault_at floor.faults q) (sym c.top.ensures) ∙ sym c.in-Some.ensures in
    subst (λ n. Errs t 0 [] w (n + c.in-Some.fault.index) c.in-Some.fault.token c.in-Some.fault.state) (sym c.supply.ensures.same.2)
    (taken_fails here next c.opened.result (sym c.opened.ensures) c.supply.ensures.kids c.supply.ensures.states c.supply.ensures.supplied lawful c.in-Some.fault fault)

pub loop-floor-preserved : goal.loop-floor-preserved
loop-floor-preserved c =
    let floor = c.floor-item.result in
    let next = c.supply.new.self in
    let before = c.loop-floor.invariant in
    let ahead = next_floor c.args.floors.now c.loop-floor.floor-index floor c.loop-floor-test.true c.floor-item.is in
    let clear = ap (λ q. fault_at floor.faults q) (sym c.top.ensures) ∙ sym c.in-None.ensures in
    record {
      at = λ t store left right rest w old. (
          let here = subst (λ l. IsPutting t store c.loop-floor.self left right l rest w) ahead (before.at t store left right rest w old) in
          taken_goes_on here next c.opened.result (sym c.opened.ensures) c.supply.ensures.kids c.supply.ensures.states c.supply.ensures.supplied c.supply.ensures.same.2 clear);
      chunks = c.supply.ensures.same.0 ∙ before.chunks;
      chunk = c.supply.ensures.same.1 ∙ before.chunk;
      count = c.supply.ensures.same.2 ∙ before.count;
    }

pub returns-clause-at : goal.returns-clause-at
returns-clause-at c t store left right rest w lawful old = subst (λ l. IsPutting t store c.loop-floor.self left right l rest w) (drop_of_length-le c.args.floors.now c.loop-floor-test.false) (c.loop-floor.invariant.at t store left right rest w old)
