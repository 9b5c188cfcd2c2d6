use Rattle.std.proofs.Common.{Option, refl, sym, subst}
use Rattle.piece_theory.specs.Pieces.{Opened}
use Rattle.node_store.specs.Chunks.{store_of}
use Rattle.stack_join.specs.Landing.{IsSupplied, none_supplied}
use Rattle.stack_join.proofs.landing.supply.Goals as goal

pub returns-in-None-clause-supplied : goal.returns-in-None-clause-supplied
returns-in-None-clause-supplied c =
    let store = store_of c.args.store.now in
    let maps = c.args.arrows.now.1 in
    let s = c.args.leaf.now in
    subst (λ (o : Option Opened). IsSupplied c.args.arrows.now.0 store store maps maps s s o) (sym c.in-None.is) (none_supplied refl refl refl)
