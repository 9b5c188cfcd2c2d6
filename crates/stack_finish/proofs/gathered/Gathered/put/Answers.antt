use Rattle.std.proofs.Common.{◌+◌, ◌++◌, [], Option, sym, ap, ◌∙◌, subst, arith}
use Rattle.bare_theory.specs.Bare.{Bare}
use Rattle.machine_theory.specs.Machine.{Errs}
use Rattle.piece_theory.specs.Pieces.{Fault}
use Rattle.node_store.specs.Chunks.{store_of}
use Rattle.stack_finish.specs.Gathering.{piece_on}
use Rattle.stack_finish.specs.Putting.{IsReached, IsPutting}
use Rattle.stack_finish.proofs.ClosingLemmas.{within}
use Rattle.stack_finish.proofs.KidLemmas.{are_led, reached_putting, reached_apart, led_along, put_ends}
use Rattle.stack_finish.proofs.gathered.Gathered.put.Goals as goal

pub reach-requires-clause-at : goal.reach-requires-clause-at
reach-requires-clause-at c = let at = c.requires.at in (at.0, at.1, at.2, at.3, at.5, ap (λ (b : Bare). b.first) at.6, at.7)

pub returns-in-Some-clause-at : goal.returns-in-Some-clause-at
returns-in-Some-clause-at c base right rest w same at = subst (λ (o : Option Fault). IsReached c.args.tables.now base c.reach.new.self right rest w o) c.in-Some.is (c.in_ok-error.ensures.at base right rest w (ap (λ (b : Bare). b.first) same) at)

pub put_floors-requires-clause-apart : goal.put_floors-requires-clause-apart
put_floors-requires-clause-apart c =
    let at = c.requires.at in
    let reached = subst (λ (o : Option Fault). IsReached c.args.tables.now at.0 c.reach.new.self at.1 at.2 at.3 o) c.in-None.is (c.in_ok-error.ensures.at at.0 at.1 at.2 at.3 (ap (λ (b : Bare). b.first) at.6) at.7) in
    reached_apart c.requires.lawful reached (ap (λ (b : Bare). b.floors) at.6)

pub put_floors-requires-clause-at : goal.put_floors-requires-clause-at
put_floors-requires-clause-at c =
    let at = c.requires.at in
    let s = c.reach.new.self in
    let reached = subst (λ (o : Option Fault). IsReached c.args.tables.now at.0 s at.1 at.2 at.3 o) c.in-None.is (c.in_ok-error.ensures.at at.0 at.1 at.2 at.3 (ap (λ (b : Bare). b.first) at.6) at.7) in
    (c.args.tables.now, store_of s.store, piece_on s.kids.items s.states.items, at.1, at.2, at.3, reached_putting c.requires.lawful reached (ap (λ (b : Bare). b.floors) at.6))

pub overflow_add-index : goal.overflow_add-index
overflow_add-index c =
    let at = c.requires.at in
    let s = c.reach.new.self in
    let reached = subst (λ (o : Option Fault). IsReached c.args.tables.now at.0 s at.1 at.2 at.3 o) c.in-None.is (c.in_ok-error.ensures.at at.0 at.1 at.2 at.3 (ap (λ (b : Bare). b.first) at.6) at.7) in
    let errs : Errs c.args.tables.now 0 [] at.3 (c.put_floors.new.self.count + c.in-Some-put_floors.fault.index) c.in-Some-put_floors.fault.token c.in-Some-put_floors.fault.state = c.in-Some-put_floors.ensures.at c.args.tables.now (store_of s.store) (piece_on s.kids.items s.states.items) at.1 at.2 at.3 c.requires.lawful (reached_putting c.requires.lawful reached (ap (λ (b : Bare). b.floors) at.6)) in
    let inside = within errs in
    let few = at.4 in
    let index = ap (λ (x : Fault). x.index) c.fault.view_is in
    omega (arith, inside, few, index)

pub returns-in-Some-put_floors-clause-at : goal.returns-in-Some-put_floors-clause-at
returns-in-Some-put_floors-clause-at c base right rest w same at =
    let s = c.reach.new.self in
    let reached = subst (λ (o : Option Fault). IsReached c.args.tables.now base s right rest w o) c.in-None.is (c.in_ok-error.ensures.at base right rest w (ap (λ (b : Bare). b.first) same) at) in
    let errs : Errs c.args.tables.now 0 [] w (c.put_floors.new.self.count + c.in-Some-put_floors.fault.index) c.in-Some-put_floors.fault.token c.in-Some-put_floors.fault.state = c.in-Some-put_floors.ensures.at c.args.tables.now (store_of s.store) (piece_on s.kids.items s.states.items) right rest w c.requires.lawful (reached_putting c.requires.lawful reached (ap (λ (b : Bare). b.floors) same)) in
    subst (λ (z : Fault). Errs c.args.tables.now 0 [] w (c.put_floors.new.self.count + z.index) z.token z.state) (sym c.fault.view_is) errs

pub put_kids-requires : goal.put_kids-requires
put_kids-requires c =
    let at = c.requires.at in
    let s = c.reach.new.self in
    let reached = subst (λ (o : Option Fault). IsReached c.args.tables.now at.0 s at.1 at.2 at.3 o) c.in-None.is (c.in_ok-error.ensures.at at.0 at.1 at.2 at.3 (ap (λ (b : Bare). b.first) at.6) at.7) in
    let putting : IsPutting c.args.tables.now (store_of s.store) c.put_floors.new.self (piece_on s.kids.items s.states.items) at.1 [] at.2 at.3 = c.in-None-put_floors.ensures.at c.args.tables.now (store_of s.store) (piece_on s.kids.items s.states.items) at.1 at.2 at.3 c.requires.lawful (reached_putting c.requires.lawful reached (ap (λ (b : Bare). b.floors) at.6)) in
    ((are_led c.requires.lawful putting).states, led_along c.requires.lawful putting (ap (λ (b : Bare). b.kids) at.6))

pub overflow_add-self : goal.overflow_add-self
overflow_add-self c =
    let at = c.requires.at in
    let s = c.reach.new.self in
    let reached = subst (λ (o : Option Fault). IsReached c.args.tables.now at.0 s at.1 at.2 at.3 o) c.in-None.is (c.in_ok-error.ensures.at at.0 at.1 at.2 at.3 (ap (λ (b : Bare). b.first) at.6) at.7) in
    let putting : IsPutting c.args.tables.now (store_of s.store) c.put_floors.new.self (piece_on s.kids.items s.states.items) at.1 [] at.2 at.3 = c.in-None-put_floors.ensures.at c.args.tables.now (store_of s.store) (piece_on s.kids.items s.states.items) at.1 at.2 at.3 c.requires.lawful (reached_putting c.requires.lawful reached (ap (λ (b : Bare). b.floors) at.6)) in
    let counted = putting.counted in
    let few = at.4 in
    let more = ap (λ (b : Bare). b.count) at.6 in
    let same = c.in_ok-put_kids.ensures.same.2 in
    omega (arith, counted, few, more, same)

pub returns-clause-at : goal.returns-clause-at
returns-clause-at c base right rest w same at =
    let s = c.reach.new.self in
    let reached = subst (λ (o : Option Fault). IsReached c.args.tables.now base s right rest w o) c.in-None.is (c.in_ok-error.ensures.at base right rest w (ap (λ (b : Bare). b.first) same) at) in
    let putting : IsPutting c.args.tables.now (store_of s.store) c.put_floors.new.self (piece_on s.kids.items s.states.items) right [] rest w = c.in-None-put_floors.ensures.at c.args.tables.now (store_of s.store) (piece_on s.kids.items s.states.items) right rest w c.requires.lawful (reached_putting c.requires.lawful reached (ap (λ (b : Bare). b.floors) same)) in
    let more = ap (λ (b : Bare). b.count) same in
    let count = c.in_ok-put_kids.ensures.same.2 in
    put_ends c.requires.lawful putting reached.0.kept (c.in_ok-put_kids.ensures.kids ∙ ap (λ l. c.put_floors.new.self.kids.items ++ l) (sym (ap (λ (b : Bare). b.kids) same))) (c.in_ok-put_kids.ensures.states (are_led c.requires.lawful putting).states (led_along c.requires.lawful putting (ap (λ (b : Bare). b.kids) same))) c.in_ok-put_kids.ensures.same.0 (omega (arith, more, count))
