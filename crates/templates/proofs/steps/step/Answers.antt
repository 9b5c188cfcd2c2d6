use Rattle.std.proofs.Common.{[], ◌∷◌, ◌++◌, refl, sym, subst}
use Rattle.templates.specs.Pending.{GoesOn, last_ended}
use Rattle.templates.proofs.PendingLemmas.{step_ends, last_kids, step_goes, step_moves, none_of}
use Rattle.templates.proofs.steps.step.Goals as goal

pub returns-in_default-clause-goes : goal.returns-in_default-clause-goes
returns-in_default-clause-goes c =
    subst (λ frames. GoesOn c.args.source.now (c.args.frames.now.items ++ c.args.last ∷ []) frames c.args.gathered.now.items c.args.gathered.now.items) c.pop.ensures.items
    (step_ends c.args.frames.now.items c.args.last c.in_default.ensures.cases)

pub returns-in_default-clause-moves : goal.returns-in_default-clause-moves
returns-in_default-clause-moves c = last_ended c.args.frames.now.items c.args.last refl (none_of c.args.last.parts.now c.in_default.ensures.cases) (sym c.pop.ensures.items)

pub part-requires : goal.part-requires
part-requires c = last_kids c.args.frames.now.items c.args.last c.requires

pub returns-clause-goes : goal.returns-clause-goes
returns-clause-goes c =
    step_goes c.args.frames.now.items c.part.new.frames.items c.args.last (record { parts = c.in-Some.rest; kids = c.args.last.kids }) c.in_ok-part.field-0 c.in-Some.next.now
    c.in-Some.ensures.cases.0 refl c.in_ok-part.ensures

pub returns-clause-moves : goal.returns-clause-moves
returns-clause-moves c =
    step_moves c.args.frames.now.items c.part.new.frames.items c.args.last (record { parts = c.in-Some.rest; kids = c.args.last.kids }) c.in_ok-part.field-0 c.in-Some.next.now
    c.requires c.in-Some.ensures.cases.0 refl c.in_ok-part.ensures
