use Rattle.std.proofs.Common.{◌∙◌, ◌∷◌, [], ℕ, Bool, Contains, Option, Some, refl, sym, append-nil, subst}
use Rattle.lawful_theory.specs.Lawful.{IsLawful}
use Rattle.context_laws.specs.Contexts.{LeadFromStates}
use Rattle.node_store.specs.Chunks.{store_of}
use Rattle.stack_join.specs.Joining.{IsAtSeam, IsDecided}
use Rattle.stack_join.specs.Putting.{IsSettling}
use Rattle.stack_join.proofs.StandingLemmas.{more_then}
use Rattle.stack_join.proofs.looking.settle.Goals as goal

pub loop-init : goal.loop-init
loop-init c = record { tables = refl; base = refl; stand = c.requires.stand; grows = ([], sym (append-nil c.args.arrows.now.1)); chunks = refl; closed = refl; more = λ m r kids here. here; at = λ front right rest w first at. at }

pub look-requires-clause-lawful : goal.look-requires-clause-lawful
look-requires-clause-lawful c = subst IsLawful (sym c.loop.invariant.tables) c.requires.lawful

pub look-requires-clause-lead : goal.look-requires-clause-lead
look-requires-clause-lead c = subst (λ t. LeadFromStates t) (sym c.loop.invariant.tables) c.requires.lead

pub look-requires-clause-chunk : goal.look-requires-clause-chunk
look-requires-clause-chunk c = subst (λ l. Contains {X = ℕ} l c.args.chunk) (sym c.loop.invariant.chunks) c.requires.chunk

pub look-requires-clause-at : goal.look-requires-clause-at
look-requires-clause-at c =
    let at = c.requires.at in
    let here = c.loop.invariant.at at.0 at.1 at.2 at.3 at.4 at.5 in
    (at.0, at.1, at.2, at.3, at.4, subst (λ t. IsAtSeam t (store_of c.loop.store) c.loop.arrows.1 c.loop.leaf at.0 (at.1 ∷ at.2) at.3) (sym c.loop.invariant.tables) here)

pub loop-preserved : goal.loop-preserved
loop-preserved c = record {
  tables = c.look.ensures.tables ∙ c.loop.invariant.tables;
  base = c.look.ensures.base ∙ c.loop.invariant.base;
  stand = c.in_ok-shifts.ensures.stand;
  grows = more_then c.args.arrows.now.1 c.loop.arrows.1 c.look.new.arrows.1 c.loop.invariant.grows c.look.ensures.grows;
  chunks = c.in_ok-shifts.ensures.chunks ∙ c.loop.invariant.chunks;
  closed = c.in_ok-shifts.ensures.closed ∙ c.loop.invariant.closed;
  more = λ m r kids here. c.in_ok-shifts.ensures.more m r kids (c.loop.invariant.more m r kids here);
  at = λ front right rest w first at. (
      let before = subst (λ t. IsAtSeam t (store_of c.loop.store) c.loop.arrows.1 c.loop.leaf front (right ∷ rest) w) (sym c.loop.invariant.tables) (c.loop.invariant.at front right rest w first at) in
      subst (λ t. IsAtSeam t (store_of c.look.new.store) c.look.new.arrows.1 c.look.new.leaf front (right ∷ rest) w) c.loop.invariant.tables (c.in_ok-shifts.ensures.at front right rest w first before));
}

pub returns-in-Some-clause-at : goal.returns-in-Some-clause-at
returns-in-Some-clause-at c front right rest w first at =
    let before = subst (λ t. IsAtSeam t (store_of c.loop.store) c.loop.arrows.1 c.loop.leaf front (right ∷ rest) w) (sym c.loop.invariant.tables) (c.loop.invariant.at front right rest w first at) in
    subst (λ t. IsAtSeam t (store_of c.look.new.store) c.look.new.arrows.1 c.look.new.leaf front (right ∷ rest) w) c.loop.invariant.tables (c.in_ok-shifts.ensures.at front right rest w first before)

pub returns-in-Some-clause-decided : goal.returns-in-Some-clause-decided
returns-in-Some-clause-decided c =
    let decided : IsSettling c.loop.arrows.0 c.look.new.arrows.1 c.look.new.leaf c.args.token.now (Some c.in-Some.shifts) = subst (λ (o : Option Bool). IsSettling c.loop.arrows.0 c.look.new.arrows.1 c.look.new.leaf c.args.token.now o) c.in-Some.is c.in_ok-shifts.ensures.decided in
    subst (λ t. IsDecided t c.look.new.arrows.1 c.look.new.leaf c.args.token.now c.in-Some.shifts) c.loop.invariant.tables decided
