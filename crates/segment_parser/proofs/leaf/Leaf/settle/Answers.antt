use Rattle.std.proofs.Common.{◌∙◌, ℕ, Bool, Contains, Option, Some, None, sym, subst}
use Rattle.lawful_theory.specs.Lawful.{IsLawful}
use Rattle.lr_machine.specs.IsTables.{IsTables}
use Rattle.context_laws.specs.Contexts.{LeadFromStates}
use Rattle.node_store.specs.Chunks.{store_of}
use Rattle.segment_parser.specs.Settling.{IsLooking, IsStepped}
use Rattle.segment_parser.proofs.HeldLemmas.{grows_then}
use Rattle.segment_parser.proofs.leaf.Leaf.settle.Goals as goal

pub step-requires-clause-lawful : goal.step-requires-clause-lawful
step-requires-clause-lawful c = subst IsLawful (sym c.loop.invariant.0) c.requires.lawful

pub step-requires-clause-lead : goal.step-requires-clause-lead
step-requires-clause-lead c = subst (λ t. LeadFromStates t) (sym c.loop.invariant.0) c.requires.lead

pub step-requires-clause-tables : goal.step-requires-clause-tables
step-requires-clause-tables c = subst IsTables (sym c.loop.invariant.0) c.requires.tables

pub step-requires-clause-chunk : goal.step-requires-clause-chunk
step-requires-clause-chunk c = subst (λ l. Contains {X = ℕ} l c.args.chunk) (sym c.loop.invariant.2) c.requires.chunk

pub step-requires-clause-at : goal.step-requires-clause-at
step-requires-clause-at c =
    let at = c.requires.at in
    let looking = c.loop.invariant.3 at.0 at.1 at.3 in
    (at.0, at.1, at.2, subst (λ t. IsLooking t (store_of c.loop.store) c.loop.arrows.1 c.loop.self at.0 at.1 c.args.token.now) (sym c.loop.invariant.0) looking)

pub returns-in-Some-clause-at : goal.returns-in-Some-clause-at
returns-in-Some-clause-at c tokens index looking =
    let store = store_of c.step.new.store in
    let maps = c.step.new.arrows.1 in
    let s = c.step.new.self in
    let token = c.args.token.now in
    let here : IsLooking c.loop.arrows.0 (store_of c.loop.store) c.loop.arrows.1 c.loop.self tokens index token = subst (λ t. IsLooking t (store_of c.loop.store) c.loop.arrows.1 c.loop.self tokens index token) (sym c.loop.invariant.0) (c.loop.invariant.3 tokens index looking) in
    let stepped : IsStepped c.loop.arrows.0 store maps s tokens index token (Some c.in-Some.shifted) = subst (λ (o : Option Bool). IsStepped c.loop.arrows.0 store maps s tokens index token o) c.in-Some.is (c.in_ok-shifted.ensures.at tokens index here) in
    subst (λ t. IsStepped t store maps s tokens index token (Some c.in-Some.shifted)) c.loop.invariant.0 stepped

pub loop-preserved : goal.loop-preserved
loop-preserved c =
    let store = store_of c.step.new.store in
    let maps = c.step.new.arrows.1 in
    let s = c.step.new.self in
    let token = c.args.token.now in (
      c.step.ensures.tables ∙ c.loop.invariant.0,
      grows_then c.args.arrows.now.1 c.loop.arrows.1 maps c.loop.invariant.1 c.step.ensures.grows,
      c.in_ok-shifted.ensures.chunks ∙ c.loop.invariant.2,
      λ tokens index looking. (
          let here : IsLooking c.loop.arrows.0 (store_of c.loop.store) c.loop.arrows.1 c.loop.self tokens index token = subst (λ t. IsLooking t (store_of c.loop.store) c.loop.arrows.1 c.loop.self tokens index token) (sym c.loop.invariant.0) (c.loop.invariant.3 tokens index looking) in
          let stepped : IsStepped c.loop.arrows.0 store maps s tokens index token None = subst (λ (o : Option Bool). IsStepped c.loop.arrows.0 store maps s tokens index token o) c.in-None.is (c.in_ok-shifted.ensures.at tokens index here) in
          subst (λ t. IsLooking t store maps s tokens index token) c.loop.invariant.0 stepped),
      c.step.ensures.base ∙ c.loop.invariant.4,
      c.in_ok-shifted.ensures.stand,
    )
