use Rattle.std.proofs.Common.{◌≡◌, ℕ, Some, None, refl, sym, subst, arith, set, ◌+◌}
use Rattle.std.proofs.lemmas.List.{length-set}
use Rattle.core_theory.specs.Core.{CoreState}
use Rattle.core_theory.specs.Events.{raised, Claims}
use Rattle.core_theory.specs.Runs.{Claimed}
use Rattle.join_core.specs.declared.held.Held.TheVariants.{Carried}
use Rattle.join_core.specs.Ranges.{kept_state, IsKept}
use Rattle.join_core.proofs.KeptLemmas.{kept_after, claims_none, claims_leaf}
use Rattle.join_core.proofs.protocol.Core.claim.Goals as goal

pub invariant_of-self : goal.invariant_of-self
invariant_of-self c =
    let i = c.self.inside in
    let up : c.saturating_add-self-inside.result ≡ raised i.counter = omega (arith, c.saturating_add-self-inside.ensures) in
    let P : ℕ → Type 0 = λ n. IsKept i.leaves n i.words.items i.held.items i.done in
    subst P (sym up) (kept_after (Claimed None) c.self.invariant refl refl (claims_none i.leaves i.counter i.words.items i.held.items i.done c.if-place-self.true))

pub returns-then-place-self-clause-covered : goal.returns-then-place-self-clause-covered
returns-then-place-self-clause-covered c = (invariant_of-self c).covered

pub invariant_of-self-2 : goal.invariant_of-self-2
invariant_of-self-2 c =
    let i = c.self.inside in
    let up : c.saturating_add-self-inside.result ≡ raised i.counter = omega (arith, c.saturating_add-self-inside.ensures) in
    let P : ℕ → Type 0 = λ n. IsKept i.leaves n i.words.items (set i.held.items i.counter (Carried (i.counter + 1))) i.done in
    subst P (sym up) (kept_after (Claimed (Some i.counter)) c.self.invariant refl (length-set i.held.items i.counter (Carried (i.counter + 1))) (claims_leaf c.self.invariant c.if-place-self.false))

pub returns-clause-claims : goal.returns-clause-claims
returns-clause-claims c =
    let i = c.self.inside in
    let up : c.saturating_add-self-inside.result ≡ raised i.counter = omega (arith, c.saturating_add-self-inside.ensures) in
    let P : ℕ → Type 0 = λ n. Claims (kept_state i.leaves i.counter i.words.items i.held.items i.done) (Some i.counter) (kept_state i.leaves n i.words.items (set i.held.items i.counter (Carried (i.counter + 1))) i.done) in
    let Q : CoreState → Type 0 = λ s. Claims s (Some i.counter) (kept_state i.leaves c.saturating_add-self-inside.result i.words.items (set i.held.items i.counter (Carried (i.counter + 1))) i.done) in
    subst Q c.self.view_is (subst P (sym up) (claims_leaf c.self.invariant c.if-place-self.false))

pub returns-clause-covered : goal.returns-clause-covered
returns-clause-covered c = (invariant_of-self-2 c).covered
