use Rattle.std.proofs.Common.{◌≡◌, ◌++◌, ◌∷◌, ℕ, ◌+◌, ◌<◌, List, [], length, get_or, Option, sym, ap, subst, ◌∙◌, arith}
use Rattle.std.proofs.lemmas.Result.{err_from_is_err_and}
use Rattle.std.proofs.lemmas.Option.{slice_get-get_or, slice_get_within}
use Rattle.item_sets.specs.Searching.{IsSearchAt}
use Rattle.item_sets.proofs.StepLemmas.{search_before}
use Rattle.item_sets.proofs.SettingLemmas.{step_keeps}
use Rattle.item_sets.proofs.ExpandLemmas.{kernel_of_step, search_on, too_many}
use Rattle.item_sets.proofs.building.expand.Goals as goal

pub step_to-requires : goal.step_to-requires
step_to-requires c =
    let s = c.args.states.now in
    let now = c.loop-kernel.states in
    let kernels = c.in_ok-kernels.kernels.items in
    let k = c.loop-kernel.kernel-index in
    let kernel = c.deref.result.now in
    let within : k < length kernels = omega (arith, ap length c.deref-kernel-items.ensures.value) in
    let is : kernel ≡ get_or kernels k kernel = cc in
    kernel_of_step s.grammar now.grammar c.loop-kernel.invariant.grammar s.states now.states c.holds.ensures c.args.state c.requires.state c.loop-kernel.invariant.here kernels c.in_ok-kernels.ensures k within kernel is

pub returns-in_err-step-clause-many : goal.returns-in_err-step-clause-many
returns-in_err-step-clause-many c =
    let found = err_from_is_err_and c.from_residual-in_err-step.result c.from_residual-in_err-step.ensures.1 in
    rw (found.1, found.2) (λ same.
    let s = c.args.states.now in
    let now = c.loop-kernel.states in
    let kernels = c.in_ok-kernels.kernels.items in
    let k = c.loop-kernel.kernel-index in
    let kernel = c.deref.result.now in
    let within : k < length kernels = omega (arith, ap length c.deref-kernel-items.ensures.value) in
    let is : kernel ≡ get_or kernels k kernel = cc in
    let many = c.in_err-step.ensures.many same in
    too_many s.grammar now.grammar c.loop-kernel.invariant.grammar s.states now.states c.holds.ensures c.args.state c.requires.state c.loop-kernel.invariant.here kernels c.in_ok-kernels.ensures k within kernel is
    c.loop-kernel.steps.items c.loop-kernel.invariant.search 10000 many.1 many.0 many.2)

pub loop-kernel-preserved : goal.loop-kernel-preserved
loop-kernel-preserved c =
    let s = c.args.states.now in
    let p = c.args.state in
    let now = c.loop-kernel.states in
    let new = c.step_to.new.self.states in
    let kernels = c.in_ok-kernels.kernels.items in
    let k = c.loop-kernel.kernel-index in
    let kernel = c.deref.result.now in
    let step = c.in_ok-step.step in
    let within : k < length kernels = omega (arith, ap length c.deref-kernel-items.ensures.value) in
    let is : kernel ≡ get_or kernels k kernel = cc in
    let at = slice_get-get_or s.states p [] c.requires.state in
    record {
      grammar = c.in_ok-step.ensures.grammar ∙ c.loop-kernel.invariant.grammar;
      here = step_keeps now.grammar kernel now.states new step c.in_ok-step.ensures.step p (get_or s.states p []) (c.loop-kernel.invariant.here ∙ at) ∙ sym at;
      search = subst (λ (l : List (Option ℕ)). IsSearchAt s.grammar new l p (k + 1)) (sym (c.in_ok-push.ensures.items ∙ ap (λ (o : Option ℕ). c.loop-kernel.steps.items ++ o ∷ []) c.of.ensures))
          (search_on s.grammar now.grammar c.loop-kernel.invariant.grammar s.states now.states c.holds.ensures p c.requires.state c.loop-kernel.invariant.here kernels c.in_ok-kernels.ensures k within kernel is
          c.loop-kernel.steps.items c.loop-kernel.invariant.search new step c.in_ok-step.ensures.step);
    }

pub returns-clause-search : goal.returns-clause-search
returns-clause-search c =
    let g = c.args.states.now.grammar in
    let by = c.in_ok-kernels.ensures in
    let last : c.loop-kernel.kernel-index ≡ g.tokens + g.names = omega (arith, by.successors.count, ap length c.deref-kernel-items.ensures.value) in
    search_before g by.setting.range c.loop-kernel.states.states c.loop-kernel.steps.items c.args.state
    (subst (λ k. IsSearchAt g c.loop-kernel.states.states c.loop-kernel.steps.items c.args.state k) last c.loop-kernel.invariant.search)

pub returns-clause-within : goal.returns-clause-within
returns-clause-within c =
    let states = c.args.states.now.states in
    let p = c.args.state in
    slice_get_within c.loop-kernel.states.states p (get_or states p []) (c.loop-kernel.invariant.here ∙ slice_get-get_or states p [] c.requires.state)
