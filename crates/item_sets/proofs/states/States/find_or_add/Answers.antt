use Rattle.std.proofs.Common.{◌≡◌, Ok, Err, IfErr, Result, inl, refl, subst, sym, arith}
use Rattle.std.proofs.lemmas.Option.{slice_get_within}
use Rattle.collection_data.specs.Entries.{AreEntries}
use Rattle.item_sets.specs.declared.fault.CollectFault.{CollectFault}
use Rattle.item_sets.specs.Searching.{FoundStates, HasKernel, IsNewKernel}
use Rattle.item_sets.proofs.StateFinding.{found_state, not_found}
use Rattle.item_sets.proofs.states.States.find_or_add.Goals as goal

both_on_err : {T : Type 0} (A B : Type 0) (fault : CollectFault) (r : Result T CollectFault) → IfErr r (λ e. e ≡ fault → A) → B → IfErr r (λ e. e ≡ fault → A × B)
both_on_err A B fault (Ok x) h b = h
both_on_err A B fault (Err e) h b = λ same. (h same, b)

pub add-requires-clause-fresh : goal.add-requires-clause-fresh
add-requires-clause-fresh c =
    let s = c.self.inside in
    let g = s.grammar.now in
    let kernel = c.args.kernel.now in
    let are : AreEntries g kernel = subst (λ (f : FoundStates). AreEntries f.grammar kernel) (sym c.self.view_is) c.requires.is.entries in
    let fresh : IsNewKernel s.sets.items kernel = not_found g s.found s.sets.items c.self.invariant.each c.self.invariant.finds kernel are c.in_ok-key.key c.in_ok-key.ensures (sym c.in-None.ensures) in
    subst (λ (f : FoundStates). IsNewKernel f.states kernel) c.self.view_is fresh

pub returns-in-Some-clause-added : goal.returns-in-Some-clause-added
returns-in-Some-clause-added c =
    let s = c.self.inside in
    let g = s.grammar.now in
    let kernel = c.args.kernel.now in
    let are : AreEntries g kernel = subst (λ (f : FoundStates). AreEntries f.grammar kernel) (sym c.self.view_is) c.requires.is.entries in
    let has : HasKernel s.sets.items kernel c.in-Some.state =
    found_state g s.found s.sets.items c.self.invariant.each c.self.invariant.finds kernel are c.in_ok-key.key c.in_ok-key.ensures c.in-Some.state (sym c.in-Some.ensures) in
    inl (subst (λ (f : FoundStates). HasKernel f.states kernel c.in-Some.state) c.self.view_is has, refl)

pub returns-in-Some-clause-in_range : goal.returns-in-Some-clause-in_range
returns-in-Some-clause-in_range c =
    let s = c.self.inside in
    let g = s.grammar.now in
    let kernel = c.args.kernel.now in
    let are : AreEntries g kernel = subst (λ (f : FoundStates). AreEntries f.grammar kernel) (sym c.self.view_is) c.requires.is.entries in
    let has : HasKernel s.sets.items kernel c.in-Some.state =
    found_state g s.found s.sets.items c.self.invariant.each c.self.invariant.finds kernel are c.in_ok-key.key c.in_ok-key.ensures c.in-Some.state (sym c.in-Some.ensures) in
    let within = slice_get_within s.sets.items c.in-Some.state has.0 has.1 in
    omega (arith, within, c.self.invariant.few)

pub returns-in-None-clause-many : goal.returns-in-None-clause-many
returns-in-None-clause-many c =
    let s = c.self.inside in
    let g = s.grammar.now in
    let kernel = c.args.kernel.now in
    let are : AreEntries g kernel = subst (λ (f : FoundStates). AreEntries f.grammar kernel) (sym c.self.view_is) c.requires.is.entries in
    let fresh : IsNewKernel s.sets.items kernel = not_found g s.found s.sets.items c.self.invariant.each c.self.invariant.finds kernel are c.in_ok-key.key c.in_ok-key.ensures (sym c.in-None.ensures) in
    both_on_err _ _ _ c.add.result c.add.ensures.many (subst (λ (f : FoundStates). IsNewKernel f.states kernel) c.self.view_is fresh)
