use Rattle.std.proofs.Common.{◌≡◌, true, false, Contains, refl, sym, ◌∙◌, subst, arith, set, get_or}
use Rattle.std.proofs.lemmas.List.{length-set, get_or_default}
use Rattle.core_theory.specs.Core.{CoreState}
use Rattle.core_theory.specs.Runs.{CameFirst, CameSecond}
use Rattle.join_core.specs.declared.arrival.Arrival.{Arrival}
use Rattle.join_core.specs.declared.arrival.Arrival.TheVariants.{First}
use Rattle.join_core.specs.declared.held.Held.TheVariants.{NoRange, Carried, Waiting}
use Rattle.join_core.specs.Nodes.{range_from, Arrives}
use Rattle.join_core.specs.Ranges.{carried_end, kept_state}
use Rattle.join_core.proofs.RangeLemmas.{member_at}
use Rattle.join_core.proofs.KeptLemmas.{kept_after, carried_range, has_places, comes_first, comes_second, joined_held, other_part_of, answers_first, answers_second}
use Rattle.join_core.proofs.protocol.Core.arrive.Goals as goal

pub node_above-node-requires-clause-range : goal.node_above-node-requires-clause-range
node_above-node-requires-clause-range c =
    let P : CoreState → Type 0 = λ s. Contains s.carried (range_from c.args.first c.args.last) in
    carried_range c.self.invariant (subst P (sym c.self.view_is) c.requires.carried)

pub index-requires : goal.index-requires
index-requires c =
    let places = has_places c.node_above-node.ensures.parent c.node_above-node.ensures.boundary in
    omega (arith, c.self.invariant.words_count, places.inside, places.upto)

pub index_mut-requires : goal.index_mut-requires
index_mut-requires c =
    let places = has_places c.node_above-node.ensures.parent c.node_above-node.ensures.boundary in
    omega (arith, c.self.invariant.words_count, places.inside, places.upto)

pub index_mut-requires-then-not-index : goal.index_mut-requires-then-not-index
index_mut-requires-then-not-index c =
    let P : CoreState → Type 0 = λ s. Contains s.carried (range_from c.args.first c.args.last) in
    let there = member_at carried_end c.self.inside.held.items c.args.first c.args.last NoRange (subst P (sym c.self.view_is) c.requires.carried) in
    omega (arith, there.0)

pub invariant_of-self : goal.invariant_of-self
invariant_of-self c =
    let i = c.self.inside in
    let n = c.node_above-node in
    let P : CoreState → Type 0 = λ s. Contains s.carried (range_from c.args.first c.args.last) in
    let has = subst P (sym c.self.view_is) c.requires.carried in
    let places = has_places n.ensures.parent n.ensures.boundary in
    let unset : get_or i.words.items n.result.boundary false ≡ false = get_or_default i.words.items n.result.boundary false c.index.result.now (omega (arith, c.self.invariant.words_count, places.inside, places.upto)) ∙ sym c.index.ensures ∙ c.if-not-index.true in
    kept_after (CameFirst (range_from c.args.first c.args.last) (range_from n.result.first n.result.last) n.result.is_left) c.self.invariant (length-set i.words.items n.result.boundary true) (length-set i.held.items c.args.first (Waiting c.args.last)) (comes_first c.self.invariant has n.ensures.parent n.ensures.boundary unset)

pub returns-then-not-index-clause-arrives : goal.returns-then-not-index-clause-arrives
returns-then-not-index-clause-arrives c =
    let i = c.self.inside in
    let n = c.node_above-node in
    let P : CoreState → Type 0 = λ s. Contains s.carried (range_from c.args.first c.args.last) in
    let has = subst P (sym c.self.view_is) c.requires.carried in
    let places = has_places n.ensures.parent n.ensures.boundary in
    let unset : get_or i.words.items n.result.boundary false ≡ false = get_or_default i.words.items n.result.boundary false c.index.result.now (omega (arith, c.self.invariant.words_count, places.inside, places.upto)) ∙ sym c.index.ensures ∙ c.if-not-index.true in
    let Q : CoreState → Type 0 = λ s. Arrives s (range_from c.args.first c.args.last) First (kept_state i.leaves i.counter (set i.words.items n.result.boundary true) (set i.held.items c.args.first (Waiting c.args.last)) i.done) in
    subst Q c.self.view_is (answers_first (range_from n.result.first n.result.last) n.result.is_left (comes_first c.self.invariant has n.ensures.parent n.ensures.boundary unset))

pub returns-then-not-index-clause-covered : goal.returns-then-not-index-clause-covered
returns-then-not-index-clause-covered c = (invariant_of-self c).covered

pub index_mut-requires-2 : goal.index_mut-requires-2
index_mut-requires-2 c =
    let places = has_places c.node_above-node.ensures.parent c.node_above-node.ensures.boundary in
    omega (arith, c.self.invariant.held_count, places.inside, places.upto)

pub index_mut-requires-3 : goal.index_mut-requires-3
index_mut-requires-3 c =
    let places = has_places c.node_above-node.ensures.parent c.node_above-node.ensures.boundary in
    omega (arith, c.self.invariant.held_count, places.rises, places.inside, places.upto)

pub invariant_of-self-2 : goal.invariant_of-self-2
invariant_of-self-2 c =
    let i = c.self.inside in
    let n = c.node_above-node in
    let P : CoreState → Type 0 = λ s. Contains s.carried (range_from c.args.first c.args.last) in
    let has = subst P (sym c.self.view_is) c.requires.carried in
    let places = has_places n.ensures.parent n.ensures.boundary in
    let is_set : get_or i.words.items n.result.boundary false ≡ true = get_or_default i.words.items n.result.boundary false c.index.result.now (omega (arith, c.self.invariant.words_count, places.inside, places.upto)) ∙ sym c.index.ensures ∙ c.if-not-index.false in
    kept_after (CameSecond (range_from c.args.first c.args.last) (range_from n.result.first n.result.last) n.result.is_left) c.self.invariant refl (length-set (set i.held.items n.result.boundary NoRange) n.result.first (Carried n.result.last) ∙ length-set i.held.items n.result.boundary NoRange) (comes_second n.result.is_left c.self.invariant has n.ensures.parent n.ensures.boundary is_set)

pub returns-clause-arrives : goal.returns-clause-arrives
returns-clause-arrives c =
    let i = c.self.inside in
    let n = c.node_above-node in
    let range = range_from c.args.first c.args.last in
    let P : CoreState → Type 0 = λ s. Contains s.carried (range_from c.args.first c.args.last) in
    let has = subst P (sym c.self.view_is) c.requires.carried in
    let places = has_places n.ensures.parent n.ensures.boundary in
    let is_set : get_or i.words.items n.result.boundary false ≡ true = get_or_default i.words.items n.result.boundary false c.index.result.now (omega (arith, c.self.invariant.words_count, places.inside, places.upto)) ∙ sym c.index.ensures ∙ c.if-not-index.false in
    let after : CoreState = kept_state i.leaves i.counter i.words.items (joined_held i.held.items n.result.first n.result.boundary n.result.last) i.done in
    let made = answers_second n.result.is_left n.ensures.boundary (comes_second n.result.is_left c.self.invariant has n.ensures.parent n.ensures.boundary is_set) in
    let Q : CoreState → Type 0 = λ s. Arrives s range (other_part_of n.result.is_left n.result.first n.result.boundary n.result.last) after in
    let R : Arrival → Type 0 = λ a. Arrives c.args.self.now range a after in
    subst R (sym c.other_part.ensures) (subst Q c.self.view_is made)

pub returns-clause-covered : goal.returns-clause-covered
returns-clause-covered c = (invariant_of-self-2 c).covered
