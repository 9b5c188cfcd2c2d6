use Rattle.std.proofs.Common.{◌≡◌, ◌<◌, Contains, Some, length, get_or, sym, ap, ◌∙◌, subst, arith, eq-eqb, eqb-true}
use Rattle.std.proofs.lemmas.Bool.{false≢true}
use Rattle.std.proofs.lemmas.List.{get_or_default}
use Rattle.core_theory.specs.Tree.{IsRange}
use Rattle.core_theory.specs.Core.{CoreState}
use Rattle.join_core.specs.declared.held.Held.TheVariants.{NoRange, Carried}
use Rattle.join_core.specs.Nodes.{range_from}
use Rattle.join_core.specs.Ranges.{carried_end}
use Rattle.join_core.proofs.RangeLemmas.{member_at, member_there}
use Rattle.join_core.proofs.KeptLemmas.{carried_is, carried_range}
use Rattle.join_core.proofs.protocol.Core.carries.Goals as goal

pub returns-then-first-self : goal.returns-then-first-self
returns-then-first-self c =
    let P : CoreState → Type 0 = λ s. Contains s.carried (range_from c.args.first c.args.last) in
    record {
      carried = (
        λ e. absurd (false≢true e),
        λ has.
            let there = member_at carried_end c.self.inside.held.items c.args.first c.args.last NoRange (subst P (sym c.self.view_is) has) in
            absurd (omega (arith, there.0, c.self.invariant.held_count, c.if-first-self.true)),
      );
      range = λ e. absurd (false≢true e);
    }

pub returns-in-Carried : goal.returns-in-Carried
returns-in-Carried c =
    let held = c.self.inside.held.items in
    let inside : c.args.first < length held = omega (arith, c.self.invariant.held_count, c.if-first-self.false) in
    let at : get_or held c.args.first NoRange ≡ Carried c.in-Carried.end = get_or_default held c.args.first NoRange c.index.result.now inside ∙ sym c.index.ensures ∙ c.in-Carried.is in
    let P : CoreState → Type 0 = λ s. Contains s.carried (range_from c.args.first c.args.last) in
    let Q : CoreState → Type 0 = λ s. IsRange s.leaves (range_from c.args.first c.args.last) in
    record {
      carried = (
        λ e.
            let same : c.in-Carried.end ≡ c.args.last = eqb-true c.in-Carried.end c.args.last e in
            subst P c.self.view_is (member_there carried_end held c.args.first c.args.last NoRange inside (ap carried_end at ∙ ap Some same)),
        λ has.
            let there = member_at carried_end held c.args.first c.args.last NoRange (subst P (sym c.self.view_is) has) in
            let same : Some c.in-Carried.end ≡ Some c.args.last = sym (ap carried_end at) ∙ there.1 in
            eq-eqb c.in-Carried.end c.args.last (cc),
      );
      range = λ e.
          let same : c.in-Carried.end ≡ c.args.last = eqb-true c.in-Carried.end c.args.last e in
          subst Q c.self.view_is (carried_range c.self.invariant (member_there carried_end held c.args.first c.args.last NoRange inside (ap carried_end at ∙ ap Some same)));
    }

pub returns-in_default : goal.returns-in_default
returns-in_default c =
    let held = c.self.inside.held.items in
    let inside : c.args.first < length held = omega (arith, c.self.invariant.held_count, c.if-first-self.false) in
    let at : get_or held c.args.first NoRange ≡ c.index.result.now = get_or_default held c.args.first NoRange c.index.result.now inside ∙ sym c.index.ensures in
    let P : CoreState → Type 0 = λ s. Contains s.carried (range_from c.args.first c.args.last) in
    record {
      carried = (
        λ e. absurd (false≢true e),
        λ has.
            let there = member_at carried_end held c.args.first c.args.last NoRange (subst P (sym c.self.view_is) has) in
            absurd (c.in_default.not-Carried c.args.last (sym at ∙ carried_is there.1)),
      );
      range = λ e. absurd (false≢true e);
    }
