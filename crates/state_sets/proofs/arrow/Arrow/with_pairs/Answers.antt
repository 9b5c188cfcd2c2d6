use Rattle.std.proofs.Common.{◌≡◌, ◌≤◌, length, sym, ap, ◌∙◌, subst}
use Rattle.std.specs.Arc.{arc_value}
use Rattle.table_data.specs.declared.limits.TheConstants.{MOST_STATES}
use Rattle.state_sets.specs.Parts.{pairs_of}
use Rattle.state_sets.proofs.ArrowLemmas.{if_ok, shared_starts, arrow_over}
use Rattle.state_sets.proofs.arrow.Arrow.with_pairs.Goals as goal

pub of_parts-requires : goal.of_parts-requires
of_parts-requires c =
    let shared = shared_starts (arc_value (arc_value c.self.inside.parts).starts).items (arc_value c.self.inside.parts).classes.items (arc_value c.self.inside.parts).targets.items c.args.building.starts.items c.args.building.classes.items c.args.building.targets.keys c.args.self.now c.self.invariant c.self.view_is c.requires.starts in
    let stand : arc_value c.in_ok-starts.starts ≡ arc_value (arc_value c.self.inside.parts).starts = c.in_ok-starts.ensures ∙ ap (λ p. arc_value p.starts) c.deref.ensures in
    let same : (arc_value c.in_ok-starts.starts).items ≡ c.args.building.starts.items = ap (λ v. v.items) stand ∙ shared in
    arrow_over (arc_value c.in_ok-starts.starts).items c.args.building.starts.items c.args.building.classes.items c.in_ok-targets.targets.items c.args.building.targets.keys same (c.in_ok-targets.ensures ∙ c.as_slice.ensures.keys)
    c.requires.classed c.requires.rising (subst (λ l. length l ≤ MOST_STATES) (sym (ap (λ v. v.items) stand)) c.self.invariant.few)

pub returns : goal.returns
returns c =
    let shared = shared_starts (arc_value (arc_value c.self.inside.parts).starts).items (arc_value c.self.inside.parts).classes.items (arc_value c.self.inside.parts).targets.items c.args.building.starts.items c.args.building.classes.items c.args.building.targets.keys c.args.self.now c.self.invariant c.self.view_is c.requires.starts in
    let stand : arc_value c.in_ok-starts.starts ≡ arc_value (arc_value c.self.inside.parts).starts = c.in_ok-starts.ensures ∙ ap (λ p. arc_value p.starts) c.deref.ensures in
    let same : (arc_value c.in_ok-starts.starts).items ≡ c.args.building.starts.items = ap (λ v. v.items) stand ∙ shared in
    if_ok (λ m. m ≡ pairs_of (arc_value c.in_ok-starts.starts).items c.args.building.classes.items c.in_ok-targets.targets.items) (λ m. m ≡ pairs_of c.args.building.starts.items c.args.building.classes.items c.args.building.targets.keys) c.of_parts.result c.of_parts.ensures
    (λ m is. is ∙ (λ i. pairs_of (same i) c.args.building.classes.items ((c.in_ok-targets.ensures ∙ c.as_slice.ensures.keys) i)))
