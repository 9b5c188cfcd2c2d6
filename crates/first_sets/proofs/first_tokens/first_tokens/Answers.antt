use Rattle.std.proofs.Common.{◌≡◌, ◌+◌, ◌*◌, ◌<◌, [], ◌∷◌, ◌++◌, length, slice_get, replicate, Contains, Some, refl, sym, ap, subst, ◌∙◌, arith}
use Rattle.std.proofs.lemmas.List.{length-append}
use Rattle.std.proofs.lemmas.List.Elements.{Contains-push}
use Rattle.std.proofs.lemmas.Option.{slice_get_read}
use Rattle.first_sets.specs.declared.opening.Opening.{Opening}
use Rattle.first_sets.specs.Relations.{IsExtended}
use Rattle.first_sets.specs.Openings.{IsOpeningOf}
use Rattle.first_sets.proofs.FillLemmas.{IsFilling, room, less_room, falls_more, fill_none, fill_filled, fill_grown, fill_done}
use Rattle.first_sets.proofs.first_tokens.first_tokens.Goals as goal
use Rattle.first_sets.proofs.first_tokens.first_tokens.Goals.{In-Some, After-fill}

pub loop-place-init : goal.loop-place-init
loop-place-init c =
    let g = c.args.grammar.now in
    let none : c.in_ok-sets.sets.items ≡ replicate g.names c.empty.result = c.in_ok-sets.ensures.items_if_clones_equal (λ y e. e) ∙ ap (λ n. replicate n c.empty.result) c.names.ensures in
    subst (λ l. IsFilling g c.args.openings.now l c.in_ok-pending.pending.items) (sym none)
    (fill_none g c.args.openings.now c.empty.result c.in_ok-pending.pending.items c.empty.ensures.set c.empty.ensures.none c.in_ok-pending.ensures.members)

inside : (c : In-Some) → c.in-Some.place < length c.args.openings.now
inside c = c.loop-place.invariant.places c.in-Some.place (subst (λ l. Contains l c.in-Some.place) (sym c.in-Some.ensures.items) (Contains-push c.pop.new.self.items c.in-Some.place))

pub bounds-openings-place : goal.bounds-openings-place
bounds-openings-place c = inside (goal.at.bounds-openings-place c).In-Some

-- the opening at the popped place, and what is known of it
range : (c : After-fill) → IsOpeningOf (length c.loop-place.sets.items) c.index-openings-place.result
range c =
    let o = c.index-openings-place.result in
    let less : c.in-Some.place < length c.args.openings.now = c.loop-place.invariant.places c.in-Some.place (subst (λ l. Contains l c.in-Some.place) (sym c.in-Some.ensures.items) (Contains-push c.pop.new.self.items c.in-Some.place)) in
    subst (λ n. IsOpeningOf n o) (sym c.loop-place.invariant.names) (subst (λ p. IsOpeningOf c.args.grammar.now.names p) (sym c.index-openings-place.is) (c.requires.range c.in-Some.place o less))

at_place : (c : After-fill) → slice_get c.args.openings.now c.in-Some.place ≡ Some c.index-openings-place.result
at_place c =
    let less : c.in-Some.place < length c.args.openings.now = c.loop-place.invariant.places c.in-Some.place (subst (λ l. Contains l c.in-Some.place) (sym c.in-Some.ensures.items) (Contains-push c.pop.new.self.items c.in-Some.place)) in
    slice_get_read c.args.openings.now (length c.args.openings.now) c.in-Some.place c.index-openings-place.result refl less c.index-openings-place.is

state : (c : After-fill) → IsFilling c.args.grammar.now c.args.openings.now c.loop-place.sets.items (c.pop.new.self.items ++ c.in-Some.place ∷ [])
state c = subst (λ l. IsFilling c.args.grammar.now c.args.openings.now c.loop-place.sets.items l) c.in-Some.ensures.items c.loop-place.invariant

pub fill-requires-clause-range : goal.fill-requires-clause-range
fill-requires-clause-range c =
    let o = c.index-openings-place.result in
    let less : c.in-Some.place < length c.args.openings.now = c.loop-place.invariant.places c.in-Some.place (subst (λ l. Contains l c.in-Some.place) (sym c.in-Some.ensures.items) (Contains-push c.pop.new.self.items c.in-Some.place)) in
    subst (λ n. IsOpeningOf n o) (sym c.loop-place.invariant.names) (subst (λ p. IsOpeningOf c.args.grammar.now.names p) (sym c.index-openings-place.is) (c.requires.range c.in-Some.place o less))

pub push_all-requires : goal.push_all-requires
push_all-requires c =
    let left = ap (λ (p : Opening). p.left) c.opening.view_is in
    let r = range (goal.at.push_all-requires c).After-fill in
    omega (arith, left, r.left, c.requires.keys, c.loop-place.invariant.names)

pub loop-place-smaller-in-Continue-branch-3 : goal.loop-place-smaller-in-Continue-branch-3
loop-place-smaller-in-Continue-branch-3 c =
    let o = c.index-openings-place.result in
    let left = ap (λ (p : Opening). p.left) c.opening.view_is in
    let r = range (goal.at.loop-place-smaller-in-Continue-branch-3 c).After-fill in
    let long : length c.loop-place.pending.items ≡ length c.pop.new.self.items + 1 = ap length c.in-Some.ensures.items ∙ length-append c.pop.new.self.items (c.in-Some.place ∷ []) in
    let smaller : room c.fill.new.sets.items * (length c.args.readers.now.pairs + 1) + length c.push_all.new.values.items < room c.loop-place.sets.items * (length c.args.readers.now.pairs + 1) + length c.loop-place.pending.items =
    falls_more (room c.fill.new.sets.items) (room c.loop-place.sets.items) (length c.args.readers.now.pairs) (length c.pop.new.self.items) (length c.loop-place.pending.items) (length c.push_all.new.values.items)
    (less_room c.loop-place.sets.items c.fill.new.sets.items o r.left c.if-fill.ensures) c.in_ok-push_all.ensures.few long in
    smaller

pub loop-place-preserved-in-Continue-branch-3 : goal.loop-place-preserved-in-Continue-branch-3
loop-place-preserved-in-Continue-branch-3 c =
    let o = c.index-openings-place.result in
    let left = ap (λ (p : Opening). p.left) c.opening.view_is in
    let r = range (goal.at.loop-place-preserved-in-Continue-branch-3 c).After-fill in
    let more : IsExtended c.args.readers.now.pairs o.left c.pop.new.self.items c.push_all.new.values.items =
    subst (λ n. IsExtended c.args.readers.now.pairs n c.pop.new.self.items c.push_all.new.values.items) left c.in_ok-push_all.ensures in
    fill_grown c.args.grammar.now c.args.openings.now c.loop-place.sets.items c.fill.new.sets.items c.pop.new.self.items c.push_all.new.values.items c.args.readers.now.pairs c.in-Some.place o r.left
    c.if-fill.ensures (at_place (goal.at.loop-place-preserved-in-Continue-branch-3 c).After-fill) c.requires.readers more c.requires.passes (state (goal.at.loop-place-preserved-in-Continue-branch-3 c).After-fill)

pub loop-place-preserved : goal.loop-place-preserved
loop-place-preserved c =
    let o = c.index-openings-place.result in
    let same = c.if-fill.ensures.1 in
    fill_filled c.args.grammar.now c.args.openings.now c.fill.new.sets.items c.pop.new.self.items c.in-Some.place o (at_place (goal.at.loop-place-preserved c).After-fill) c.if-fill.ensures.0
    (subst (λ l. IsFilling c.args.grammar.now c.args.openings.now l (c.pop.new.self.items ++ c.in-Some.place ∷ [])) (sym same) (state (goal.at.loop-place-preserved c).After-fill))

pub returns-clause-filled : goal.returns-clause-filled
returns-clause-filled c =
    fill_done c.args.grammar.now c.args.openings.now c.loop-place.sets.items c.loop-place.pending.items (omega (arith, c.loop-place.pending.ok.0, c.in_default.ensures.cases.0)) c.loop-place.invariant
