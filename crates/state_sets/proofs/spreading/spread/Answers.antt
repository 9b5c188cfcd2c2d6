use Rattle.std.proofs.Common.{rules, ◌≡◌, ℕ, ◌<◌, List, length, get_or, set, Option, Some, None, refl, ap, ◌∙◌, arith}
use Rattle.std.specs.Prelude.{All, slice_get}
use Rattle.std.proofs.lemmas.Option.{get_or_from_slice_get, slice_get_within}
use Rattle.std.proofs.lemmas.List.{get_or_default, length_push}
use Rattle.state_sets.proofs.SpreadLemmas.{spread_put, spread_skip, image_is, known_is}
use Rattle.state_sets.proofs.spreading.spread.Goals as goal

never : (numbers : List (Option ℕ)) (k j : ℕ) → slice_get numbers k ≡ Some (Some j) → All (λ number. number ≡ None) numbers → ⊥
never numbers k j is none =
    let number : get_or numbers k (Some j) ≡ Some j = get_or_from_slice_get numbers k (Some j) (Some j) is in
    let empty : get_or numbers k (Some j) ≡ None = none k (Some j) (slice_get_within numbers k (Some j) is) in
    absurd (cc (number, empty))

pub loop-i-init : goal.loop-i-init
loop-i-init c = record {
  classed = c.in_ok-building.ensures.classed;
  pairs = c.in_ok-building.ensures.empty;
  few = search rules;
  size = search rules;
  right = λ k j is. absurd (never c.in_ok-known.known.items k j is c.in_ok-known.ensures.none);
}

pub loop-i-preserved-in_default : goal.loop-i-preserved-in_default
loop-i-preserved-in_default c =
    let inside : get_or c.args.classes.now c.loop-i.i 0 < length c.args.images.now = c.requires.numbers c.loop-i.i 0 (omega (arith, c.requires.lengths, c.loop-i-test.true)) in
    spread_skip c.args.starts.now c.args.classes.now c.args.images.now c.loop-i.i (get_or c.args.classes.now c.loop-i.i 0) c.loop-i.building.starts.items c.loop-i.building.classes.items c.loop-i.building.targets.keys c.loop-i.known.items
    c.requires.lengths c.loop-i-test.true refl (image_is c.args.images.now (get_or c.args.classes.now c.loop-i.i 0) None _ inside c.in_default.is) c.loop-i.invariant

pub put-requires-clause-known : goal.put-requires-clause-known
put-requires-clause-known c = λ j is.
    let inside : get_or c.args.classes.now c.loop-i.i 0 < length c.args.images.now = c.requires.numbers c.loop-i.i 0 (omega (arith, c.requires.lengths, c.loop-i-test.true)) in
    known_is c.args.starts.now c.args.classes.now c.args.images.now c.loop-i.i (get_or c.args.classes.now c.loop-i.i 0) c.in-Some.target j c.loop-i.building.starts.items c.loop-i.building.classes.items c.loop-i.building.targets.keys c.loop-i.known.items c.loop-i.invariant
    inside (image_is c.args.images.now (get_or c.args.classes.now c.loop-i.i 0) (Some c.in-Some.target) _ inside c.in-Some.is) c.index.ensures is

pub loop-i-preserved : goal.loop-i-preserved
loop-i-preserved c =
    let inside : get_or c.args.classes.now c.loop-i.i 0 < length c.args.images.now = c.requires.numbers c.loop-i.i 0 (omega (arith, c.requires.lengths, c.loop-i-test.true)) in
    let start : c.index-starts-i.result ≡ get_or c.args.starts.now c.loop-i.i 0 = c.index-starts-i.is ∙ get_or_default c.args.starts.now c.loop-i.i c.index-starts-i.result 0 c.loop-i-test.true in
    spread_put c.args.starts.now c.args.classes.now c.args.images.now c.loop-i.i c.index-starts-i.result (get_or c.args.classes.now c.loop-i.i 0) c.in-Some.target c.in_ok-new.new
    c.loop-i.building.starts.items c.loop-i.building.classes.items c.loop-i.building.targets.keys c.loop-i.known.items
    c.put.new.self.starts.items c.put.new.self.classes.items c.put.new.self.targets.keys (set c.loop-i.known.items (get_or c.args.classes.now c.loop-i.i 0) (Some c.in_ok-new.new))
    c.requires.lengths c.loop-i-test.true start refl inside (image_is c.args.images.now (get_or c.args.classes.now c.loop-i.i 0) (Some c.in-Some.target) _ inside c.in-Some.is) c.loop-i.invariant
    c.in_ok-new.ensures.classed c.in_ok-new.ensures.pair c.in_ok-new.ensures.targets c.in_ok-new.ensures.class
    (ap length c.in_ok-new.ensures.starts ∙ length_push c.loop-i.building.starts.items c.index-starts-i.result) refl
