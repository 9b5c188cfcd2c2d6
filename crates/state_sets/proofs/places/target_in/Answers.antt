use Rattle.std.proofs.Common.{◌≡◌, ◌<◌, length, get_or, Some, ap, sym, ◌∙◌, arith}
use Rattle.std.proofs.lemmas.List.{get_or_default}
use Rattle.state_sets.proofs.PartsLemmas.{starts_rise, no_target, found_target}
use Rattle.state_sets.proofs.places.target_in.Goals as goal

pub place_of-requires : goal.place_of-requires
place_of-requires c = starts_rise c.args.starts.now c.args.classes.now c.args.targets.now c.requires.classed.lengths c.requires.rising

pub returns-in-None : goal.returns-in-None
returns-in-None c = sym (no_target c.args.starts.now c.args.classes.now c.args.targets.now c.args.start c.in-None.ensures.none)

pub returns-in-Some : goal.returns-in-Some
returns-in-Some c =
    let found = found_target c.args.starts.now c.args.classes.now c.args.targets.now c.in-Some.i c.args.start c.requires.classed.lengths c.requires.rising c.in-Some.ensures.within c.in-Some.ensures.found in
    let within : c.in-Some.i < length c.args.classes.now = omega (arith, c.requires.classed.lengths, c.in-Some.ensures.within) in
    let end : get_or c.args.targets.now (get_or c.args.classes.now c.in-Some.i 0) 0 ≡ c.index-targets-classes.result = get_or_default c.args.targets.now (get_or c.args.classes.now c.in-Some.i 0) 0 c.index-targets-classes.result (c.requires.classed.numbers c.in-Some.i 0 within) ∙ sym c.index-targets-classes.is in
    sym (found ∙ ap Some end)
