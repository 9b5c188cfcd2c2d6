use Rattle.std.proofs.Common.{◌<◌, length, get_or, sym, ◌∙◌, arith}
use Rattle.std.proofs.lemmas.Option.{slice_get-get_or}
use Rattle.state_sets.proofs.PartsLemmas.{starts_rise, no_target, found_target}
use Rattle.state_sets.proofs.places.class_in.Goals as goal

pub place_of-requires : goal.place_of-requires
place_of-requires c = starts_rise c.args.starts.now c.args.classes.now c.args.targets.now c.requires.classed.lengths c.requires.rising

pub returns-in-None-clause-none : goal.returns-in-None-clause-none
returns-in-None-clause-none c = no_target c.args.starts.now c.args.classes.now c.args.targets.now c.args.start c.in-None.ensures.none

pub returns-in-Some-clause-class : goal.returns-in-Some-clause-class
returns-in-Some-clause-class c =
    let inside : get_or c.args.classes.now c.in-Some.i 0 < length c.args.targets.now = c.requires.classed.numbers c.in-Some.i 0 (omega (arith, c.requires.classed.lengths, c.in-Some.ensures.within)) in
    let found = found_target c.args.starts.now c.args.classes.now c.args.targets.now c.in-Some.i c.args.start c.requires.classed.lengths c.requires.rising c.in-Some.ensures.within c.in-Some.ensures.found in
    (inside, slice_get-get_or c.args.targets.now (get_or c.args.classes.now c.in-Some.i 0) 0 inside ∙ sym found)
