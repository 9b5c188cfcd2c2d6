use Rattle.std.proofs.Common.{◌≡◌, get_or, Some, sym, ◌∙◌, arith}
use Rattle.std.proofs.lemmas.List.{get_or_default}
use Rattle.state_sets.proofs.PartsLemmas.{within_starts, pair_at}
use Rattle.state_sets.proofs.places.pair_in.Goals as goal

pub bounds-starts-i : goal.bounds-starts-i
bounds-starts-i c = (within_starts c.args.starts.now c.args.classes.now c.args.targets.now c.args.i c.requires.arrow c.requires.within).0

pub bounds-classes-i : goal.bounds-classes-i
bounds-classes-i c = (within_starts c.args.starts.now c.args.classes.now c.args.targets.now c.args.i c.requires.arrow c.requires.within).1

pub offset_bounds-starts-i : goal.offset_bounds-starts-i
offset_bounds-starts-i c = let within = (within_starts c.args.starts.now c.args.classes.now c.args.targets.now c.args.i c.requires.arrow c.requires.within).0 in omega (arith, within, c.requires.arrow.few)

pub offset_bounds-classes-i : goal.offset_bounds-classes-i
offset_bounds-classes-i c = let within = (within_starts c.args.starts.now c.args.classes.now c.args.targets.now c.args.i c.requires.arrow c.requires.within).1 in omega (arith, within, c.requires.arrow.few, c.requires.arrow.classed.lengths)

pub bounds-targets-classes : goal.bounds-targets-classes
bounds-targets-classes c = (within_starts c.args.starts.now c.args.classes.now c.args.targets.now c.args.i c.requires.arrow c.requires.within).2

pub returns : goal.returns
returns c =
    let within = within_starts c.args.starts.now c.args.classes.now c.args.targets.now c.args.i c.requires.arrow c.requires.within in
    let start : get_or c.args.starts.now c.args.i 0 ≡ c.index-starts-i.result = get_or_default c.args.starts.now c.args.i 0 c.index-starts-i.result within.0 ∙ sym c.index-starts-i.is in
    let end : get_or c.args.targets.now (get_or c.args.classes.now c.args.i 0) 0 ≡ c.index-targets-classes.result = get_or_default c.args.targets.now (get_or c.args.classes.now c.args.i 0) 0 c.index-targets-classes.result within.2 ∙ sym c.index-targets-classes.is in
    pair_at c.args.starts.now c.args.classes.now c.args.targets.now c.args.i c.requires.arrow.classed.lengths within.0 ∙ (λ j. Some (start j, end j))
