use Rattle.node_store.specs.Chunks.{store_of}
use Rattle.segment_parser.proofs.RetraceLemmas.{rewritten_maps, rewritten_stands, retraced_open, retraced_at}
use Rattle.segment_parser.proofs.leaf.Leaf.retrace.Goals as goal

pub returns-clause-maps : goal.returns-clause-maps
returns-clause-maps c =
    let found = c.find_again.ensures in
    rewritten_maps c.args.arrows.now.0 (store_of c.args.store.now) c.args.arrows.now.1 c.find_again.new.arrows.1 c.args.self.now c.find_again.new.self found.grows c.requires.maps c.in_ok-find_again.ensures.again found.block found.same

pub returns-clause-stand : goal.returns-clause-stand
returns-clause-stand c =
    let found = c.find_again.ensures in
    rewritten_stands c.args.arrows.now.2 c.find_again.new.arrows.2 c.args.self.now c.find_again.new.self found.base c.in_ok-find_again.ensures.again found.same c.requires.stand

pub returns-clause-open : goal.returns-clause-open
returns-clause-open c nodes steps w next is =
    let found = c.find_again.ensures in
    retraced_open c.args.arrows.now.0 (store_of c.args.store.now) c.args.arrows.now.1 c.find_again.new.arrows.1 c.args.self.now c.find_again.new.self found.grows c.in_ok-find_again.ensures.again found.block found.same found.count found.stale nodes steps w next is

pub returns-clause-at : goal.returns-clause-at
returns-clause-at c tokens w rest next at =
    let found = c.find_again.ensures in
    retraced_at c.args.arrows.now.0 (store_of c.args.store.now) c.args.arrows.now.1 c.find_again.new.arrows.1 c.args.self.now c.find_again.new.self found.grows c.in_ok-find_again.ensures.again found.block found.same found.count found.stale tokens w rest next at
