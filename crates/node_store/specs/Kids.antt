-- What contracts see of the kids of a node: their list.
use Rattle.std.specs.Prelude.{◌-◌, List, take, drop}
use Rattle.node_data.specs.declared.kid.Kid.{Kid}
use Rattle.node_store.specs.declared.kids.Kids.{Kids}
use Rattle.node_store.specs.Flat.{all_kids}

abbrev pub kids_seen : Kids → List Kid
kids_seen kids = take (kids.end - kids.first) (drop kids.first (all_kids kids.chunk.now))
