-- What a parse gives can be walked over.
use Rattle.plain_parse.specs.declared.parsed.Parsed.{Parsed}
use Rattle.plain_parse.specs.declared.parsed.Parsed.TheVariants.{Tree, Wrong}
use Rattle.node_store.specs.Walking.{IsFinished}

abbrev pub IsWalkable : Parsed → Type 0
IsWalkable (Tree root store) = IsFinished store root
IsWalkable (Wrong index token state) = Unit {0}
