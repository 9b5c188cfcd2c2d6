-- What a parse gives can be walked over.
use Rattle.grammar_data.specs.declared.token.Token.{Token}
use Rattle.grammar_data.specs.Grammar.{Grammar}
use Rattle.std.proofs.Common.{List}
use Rattle.table_data.specs.Tables.{Tables}
use Rattle.plain_parse.specs.declared.parsed.Parsed.{Parsed}
use Rattle.plain_parse.specs.declared.parsed.Parsed.TheVariants.{Tree, Wrong}
use Rattle.plain_parse.specs.Parses.{IsParsed}
use Rattle.parse_rows.specs.Walkable.{IsWalkable}

pub walkable : (g : Grammar) (t : Tables) (tokens : List Token) (parsed : Parsed) → IsParsed g t tokens parsed → IsWalkable parsed
walkable g t tokens (Tree root store) is = ((0, 0), 0, is.tree, is.shown (0, 0) 0)
walkable g t tokens (Wrong index token state) is = tt
