-- What a contract sees of a sheet as it is written.
use Rattle.std.specs.Prelude.{Bool, List}
use Rattle.outline_data.specs.declared.outline.Declaration.{Declaration}
use Rattle.outline_data.specs.GroupParts.{GroupParts}

pub record OutlineParts : Type 0 where
  pub declarations : List Declaration
  pub groups : List GroupParts
  -- a second `%%` ends the rules
  pub has_rest : Bool
