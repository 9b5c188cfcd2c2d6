-- What a contract sees of the alternatives of one left side.
use Rattle.std.specs.Prelude.{List}
use Rattle.outline_data.specs.declared.outline.Word.{Word}
use Rattle.outline_data.specs.AlternativeParts.{AlternativeParts}

pub record GroupParts : Type 0 where
  pub left : Word
  pub alternatives : List AlternativeParts
