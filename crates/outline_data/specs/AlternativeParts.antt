-- What a contract sees of one right side with its template and its marks.
use Rattle.std.specs.Prelude.{List, Option}
use Rattle.outline_data.specs.declared.outline.PlaceUse.{PlaceUse}
use Rattle.outline_data.specs.declared.rules.Symbol.{Symbol}
use Rattle.outline_data.specs.declared.rules.TemplatePart.{TemplatePart}

pub record AlternativeParts : Type 0 where
  pub right : List Symbol
  -- the parts between braces, where there are braces
  pub template : Option (List TemplatePart)
  -- the places that the rule declares
  pub marks : List PlaceUse
