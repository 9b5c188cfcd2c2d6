-- What a contract sees of a sheet: its parts.
use Rattle.std.specs.Prelude.{ℕ, List}
use Rattle.grammar_data.specs.Grammar.{Grammar}
use Rattle.sheet_data.specs.declared.parts.Decl.{Decl}
use Rattle.sheet_data.specs.declared.parts.Part.{Part}

pub record Sheet : Type 0 where
  -- the declarations, as written
  pub decls : List Decl
  -- the bytes of the literals that no declaration names, in the order of their tokens
  pub literals : List (List ℕ)
  -- the names of the grammar, by number
  pub names : List (List ℕ)
  pub grammar : Grammar
  -- by rule: its template, and the places that it declares
  pub templates : List (List Part)
  pub declares : List (List ℕ)
