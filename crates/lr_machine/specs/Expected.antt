-- The tokens that a state expects: those on which its action isn't an error, in the order of their numbers, so that the end
-- mark is the last.
use Rattle.std.specs.Prelude.{◌≢◌, ℕ, ◌↔◌, List, Contains}
use Rattle.std.specs.List.Sorted.{IsStrictlyIncreasing}
use Rattle.table_data.specs.declared.act.Act.TheVariants.{Error}
use Rattle.table_data.specs.Tables.{Tables, act_in}

pub record AreExpectedIn (t : Tables) (q : ℕ) (tokens : List ℕ) : Type 0 where
  pub rising : IsStrictlyIncreasing tokens
  pub exact : (a : ℕ) → Contains tokens a ↔ (act_in t q a ≢ Error)
