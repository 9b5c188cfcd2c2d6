-- Maps and symbols that are in range of tables.
use Rattle.std.specs.Prelude.{ℕ, ◌<◌, All}
use Rattle.grammar_data.specs.declared.rule.Sym.{Sym}
use Rattle.grammar_data.specs.declared.rule.Sym.TheVariants.{Token, Name}
use Rattle.table_data.specs.Tables.{Tables}
use Rattle.map_theory.specs.Maps.{StateMap}

-- all starts and targets are below this
abbrev pub AreWithin : ℕ → StateMap → Type 0
AreWithin n m = All (λ pair. (pair.0 < n) × (pair.1 < n)) m

-- a token, the end mark and the bad byte among them, or one of the tables' names; along what is no token nothing steps
abbrev pub HasSymbol : Tables → Sym → Type 0
HasSymbol t (Token a) = Unit {0}
HasSymbol t (Name n) = n < t.names
