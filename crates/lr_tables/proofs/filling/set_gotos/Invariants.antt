use Rattle.std.proofs.Common.{◌≡◌, ◌≢◌, ℕ, ◌<◌, ◌≤◌, None}
use Rattle.grammar_data.specs.declared.rule.Sym.TheVariants.{Name}
use Rattle.collection_data.specs.Collection.{step_in}
use Rattle.table_data.specs.Tables.{goto_in}
use Rattle.lr_tables.proofs.filling.set_gotos.Given as goal

abbrev pub invariant-loop-name : goal.invariant-loop-name
invariant-loop-name l = record {
  done : (n : ℕ) → n < l.name → goto_in l.tables l.state n ≡ step_in l.collection l.state (Name n);
  empty : (n : ℕ) → l.name ≤ n → goto_in l.tables l.state n ≡ None;
  others : (p n : ℕ) → p ≢ l.state → goto_in l.tables p n ≡ goto_in l.fn.tables p n;
  rest : l.tables ≡ record l.fn.tables { gotos = l.tables.gotos };
}
