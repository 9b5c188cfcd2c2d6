-- It is refuted that a grammar has no fault and yet no collection and tables.
use Rattle.std.proofs.Common.{⊎_elim}
use Rattle.table_data.specs.declared.limits.TheConstants.{MOST_STATES}
use Rattle.collection_laws.specs.Laws.{SomeBuiltLaw, SomeGrammarLaw}
use Rattle.collection_laws.proofs.FaultLemmas.{some_fault}
use Rattle.collection_laws.proofs.CollectionLemmas.{some_collection}
use Rattle.collection_laws.proofs.TablesLemmas.{some_tables}

pub some_built : SomeBuiltLaw
some_built g range few buildable none =
    some_collection g range few MOST_STATES buildable.small.few
    (λ c collection. ⊎_elim
    (λ (t, tables). none c t (record { collection = collection; tables = tables }))
    (λ conflict. buildable.free conflict)
    (some_tables g range c collection))

pub some_grammar : SomeGrammarLaw
some_grammar g range few faultless none = some_fault g range faultless (λ buildable. some_built g range few buildable (λ c t built. none c t buildable built))
