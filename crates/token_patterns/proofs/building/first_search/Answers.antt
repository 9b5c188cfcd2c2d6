use Rattle.token_patterns.proofs.KeyLemmas.{inserted}
use Rattle.token_patterns.proofs.TableLemmas.{start_search}
use Rattle.token_patterns.proofs.building.first_search.Goals as goal

pub returns-clause-search : goal.returns-clause-search
returns-clause-search c = λ patterns.
    start_search patterns c.args.size c.in_ok-start.start c.new-sets.result.keys c.insert_full.new.self.keys c.in_ok-insert_full.field-0.0 c.new.result.items c.new-2.result.items c.in_ok-start.ensures.set c.in_ok-start.ensures.none
    c.new-sets.ensures.empty (inserted c.in_ok-start.start c.new-sets.result.keys c.insert_full.new.self.keys c.in_ok-insert_full.field-0.0 c.in_ok-insert_full.ensures.keys c.in_ok-insert_full.ensures.index) c.new.ensures.items c.new-2.ensures.items
