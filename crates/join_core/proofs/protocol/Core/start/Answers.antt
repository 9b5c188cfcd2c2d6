use Rattle.join_core.proofs.StartLemmas.{starts, kept_start}
use Rattle.join_core.proofs.protocol.Core.start.Goals as goal

pub invariant_of-result : goal.invariant_of-result
invariant_of-result c = kept_start c.args.leaves c.in_ok-words.words.items c.in_ok-held.held.items c.requires.some c.requires.few (c.in_ok-words.ensures.items_if_clones_equal (λ y e. e)) (c.in_ok-held.ensures.items_if_clones_equal (λ y e. e))

pub returns-clause-start : goal.returns-clause-start
returns-clause-start c = starts c.args.leaves c.in_ok-words.words.items c.in_ok-held.held.items (c.in_ok-words.ensures.items_if_clones_equal (λ y e. e)) (c.in_ok-held.ensures.items_if_clones_equal (λ y e. e))

pub returns-clause-covered : goal.returns-clause-covered
returns-clause-covered c = (invariant_of-result c).covered
