use Rattle.grammar_data.proofs.TokenSetLemmas.{union_grew, union_members, IsTokenSet-joined}
use Rattle.lr_base.proofs.token_set.TokenSet.union.Goals as goal

pub invariant_of-self : goal.invariant_of-self
invariant_of-self c =
    IsTokenSet-joined c.self.inside.words c.other.inside.words c.join_words.new.words c.self.invariant c.other.invariant c.join_words.array_long c.join_words.ensures.joined

pub returns-clause-members : goal.returns-clause-members
returns-clause-members c =
    rw (← c.self.view_is, ← c.other.view_is)
    (union_members c.self.inside.words c.other.inside.words c.join_words.new.words c.self.invariant c.other.invariant c.join_words.array_long c.join_words.ensures.joined)

pub returns-clause-grew : goal.returns-clause-grew
returns-clause-grew c =
    rw (← c.self.view_is, ← c.other.view_is)
    (union_grew c.join_words.result c.self.inside.words c.other.inside.words c.join_words.new.words c.self.invariant c.other.invariant c.join_words.ensures.joined c.join_words.ensures.changed)

pub returns-clause-set : goal.returns-clause-set
returns-clause-set c =
    IsTokenSet-joined c.self.inside.words c.other.inside.words c.join_words.new.words c.self.invariant c.other.invariant c.join_words.array_long c.join_words.ensures.joined
