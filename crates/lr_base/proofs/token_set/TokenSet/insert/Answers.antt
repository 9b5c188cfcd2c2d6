use Rattle.std.proofs.Common.{◌<◌, arith}
use Rattle.grammar_data.proofs.TokenSetLemmas.{insert_members, IsTokenSet-set, with_token-lt}
use Rattle.lr_base.proofs.token_set.TokenSet.insert.Goals as goal

pub invariant_of-self : goal.invariant_of-self
invariant_of-self c =
    let small : c.token.inside.0 < 256 = omega (arith, c.token.view_is, c.requires) in
    IsTokenSet-set c.self.inside.words _ _ c.self.invariant (with_token-lt c.self.inside.words c.token.inside.0 c.self.invariant small)

pub returns-clause-members : goal.returns-clause-members
returns-clause-members c =
    let small : c.token.inside.0 < 256 = omega (arith, c.token.view_is, c.requires) in
    rw (← c.self.view_is, ← c.token.view_is) (insert_members c.self.inside.words c.token.inside.0 c.self.invariant small)

pub returns-clause-set : goal.returns-clause-set
returns-clause-set c =
    let small : c.token.inside.0 < 256 = omega (arith, c.token.view_is, c.requires) in
    IsTokenSet-set c.self.inside.words _ _ c.self.invariant (with_token-lt c.self.inside.words c.token.inside.0 c.self.invariant small)
