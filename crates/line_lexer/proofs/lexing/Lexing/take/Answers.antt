use Rattle.line_lexer.specs.Means.{scanning_of}
use Rattle.line_lexer.proofs.LexLemmas.{appends-token, appends-skip}
use Rattle.line_lexer.proofs.lexing.Lexing.take.Goals as goal

pub returns-in_ok-push-in-Token-clause-tokens : goal.returns-in_ok-push-in-Token-clause-tokens
returns-in_ok-push-in-Token-clause-tokens c = λ patterns of.
    appends-token (scanning_of patterns c.args.self.now.means.now) c.args.self.now.text.now c.args.line c.args.at c.in-Token.id c.in-Token.len c.args.tokens.now.items c.push.new.self.items c.requires.goes_on (c.in-Token.ensures.taken patterns of) c.in_ok-push-in-Token.ensures.items

pub returns-in-Skip-clause-tokens : goal.returns-in-Skip-clause-tokens
returns-in-Skip-clause-tokens c = λ patterns of.
    appends-skip (scanning_of patterns c.args.self.now.means.now) c.args.self.now.text.now c.args.line c.args.at c.in-Skip.len c.args.tokens.now.items c.requires.goes_on (c.in-Skip.ensures.taken patterns of)
