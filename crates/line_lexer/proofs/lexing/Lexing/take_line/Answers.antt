use Rattle.std.proofs.Common.{arith}
use Rattle.line_lexer.specs.Means.{scanning_of}
use Rattle.line_lexer.proofs.LexLemmas.{appends-trans, appends-end}
use Rattle.line_lexer.proofs.lexing.Lexing.take_line.Goals as goal

pub loop-dead_ends-preserved : goal.loop-dead_ends-preserved
loop-dead_ends-preserved c = record {
  begun = omega (arith, c.take.ensures.same_line.begin, c.loop-dead_ends.invariant.begun, c.in_ok-at.ensures.further);
  dead = c.take.ensures.dead;
  inside = c.in_ok-at.ensures.within;
  tokens = λ patterns of.
      appends-trans (scanning_of patterns c.args.self.now.means.now) c.args.self.now.text.now c.args.line c.args.start c.loop-dead_ends.at c.in_ok-at.at c.args.tokens.now.items c.loop-dead_ends.tokens.items c.take.new.tokens.items
      (c.loop-dead_ends.invariant.tokens patterns of) (c.in_ok-at.ensures.tokens patterns of);
}

pub returns : goal.returns
returns c = λ patterns of.
    appends-end (scanning_of patterns c.args.self.now.means.now) c.args.self.now.text.now c.args.line c.args.start c.loop-dead_ends.at c.args.tokens.now.items c.loop-dead_ends.tokens.items (c.ends_line.ensures.0 c.loop-dead_ends-test.false)
    (c.loop-dead_ends.invariant.tokens patterns of)
