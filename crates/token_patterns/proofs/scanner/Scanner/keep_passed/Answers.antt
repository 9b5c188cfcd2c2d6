use Rattle.std.proofs.Common.{refl}
use Rattle.token_patterns.proofs.WalkLemmas.{beyond_match}
use Rattle.token_patterns.proofs.scanner.Scanner.keep_passed.Goals as goal

pub loop-next-init : goal.loop-next-init
loop-next-init c = record {
  walk = c.walk-walk.ensures.walk;
  beyond = λ on. beyond_match c.args.far.best c.args.from c.matched.result 64 c.walk-walk.result.at c.matched.ensures (c.walk-walk.ensures.to on);
  dead = c.requires.dead;
  line = record { begin = refl; states = refl; step = refl };
  kept = λ p s keeps. keeps;
}

pub returns-clause-kept : goal.returns-clause-kept
returns-clause-kept c = λ p s keeps. c.in_default.ensures.kept p s (c.loop-next.invariant.kept p s keeps)
