use Rattle.std.proofs.Common.{length}
use Rattle.token_patterns.proofs.WalkLemmas.{walk_answer, ends_before}
use Rattle.token_patterns.proofs.scanner.Scanner.longest_with.Goals as goal

pub walk-walk-requires-clause-walk : goal.walk-walk-requires-clause-walk
walk-walk-requires-clause-walk c = c.start.ensures.walk c.args.text.now c.requires.from

pub returns-then-walk-clause-longest : goal.returns-then-walk-clause-longest
returns-then-walk-clause-longest c = walk_answer c.args.self.now c.args.text.now c.args.from c.walk-walk.result c.walk-walk.ensures.walk (λ on. absurd (cc))

pub returns-then-walk-clause-inside : goal.returns-then-walk-clause-inside
returns-then-walk-clause-inside c = ends_before c.walk-walk.result.best c.args.from c.walk-walk.result.at (length c.args.text.now) c.walk-walk.ensures.walk.inside c.walk-walk.ensures.walk.within
