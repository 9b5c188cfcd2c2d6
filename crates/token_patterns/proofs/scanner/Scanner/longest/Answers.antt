use Rattle.std.proofs.Common.{length}
use Rattle.token_patterns.proofs.WalkLemmas.{walk_answer, ends_before}
use Rattle.token_patterns.proofs.scanner.Scanner.longest.Goals as goal

pub walk-requires-clause-walk : goal.walk-requires-clause-walk
walk-requires-clause-walk c = c.start.ensures.walk c.args.text.now c.requires

pub returns-clause-longest : goal.returns-clause-longest
returns-clause-longest c = walk_answer c.args.self.now c.args.text.now c.args.from c.walk.result c.walk.ensures.walk c.walk.ensures.to

pub returns-clause-inside : goal.returns-clause-inside
returns-clause-inside c = ends_before c.walk.result.best c.args.from c.walk.result.at (length c.args.text.now) c.walk.ensures.walk.inside c.walk.ensures.walk.within
