use Rattle.std.proofs.Common.{length}
use Rattle.token_patterns.proofs.WalkLemmas.{walk_answer, ends_before}
use Rattle.token_patterns.proofs.scanner.Scanner.longest_far.Goals as goal

pub returns-clause-longest : goal.returns-clause-longest
returns-clause-longest c = walk_answer c.args.self.now c.args.text.now c.args.from c.walk_far-far.result c.walk_far-far.ensures.walk (λ on. absurd (let ended = c.walk_far-far.ensures.ended in cc))

pub returns-clause-inside : goal.returns-clause-inside
returns-clause-inside c = ends_before c.walk_far-far.result.best c.args.from c.walk_far-far.result.at (length c.args.text.now) c.walk_far-far.ensures.walk.inside c.walk_far-far.ensures.walk.within
