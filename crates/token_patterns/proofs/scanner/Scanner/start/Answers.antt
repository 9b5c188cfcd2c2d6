use Rattle.std.proofs.Common.{subst}
use Rattle.token_patterns.specs.Scanner.{IsTable}
use Rattle.token_patterns.proofs.WalkLemmas.{walk_start}
use Rattle.token_patterns.proofs.scanner.Scanner.start.Goals as goal

pub returns-clause-walk : goal.returns-clause-walk
returns-clause-walk c = λ text inside. walk_start c.args.self.now text c.args.from (subst IsTable c.self.view_is c.self.invariant) inside
