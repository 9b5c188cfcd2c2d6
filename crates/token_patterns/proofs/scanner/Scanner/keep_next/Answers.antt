use Rattle.std.proofs.Common.{inl}
use Rattle.dead_ends.specs.Pairs.{CanKeep}
use Rattle.token_patterns.proofs.WalkLemmas.{dead_end_passed, dead_ends_more, ends_before}
use Rattle.token_patterns.proofs.scanner.Scanner.keep_next.Goals as goal

pub returns-in-Ok-clause-dead : goal.returns-in-Ok-clause-dead
returns-in-Ok-clause-dead c =
    let table = c.args.self.now in
    let text = c.args.text.now in
    let from = c.args.from in
    let next = c.walk-next.result in
    let beyond = ends_before c.args.far.best from c.args.walk.at next.at c.walk-next.ensures.further (c.requires.beyond c.if-walk.false) in
    dead_ends_more table text c.args.dead_ends.now c.keep.new.self next.at next.state (CanKeep c.args.dead_ends.now next.at next.state) c.in-Ok.ensures.ok c.requires.dead
    (dead_end_passed table text from c.args.far next c.requires.far c.requires.ended c.walk-next.ensures.walk c.if-next.false beyond)

pub returns-in-Err-clause-dead : goal.returns-in-Err-clause-dead
returns-in-Err-clause-dead c = λ p s keeps. c.requires.dead p s ((c.in-Err.ensures.err p s).0 keeps)

pub returns-in-Ok-clause-kept : goal.returns-in-Ok-clause-kept
returns-in-Ok-clause-kept c = λ p s keeps. (c.in-Ok.ensures.ok p s).1 (inl keeps)

pub returns-in-Err-clause-kept : goal.returns-in-Err-clause-kept
returns-in-Err-clause-kept c = λ p s keeps. (c.in-Err.ensures.err p s).1 keeps
