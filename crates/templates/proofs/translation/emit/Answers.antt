use Rattle.templates.proofs.RuleLemmas.{rules_shown}
use Rattle.templates.proofs.translation.emit.Goals as goal

pub returns-clause-written : goal.returns-clause-written
returns-clause-written g c = λ tree shows. c.write_tree.ensures.written tree shows (rules_shown c.args.sheet.now c.args.store.now c.args.root c.requires tree shows)
