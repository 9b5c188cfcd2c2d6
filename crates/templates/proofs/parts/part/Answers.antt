use Rattle.templates.proofs.PendingLemmas.{if_ok, part_folds, part_numbers}
use Rattle.templates.proofs.parts.part.Goals as goal

pub returns-in-Fold : goal.returns-in-Fold
returns-in-Fold c = if_ok c.fold.result (λ next unfolds trees are. part_folds trees c.args.part.now c.in-Fold.place c.in-Fold.is (unfolds trees are)) c.fold.ensures

pub returns-in_ok-number-in-Number : goal.returns-in_ok-number-in-Number
returns-in_ok-number-in-Number c = λ trees are. part_numbers trees c.args.part.now c.in-Number.place are c.in-Number.is c.in_ok-number-in-Number.ensures
