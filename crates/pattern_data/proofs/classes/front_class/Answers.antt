use Rattle.pattern_data.proofs.MemberLemmas.{class_found, class_missing}
use Rattle.pattern_data.proofs.classes.front_class.Goals as goal

pub returns-in_err-set-clause-front : goal.returns-in_err-set-clause-front
returns-in_err-set-clause-front c =
    let found = c.in_ok-words.ensures.front in
    let missing = class_missing c.args.text.now c.front_caret-is_negated.result.1.now c.in_ok-words.rest.now c.front_caret-is_negated.result.0 found.0 c.front_caret-is_negated.ensures.negated c.front_caret-is_negated.ensures.members found.1
    (c.in_err-set.ensures found.0 found.2) in
    rw c.from_residual-in_err-set.ensures missing

pub returns-clause-front : goal.returns-clause-front
returns-clause-front c =
    let found = c.in_ok-words.ensures.front in
    class_found c.args.text.now c.front_caret-is_negated.result.1.now c.in_ok-set.set c.in_ok-words.rest.now c.front_caret-is_negated.result.0 found.0 c.front_caret-is_negated.ensures.negated c.front_caret-is_negated.ensures.members found.1
    (c.in_ok-set.ensures found.0 found.2)
