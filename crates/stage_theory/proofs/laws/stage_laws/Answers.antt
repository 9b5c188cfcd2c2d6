use Rattle.stage_theory.proofs.StageLemmas.{begins, stuck, whole_one, whole_other, ended_one, ended_other}
use Rattle.stage_theory.proofs.laws.stage_laws.Goals as goal

pub returns-clause-begins : goal.returns-clause-begins
returns-clause-begins c = begins

pub returns-clause-stuck : goal.returns-clause-stuck
returns-clause-stuck c = stuck

pub returns-clause-whole : goal.returns-clause-whole
returns-clause-whole c = λ stage lexemes e. (whole_one stage lexemes e, whole_other stage lexemes e)

pub returns-clause-ended : goal.returns-clause-ended
returns-clause-ended c = λ stage lexemes e. (ended_one stage lexemes e, ended_other stage lexemes e)
