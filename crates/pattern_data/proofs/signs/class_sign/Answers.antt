use Rattle.pattern_data.proofs.signs.class_sign.Goals as goal

pub returns-in-None-clause-front : goal.returns-in-None-clause-front
returns-in-None-clause-front c = λ sign rest h. c.in-None.ensures.front h.0 rest h.1
