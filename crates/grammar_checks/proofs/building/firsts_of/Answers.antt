use Rattle.grammar_checks.proofs.building.firsts_of.Goals as goal

pub returns-in-Err-clause-fault : goal.returns-in-Err-clause-fault
returns-in-Err-clause-fault c = c.name_fault.ensures c.args.grammar.now c.in-Err.ensures.due
