use Rattle.program_texts.proofs.fault_texts.grammar_text.Goals as goal

pub returns-in-Unreachable : goal.returns-in-Unreachable
returns-in-Unreachable c = rw c.in-Unreachable.is (rw c.name_of-in-Unreachable.ensures at c.of_name-in-Unreachable.ensures)
