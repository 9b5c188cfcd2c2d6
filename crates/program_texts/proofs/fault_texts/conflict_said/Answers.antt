use Rattle.grammar_laws.proofs.RangeLemmas.{in_range}
use Rattle.report_theory.proofs.BelongingLemmas.{first_conflict}
use Rattle.program_texts.proofs.fault_texts.conflict_said.Goals as goal

pub conflict_text-requires : goal.conflict_text-requires
conflict_text-requires c = first_conflict c.args.sheet.now.grammar (in_range c.args.sheet.now.grammar (rw c.grammar.ensures at c.holds.ensures)) c.args.conflict.now c.requires
