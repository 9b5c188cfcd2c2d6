use Rattle.grammar_laws.proofs.RangeLemmas.{in_range}
use Rattle.report_theory.proofs.BelongingLemmas.{first_conflict}
use Rattle.grammar_rows.proofs.tables.print_conflict.Goals as goal

pub conflict_text-requires : goal.conflict_text-requires
conflict_text-requires c = first_conflict c.args.sheet.now.grammar (in_range c.args.sheet.now.grammar (rw c.grammar.ensures at c.holds.ensures)) c.args.conflict.now c.requires

pub item_text-requires : goal.item_text-requires
item_text-requires c = (first_conflict c.args.sheet.now.grammar (in_range c.args.sheet.now.grammar (rw c.grammar.ensures at c.holds.ensures)) c.args.conflict.now c.requires).first

pub item_text-requires-2 : goal.item_text-requires-2
item_text-requires-2 c = (first_conflict c.args.sheet.now.grammar (in_range c.args.sheet.now.grammar (rw c.grammar.ensures at c.holds.ensures)) c.args.conflict.now c.requires).second
