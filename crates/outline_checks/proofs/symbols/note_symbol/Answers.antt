use Rattle.outline_checks.proofs.KindLemmas.{name_noted}
use Rattle.outline_checks.proofs.symbols.note_symbol.Goals as goal

pub returns-in-Quoted : goal.returns-in-Quoted
returns-in-Quoted c = rw c.in-Quoted.is c.note_literal.ensures

pub returns-in-Name : goal.returns-in-Name
returns-in-Name c = rw c.in-Name.is (name_noted c.args.names.now c.in-Name.word c.is_unknown-is_unknown.result (rw c.as_slice.ensures at c.is_unknown-is_unknown.ensures) c.note_if.ensures)
