use Rattle.std.proofs.Common.{[]}
use Rattle.lr_base.specs.Outside.{IsSameSink}
use Rattle.report_theory.specs.TableTexts.{state_text, states_line}
use Rattle.writing_theory.specs.Writing.{Passes}
use Rattle.program_texts.proofs.TableListLemmas.{so_far}
use Rattle.program_texts.proofs.table_list.write_tables.Given as goal

abbrev pub invariant-loop-state : goal.invariant-loop-state
invariant-loop-state g l = record {
  passed : Passes (g.O.Sink.seen l.fn.out) (g.O.Sink.seen l.out) [] l.blocks.gathered.items (so_far (state_text l.sheet l.collection l.tables) (states_line l.tables) l.state);
  same : IsSameSink (g.O.Sink.seen l.fn.out) (g.O.Sink.seen l.out);
}
