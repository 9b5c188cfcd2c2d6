use Rattle.std.proofs.Common.{[], take}
use Rattle.lr_base.specs.Outside.{IsSameSink}
use Rattle.translation_theory.specs.DeclaredNames.{rows_text}
use Rattle.writing_theory.specs.Writing.{Passes}
use Rattle.program_texts.proofs.name_list.write_names.Given as goal

abbrev pub invariant-loop-index : goal.invariant-loop-index
invariant-loop-index g l = record {
  passed : Passes (g.O.Sink.seen l.fn.out) (g.O.Sink.seen l.out) [] l.blocks.gathered.items (rows_text 1 (take l.index l.names));
  same : IsSameSink (g.O.Sink.seen l.fn.out) (g.O.Sink.seen l.out);
}
