use Rattle.std.proofs.Common.{[], take}
use Rattle.std.specs.List.{flat_map}
use Rattle.lr_base.specs.Outside.{IsSameSink}
use Rattle.sheet_theory.specs.TokenList.{token_line}
use Rattle.writing_theory.specs.Writing.{Passes}
use Rattle.program_texts.proofs.token_list.write_list.Given as goal

abbrev pub invariant-loop-token : goal.invariant-loop-token
invariant-loop-token g l = record {
  passed : Passes (g.O.Sink.seen l.fn.out) (g.O.Sink.seen l.out) [] l.blocks.gathered.items (flat_map (token_line l.names l.lines) (take l.token-index l.tokens));
  same : IsSameSink (g.O.Sink.seen l.fn.out) (g.O.Sink.seen l.out);
}
