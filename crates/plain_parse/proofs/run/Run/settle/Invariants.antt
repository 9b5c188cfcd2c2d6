use Rattle.std.proofs.Common.{◌-◌, ◌^◌}
use Rattle.node_store.specs.Chunks.{node_count_in}
use Rattle.plain_parse.specs.Runs.{IsRun}
use Rattle.plain_parse.proofs.run.Run.settle.Given as goal

abbrev pub invariant-loop-rule : goal.invariant-loop-rule
invariant-loop-rule l = IsRun l.tables l.tokens l.index l.self

abbrev pub decreases-loop-rule : goal.decreases-loop-rule
decreases-loop-rule l = 2 ^ 64 - node_count_in l.self.store
