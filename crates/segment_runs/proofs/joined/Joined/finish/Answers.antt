use Rattle.std.proofs.Common.{◌*◌, refl, ap}
use Rattle.segment_runs.proofs.RunLemmas.{can_finish, last_chunk, run_of}
use Rattle.segment_runs.proofs.joined.Joined.finish.Goals as goal

pub finish-requires-clause-chunk : goal.finish-requires-clause-chunk
finish-requires-clause-chunk c =
    last_chunk c.args.job.now c.requires.can c.args.self c.requires.joined (2 * c.segments-chunk.result) (ap (λ n. 2 * n) c.segments-chunk.ensures)

pub finish-requires-clause-pieces : goal.finish-requires-clause-pieces
finish-requires-clause-pieces c = can_finish c.args.job.now c.requires.can c.args.self c.requires.joined

pub returns : goal.returns
returns c =
    run_of c.args.job.now c.requires.can c.args.self c.requires.joined (2 * c.segments-chunk.result)
    (record { parsed = c.in_ok-finish.field-0; tokens = c.args.self.tokens; pieces = c.args.self.count })
    c.in_ok-finish.ensures.finished c.in_ok-finish.ensures.tree refl refl
