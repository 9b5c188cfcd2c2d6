use Rattle.std.proofs.Common.{◌+◌, [], ◌∷◌, take, arith}
use Rattle.sheet_theory.specs.ScanOrder.{ranked_literal, unnamed_literals}
use Rattle.sheet_reader.proofs.RankLemmas.{ranked_both, unnamed_next}
use Rattle.sheet_reader.proofs.scan_order.rank_unnamed.Goals as goal

pub loop-bytes-preserved : goal.loop-bytes-preserved
loop-bytes-preserved c =
    let literals = c.args.literals.now in
    let i = c.loop-bytes.bytes-index in
    let token = c.loop-bytes.token in
    let bytes = c.as_slice.result.now in
    record {
      token = omega (arith, c.loop-bytes.invariant.token);
      ranked = ranked_both c.args.ranking.now.items c.loop-bytes.ranking.items c.push_literal.new.ranking.items (unnamed_literals c.args.first (take i literals)) (ranked_literal token bytes ∷ []) (unnamed_literals c.args.first (take (i + 1) literals)) c.loop-bytes.invariant.ranked c.in_ok-push_literal.ensures (unnamed_next c.args.first literals i token bytes c.bytes-item.result c.loop-bytes-test.true c.bytes-item.is c.as_slice.ensures c.loop-bytes.invariant.token);
    }
