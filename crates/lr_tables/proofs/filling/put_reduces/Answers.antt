use Rattle.std.proofs.Common.{◌+◌, sym, subst, ◌∙◌}
use Rattle.table_data.specs.Tables.{Tables}
use Rattle.table_data.specs.declared.act.Act.TheVariants.{Reduce}
use Rattle.lr_tables.specs.Filling.{AreReducesPut}
use Rattle.lr_tables.proofs.PutLemmas.{put_skip, put_next}
use Rattle.lr_tables.proofs.filling.put_reduces.Goals as goal
use Rattle.lr_tables.proofs.filling.put_reduces.Goals.{then-has+in_ok-put, else-has}

pub loop-token-preserved : goal.loop-token-preserved
loop-token-preserved c =
    let k = c.loop-token.token in
    let tokens = c.args.aheads.now in
    let q = c.args.state in
    let r = c.args.rule in
    let old = c.args.tables.now in
    let mid = c.loop-token.tables in
    let has = c.has.ensures.has in
    elim c.if-has.branch [
      | then-has+in_ok-put w ↦
          subst (λ (t : Tables). AreReducesPut (k + 1) tokens q r old t) (sym w.tables-is)
          (put_next k tokens q (Reduce r) old mid w.put.new.tables c.loop-token.invariant (sym has ∙ w.if-has.true) w.in_ok-put.ensures.put)
      | else-has w ↦
          subst (λ (t : Tables). AreReducesPut (k + 1) tokens q r old t) (sym w.tables-is)
          (put_skip k tokens q (Reduce r) old mid (sym has ∙ w.if-has.false) c.loop-token.invariant)
    ]
