use Rattle.std.proofs.Common.{◌≡◌, ◌≢◌, length, sym, ◌∙◌, arith}
use Rattle.table_data.specs.declared.act.Act.TheVariants.{Error}
use Rattle.table_data.specs.Tables.{act_in}
use Rattle.state_sets.specs.Classes.{targets_of}
use Rattle.arrow_table.proofs.LookLemmas.{class_within, some_at, more_live, none_in}
use Rattle.arrow_table.proofs.looking.some_errs.Goals as goal

pub act-requires : goal.act-requires
act-requires c = class_within c.class_laws.ensures c.args.tables.now.states c.args.arrow.now c.holds.ensures.rising c.requires c.loop-class.class c.class_target.result c.class_target.ensures

pub returns-in-Error-clause-some : goal.returns-in-Error-clause-some
returns-in-Error-clause-some c _ =
    some_at c.class_laws.ensures c.args.tables.now c.args.token c.args.arrow.now c.holds.ensures.rising c.loop-class.class c.class_target.result c.class_target.ensures (sym c.act.ensures.act ∙ c.in-Error.is)

pub loop-class-preserved : goal.loop-class-preserved
loop-class-preserved c =
    let does : act_in c.args.tables.now c.class_target.result c.args.token ≢ Error = λ error. c.in_default.not-Error (c.act.ensures.act ∙ error) in
    more_live c.args.tables.now c.args.token (targets_of c.args.arrow.now) c.loop-class.class c.class_target.result c.class_target.ensures does c.loop-class.invariant

pub returns-clause-none : goal.returns-clause-none
returns-clause-none c _ =
    let whole : c.loop-class.class ≡ length (targets_of c.args.arrow.now) = omega (arith, c.class_count-class-end.ensures, c.loop-class-test.false, c.loop-class.auto.class-end) in
    none_in c.class_laws.ensures c.args.tables.now c.args.token c.args.arrow.now c.loop-class.class c.holds.ensures.rising whole c.loop-class.invariant
