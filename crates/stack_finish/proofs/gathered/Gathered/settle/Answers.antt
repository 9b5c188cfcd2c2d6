use Rattle.std.proofs.Common.{◌≡◌, ℕ, ◌<◌, Contains, sym, ap, ◌∙◌, subst}
use Rattle.table_data.specs.declared.act.Act.TheVariants.{Reduce}
use Rattle.table_data.specs.Tables.{act_in}
use Rattle.node_store.specs.Chunks.{numbers_in}
use Rattle.stack_finish.specs.Gathering.{top_of, IsReducedBy}
use Rattle.stack_finish.proofs.UnderLemmas.{reducible, reduced_under, more_nodes, same_rest, one_node_more, top_within}
use Rattle.stack_finish.proofs.gathered.Gathered.settle.Goals as goal

pub act-requires : goal.act-requires
act-requires c =
    let at = c.requires.under in
    let under = c.loop-rule.invariant.under at.0 at.1 at.2 at.3 at.4 at.5 in
    subst (λ q. q < c.args.tables.now.states) (sym c.top.ensures) (top_within c.requires.lawful c.loop-rule.self at.0 at.1 at.2 at.3 under)

pub reduce-requires-clause-chunk : goal.reduce-requires-clause-chunk
reduce-requires-clause-chunk c = subst (λ k. Contains {X = ℕ} (numbers_in c.loop-rule.self.store) k) (sym c.loop-rule.invariant.chunk) (subst (λ l. Contains {X = ℕ} l c.args.self.now.chunk) (sym c.loop-rule.invariant.chunks) c.requires.chunk)

pub reduce-requires-clause-fits : goal.reduce-requires-clause-fits
reduce-requires-clause-fits c =
    let at = c.requires.under in
    let under = c.loop-rule.invariant.under at.0 at.1 at.2 at.3 at.4 at.5 in
    let act : act_in c.args.tables.now (top_of c.loop-rule.self) at.1.id ≡ Reduce c.in-Reduce.rule = ap (λ (q : ℕ). act_in c.args.tables.now q at.1.id) (sym c.top.ensures) ∙ ap (λ (a : ℕ). act_in c.args.tables.now c.top.result a) at.4 ∙ sym c.in-Reduce.ensures.act in
    reducible c.requires.lawful c.loop-rule.self at.0 at.1 at.2 at.3 under c.in-Reduce.rule act

pub loop-rule-smaller : goal.loop-rule-smaller
loop-rule-smaller c =
    let at = c.requires.under in
    let under = c.loop-rule.invariant.under at.0 at.1 at.2 at.3 at.4 at.5 in
    let act : act_in c.args.tables.now (top_of c.loop-rule.self) at.1.id ≡ Reduce c.in-Reduce.rule = ap (λ (q : ℕ). act_in c.args.tables.now q at.1.id) (sym c.top.ensures) ∙ ap (λ (a : ℕ). act_in c.args.tables.now c.top.result a) at.4 ∙ sym c.in-Reduce.ensures.act in
    one_node_more c.requires.lawful c.loop-rule.self at.0 at.1 at.2 at.3 under c.in-Reduce.rule act c.reduce.new.self c.in_ok-reduce-in-Reduce.ensures

pub loop-rule-preserved : goal.loop-rule-preserved
loop-rule-preserved c =
    let at = c.requires.under in
    let before = c.loop-rule.invariant in
    let under = before.under at.0 at.1 at.2 at.3 at.4 at.5 in
    let act : act_in c.args.tables.now (top_of c.loop-rule.self) at.1.id ≡ Reduce c.in-Reduce.rule = ap (λ (q : ℕ). act_in c.args.tables.now q at.1.id) (sym c.top.ensures) ∙ ap (λ (a : ℕ). act_in c.args.tables.now c.top.result a) at.4 ∙ sym c.in-Reduce.ensures.act in
    let made : IsReducedBy c.args.tables.now c.in-Reduce.rule c.loop-rule.self c.reduce.new.self = c.in_ok-reduce-in-Reduce.ensures in
    let more = more_nodes c.requires.lawful c.loop-rule.self at.0 at.1 at.2 at.3 under c.in-Reduce.rule act c.reduce.new.self made in
    let same = same_rest c.requires.lawful c.loop-rule.self at.0 at.1 at.2 at.3 under c.in-Reduce.rule act c.reduce.new.self made in
    record {
      under = λ tokens mark nodes behind is old. (
          let here = before.under tokens mark nodes behind is old in
          let acts : act_in c.args.tables.now (top_of c.loop-rule.self) mark.id ≡ Reduce c.in-Reduce.rule = ap (λ (q : ℕ). act_in c.args.tables.now q mark.id) (sym c.top.ensures) ∙ ap (λ (a : ℕ). act_in c.args.tables.now c.top.result a) is ∙ sym c.in-Reduce.ensures.act in
          reduced_under c.requires.lawful c.loop-rule.self tokens mark nodes behind here c.in-Reduce.rule acts c.reduce.new.self made);
      more = λ m r kids found. more m r kids (before.more m r kids found);
      chunks = same.0 ∙ before.chunks;
      chunk = same.1 ∙ before.chunk;
      count = same.2 ∙ before.count;
    }
