use Rattle.std.proofs.Common.{◌≡◌, ℕ, sym, ap, ◌∙◌}
use Rattle.table_data.specs.declared.act.Act.TheVariants.{Reduce}
use Rattle.table_data.specs.Tables.{act_in}
use Rattle.plain_parse.specs.Runs.{token_of, top_of}
use Rattle.plain_parse.proofs.RunLemmas.{reducible, run_reduced, one_node_more}
use Rattle.plain_parse.proofs.run.Run.settle.Goals as goal

pub reduce-requires : goal.reduce-requires
reduce-requires c =
    let t = c.args.tables.now in
    let tokens = c.args.tokens.now in
    let index = c.args.index in
    let act : act_in t (top_of c.loop-rule.self) (token_of t tokens index) ≡ Reduce c.in-Reduce.rule = ap (λ (q : ℕ). act_in t q (token_of t tokens index)) (sym c.top.ensures) ∙ ap (λ (a : ℕ). act_in t c.top.result a) (sym c.token_at-token.ensures) ∙ sym c.in-Reduce.ensures.act in
    reducible c.requires.lawful c.loop-rule.invariant c.requires.index act

pub loop-rule-smaller : goal.loop-rule-smaller
loop-rule-smaller c =
    let t = c.args.tables.now in
    let tokens = c.args.tokens.now in
    let index = c.args.index in
    let act : act_in t (top_of c.loop-rule.self) (token_of t tokens index) ≡ Reduce c.in-Reduce.rule = ap (λ (q : ℕ). act_in t q (token_of t tokens index)) (sym c.top.ensures) ∙ ap (λ (a : ℕ). act_in t c.top.result a) (sym c.token_at-token.ensures) ∙ sym c.in-Reduce.ensures.act in
    one_node_more c.requires.lawful c.loop-rule.invariant c.requires.index act c.reduce.new.self c.in_ok-reduce-in-Reduce.ensures

pub loop-rule-preserved : goal.loop-rule-preserved
loop-rule-preserved c =
    let t = c.args.tables.now in
    let tokens = c.args.tokens.now in
    let index = c.args.index in
    let act : act_in t (top_of c.loop-rule.self) (token_of t tokens index) ≡ Reduce c.in-Reduce.rule = ap (λ (q : ℕ). act_in t q (token_of t tokens index)) (sym c.top.ensures) ∙ ap (λ (a : ℕ). act_in t c.top.result a) (sym c.token_at-token.ensures) ∙ sym c.in-Reduce.ensures.act in
    run_reduced c.requires.lawful c.loop-rule.invariant c.requires.index act c.reduce.new.self c.in_ok-reduce-in-Reduce.ensures
