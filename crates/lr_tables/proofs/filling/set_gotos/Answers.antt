use Rattle.std.proofs.Common.{ap, sym, ◌∙◌, arith}
use Rattle.grammar_data.specs.declared.rule.Sym.TheVariants.{Name}
use Rattle.table_data.specs.Tables.{Tables}
use Rattle.lr_tables.proofs.PutLemmas.{step_within}
use Rattle.lr_tables.proofs.filling.set_gotos.Goals as goal

pub set_goto-requires-clause-to : goal.set_goto-requires-clause-to
set_goto-requires-clause-to c =
    let setting = c.requires.setting in
    let within = step_within c.args.grammar.now c.args.collection.now setting.collection c.args.state c.in-Some.to (Name c.loop-name.name) c.requires.state (sym c.step.ensures ∙ c.in-Some.is) in
    omega (arith, within, setting.states, ap (λ (t : Tables). t.states) c.loop-name.invariant.rest)
