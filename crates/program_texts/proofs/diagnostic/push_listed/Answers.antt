use Rattle.program_texts.proofs.DiagnosticLemmas.{listed_parts}
use Rattle.program_texts.proofs.diagnostic.push_listed.Goals as goal

pub returns-in_ok-push_others : goal.returns-in_ok-push_others
returns-in_ok-push_others c =
    listed_parts c.args.names.now c.args.tokens.now c.in-Some.others.now c.in-Some.first.now c.args.text.now.items c.push_name.new.list.items c.push_others.new.text.items c.in-Some.ensures.cases.0 c.in_ok-push_name.ensures c.in_ok-push_others.ensures
