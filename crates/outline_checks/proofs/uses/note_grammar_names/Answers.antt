use Rattle.std.proofs.Common.{get_or}
use Rattle.outline_data.specs.declared.outline.PlaceUse.{PlaceUse}
use Rattle.outline_checks.specs.Kinds.{NoTokenFault}
use Rattle.outline_checks.proofs.ListLemmas.{get_or_default}
use Rattle.outline_checks.proofs.KindLemmas.{in_some_next, grammar_name_noted}
use Rattle.outline_checks.proofs.uses.note_grammar_names.Goals as goal

pub loop-used-preserved : goal.loop-used-preserved
loop-used-preserved c =
    let used : PlaceUse = get_or c.args.uses.now c.loop-used.used-index (record { place = 0; line = 0 }) in
    in_some_next (NoTokenFault c.args.names.now c.args.right.now) c.args.uses.now c.loop-used.used-index used c.loop-used-test.true (get_or_default c.args.uses.now c.loop-used.used-index (record { place = 0; line = 0 }) used c.loop-used-test.true) c.loop-used.invariant (grammar_name_noted c.args.names.now c.args.right.now used c.is_grammar_name-is_name.result c.is_grammar_name-is_name.ensures c.note_if.ensures)
