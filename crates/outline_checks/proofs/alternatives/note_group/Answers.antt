use Rattle.std.proofs.Common.{subst, ap, ◌∙◌}
use Rattle.std.specs.Prelude.{OnOk}
use Rattle.outline_data.specs.GroupParts.{GroupParts}
use Rattle.outline_checks.specs.Noted.{Noted}
use Rattle.outline_checks.specs.Kinds.{GroupFault, is_token_name}
use Rattle.outline_checks.proofs.KindLemmas.{group_noted, on_ok_then}
use Rattle.outline_checks.proofs.alternatives.note_group.Goals as goal

pub returns : goal.returns
returns c =
    let group : GroupParts = record { left = c.group.inside.left; alternatives = c.group.inside.alternatives.items } in
    subst (λ (g : GroupParts). OnOk c.note_alternatives.result (Noted c.args.first.now.fault c.note_alternatives.new.first.fault (GroupFault c.args.names.now g))) c.group.view_is (on_ok_then c.note_alternatives.result (group_noted c.args.names.now group c.is_token-is_token.result c.deref.result.now (c.is_token-is_token.ensures ∙ ap (is_token_name c.args.names.now) c.as_slice.ensures) c.deref.ensures.value c.note_if.ensures) c.note_alternatives.ensures)
