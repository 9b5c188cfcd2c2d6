use Rattle.std.proofs.Common.{ap, ◌∙◌}
use Rattle.outline_data.specs.Parts.{OutlineParts}
use Rattle.outline_checks.specs.declared.names.Names.{Names}
use Rattle.outline_checks.proofs.LineLemmas.{KnowsNames, first_found}
use Rattle.outline_checks.proofs.lines.first_line_fault.Goals as goal

pub returns : goal.returns
returns c =
    let names : Names = record { tokens = c.in_ok-index_tokens.field-0; left_sides = c.in_ok-index_left_sides.field-0 } in
    let outline = c.args.outline.now in
    let declarations = ap (λ (o : OutlineParts). o.declarations) c.outline.view_is in
    let groups = ap (λ (o : OutlineParts). o.groups) c.outline.view_is in
    let knows : KnowsNames outline names = record {
      tokens = rw (c.deref.ensures.value ∙ declarations) at c.in_ok-index_tokens.ensures.tokens;
      left_sides = rw (c.deref-2.ensures.value ∙ groups) at c.in_ok-index_left_sides.ensures;
    } in
    first_found outline names c.new-first.ensures knows (rw (c.deref.ensures.value ∙ declarations) at c.in_ok-index_tokens.ensures.noted) (rw (c.deref-3.ensures.value ∙ declarations) at c.in_ok-note_named_literals.ensures) (rw (c.deref-4.ensures.value ∙ declarations) at c.in_ok-note_patterns.ensures) (rw (c.deref-5.ensures.value ∙ declarations) at c.note_starts.ensures) (rw (c.deref-6.ensures.value ∙ groups) at c.in_ok-note_groups.ensures)
