use Rattle.std.proofs.Common.{ap, ◌∙◌, refl}
use Rattle.outline_data.specs.AlternativeParts.{AlternativeParts}
use Rattle.outline_checks.proofs.KindLemmas.{alternative_noted}
use Rattle.outline_checks.proofs.alternatives.note_alternative.Goals as goal

pub returns : goal.returns
returns c =
    let right = c.as_slice-right.ensures.value ∙ ap (λ (a : AlternativeParts). a.right) c.alternative.view_is in
    alternative_noted c.args.names.now c.args.alternative.now c.as_slice-right.result.now c.template_of.result.now c.deref.result.now c.deref-2.result.now _ right c.template_of.ensures (c.deref.ensures.value ∙ ap (λ (a : AlternativeParts). a.marks) c.alternative.view_is) (c.deref-2.ensures.value ∙ ap (λ (a : AlternativeParts). a.marks) c.alternative.view_is) refl c.note_symbols.ensures c.in_ok-note_template.ensures c.in_ok-note_places.ensures c.note_grammar_names.ensures
