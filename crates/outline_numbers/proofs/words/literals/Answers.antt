use Rattle.std.proofs.Common.{ap, ◌∙◌}
use Rattle.std.specs.List.{flat_map}
use Rattle.outline_data.specs.AlternativeParts.{AlternativeParts}
use Rattle.outline_data.specs.GroupParts.{GroupParts}
use Rattle.outline_data.specs.Parts.{OutlineParts}
use Rattle.outline_theory.specs.Words.{texts, quoted_in}
use Rattle.outline_theory.specs.Numbering.{literal_of_token}
use Rattle.numbering_theory.specs.Places.{with_words}
use Rattle.outline_numbers.proofs.WordLemmas.{noted_next, noted_all, flat_map-nested}
use Rattle.outline_numbers.proofs.words.literals.Goals as goal

pub loop-group-preserved : goal.loop-group-preserved
loop-group-preserved c = record {
  words = c.in_ok-note_sides.ensures.words ∙ ap (λ b. with_words b (texts ((λ (g : GroupParts). flat_map (λ (a : AlternativeParts). flat_map quoted_in a.right) g.alternatives) c.group-item.result))) c.loop-group.invariant.words ∙ noted_next (λ (g : GroupParts). flat_map (λ (a : AlternativeParts). flat_map quoted_in a.right) g.alternatives) (flat_map literal_of_token c.args.outline.now.declarations) c.deref-group-items.result.now c.args.outline.now.groups c.loop-group.group-index c.group-item.result (c.deref-group-items.ensures.value ∙ ap (λ (o : OutlineParts). o.groups) c.outline.view_is) c.loop-group-test.true c.group-item.is;
  places = c.in_ok-note_sides.ensures.places;
}

pub returns-clause-words : goal.returns-clause-words
returns-clause-words c =
    let base = flat_map literal_of_token c.args.outline.now.declarations in
    c.loop-group.invariant.words ∙ noted_all (λ (g : GroupParts). flat_map (λ (a : AlternativeParts). flat_map quoted_in a.right) g.alternatives) base c.deref-group-items.result.now c.args.outline.now.groups c.loop-group.group-index (c.deref-group-items.ensures.value ∙ ap (λ (o : OutlineParts). o.groups) c.outline.view_is) c.loop-group-test.false ∙ ap (λ ws. with_words base (texts ws)) (flat_map-nested (λ (a : AlternativeParts). flat_map quoted_in a.right) (λ (g : GroupParts). g.alternatives) c.args.outline.now.groups)
