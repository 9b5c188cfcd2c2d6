use Rattle.std.proofs.Common.{[], ◌∷◌, ap, ◌∙◌}
use Rattle.std.proofs.lemmas.List.Concat.{flat_map_single}
use Rattle.outline_data.specs.GroupParts.{GroupParts}
use Rattle.outline_data.specs.Parts.{OutlineParts}
use Rattle.outline_theory.specs.Words.{texts}
use Rattle.numbering_theory.specs.Places.{with_words}
use Rattle.outline_numbers.proofs.WordLemmas.{noted_next, noted_all}
use Rattle.outline_numbers.proofs.words.grammar_names.Goals as goal

pub loop-group-preserved : goal.loop-group-preserved
loop-group-preserved c = record {
  words = c.in_ok-note_left.ensures.words ∙ ap (λ b. with_words b (texts ((λ (g : GroupParts). g.left ∷ []) c.group-item.result))) c.loop-group.invariant.words ∙ noted_next (λ (g : GroupParts). g.left ∷ []) [] c.deref-group-items.result.now c.args.outline.now.groups c.loop-group.group-index c.group-item.result (c.deref-group-items.ensures.value ∙ ap (λ (o : OutlineParts). o.groups) c.outline.view_is) c.loop-group-test.true c.group-item.is;
  places = c.in_ok-note_left.ensures.places;
}

pub returns-clause-words : goal.returns-clause-words
returns-clause-words c =
    c.loop-group.invariant.words ∙ noted_all (λ (g : GroupParts). g.left ∷ []) [] c.deref-group-items.result.now c.args.outline.now.groups c.loop-group.group-index (c.deref-group-items.ensures.value ∙ ap (λ (o : OutlineParts). o.groups) c.outline.view_is) c.loop-group-test.false ∙ ap (λ ws. with_words [] (texts ws)) (flat_map_single (λ (g : GroupParts). g.left) c.args.outline.now.groups)
