use Rattle.std.proofs.Common.{◌≡◌, ◌+◌, List, [], ◌∷◌, ◌++◌, take, ap, ◌∙◌}
use Rattle.std.specs.List.{flat_map}
use Rattle.outline_data.specs.declared.outline.Word.{Word}
use Rattle.outline_theory.specs.Words.{texts, literal_in}
use Rattle.outline_checks.specs.WordSets.{has_word}
use Rattle.outline_checks.proofs.ListLemmas.{next_joined}
use Rattle.outline_checks.proofs.KindLemmas.{texts_push, named_push}
use Rattle.outline_checks.proofs.declarations.note_named_literals.Goals as goal

pub loop-declaration-preserved : goal.loop-declaration-preserved
loop-declaration-preserved c =
    let ds = c.args.declarations.now in
    let i = c.loop-declaration.declaration-index in
    let word : Word = c.in-Some.literal.now in
    let before = flat_map literal_in (take i ds) in
    let more : flat_map literal_in (take (i + 1) ds) ≡ flat_map literal_in (take i ds) ++ word ∷ [] = next_joined literal_in ds i c.declaration-item.result c.loop-declaration-test.true c.declaration-item.is ∙ ap (λ (ws : List Word). flat_map literal_in (take i ds) ++ ws) c.in-Some.ensures in
    record {
      literals = rw (more, texts_push (flat_map literal_in (take i ds)) word) (c.in_ok-note_again.ensures.more (texts (flat_map literal_in (take i ds))) c.loop-declaration.invariant.literals);
      noted = rw more (named_push (flat_map literal_in (take i ds)) word (has_word c.loop-declaration.literals word.bytes) (c.loop-declaration.invariant.literals.same word.bytes) c.loop-declaration.invariant.noted c.in_ok-note_again.ensures.noted c.note_literal.ensures);
    }
