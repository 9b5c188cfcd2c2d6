use Rattle.std.proofs.Common.{◌≡◌, ◌+◌, List, [], ◌∷◌, ◌++◌, take, ap, ◌∙◌}
use Rattle.std.specs.List.{flat_map}
use Rattle.outline_data.specs.declared.outline.Word.{Word}
use Rattle.outline_theory.specs.Words.{texts, token_in}
use Rattle.outline_checks.specs.WordSets.{has_word}
use Rattle.outline_checks.proofs.ListLemmas.{next_joined}
use Rattle.outline_checks.proofs.KindLemmas.{texts_push, repeat_push}
use Rattle.outline_checks.proofs.declarations.index_tokens.Goals as goal

pub loop-declaration-preserved : goal.loop-declaration-preserved
loop-declaration-preserved c =
    let ds = c.args.declarations.now in
    let i = c.loop-declaration.declaration-index in
    let word : Word = c.in-Some.name.now in
    let before = flat_map token_in (take i ds) in
    let more : flat_map token_in (take (i + 1) ds) ≡ flat_map token_in (take i ds) ++ word ∷ [] = next_joined token_in ds i c.declaration-item.result c.loop-declaration-test.true c.declaration-item.is ∙ ap (λ (ws : List Word). flat_map token_in (take i ds) ++ ws) c.in-Some.ensures in
    record {
      tokens = rw (more, texts_push (flat_map token_in (take i ds)) word) (c.in_ok-note_again.ensures.more (texts (flat_map token_in (take i ds))) c.loop-declaration.invariant.tokens);
      noted = rw more (repeat_push (flat_map token_in (take i ds)) word (has_word c.loop-declaration.tokens word.bytes) (c.loop-declaration.invariant.tokens.same word.bytes) c.loop-declaration.invariant.noted c.in_ok-note_again.ensures.noted);
    }
