use Rattle.std.proofs.Common.{◌≡◌, ◌+◌, List, [], ◌∷◌, ◌++◌, take, ap, ◌∙◌}
use Rattle.std.specs.List.{flat_map}
use Rattle.outline_data.specs.declared.outline.Word.{Word}
use Rattle.outline_theory.specs.Words.{pattern_in}
use Rattle.outline_checks.proofs.ListLemmas.{next_joined}
use Rattle.outline_checks.proofs.KindLemmas.{patterns_push}
use Rattle.outline_checks.proofs.patterns.note_patterns.Goals as goal

pub loop-declaration-preserved : goal.loop-declaration-preserved
loop-declaration-preserved c =
    let ds = c.args.declarations.now in
    let i = c.loop-declaration.declaration-index in
    let word : Word = c.in-Some.pattern.now in
    let more : flat_map pattern_in (take (i + 1) ds) ≡ flat_map pattern_in (take i ds) ++ word ∷ [] = next_joined pattern_in ds i c.declaration-item.result c.loop-declaration-test.true c.declaration-item.is ∙ ap (λ (ws : List Word). flat_map pattern_in (take i ds) ++ ws) c.in-Some.ensures in
    rw more (patterns_push (flat_map pattern_in (take i ds)) word c.loop-declaration.invariant c.in_ok-note_pattern.ensures)
