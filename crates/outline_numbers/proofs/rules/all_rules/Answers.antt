use Rattle.std.proofs.Common.{ap, ◌∙◌}
use Rattle.outline_data.specs.Parts.{OutlineParts}
use Rattle.numbering_theory.specs.KnownWords.{IsKnownGroup}
use Rattle.outline_numbers.specs.Symbols.{lists_in}
use Rattle.outline_numbers.proofs.WordLemmas.{all_at}
use Rattle.outline_numbers.proofs.rules.all_rules.Goals as goal

pub push_rules-requires-clause-known : goal.push_rules-requires-clause-known
push_rules-requires-clause-known c =
    all_at (IsKnownGroup (lists_in c.args.numbers.now)) c.deref-group-items.result.now c.args.outline.now.groups c.loop-group.group-index c.group-item.result (c.deref-group-items.ensures.value ∙ ap (λ (o : OutlineParts). o.groups) c.outline.view_is) c.requires.known c.loop-group-test.true c.group-item.is
