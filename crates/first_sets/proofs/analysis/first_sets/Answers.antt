use Rattle.std.proofs.Common.{All, sym, subst}
use Rattle.first_sets.specs.Openings.{IsFilled, IsOpeningOf, PassesOn}
use Rattle.first_sets.proofs.FactLemmas.{openings_in_range, passes_on, first_exactly}
use Rattle.first_sets.proofs.analysis.first_sets.Goals as goal

pub readers_of-requires-clause-range : goal.readers_of-requires-clause-range
readers_of-requires-clause-range c =
    let range = openings_in_range c.args.grammar.now c.args.nullable.now c.in_ok-openings.openings.items c.requires.grammar c.in_ok-openings.ensures.openings in
    subst (λ n. All (IsOpeningOf n) c.deref.result.now) (sym c.names.ensures)
    (subst (λ l. All (IsOpeningOf c.args.grammar.now.names) l) (sym c.deref.ensures.value) range)

pub first_tokens-requires-clause-range : goal.first_tokens-requires-clause-range
first_tokens-requires-clause-range c =
    subst (λ l. All (IsOpeningOf c.args.grammar.now.names) l) (sym c.deref-2.ensures.value)
    (openings_in_range c.args.grammar.now c.args.nullable.now c.in_ok-openings.openings.items c.requires.grammar c.in_ok-openings.ensures.openings)

pub first_tokens-requires-clause-passes : goal.first_tokens-requires-clause-passes
first_tokens-requires-clause-passes c =
    subst (λ l. PassesOn c.args.grammar.now l) (sym c.deref-2.ensures.value)
    (passes_on c.args.grammar.now c.args.nullable.now c.in_ok-openings.openings.items c.requires.grammar c.requires.productive c.requires.nullable c.in_ok-openings.ensures.openings)

pub returns-clause-tokens : goal.returns-clause-tokens
returns-clause-tokens c =
    let openings = c.in_ok-openings.openings.items in
    let sets = c.in_ok-sets.sets.items in
    let filled : All (IsFilled sets) openings = subst (λ l. All (IsFilled sets) l) c.deref-2.ensures.value c.in_ok-sets.ensures.filled in
    first_exactly c.args.grammar.now c.args.nullable.now openings sets c.requires.nullable c.in_ok-openings.ensures.openings c.in_ok-sets.ensures.sound filled
