use Rattle.std.proofs.Common.{length, subst}
use Rattle.first_sets.specs.EmptySizes.{AreSized, IsLeastUnsized}
use Rattle.first_sets.proofs.FactLemmas.{sizes_exact, too_large}
use Rattle.first_sets.proofs.analysis.checked_sizes.Goals as goal

pub returns-in-None : goal.returns-in-None
returns-in-None c =
    let nullable = c.args.nullable.now in
    let sizes = c.in_ok-sizes.sizes.items in
    let all : AreSized nullable sizes (length nullable) = subst (λ l. AreSized nullable l (length nullable)) c.deref.ensures.value c.in-None.ensures in
    sizes_exact c.args.grammar.now nullable sizes c.requires.nullable c.in_ok-sizes.ensures.sizes c.in_ok-sizes.ensures.count all

pub returns-in-Some : goal.returns-in-Some
returns-in-Some c =
    let nullable = c.args.nullable.now in
    let sizes = c.in_ok-sizes.sizes.items in
    let least : IsLeastUnsized nullable sizes c.in-Some.name = subst (λ l. IsLeastUnsized nullable l c.in-Some.name) c.deref.ensures.value c.in-Some.ensures in
    too_large c.args.grammar.now nullable sizes c.requires.nullable c.in_ok-sizes.ensures.sizes c.in-Some.name c.requires.count c.requires.productive c.requires.reachable least
