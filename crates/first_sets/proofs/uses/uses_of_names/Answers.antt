use Rattle.std.proofs.Common.{◌<◌, ℕ, All, sym, subst}
use Rattle.first_sets.proofs.FactLemmas.{uses_below}
use Rattle.first_sets.proofs.uses.uses_of_names.Goals as goal

pub new-requires-clause-keys : goal.new-requires-clause-keys
new-requires-clause-keys c =
    subst (λ n. All (λ (pair : ℕ × ℕ). pair.0 < n) c.in_ok-pairs.pairs.items) (sym c.names.ensures)
    (uses_below c.args.grammar.now c.in_ok-pairs.pairs.items c.requires c.in_ok-pairs.ensures.uses)
