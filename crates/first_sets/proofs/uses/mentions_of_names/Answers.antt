use Rattle.std.proofs.Common.{◌<◌, ℕ, All, sym, subst}
use Rattle.first_sets.proofs.FactLemmas.{mentions_below}
use Rattle.first_sets.proofs.uses.mentions_of_names.Goals as goal

pub new-requires-clause-keys : goal.new-requires-clause-keys
new-requires-clause-keys c =
    subst (λ n. All (λ (pair : ℕ × ℕ). pair.0 < n) c.in_ok-pairs.pairs.items) (sym c.names.ensures)
    (mentions_below c.args.grammar.now c.in_ok-pairs.pairs.items c.requires.grammar c.in_ok-pairs.ensures.mentions)
