use Rattle.std.proofs.Common.{◌^◌, ◌<◌, ℕ, List, length, get_or, refl}
use Rattle.std.proofs.lemmas.List.Elements.{All-from_get_or}
use Rattle.position_sets.specs.Sets.{IsSetOfWords}
use Rattle.dead_ends.proofs.dead_ends.grow.Goals as goal

set_of : (words : List ℕ) → ((k d : ℕ) → k < length words → get_or words k d < 2 ^ 64) → IsSetOfWords (length words) words
set_of words fits = record { size_is = refl; fit = All-from_get_or (λ word. word < 2 ^ 64) words 0 (λ k below. fits k 0 below) }

pub returns-in_ok-resize-clause-fit : goal.returns-in_ok-resize-clause-fit
returns-in_ok-resize-clause-fit c = set_of _ c.type_inv.words

pub returns-else-len-size-clause-fit : goal.returns-else-len-size-clause-fit
returns-else-len-size-clause-fit c = set_of _ c.type_inv.words
