use Rattle.std.proofs.Common.{List, ℕ, true, sym, subst}
use Rattle.pattern_data.specs.Sets.{IsSetOf}
use Rattle.pattern_data.proofs.SetLemmas.{any_has}
use Rattle.pattern_data.proofs.bits.any_byte.Goals as goal

pub returns : goal.returns
returns c = let P : List ℕ → Type 0 = λ ws. IsSetOf (λ _. true) ws in subst P (sym c.from_words.ensures) any_has
