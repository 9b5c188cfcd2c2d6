use Rattle.std.proofs.Common.{refl, arith, ◌≡◌, ◌≢◌, ℕ, [], ◌∷◌}
use Rattle.pattern_data.proofs.ByteLemmas.{IsBitSet-no_word}
use Rattle.sheet_rows.proofs.scanning.upper_set.Goals as goal

pub from_words-requires : goal.from_words-requires
from_words-requires c = (λ none. not_none c.args.word (omega arith) none, IsBitSet-no_word 0 10 refl)
  where
    not_none : (word : ℕ) → word ≢ 0 → 0 ∷ word ∷ 0 ∷ 0 ∷ [] ≡ 0 ∷ 0 ∷ 0 ∷ 0 ∷ [] → ⊥
    not_none word some e = some (cc)
