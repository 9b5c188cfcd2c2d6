use Rattle.std.proofs.Common.{◌∙◌, ◌<◌, ◌^◌, sym, subst, List, ℕ, get_or, refl, arith}
use Rattle.std.specs.Prelude.{bit_and}
use Rattle.std.proofs.lemmas.Nat.{and_le_l}
use Rattle.pattern_data.specs.Sets.{IsSetOf}
use Rattle.pattern_data.proofs.SetLemmas.{without_feed_words, without_feed-bit, without_feed-feed, all_small, set_from, no_set, zero_words, words_zero}
use Rattle.pattern_data.proofs.bits.set_of_bits.Goals as goal

pub returns-then-eq : goal.returns-then-eq
returns-then-eq c = λ has bits. no_set (without_feed_words c.args.words.now) has (zero_words _ _ _ _ (sym c.eq.ensures ∙ c.if-eq.true)) (λ byte below other. without_feed-bit c.args.words.now byte below other ∙ bits byte below)

pub from_words-requires : goal.from_words-requires
from_words-requires c = (words_zero _ _ _ _ (sym c.eq.ensures ∙ c.if-eq.false), without_feed-feed c.args.words.now)

pub returns : goal.returns
returns c = λ has bits.
    let P : List ℕ → Type 0 = λ ws. IsSetOf has ws in
    let first : bit_and (get_or c.args.words.now 0 0) 18446744073709550591 < 2 ^ 64 = let less = and_le_l (get_or c.args.words.now 0 0) 18446744073709550591 in omega (arith, less) in
    subst P (sym c.from_words.ensures)
    (set_from (without_feed_words c.args.words.now) has (words_zero _ _ _ _ (sym c.eq.ensures ∙ c.if-eq.false), without_feed-feed c.args.words.now) refl
    (all_small _ _ _ _ first (c.fits-words 1) (c.fits-words 2) (c.fits-words 3))
    (λ byte below other. without_feed-bit c.args.words.now byte below other ∙ bits byte below))
