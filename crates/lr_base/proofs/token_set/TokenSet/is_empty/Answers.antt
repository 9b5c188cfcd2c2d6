use Rattle.std.proofs.Common.{nat_eq, sym, ap, ◌∙◌}
use Rattle.std.specs.Cmp.Lexicographic.{same_text}
use lib.Pointwise.{pointwise}
use Rattle.grammar_data.proofs.TokenSetLemmas.{equal_from_members, no_token, no_words, IsTokenSet-no_words}
use Rattle.grammar_data.specs.TokenSet.{has_token}
use Rattle.lr_base.proofs.token_set.TokenSet.is_empty.Goals as goal

pub returns : goal.returns
returns c =
    let words = c.self.inside.words in
    rw (← c.self.view_is) (
      λ yes a. ap (λ ws. has_token ws a) (same_text words no_words (sym yes ∙ c.eq.ensures)) ∙ no_token a,
      λ none. c.eq.ensures ∙ ap (λ ws. pointwise nat_eq ws no_words)
          (equal_from_members words no_words c.self.invariant IsTokenSet-no_words (λ a. none a ∙ sym (no_token a))),
    )
