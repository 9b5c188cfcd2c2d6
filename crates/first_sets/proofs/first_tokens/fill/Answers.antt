use Rattle.std.proofs.Common.{◌≡◌, ◌↔◌, ℕ, IsTrue, MatchBool, get_or, set, [], sym, ap, subst, ◌∙◌}
use Rattle.std.proofs.lemmas.List.{get_or_read}
use Rattle.grammar_data.specs.TokenSet.{has_token}
use Rattle.first_sets.specs.declared.opening.Opening.{Opening}
use Rattle.first_sets.specs.Openings.{Begins, IsFilled, IsFilledBy, set_at}
use Rattle.first_sets.proofs.FillLemmas.{fill_result}
use Rattle.first_sets.proofs.first_tokens.fill.Goals as goal

pub returns : goal.returns
returns c =
    let o = c.args.opening.now in
    let sets = c.args.sets.now.items in
    let new = c.union.new.self in
    let tokens = c.tokens_of-tokens.result in
    let left = ap (λ (p : Opening). p.left) c.opening.view_is in
    let symbol = ap (λ (p : Opening). p.symbol) c.opening.view_is in
    let old : c.index_mut.result.now ≡ set_at sets o.left =
    get_or_read sets o.left c.index_mut.result.now c.requires.range.left (c.index_mut.ensures.value ∙ ap (λ k. get_or sets k c.index_mut.result.now) left) [] in
    let begins : (a : ℕ) → IsTrue (has_token tokens a) ↔ Begins sets o.symbol a =
    subst (λ l. (a : ℕ) → IsTrue (has_token tokens a) ↔ Begins l o.symbol a) c.deref.ensures.value
    (subst (λ x. (a : ℕ) → IsTrue (has_token tokens a) ↔ Begins c.deref.result.now x a) symbol c.tokens_of-tokens.ensures.tokens) in
    subst (λ n. MatchBool c.union.result (IsFilledBy o sets (set sets n new)) (IsFilled (set sets n new) o × (set sets n new ≡ sets))) (sym left)
    (fill_result c.union.result o sets c.index_mut.result.now new tokens old c.union.ensures.members c.union.ensures.grew begins c.tokens_of-tokens.ensures.set c.union.ensures.set)
