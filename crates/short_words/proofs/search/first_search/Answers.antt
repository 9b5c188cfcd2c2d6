use Rattle.std.proofs.Common.{◌≡◌, ℕ, ◌<◌, [], ◌∷◌, ◌++◌, length, replicate, sym, ap, ◌∙◌, subst, arith}
use Rattle.std.specs.Prelude.{Bool, List, false, true, slice_index_or, slice_set}
use Rattle.short_words.specs.declared.search.Found.{Found}
use Rattle.short_words.specs.Searching.{IsSearchTo}
use Rattle.short_words.proofs.SearchLemmas.{start, started, none_seen}
use Rattle.short_words.proofs.search.first_search.Goals as goal

pub returns-clause-search : goal.returns-clause-search
returns-clause-search c = λ table.
    let all : c.in_ok-seen.seen.items ≡ replicate c.args.states false = c.in_ok-seen.ensures.items_if_clones_equal (λ y e. e) in
    let none : (k : ℕ) → slice_index_or c.in_ok-seen.seen.items k false ≡ false = λ k. ap (λ (l : List Bool). slice_index_or l k false) all ∙ none_seen c.args.states k in
    let some : 0 < length c.in_ok-seen.seen.items = omega (arith, c.in_ok-seen.ensures.len, c.requires) in
    let one : c.push.new.self.items ≡ start ∷ [] = c.in_ok-push.ensures.items ∙ ap (λ (l : List Found). l ++ start ∷ []) c.new-found.ensures.items in
    subst (λ (l : List Found). IsSearchTo table l (slice_set c.in_ok-seen.seen.items 0 true) 0) (sym one) (started table c.in_ok-seen.seen.items some none)
