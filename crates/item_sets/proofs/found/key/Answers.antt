use Rattle.std.proofs.Common.{◌≡◌, ◌+◌, ◌++◌, ◌∷◌, List, ℕ, [], take, sym, ap, ◌∙◌}
use Rattle.std.proofs.lemmas.List.{take_more}
use Rattle.collection_data.specs.declared.entry.Entry.{Entry}
use Rattle.item_sets.specs.Successors.{key_of}
use Rattle.item_sets.proofs.KernelLemmas.{key_pushed, key_joined}
use Rattle.item_sets.proofs.found.key.Goals as goal

pub loop-entry-preserved : goal.loop-entry-preserved
loop-entry-preserved c =
    let kernel = c.args.kernel.now in
    let k = c.loop-entry.entry-index in
    let e = c.entry-item.result in
    let key = c.loop-entry.key.items in
    let rule : c.from.result ≡ e.rule = c.from.ensures ∙ c.rule.view_is in
    let dot : c.from-in-loop-entry.result ≡ e.dot = c.from-in-loop-entry.ensures in
    let more : take (k + 1) kernel ≡ take k kernel ++ e ∷ [] = take_more kernel k e c.loop-entry-test.true ∙ ap (λ d. take k kernel ++ d ∷ []) (sym c.entry-item.is) in
    let first : c.push.new.self.items ≡ key ++ e.rule ∷ [] = c.in_ok-push.ensures.items ∙ ap (λ n. key ++ n ∷ []) rule in
    let second : c.push-in-loop-entry.new.self.items ≡ (key ++ e.rule ∷ []) ++ e.dot ∷ [] = c.in_ok-push-2.ensures.items ∙ ap (λ (l : List ℕ). l ++ c.from-in-loop-entry.result ∷ []) first ∙ ap (λ n. (key ++ e.rule ∷ []) ++ n ∷ []) dot in
    let third : c.extend_from_slice.new.self.items ≡ ((key ++ e.rule ∷ []) ++ e.dot ∷ []) ++ e.ahead = c.in_ok-extend_from_slice.ensures.items ∙ ap (λ (l : List ℕ). l ++ c.words.result) second ∙ ap (λ (l : List ℕ). ((key ++ e.rule ∷ []) ++ e.dot ∷ []) ++ l) c.words.ensures.words in
    third ∙ key_joined key e ∙ ap (λ (l : List ℕ). l ++ (e.rule ∷ (e.dot ∷ e.ahead))) c.loop-entry.invariant ∙ sym (key_pushed (take k kernel) e) ∙ ap (λ (l : List Entry). key_of l) (sym more)
