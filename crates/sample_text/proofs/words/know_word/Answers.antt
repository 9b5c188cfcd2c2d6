use Rattle.std.proofs.Common.{ℕ, ◌<◌, List, length, sym, ap, ◌∙◌, subst}
use Rattle.std.specs.Prelude.{Option, Some, None, slice_index_or, slice_set}
use Rattle.std.specs.Global.{Vec}
use Rattle.std.proofs.lemmas.List.{get_or-set_same}
use Rattle.sample_text.proofs.ClosingLemmas.{found_at, is_some_of}
use Rattle.sample_text.proofs.words.know_word.Goals as goal

pub returns-then-is_some-clause-this : goal.returns-then-is_some-clause-this
returns-then-is_some-clause-this c =
    let found : List (Option (Vec ℕ)) = c.args.found.now.items in
    let o : Option (Vec ℕ) = c.index.result.now in
    let w = is_some_of o (sym c.is_some.ensures ∙ c.if-is_some.true) in
    (w.0, found_at found c.token.inside.0 c.args.token o c.index.ensures c.token.view_is c.requires.token ∙ w.1)

pub returns-clause-this : goal.returns-clause-this
returns-clause-this c =
    let found : List (Option (Vec ℕ)) = c.args.found.now.items in
    let word : Vec ℕ = c.push.new.self in
    let below : c.token.inside.0 < length found = subst (λ k. k < length found) (sym c.token.view_is) c.requires.token in
    (word, ap (λ k. slice_index_or (slice_set found c.token.inside.0 (Some word)) k None) (sym c.token.view_is) ∙ get_or-set_same found c.token.inside.0 (Some word) None below)
