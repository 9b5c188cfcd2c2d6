use Rattle.std.proofs.Common.{◌≡◌, ◌<◌, ◌/◌, length, get_or, ◌∙◌, arith}
use Rattle.std.proofs.lemmas.List.{get_or_default}
use Rattle.grammar_data.proofs.WordLemmas.{insert_numbers}
use Rattle.position_sets.proofs.PlaceLemmas.{set_of_words-set}
use Rattle.position_sets.proofs.places.insert.Goals as goal

pub returns-clause-places : goal.returns-clause-places
returns-clause-places c =
    let within : c.args.place / 64 < length c.args.set.now.items = omega arith in
    let word : c.index_mut.result.now ≡ get_or c.args.set.now.items (c.args.place / 64) 0 = c.index_mut.ensures.value ∙ get_or_default c.args.set.now.items (c.args.place / 64) c.index_mut.result.now 0 within in
    rw word (insert_numbers c.args.set.now.items c.args.place c.requires)

pub returns-clause-set : goal.returns-clause-set
returns-clause-set c =
    let within : c.args.place / 64 < length c.args.set.now.items = omega arith in
    let word : c.index_mut.result.now ≡ get_or c.args.set.now.items (c.args.place / 64) 0 = c.index_mut.ensures.value ∙ get_or_default c.args.set.now.items (c.args.place / 64) c.index_mut.result.now 0 within in
    rw word (λ size h. set_of_words-set size c.args.set.now.items c.args.place c.requires h)
