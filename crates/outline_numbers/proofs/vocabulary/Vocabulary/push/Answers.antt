use Rattle.std.proofs.Common.{◌≡◌, ◌∙◌, sym, refl, length, arith}
use Rattle.std.specs.Prelude.{Some, None}
use Rattle.std.proofs.lemmas.Map.Text.{hash_map_updates_str}
use Rattle.outline_numbers.specs.Vocabularies.{place_in}
use Rattle.outline_numbers.proofs.VocabularyLemmas.{absent, present, new_places, old_places}
use Rattle.outline_numbers.proofs.vocabulary.Vocabulary.push.Goals as goal

pub returns-in_ok-insert-clause-places : goal.returns-in_ok-insert-clause-places
returns-in_ok-insert-clause-places c =
    let none : place_in c.args.self.now c.args.word.now ≡ None = sym c.get.ensures.value ∙ absent c.get.result c.is_none.result c.is_none.ensures c.if-is_none.true in
    let at : c.len-next.result ≡ length c.args.self.now.words.items = omega (arith, c.len-next.ensures, c.args.self.now.words.ok) in
    new_places c.args.self.now (record { words = c.push.new.self; places = c.insert.new.self }) c.args.word c.len-next.result c.requires none c.in_ok-push.ensures.items at (hash_map_updates_str c.args.word.now c.args.self.now.places c.insert.new.self (Some c.len-next.result) c.in_ok-insert.ensures.updates)

pub returns-else-is_none-clause-places : goal.returns-else-is_none-clause-places
returns-else-is_none-clause-places c =
    let some = present c.get.result c.is_none.result c.is_none.ensures c.if-is_none.false in
    old_places c.args.self.now (record { words = c.push.new.self; places = c.args.self.now.places }) c.args.word some.0 c.requires (sym c.get.ensures.value ∙ some.1) c.in_ok-push.ensures.items (λ w. refl)
