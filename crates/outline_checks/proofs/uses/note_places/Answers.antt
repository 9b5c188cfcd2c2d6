use Rattle.std.proofs.Common.{◌≡◌, ◌+◌, true, [], ◌∷◌, ◌++◌, take, get_or}
use Rattle.std.specs.Prelude.{◌↔◌, Contains}
use Rattle.outline_data.specs.declared.outline.PlaceUse.{PlaceUse}
use Rattle.outline_theory.specs.Words.{places}
use Rattle.outline_checks.proofs.ListLemmas.{next_taken, get_or_default}
use Rattle.outline_checks.proofs.KindLemmas.{places_of_push, places_push}
use Rattle.outline_checks.proofs.uses.note_places.Goals as goal

pub loop-used-preserved : goal.loop-used-preserved
loop-used-preserved c =
    let uses = c.args.uses.now in
    let i = c.loop-used.used-index in
    let used : PlaceUse = get_or uses i (record { place = 0; line = 0 }) in
    let more : take (i + 1) uses ≡ take i uses ++ used ∷ [] = next_taken uses i used c.loop-used-test.true (get_or_default uses i (record { place = 0; line = 0 }) used c.loop-used-test.true) in
    let was : (c.in_ok-was_there.was_there ≡ true) ↔ Contains (places (take i uses)) used.place = rw c.in_ok-was_there.ensures.was (c.loop-used.invariant.places.same used.place) in
    record {
      places = rw (more, places_of_push (take i uses) used) (c.in_ok-was_there.ensures.more (places (take i uses)) c.loop-used.invariant.places);
      noted = rw more (places_push c.args.size (take i uses) used c.is_out_of_range.result c.in_ok-was_there.was_there c.is_out_of_range.ensures was c.loop-used.invariant.noted c.note_if.ensures c.note_if-in-loop-used.ensures);
    }
