use Rattle.std.proofs.Common.{◌≡◌, ◌∙◌, sym, length, refl, arith}
use Rattle.std.specs.Prelude.{slice_get, Some}
use Rattle.std.proofs.lemmas.Option.{slice_get_read}
use Rattle.token_patterns.proofs.AheadLemmas.{ahead_more, behind_word_none, behind_word_all}
use Rattle.token_patterns.proofs.ahead.add_behind_word.Goals as goal

pub loop-place-preserved : goal.loop-place-preserved
loop-place-preserved c =
    let positions = c.args.positions.now in
    let row = c.index-positions-place.result in
    let at : slice_get positions c.loop-place.place ≡ Some row = slice_get_read positions (length positions) c.loop-place.place row refl (omega arith) c.index-positions-place.is in
    record {
      places = ahead_more positions c.loop-place.place row at c.args.set.now c.loop-place.ahead.items c.add_behind.new.ahead.items c.loop-place.invariant.places c.add_behind.ensures.places;
      set = c.add_behind.ensures.set c.args.size c.loop-place.invariant.set (c.requires.rows c.loop-place.place row at);
    }

pub add_behind-requires : goal.add_behind-requires
add_behind-requires c =
    let positions = c.args.positions.now in
    let row = c.index-positions-place.result in
    let at : slice_get positions c.loop-place.place ≡ Some row = slice_get_read positions (length positions) c.loop-place.place row refl (omega arith) c.index-positions-place.is in
    c.loop-place.invariant.set.size_is ∙ sym (c.requires.rows c.loop-place.place row at).size_is

pub returns-then-not-has_some-clause-places : goal.returns-then-not-has_some-clause-places
returns-then-not-has_some-clause-places c = behind_word_none c.args.positions.now c.args.set.now c.args.ahead.now.items c.args.index (c.if-not-has_some.ensures refl) c.requires.before

pub returns-clause-places : goal.returns-clause-places
returns-clause-places c = behind_word_all c.args.positions.now c.args.set.now c.loop-place.ahead.items c.loop-place.place c.args.index (omega arith) (λ less. omega arith) c.loop-place.invariant.places
