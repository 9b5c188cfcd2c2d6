use Rattle.std.proofs.Common.{◌≡◌, length, refl, arith}
use Rattle.std.specs.Prelude.{slice_get, Some}
use Rattle.std.proofs.lemmas.Option.{slice_get_read}
use Rattle.token_patterns.proofs.AheadLemmas.{mask_more, mask_all}
use Rattle.token_patterns.proofs.masking.mask_of.Goals as goal

pub loop-place-preserved : goal.loop-place-preserved
loop-place-preserved c =
    let positions = c.args.positions.now in
    let row = c.index-positions-place.result in
    let at : slice_get positions c.loop-place.place ≡ Some row = slice_get_read positions (length positions) c.loop-place.place row refl c.loop-place-test.true c.index-positions-place.is in
    record {
      mask = mask_more positions c.loop-place.place row at c.args.byte c.loop-place.mask.items c.mark.new.mask.items c.loop-place.invariant.mask c.mark.ensures.places;
      set = c.mark.ensures.set c.args.size c.loop-place.invariant.set;
    }

pub returns-clause-mask : goal.returns-clause-mask
returns-clause-mask c = mask_all c.args.positions.now c.args.byte c.loop-place.place c.loop-place.mask.items (omega arith) c.loop-place.invariant.mask
