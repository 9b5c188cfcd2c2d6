use Rattle.std.proofs.Common.{◌≡◌, length, refl, arith}
use Rattle.position_sets.proofs.BeginLemmas.{one_place}
use Rattle.position_sets.proofs.following.follow_set.Goals as goal

pub returns : goal.returns
returns c =
    let place : c.len-place.result ≡ length c.args.positions.now.items = omega arith in
    record {
      ok = record {
        row = record { bytes = c.args.bytes; next = c.in_ok-next.next };
        added = c.in_ok-push.ensures.items;
        bytes_are = refl;
        next_is = c.in_ok-next.ensures.items;
        front_set = c.insert.ensures.set c.args.size c.in_ok-front.ensures.set;
        front_has = rw (← place) (one_place c.insert.new.set.items c.in_ok-front.front.items c.len-place.result c.in_ok-front.ensures.none c.insert.ensures.places);
      };
    }
