use Rattle.std.proofs.Common.{ℕ, ◌<◌, ◌≤◌, length, sym, subst, refl}
use Rattle.map_theory.specs.Maps.{target}
use Rattle.node_store.specs.Chunks.{store_of}
use Rattle.arrow_table.specs.Looks.{map_at}
use Rattle.segment_parser.specs.Entering.{AreEntered}
use Rattle.stack_join.proofs.PileLemmas.{known_right, over_there, piled}
use Rattle.stack_join.proofs.NumberLemmas.{from_both, over_stands}
use Rattle.segment_parser.specs.Numbers.{AreFrom}
use Rattle.stack_join.proofs.pushing.push_kids.Goals as goal

pub enter-requires-clause-own : goal.enter-requires-clause-own
enter-requires-clause-own c = subst (λ n. n < length c.args.arrows.now.1) (sym c.over.ensures) (over_there c.args.arrows.now.1 c.args.leaf.now c.requires.at.1.has)

pub enter-requires-clause-kids : goal.enter-requires-clause-kids
enter-requires-clause-kids c = known_right c.requires.at.1 c.args.kids.now c.requires.at.2

pub returns-clause-at : goal.returns-clause-at
returns-clause-at c met at kids tokens =
    let maps = c.args.arrows.now.1 in
    let ids = c.in_ok-ids.ids in
    piled c.requires.lawful.1 c.requires.lead at kids tokens record {
      grows = c.enter.ensures.grows;
      entered = subst (λ (n : ℕ). AreEntered c.args.arrows.now.0 (store_of c.args.store.now) (target (map_at maps n)) c.enter.new.arrows.1 c.args.kids.now ids.items) c.over.ensures c.in_ok-ids.ensures.entered;
      kids_are = c.in_ok-push_all.ensures.kids;
      ids_are = c.in_ok-append.ensures.items;
      floors = c.in_ok-push_all.ensures.floors;
      opened = refl;
      starts = refl;
      own = refl;
      faults = refl;
      stale = refl;
      first = refl;
      count = refl;
    }

pub enter-requires-clause-stands : goal.enter-requires-clause-stands
enter-requires-clause-stands c = subst (λ n. c.args.arrows.now.2 ≤ n) (sym c.over.ensures) (over_stands c.args.arrows.now.2 c.args.leaf.now c.requires.stand)

pub returns-clause-stand : goal.returns-clause-stand
returns-clause-stand c =
    let base = c.enter.new.arrows.2 in
    let was = c.args.arrows.now.2 in
    record {
      starts = subst (λ b. b ≤ c.args.leaf.now.starts) (sym c.enter.ensures.base) c.requires.stand.starts;
      own = subst (λ b. b ≤ c.args.leaf.now.own) (sym c.enter.ensures.base) c.requires.stand.own;
      entries = subst (λ l. AreFrom base l) (sym c.in_ok-append.ensures.items) (from_both base c.args.leaf.now.ids.items c.in_ok-ids.ids.items (subst (λ b. AreFrom b c.args.leaf.now.ids.items) (sym c.enter.ensures.base) c.requires.stand.entries) c.in_ok-ids.ensures.stand);
    }
