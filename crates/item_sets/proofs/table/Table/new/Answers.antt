use Rattle.std.proofs.Common.{ℕ, ◌<◌, ◌+◌, List, [], length, arith, get_or, sym, ap, subst, ◌∙◌}
use Rattle.std.proofs.lemmas.List.{length_push}
use Rattle.item_sets.specs.declared.spot.Spot.{Spot}
use Rattle.item_sets.specs.Spots.{AreFronts}
use Rattle.item_sets.proofs.TableLemmas.{each_pushed}
use Rattle.item_sets.proofs.SettingLemmas.{setting_of}
use Rattle.item_sets.proofs.table.Table.new.Goals as goal

pub loop-name-preserved : goal.loop-name-preserved
loop-name-preserved c =
    let g = c.args.grammar.now in
    let k = c.loop-name.name in
    let row = c.in_ok-fronts_of.field-0 in
    record {
      count = ap length c.in_ok-push.ensures.items ∙ length_push c.loop-name.fronts.items row ∙ ap (λ m. m + 1) c.loop-name.invariant.count;
      each = subst (λ (rows : List (List Spot)). (n : ℕ) → n < k + 1 → AreFronts g n (get_or rows n [])) (sym c.in_ok-push.ensures.items)
          (each_pushed (AreFronts g) c.loop-name.fronts.items [] row k c.loop-name.invariant.count c.loop-name.invariant.each c.in_ok-fronts_of.ensures);
    }

pub returns : goal.returns
returns c =
    let g = c.args.grammar.now in
    setting_of g c.in_ok-rows.rows.items c.loop-name.fronts.items c.holds.ensures (record {
      spots = c.in_ok-rows.ensures;
      count = (let count = c.loop-name.invariant.count in omega arith);
      each = λ n less. c.loop-name.invariant.each n (omega arith);
    }) c.requires.productive
