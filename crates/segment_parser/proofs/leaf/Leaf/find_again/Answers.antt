use Rattle.std.proofs.Common.{◌≡◌, ◌+◌, ◌-◌, ◌++◌, ℕ, List, All, take, drop, length, sym, ap, ◌∙◌, subst, subst₂, arith}
use Rattle.std.specs.Prelude.{slice_range}
use Rattle.std.proofs.lemmas.List.Elements.{All-drop, All-take}
use Rattle.node_data.specs.declared.kid.Kid.{Kid}
use Rattle.table_data.specs.Tables.{Tables}
use Rattle.map_theory.specs.Maps.{target}
use Rattle.node_store.specs.Chunks.{store_of}
use Rattle.arrow_table.specs.Looks.{map_at}
use Rattle.segment_parser.specs.Entering.{AreEntered, IsKnown}
use Rattle.segment_parser.proofs.RetraceLemmas.{is_rewritten, length-range, place_written}
use Rattle.segment_parser.proofs.FlushLemmas.{as_items}
use Rattle.segment_parser.proofs.leaf.Leaf.find_again.Goals as goal

pub enter-requires-clause-kids : goal.enter-requires-clause-kids
enter-requires-clause-kids c =
    let t = c.args.arrows.now.0 in
    let store = store_of c.args.store.now in
    let first = c.kept_below-first.result in
    let count : ℕ = c.args.depth + 1 - first in
    let kids = c.args.self.now.block.kids in
    let known : All (IsKnown t.rules store) (take count (drop first kids)) = All-take {X = Kid} (IsKnown t.rules store) count (drop first kids) (All-drop {X = Kid} (IsKnown t.rules store) first kids c.requires.known) in
    subst₂ (λ (x : Tables) (l : List Kid). All (IsKnown x.rules store) (take count (drop first l))) (sym c.over.ensures.tables) (sym c.open_list.ensures) known

pub returns-clause-again : goal.returns-clause-again
returns-clause-again c =
    let t = c.args.arrows.now.0 in
    let store = store_of c.args.store.now in
    let maps = c.args.arrows.now.1 in
    let mid = c.over.new.arrows.1 in
    let new = c.enter.new.arrows.1 in
    let s = c.args.self.now in
    let depth = c.args.depth in
    let first = c.kept_below-first.result in
    let from = c.in_ok-from.from in
    let ids = s.ids.items in
    let fresh = c.in_ok-fresh.fresh.items in
    let put = c.overwrite.new.ids in
    let kids : List Kid = slice_range c.open_list.result.now first (depth + 1) in
    let kids_are : kids ≡ slice_range s.block.kids first (depth + 1) = ap (λ (l : List Kid). slice_range l first (depth + 1)) c.open_list.ensures in
    let entered : AreEntered t store (target (map_at mid from)) new kids fresh = subst (λ (x : Tables). AreEntered x store (target (map_at mid from)) new kids fresh) c.over.ensures.tables c.in_ok-fresh.ensures.entered in
    let written : put ≡ take first ids ++ (fresh ++ drop (first + length fresh) ids) = c.overwrite.ensures ∙ (λ i. take first (c.deref_mut.ensures.value i) ++ (c.deref.ensures.value i ++ drop (first + length (c.deref.ensures.value i)) (c.deref_mut.ensures.value i))) in
    let deep = c.requires.depth in
    let less = c.kept_below-first.ensures.within in
    let long : length put ≡ length ids = c.overwrite.auto.ids ∙ ap length c.deref_mut.ensures.value in
    let whole : take s.ids.len (put ++ drop (length put) ids) ≡ put = as_items s.ids.len ids put (let f = s.ids.ok.0 in omega (arith, f)) long in
    is_rewritten t store maps mid new s first depth from kids fresh (take s.ids.len (put ++ drop (length put) ids)) c.requires.maps less deep c.in_ok-from.ensures.over kids_are entered (whole ∙ written)

pub returns-clause-stands : goal.returns-clause-stands
returns-clause-stands c =
    let s = c.args.self.now in
    let depth = c.args.depth in
    let first = c.kept_below-first.result in
    let ids = s.ids.items in
    let fresh = c.in_ok-fresh.fresh.items in
    let put = c.overwrite.new.ids in
    let kids : List Kid = slice_range c.open_list.result.now first (depth + 1) in
    let kids_are : kids ≡ slice_range s.block.kids first (depth + 1) = ap (λ (l : List Kid). slice_range l first (depth + 1)) c.open_list.ensures in
    let written : put ≡ take first ids ++ (fresh ++ drop (first + length fresh) ids) = c.overwrite.ensures ∙ (λ i. take first (c.deref_mut.ensures.value i) ++ (c.deref.ensures.value i ++ drop (first + length (c.deref.ensures.value i)) (c.deref_mut.ensures.value i))) in
    let deep = c.requires.depth in
    let less = c.kept_below-first.ensures.within in
    let long : length put ≡ length ids = c.overwrite.auto.ids ∙ ap length c.deref_mut.ensures.value in
    let whole : take s.ids.len (put ++ drop (length put) ids) ≡ put = as_items s.ids.len ids put (let f = s.ids.ok.0 in omega (arith, f)) long in
    let even = c.requires.maps.even in
    let passed = ap length kids_are ∙ length-range s.block.kids first (depth + 1) (omega (arith, less)) (omega (arith, deep, even)) in
    let counted = c.in_ok-fresh.ensures.entered.even in
    let end : first + length fresh ≡ depth + 1 = omega (arith, passed, counted, less) in
    place_written c.enter.new.arrows.2 first depth ids fresh (take s.ids.len (put ++ drop (length put) ids)) less deep end (whole ∙ written) c.in_ok-fresh.ensures.stand
