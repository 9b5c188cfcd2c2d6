use Rattle.std.proofs.Common.{◌≡◌, ℕ, ◌+◌, ◌++◌, ◌∷◌, List, [], length, get_or, take, sym, ap, subst, ◌∙◌, arith}
use Rattle.std.proofs.lemmas.List.{get_or_default, take_more, take_all}
use Rattle.item_sets.specs.declared.spot.Spot.{Spot}
use Rattle.item_sets.specs.Closing.{IsNameWithin, IsRowOpened}
use Rattle.item_sets.proofs.ClosingLemmas.{row_none, row_more, name_within}
use Rattle.item_sets.proofs.closing.Closing.open_name.Goals as goal

pub loop-spot-init : goal.loop-spot-init
loop-spot-init c = row_none c.aheads_of-from.result c.args.self.now.aheads c.args.self.now.work

pub open-requires : goal.open-requires
open-requires c =
    let fronts = c.args.table.now.fronts.items in
    let row = c.deref-spot-items.result.now in
    let at : row ≡ get_or fronts c.args.name row = cc in
    subst (λ k. IsNameWithin k c.spot-item.result.symbol) (sym c.loop-spot.invariant.grown.count)
    (name_within (length c.args.self.now.aheads) fronts c.requires.within c.args.name c.requires.name row at c.loop-spot.spot-index (omega arith) c.spot-item.result c.spot-item.is)

pub loop-spot-preserved : goal.loop-spot-preserved
loop-spot-preserved c =
    let row = c.deref-spot-items.result.now in
    let spot = c.spot-item.result in
    let more : take (c.loop-spot.spot-index + 1) row ≡ take c.loop-spot.spot-index row ++ spot ∷ [] =
    take_more row c.loop-spot.spot-index spot (omega arith) ∙ ap (λ s. take c.loop-spot.spot-index row ++ s ∷ []) (sym c.spot-item.is) in
    subst (λ (ss : List Spot). IsRowOpened ss c.aheads_of-from.result c.args.self.now.aheads c.args.self.now.work c.open.new.self.aheads c.open.new.self.work) (sym more)
    (row_more c.args.self.now.aheads c.args.self.now.work c.loop-spot.self.aheads c.loop-spot.self.work c.open.new.self.aheads c.open.new.self.work
    (take c.loop-spot.spot-index row) spot c.aheads_of-from.result c.loop-spot.invariant c.in_ok-open.ensures)

pub returns : goal.returns
returns c =
    let fronts = c.args.table.now.fronts.items in
    let old = c.args.self.now.aheads in
    let n = c.args.name in
    let row = c.deref-spot-items.result.now in
    let from = c.aheads_of-from.result in
    let at : row ≡ get_or fronts n row = cc in
    let same : row ≡ get_or fronts n [] = at ∙ get_or_default fronts n row [] c.requires.name in
    let was : from ≡ get_or old n [] = c.aheads_of-from.ensures in
    let all : take c.loop-spot.spot-index row ≡ get_or fronts n [] = take_all c.loop-spot.spot-index row c.loop-spot-test.false ∙ same in
    subst (λ (t : List ℕ). IsRowOpened (get_or fronts n []) t old c.args.self.now.work c.loop-spot.self.aheads c.loop-spot.self.work) was
    (subst (λ (ss : List Spot). IsRowOpened ss from old c.args.self.now.work c.loop-spot.self.aheads c.loop-spot.self.work) all c.loop-spot.invariant)
