use Rattle.std.proofs.Common.{ℕ, All, sym, subst}
use Rattle.node_store.specs.Chunks.{store_of}
use Rattle.arrow_table.specs.declared.look.Look.TheVariants as look
use Rattle.arrow_table.specs.Looks.{IsLook, map_at}
use Rattle.segment_parser.specs.Working.{last_id}
use Rattle.table_data.specs.Tables.{Tables}
use Rattle.segment_parser.specs.Entering.{IsKnown}
use Rattle.segment_parser.proofs.RetraceLemmas.{leaf_known}
use Rattle.segment_parser.proofs.SettleLemmas.{died_step, reduced_step, shifted_step, stuck_step}
use Rattle.segment_parser.proofs.leaf.Leaf.step.Goals as goal

pub returns-in_ok-die-in-Died-clause-at : goal.returns-in_ok-die-in-Died-clause-at
returns-in_ok-die-in-Died-clause-at c tokens index looking =
    let t = c.args.arrows.now.0 in
    let maps = c.args.arrows.now.1 in
    let mid = c.look.new.self.1 in
    let s = c.args.self.now in
    let token = c.args.token.now in
    let alive = c.in-Died.alive in
    let looked : IsLook t token.id (map_at maps (last_id s.ids.items)) mid c.in_ok-alive.field-0 = subst (λ (i : ℕ). IsLook t token.id (map_at maps i) mid c.in_ok-alive.field-0) c.top.ensures c.in_ok-alive.ensures.look in
    let is : IsLook t token.id (map_at maps (last_id s.ids.items)) mid (look.Died alive) = subst (λ x. IsLook t token.id (map_at maps (last_id s.ids.items)) mid x) c.in-Died.is looked in
    let died = c.in_ok-die-in-Died.ensures in
    died_step t c.look.new.self.0 c.look.ensures.tables c.requires.lawful c.requires.lead (store_of c.args.store.now) maps mid c.die.new.arrows.1 s c.die.new.self tokens index token alive c.look.ensures.grows is.1 died.grows
    died.faults died.starts died.own died.ids died.stale died.block died.same.0 died.same.1 died.same.2 looking

pub returns-in_ok-reduce-in-Reduce-clause-at : goal.returns-in_ok-reduce-in-Reduce-clause-at
returns-in_ok-reduce-in-Reduce-clause-at c tokens index looking =
    let t = c.args.arrows.now.0 in
    let maps = c.args.arrows.now.1 in
    let mid = c.look.new.self.1 in
    let s = c.args.self.now in
    let token = c.args.token.now in
    let rule = c.in-Reduce.rule in
    let looked : IsLook t token.id (map_at maps (last_id s.ids.items)) mid c.in_ok-alive.field-0 = subst (λ (i : ℕ). IsLook t token.id (map_at maps i) mid c.in_ok-alive.field-0) c.top.ensures c.in_ok-alive.ensures.look in
    let is : IsLook t token.id (map_at maps (last_id s.ids.items)) mid (look.Reduce rule) = subst (λ x. IsLook t token.id (map_at maps (last_id s.ids.items)) mid x) c.in-Reduce.is looked in
    reduced_step t c.look.new.self.0 c.look.ensures.tables (store_of c.args.store.now) (store_of c.reduce.new.store) maps mid c.reduce.new.arrows.1 s c.reduce.new.self tokens index token rule c.look.ensures.grows is.0 is.1
    c.in_ok-reduce-in-Reduce.ensures.at looking

pub returns-in_ok-shift-in-Shift-clause-at : goal.returns-in_ok-shift-in-Shift-clause-at
returns-in_ok-shift-in-Shift-clause-at c tokens index looking =
    let t = c.args.arrows.now.0 in
    let maps = c.args.arrows.now.1 in
    let mid = c.look.new.self.1 in
    let s = c.args.self.now in
    let token = c.args.token.now in
    let to = c.in-Shift.to in
    let looked : IsLook t token.id (map_at maps (last_id s.ids.items)) mid c.in_ok-alive.field-0 = subst (λ (i : ℕ). IsLook t token.id (map_at maps i) mid c.in_ok-alive.field-0) c.top.ensures c.in_ok-alive.ensures.look in
    let is : IsLook t token.id (map_at maps (last_id s.ids.items)) mid (look.Shift to) = subst (λ x. IsLook t token.id (map_at maps (last_id s.ids.items)) mid x) c.in-Shift.is looked in
    let shifted = c.in_ok-shift-in-Shift.ensures in
    shifted_step t (store_of c.args.store.now) maps mid s c.shift.new.self tokens index token to c.look.ensures.grows is.0 is.1 is.2
    shifted.same
    shifted.stale shifted.count shifted.kids shifted.ids looking

pub returns-in-Stuck-clause-at : goal.returns-in-Stuck-clause-at
returns-in-Stuck-clause-at c tokens index looking =
    let t = c.args.arrows.now.0 in
    let maps = c.args.arrows.now.1 in
    let mid = c.look.new.self.1 in
    let s = c.args.self.now in
    let token = c.args.token.now in
    let looked : IsLook t token.id (map_at maps (last_id s.ids.items)) mid c.in_ok-alive.field-0 = subst (λ (i : ℕ). IsLook t token.id (map_at maps i) mid c.in_ok-alive.field-0) c.top.ensures c.in_ok-alive.ensures.look in
    let is : IsLook t token.id (map_at maps (last_id s.ids.items)) mid look.Stuck = subst (λ x. IsLook t token.id (map_at maps (last_id s.ids.items)) mid x) c.in-Stuck.is looked in
    stuck_step t (store_of c.args.store.now) maps mid s tokens index token c.look.ensures.grows is.1 looking

pub reduce-requires-clause-known : goal.reduce-requires-clause-known
reduce-requires-clause-known c =
    let at = c.requires.at.3.at in
    let s = c.args.self.now in
    let store = store_of c.args.store.now in
    subst (λ (x : Tables). All (IsKnown x.rules store) s.block.kids) (sym c.look.ensures.tables) (leaf_known c.args.arrows.now.1 s at.has.even at.leaf.growing)
