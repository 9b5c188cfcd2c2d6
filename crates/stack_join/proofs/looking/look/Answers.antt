use Rattle.std.proofs.Common.{◌<◌, ◌≤◌, ◌∙◌, ℕ, All, length, sym, subst}
use Rattle.table_data.specs.Tables.{Tables}
use Rattle.lr_machine.specs.IsTables.{IsTables}
use Rattle.node_store.specs.Chunks.{store_of}
use Rattle.arrow_table.specs.declared.look.Look.TheVariants as look
use Rattle.arrow_table.specs.Looks.{IsLook, IsLookFrom, map_at}
use Rattle.segment_parser.specs.Working.{last_id}
use Rattle.segment_parser.specs.Entering.{IsKnown}
use Rattle.segment_parser.specs.Numbers.{AreFrom}
use Rattle.stack_join.proofs.StandingLemmas.{more_then}
use Rattle.stack_join.proofs.LookLemmas.{died_seam, reduced_seam, seam_entry, top_there, rule_there, shift_decided, stuck_decided}
use Rattle.stack_join.proofs.SeamLemmas.{seam_later}
use Rattle.stack_join.proofs.NumberLemmas.{all_then, from_last, known_open, stand_then}
use Rattle.stack_join.proofs.looking.look.Goals as goal

pub top-requires : goal.top-requires
top-requires c = seam_entry c.requires.at.5

pub look-requires-clause-id : goal.look-requires-clause-id
look-requires-clause-id c = subst (λ (k : ℕ). k < length c.args.arrows.now.1) (sym c.top.ensures) (top_there c.requires.at.5.kept_as.has (seam_entry c.requires.at.5))

pub die-requires-clause-some : goal.die-requires-clause-some
die-requires-clause-some c = seam_entry c.requires.at.5

pub returns-in_err-die-in-Died-clause-grows : goal.returns-in_err-die-in-Died-clause-grows
returns-in_err-die-in-Died-clause-grows c = more_then c.args.arrows.now.1 c.look.new.self.1 c.die.new.arrows.1 c.look.ensures.grows c.die.ensures.grows

pub reduce-requires-clause-rule : goal.reduce-requires-clause-rule
reduce-requires-clause-rule c =
    let t = c.args.arrows.now.0 in
    let maps = c.args.arrows.now.1 in
    let mid = c.look.new.self.1 in
    let s = c.args.leaf.now in
    let token = c.args.token.now in
    let rule = c.in-Reduce.rule in
    let looked : IsLook t token.id (map_at maps (last_id s.ids.items)) mid c.in_ok-alive.field-0 = subst (λ (i : ℕ). IsLook t token.id (map_at maps i) mid c.in_ok-alive.field-0) c.top.ensures c.in_ok-alive.ensures.look in
    let is : IsLook t token.id (map_at maps (last_id s.ids.items)) mid (look.Reduce rule) = subst (λ x. IsLook t token.id (map_at maps (last_id s.ids.items)) mid x) c.in-Reduce.is looked in
    subst (λ (x : Tables). rule < length x.rules) (sym c.look.ensures.tables) (rule_there t (subst IsTables c.tables.ensures c.holds.ensures) token.id rule (map_at maps (last_id s.ids.items)) is.1)

pub returns-in_ok-die-in-Died-clause-at : goal.returns-in_ok-die-in-Died-clause-at
returns-in_ok-die-in-Died-clause-at c front right rest w first at =
    let t = c.args.arrows.now.0 in
    let maps = c.args.arrows.now.1 in
    let mid = c.look.new.self.1 in
    let s = c.args.leaf.now in
    let token = c.args.token.now in
    let alive = c.in-Died.alive in
    let looked : IsLook t token.id (map_at maps (last_id s.ids.items)) mid c.in_ok-alive.field-0 = subst (λ (i : ℕ). IsLook t token.id (map_at maps i) mid c.in_ok-alive.field-0) c.top.ensures c.in_ok-alive.ensures.look in
    let is : IsLook t token.id (map_at maps (last_id s.ids.items)) mid (look.Died alive) = subst (λ x. IsLook t token.id (map_at maps (last_id s.ids.items)) mid x) c.in-Died.is looked in
    let died = c.in_ok-die-in-Died.ensures in
    died_seam t c.look.new.self.0 c.look.ensures.tables c.requires.lawful c.requires.lead (store_of c.args.store.now) maps mid c.die.new.arrows.1 s c.die.new.self front right rest w token alive first c.look.ensures.grows is.1 died.same.1 died.open at

pub returns-in_ok-reduce-in-Reduce-clause-at : goal.returns-in_ok-reduce-in-Reduce-clause-at
returns-in_ok-reduce-in-Reduce-clause-at c front right rest w first at =
    let t = c.args.arrows.now.0 in
    let maps = c.args.arrows.now.1 in
    let mid = c.look.new.self.1 in
    let s = c.args.leaf.now in
    let token = c.args.token.now in
    let rule = c.in-Reduce.rule in
    let looked : IsLook t token.id (map_at maps (last_id s.ids.items)) mid c.in_ok-alive.field-0 = subst (λ (i : ℕ). IsLook t token.id (map_at maps i) mid c.in_ok-alive.field-0) c.top.ensures c.in_ok-alive.ensures.look in
    let is : IsLook t token.id (map_at maps (last_id s.ids.items)) mid (look.Reduce rule) = subst (λ x. IsLook t token.id (map_at maps (last_id s.ids.items)) mid x) c.in-Reduce.is looked in
    let reduced = c.in_ok-reduce-in-Reduce.ensures in
    reduced_seam t c.look.new.self.0 c.look.ensures.tables (store_of c.args.store.now) (store_of c.reduce.new.store) maps mid c.reduce.new.arrows.1 s c.reduce.new.self front right rest w token rule first c.look.ensures.grows is.0 is.1 reduced.more reduced.open at

pub returns-in-Shift-clause-at : goal.returns-in-Shift-clause-at
returns-in-Shift-clause-at c front right rest w first at = seam_later c.args.arrows.now.1 c.look.new.self.1 c.look.ensures.grows at

pub returns-in-Shift-clause-decided : goal.returns-in-Shift-clause-decided
returns-in-Shift-clause-decided c =
    let t = c.args.arrows.now.0 in
    let maps = c.args.arrows.now.1 in
    let mid = c.look.new.self.1 in
    let s = c.args.leaf.now in
    let token = c.args.token.now in
    let looked : IsLook t token.id (map_at maps (last_id s.ids.items)) mid c.in_ok-alive.field-0 = subst (λ (i : ℕ). IsLook t token.id (map_at maps i) mid c.in_ok-alive.field-0) c.top.ensures c.in_ok-alive.ensures.look in
    let is : IsLook t token.id (map_at maps (last_id s.ids.items)) mid (look.Shift c.in-Shift.field-0) = subst (λ x. IsLook t token.id (map_at maps (last_id s.ids.items)) mid x) c.in-Shift.is looked in
    shift_decided t maps mid s token c.look.ensures.grows (top_there c.requires.at.5.kept_as.has (seam_entry c.requires.at.5)) is.0 is.1

pub returns-in-Stuck-clause-at : goal.returns-in-Stuck-clause-at
returns-in-Stuck-clause-at c front right rest w first at = seam_later c.args.arrows.now.1 c.look.new.self.1 c.look.ensures.grows at

pub returns-in-Stuck-clause-decided : goal.returns-in-Stuck-clause-decided
returns-in-Stuck-clause-decided c =
    let t = c.args.arrows.now.0 in
    let maps = c.args.arrows.now.1 in
    let mid = c.look.new.self.1 in
    let s = c.args.leaf.now in
    let token = c.args.token.now in
    let looked : IsLook t token.id (map_at maps (last_id s.ids.items)) mid c.in_ok-alive.field-0 = subst (λ (i : ℕ). IsLook t token.id (map_at maps i) mid c.in_ok-alive.field-0) c.top.ensures c.in_ok-alive.ensures.look in
    let is : IsLook t token.id (map_at maps (last_id s.ids.items)) mid look.Stuck = subst (λ x. IsLook t token.id (map_at maps (last_id s.ids.items)) mid x) c.in-Stuck.is looked in
    stuck_decided t maps mid s token c.look.ensures.grows (top_there c.requires.at.5.kept_as.has (seam_entry c.requires.at.5)) is.1

pub look-requires-clause-stands : goal.look-requires-clause-stands
look-requires-clause-stands c = subst (λ n. c.args.arrows.now.2 ≤ n) (sym c.top.ensures) (from_last c.args.arrows.now.2 c.args.leaf.now.ids.items c.requires.stand.entries (seam_entry c.requires.at.5))

pub die-requires-clause-stand : goal.die-requires-clause-stand
die-requires-clause-stand c = stand_then c.args.arrows.now.2 c.look.new.self.2 c.args.leaf.now c.look.ensures.base c.requires.stand

pub die-requires-clause-alive_stands : goal.die-requires-clause-alive_stands
die-requires-clause-alive_stands c = subst (λ x. IsLookFrom c.look.new.self.2 x) c.in-Died.is c.in_ok-alive.ensures.stands

pub reduce-requires-clause-stand : goal.reduce-requires-clause-stand
reduce-requires-clause-stand c = stand_then c.args.arrows.now.2 c.look.new.self.2 c.args.leaf.now c.look.ensures.base c.requires.stand

pub reduce-requires-clause-known : goal.reduce-requires-clause-known
reduce-requires-clause-known c = subst (λ (x : Tables). All (IsKnown x.rules (store_of c.args.store.now)) c.args.leaf.now.block.kids) (sym c.look.ensures.tables) (known_open c.requires.at.5)

pub returns-in_ok-die-in-Died-clause-stand : goal.returns-in_ok-die-in-Died-clause-stand
returns-in_ok-die-in-Died-clause-stand c =
    let base = c.look.ensures.base in
    let stand = c.in_ok-die-in-Died.ensures in
    all_then c.args.arrows.now.2 c.die.new.arrows.2 c.args.leaf.now c.die.new.self (stand.base ∙ base) c.requires.stand stand.stand (λ from. stand.levels (subst (λ b. AreFrom b c.args.leaf.now.ids.items) stand.base from))

pub returns-in_ok-reduce-in-Reduce-clause-stand : goal.returns-in_ok-reduce-in-Reduce-clause-stand
returns-in_ok-reduce-in-Reduce-clause-stand c =
    let base = c.look.ensures.base in
    let stand = c.in_ok-reduce-in-Reduce.ensures in
    all_then c.args.arrows.now.2 c.reduce.new.arrows.2 c.args.leaf.now c.reduce.new.self (stand.base ∙ base) c.requires.stand stand.stand (λ from. stand.levels (subst (λ b. AreFrom b c.args.leaf.now.ids.items) stand.base from))
