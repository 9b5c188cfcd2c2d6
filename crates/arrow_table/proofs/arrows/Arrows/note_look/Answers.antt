use Rattle.std.proofs.Common.{ℕ, ◌-◌, ◌<◌, ◌≤◌, List, length, sym, subst}
use Rattle.table_data.specs.Tables.{Tables}
use Rattle.map_theory.specs.Maps.{StateMap}
use Rattle.arrow_table.specs.Looks.{IsLook, IsLookFrom, map_at}
use Rattle.arrow_table.specs.Cells.{ChangesCell, IsLookKnown}
use Rattle.arrow_table.specs.Forgetting.{all_maps}
use Rattle.arrow_table.proofs.CellLemmas.{look_kept, look_set}
use Rattle.arrow_table.proofs.arrows.Arrows.note_look.Goals as goal

pub invariant_of-self : goal.invariant_of-self
invariant_of-self c =
    let s = c.self.inside in
    let t : Tables = s.tables.now in
    let maps : List StateMap = all_maps s.forgotten.items s.maps.items in
    let within : c.args.id < length maps = subst (λ (v : Tables × List StateMap × ℕ). c.args.id < length v.1) (sym c.self.view_is) c.requires.id in
    let stands : s.base ≤ c.args.id = subst (λ (v : Tables × List StateMap × ℕ). v.2 ≤ c.args.id) (sym c.self.view_is) c.requires.stands in
    let is : IsLook t c.args.token (map_at maps c.args.id) maps c.args.look.now = subst (λ (v : Tables × List StateMap × ℕ). IsLook v.0 c.args.token (map_at v.1 c.args.id) v.1 c.args.look.now) (sym c.self.view_is) c.requires.look in
    let from : IsLookFrom s.base c.args.look.now = subst (λ (v : Tables × List StateMap × ℕ). IsLookFrom v.2 c.args.look.now) (sym c.self.view_is) c.requires.from in
    let put : IsLookKnown t maps s.base c.args.id c.token.inside.0 c.by.result = subst (λ a. IsLookKnown t maps s.base c.args.id a c.by.result) (sym c.token.view_is) (subst (λ k. IsLookKnown t maps s.base c.args.id c.args.token k) (sym c.by.ensures) (look_kept t c.args.token maps s.base c.args.id c.args.look.now within is from)) in
    let changes : ChangesCell s.looks c.set.new.self (c.args.id - s.base) c.token.inside.0 c.by.result = subst (λ n. ChangesCell s.looks c.set.new.self (n - s.base) c.token.inside.0 c.by.result) c.number.ensures c.set.ensures.others in
    record {
      counted = c.self.invariant.counted;
      few = c.self.invariant.few;
      right = look_set t maps s.base s.looks c.set.new.self s.steps s.memo c.args.id c.token.inside.0 c.by.result stands c.set.ensures.width changes put c.self.invariant.right;
    }
