use Rattle.std.proofs.Common.{◌≡◌, ℕ, ◌-◌, ◌<◌, ◌≤◌, List, length, Some, sym, ap, subst, ◌∙◌, arith}
use Rattle.table_data.specs.Tables.{Tables}
use Rattle.map_theory.specs.Maps.{StateMap}
use Rattle.arrow_table.specs.declared.look.Look.{Look}
use Rattle.arrow_table.specs.Looks.{IsLook, IsLookFrom, map_at}
use Rattle.arrow_table.specs.Cells.{look_in, cell_at}
use Rattle.arrow_table.specs.Forgetting.{all_maps}
use Rattle.arrow_table.proofs.CellLemmas.{look_here, some_then}
use Rattle.arrow_table.proofs.arrows.Arrows.known_look.Goals as goal

pub returns : goal.returns
returns c =
    let s = c.self.inside in
    let maps : List StateMap = all_maps s.forgotten.items s.maps.items in
    let stands : s.base ≤ c.args.id = subst (λ (v : Tables × List StateMap × ℕ). v.2 ≤ c.args.id) (sym c.self.view_is) c.requires in
    let cell : look_in (cell_at s.looks (c.args.id - s.base) c.token.inside.0) ≡ c.look.result = ap (λ n. look_in (cell_at s.looks (n - s.base) c.token.inside.0)) (sym c.number.ensures) ∙ ap look_in (sym c.get.ensures) ∙ sym c.look.ensures in
    let inside : c.token.inside.0 < s.looks.0 = omega (arith, c.if-column-width.false, c.width.ensures) in
    let right : (said : Look) → c.look.result ≡ Some said → (c.args.id < length maps) × IsLook s.tables.now c.token.inside.0 (map_at maps c.args.id) maps said × IsLookFrom s.base said = λ said is. look_here s.tables.now maps s.base s.looks s.steps s.memo c.args.id c.token.inside.0 c.self.invariant.right stands inside said (cell ∙ is) in
    record {
      look = some_then (IsLook c.args.self.now.0 c.args.token (map_at c.args.self.now.1 c.args.id) c.args.self.now.1) c.look.result (λ said is. subst (λ (v : Tables × List StateMap × ℕ). IsLook v.0 c.args.token (map_at v.1 c.args.id) v.1 said) c.self.view_is (subst (λ a. IsLook s.tables.now a (map_at maps c.args.id) maps said) c.token.view_is (right said is).1));
      stands = some_then (IsLookFrom c.args.self.now.2) c.look.result (λ said is. subst (λ (v : Tables × List StateMap × ℕ). IsLookFrom v.2 said) c.self.view_is (right said is).2);
    }
