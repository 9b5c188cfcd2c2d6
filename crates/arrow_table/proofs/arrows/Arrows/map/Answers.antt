use Rattle.std.proofs.Common.{ℕ, ◌-◌, ◌<◌, List, length, sym, ap, subst, arith, length-append}
use Rattle.std.specs.Prelude.{All}
use Rattle.table_data.specs.Tables.{Tables}
use Rattle.map_theory.specs.Maps.{StateMap}
use Rattle.state_sets.specs.Within.{AreWithin}
use Rattle.arrow_table.specs.Forgetting.{forgotten_maps}
use Rattle.arrow_table.proofs.ForgettingLemmas.{all_last}
use Rattle.arrow_table.proofs.arrows.Arrows.map.Goals as goal

pub returns-clause-within : goal.returns-clause-within
returns-clause-within c =
    let s = c.self.inside in
    let gone : List StateMap = forgotten_maps s.forgotten.items in
    let last : All (AreWithin s.tables.now.states) s.maps.items = all_last (AreWithin s.tables.now.states) gone s.maps.items c.self.invariant.right.within in
    let inside : c.number.result - s.base < length s.maps.items = omega (arith, c.number.ensures, c.requires.id, c.requires.stands, c.self.invariant.counted, length-append gone s.maps.items, ap (λ (v : Tables × List StateMap × ℕ). length v.1) c.self.view_is, ap (λ (v : Tables × List StateMap × ℕ). v.2) c.self.view_is) in
    let here : AreWithin s.tables.now.states c.index.result.now = subst (λ m. AreWithin s.tables.now.states m) (sym c.index.ensures) (last (c.number.result - s.base) c.index.result.now inside) in
    subst (λ (v : Tables × List StateMap × ℕ). AreWithin v.0.states c.index.result.now) c.self.view_is here
