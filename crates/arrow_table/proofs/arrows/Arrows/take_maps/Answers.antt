use Rattle.std.proofs.Common.{◌≡◌, ℕ, List, sym, ap, subst}
use Rattle.std.specs.Prelude.{All}
use Rattle.table_data.specs.Tables.{Tables}
use Rattle.map_theory.specs.Maps.{StateMap}
use Rattle.state_sets.specs.Within.{AreWithin}
use Rattle.arrow_table.specs.Forgetting.{forgotten_maps}
use Rattle.arrow_table.proofs.ForgettingLemmas.{all_last}
use Rattle.arrow_table.proofs.arrows.Arrows.take_maps.Goals as goal

pub returns-clause-within : goal.returns-clause-within
returns-clause-within c =
    let s = c.self.inside in
    let same : s.maps.items ≡ c.replace-maps.result.items = ap (λ v. v.items) (sym c.replace-maps.ensures.value) in
    let last : All (AreWithin s.tables.now.states) s.maps.items = all_last (AreWithin s.tables.now.states) (forgotten_maps s.forgotten.items) s.maps.items c.self.invariant.right.within in
    subst (λ l. All (AreWithin c.args.self.now.0.states) l) same (subst (λ (v : Tables × List StateMap × ℕ). All (AreWithin v.0.states) s.maps.items) c.self.view_is last)
