use Rattle.std.proofs.Common.{ℕ, ◌-◌, ◌<◌, ◌≤◌, List, length, sym, subst}
use Rattle.grammar_data.specs.declared.rule.Sym.TheVariants.{Name}
use Rattle.table_data.specs.Tables.{Tables}
use Rattle.map_theory.specs.Maps.{StateMap}
use Rattle.map_theory.specs.Relations.{IsThenSymbol}
use Rattle.arrow_table.specs.declared.known.Known.TheVariants.{Step}
use Rattle.arrow_table.specs.Looks.{HasMap, map_at}
use Rattle.arrow_table.specs.Cells.{ChangesCell, IsStepKnown}
use Rattle.arrow_table.specs.Forgetting.{all_maps}
use Rattle.arrow_table.proofs.CellLemmas.{step_kept, step_set}
use Rattle.arrow_table.proofs.arrows.Arrows.note_step.Goals as goal

pub invariant_of-self : goal.invariant_of-self
invariant_of-self c =
    let s = c.self.inside in
    let t : Tables = s.tables.now in
    let maps : List StateMap = all_maps s.forgotten.items s.maps.items in
    let within : c.args.id < length maps = subst (λ (v : Tables × List StateMap × ℕ). c.args.id < length v.1) (sym c.self.view_is) c.requires.id in
    let stands : s.base ≤ c.args.id = subst (λ (v : Tables × List StateMap × ℕ). v.2 ≤ c.args.id) (sym c.self.view_is) c.requires.stands in
    let has : HasMap maps c.args.to (IsThenSymbol t (Name c.args.name) (map_at maps c.args.id)) = subst (λ (v : Tables × List StateMap × ℕ). HasMap v.1 c.args.to (IsThenSymbol v.0 (Name c.args.name) (map_at v.1 c.args.id))) (sym c.self.view_is) c.requires.to in
    let from : s.base ≤ c.args.to = subst (λ (v : Tables × List StateMap × ℕ). v.2 ≤ c.args.to) (sym c.self.view_is) c.requires.from in
    let put : IsStepKnown t maps s.base c.args.id c.name.inside.0 (Step c.args.to) = subst (λ n. IsStepKnown t maps s.base c.args.id n (Step c.args.to)) (sym c.name.view_is) (step_kept t c.args.name maps s.base c.args.id c.args.to within has from) in
    let changes : ChangesCell s.steps c.set.new.self (c.args.id - s.base) c.name.inside.0 (Step c.args.to) = subst (λ n. ChangesCell s.steps c.set.new.self (n - s.base) c.name.inside.0 (Step c.args.to)) c.number.ensures c.set.ensures.others in
    record {
      counted = c.self.invariant.counted;
      few = c.self.invariant.few;
      right = step_set t maps s.base s.looks s.steps c.set.new.self s.memo c.args.id c.name.inside.0 (Step c.args.to) stands c.set.ensures.width changes put c.self.invariant.right;
    }
