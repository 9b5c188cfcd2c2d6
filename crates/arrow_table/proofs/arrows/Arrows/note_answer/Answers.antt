use Rattle.std.proofs.Common.{ℕ, ◌≤◌, List, sym, subst}
use Rattle.table_data.specs.Tables.{Tables}
use Rattle.map_theory.specs.Maps.{StateMap}
use Rattle.arrow_table.specs.Questions.{IsAnswer, IsAsked}
use Rattle.arrow_table.specs.Forgetting.{all_maps}
use Rattle.arrow_table.proofs.CellLemmas.{memo_set}
use Rattle.arrow_table.proofs.arrows.Arrows.note_answer.Goals as goal

pub invariant_of-self : goal.invariant_of-self
invariant_of-self c =
    let s = c.self.inside in
    let t : Tables = s.tables.now in
    let maps : List StateMap = all_maps s.forgotten.items s.maps.items in
    let asked : IsAsked t maps c.args.question = subst (λ (v : Tables × List StateMap × ℕ). IsAsked v.0 v.1 c.args.question) (sym c.self.view_is) c.requires.asked in
    let is : IsAnswer t maps maps c.args.question c.args.to = subst (λ (v : Tables × List StateMap × ℕ). IsAnswer v.0 v.1 v.1 c.args.question c.args.to) (sym c.self.view_is) c.requires.to in
    let from : s.base ≤ c.args.to = subst (λ (v : Tables × List StateMap × ℕ). v.2 ≤ c.args.to) (sym c.self.view_is) c.requires.from in
    record {
      counted = c.self.invariant.counted;
      few = c.self.invariant.few;
      right = memo_set t maps s.base s.looks s.steps s.memo c.keep.new.self c.args.question c.args.to c.keep.ensures asked is from c.self.invariant.right;
    }
