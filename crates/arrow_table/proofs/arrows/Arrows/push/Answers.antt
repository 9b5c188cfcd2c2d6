use Rattle.std.proofs.Common.{◌≡◌, ℕ, List, [], ◌∷◌, ◌++◌, length, sym, ap, subst, ◌∙◌, arith, length-append}
use Rattle.std.specs.Prelude.{All}
use Rattle.std.proofs.lemmas.List.{append_assoc}
use Rattle.std.proofs.lemmas.List.Elements.{All-push}
use Rattle.table_data.specs.Tables.{Tables}
use Rattle.map_theory.specs.Maps.{StateMap}
use Rattle.state_sets.specs.Within.{AreWithin}
use Rattle.arrow_table.specs.Forgetting.{all_maps, forgotten_maps}
use Rattle.arrow_table.proofs.CellLemmas.{right_grown}
use Rattle.arrow_table.proofs.arrows.Arrows.push.Goals as goal

pub invariant_of-self-2 : goal.invariant_of-self-2
invariant_of-self-2 c =
    let s = c.self.inside in
    let t : Tables = s.tables.now in
    let gone : List StateMap = forgotten_maps s.forgotten.items in
    let maps : List StateMap = all_maps s.forgotten.items s.maps.items in
    let new : List StateMap = all_maps s.forgotten.items c.push.new.self.items in
    let pushed : new ≡ maps ++ c.args.arrow ∷ [] = ap (λ l. gone ++ l) c.in_ok-push.ensures.items ∙ sym (append_assoc gone s.maps.items (c.args.arrow ∷ [])) in
    let one : AreWithin t.states c.args.arrow = subst (λ (v : Tables × List StateMap × ℕ). AreWithin v.0.states c.args.arrow) (sym c.self.view_is) c.requires in
    let all : All (AreWithin t.states) new = subst (λ l. All (AreWithin t.states) l) (sym pushed) (All-push (AreWithin t.states) maps c.args.arrow c.self.invariant.right.within one) in
    record {
      counted = c.self.invariant.counted;
      few = omega (arith, ap length pushed, length-append maps (c.args.arrow ∷ []), length-append gone s.maps.items, c.self.invariant.counted, c.if-place.false, c.len.ensures);
      right = right_grown t maps new s.base s.looks s.steps s.memo (c.args.arrow ∷ [], pushed) all c.self.invariant.right;
    }
