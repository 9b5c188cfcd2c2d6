use Rattle.std.proofs.Common.{◌+◌, [], ◌∷◌, refl, ap, ◌∙◌}
use Rattle.std.specs.Global.{Global}
use Rattle.std.specs.Prelude.{ℕ, Vec}
use Rattle.std.proofs.lemmas.List.{map-append}
use Rattle.name_table.specs.Markings.{lists_of}
use Rattle.name_table.proofs.PlaceLemmas.{one_rule_more, places_made}
use Rattle.name_table.proofs.marked_places.all_places.Goals as goal

pub loop-number-preserved : goal.loop-number-preserved
loop-number-preserved c =
    one_rule_more c.args.sheet.now c.args.marking.now (lists_of c.loop-number.lists.items) (lists_of c.push.new.self.items) c.loop-number.number (c.loop-number.number + 1) c.in_ok-places.places.items c.loop-number.invariant refl
    (ap lists_of c.in_ok-push.ensures.items ∙ map-append (λ (vector : Vec ℕ Global). vector.items) c.loop-number.lists.items (c.in_ok-places.places ∷ []))
    (places_made c.args.sheet.now c.args.marking.now c.loop-number.number c.declares.result.now c.right.result.now c.grammar-grammar.result.now c.in_ok-places.places.items c.grammar-grammar.ensures c.declares.ensures c.right.ensures.right c.in_ok-places.ensures)
