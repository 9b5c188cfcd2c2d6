use Rattle.std.proofs.Common.{◌≡◌, ◌<◌, ◌+◌, ℕ, List, [], ◌∷◌, ◌++◌, length, take, get_or, sym, ap, ◌∙◌, append_assoc, arith}
use Rattle.std.proofs.lemmas.List.{take_more, map-append}
use Rattle.std.proofs.lemmas.Option.{get_or_from_slice_get}
use Rattle.node_data.specs.declared.kid.Kid.{Kid}
use Rattle.node_data.specs.declared.kid.Kid.TheVariants.{Hidden}
use Rattle.node_store.specs.Kids.{kids_seen}
use Rattle.name_table.specs.Pending.{kids_at}
use Rattle.name_table.proofs.parts.push_parts.Goals as goal

pub loop-place-preserved : goal.loop-place-preserved
loop-place-preserved c =
    let kids = kids_seen c.args.kids in
    let places = c.args.places.now in
    let at = c.loop-place.place-index in
    let inside : at < length places = omega (arith, c.loop-place-test.true) in
    let kid : get_or kids (get_or places at 0) Hidden ≡ c.packed.result = get_or_from_slice_get kids (get_or places at 0) c.packed.result Hidden c.packed.ensures in
    let step : kids_at kids (take (at + 1) places) ≡ kids_at kids (take at places) ++ c.packed.result ∷ [] =
    ap (kids_at kids) (take_more places at 0 inside) ∙ map-append (λ (place : ℕ). get_or kids place Hidden) (take at places) (get_or places at 0 ∷ []) ∙ ap (λ (k : Kid). kids_at kids (take at places) ++ k ∷ []) kid in
    c.in_ok-push.ensures.items ∙ ap (λ (l : List Kid). l ++ c.packed.result ∷ []) c.loop-place.invariant ∙ append_assoc c.args.parts.now.items (kids_at kids (take at places)) (c.packed.result ∷ [])
    ∙ ap (λ (l : List Kid). c.args.parts.now.items ++ l) (sym step)
