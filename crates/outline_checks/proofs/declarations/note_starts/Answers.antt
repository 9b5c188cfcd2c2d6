use Rattle.std.proofs.Common.{◌≡◌, ◌+◌, ◌<◌, true, false, List, [], ◌∷◌, ◌++◌, length, take, refl, sym, ap, subst, ◌∙◌, arith, length-append}
use Rattle.std.specs.Prelude.{◌↔◌, not}
use Rattle.std.specs.List.{flat_map}
use Rattle.outline_data.specs.declared.outline.Declaration.{Declaration}
use Rattle.outline_theory.specs.Words.{StartUse, start_in}
use Rattle.outline_checks.specs.Noted.{Noted}
use Rattle.outline_checks.specs.Kinds.{StartFault, is_left_side}
use Rattle.outline_checks.proofs.ListLemmas.{next_joined}
use Rattle.outline_checks.proofs.KindLemmas.{starts_push, not_true_iff}
use Rattle.outline_checks.proofs.declarations.note_starts.Goals as goal

pub loop-declaration-preserved : goal.loop-declaration-preserved
loop-declaration-preserved c =
    let ds = c.args.declarations.now in
    let i = c.loop-declaration.declaration-index in
    let start : StartUse = record { line = c.in-Start.line; name = c.in-Start.name } in
    let more : flat_map start_in (take (i + 1) ds) ≡ flat_map start_in (take i ds) ++ start ∷ [] = next_joined start_in ds i c.declaration-item.result c.loop-declaration-test.true c.declaration-item.is ∙ ap (λ (d : Declaration). flat_map start_in (take i ds) ++ start_in d) c.in-Start.is in
    let size : 0 < length (flat_map start_in (take (i + 1) ds)) = omega (arith, ap length more, length-append (flat_map start_in (take i ds)) (start ∷ [])) in
    let unknown : (not c.has_rule-is_unknown.result ≡ true) ↔ (is_left_side c.args.names.now start.name.bytes ≡ false) = not_true_iff c.has_rule-is_unknown.result (is_left_side c.args.names.now start.name.bytes) (c.has_rule-is_unknown.ensures ∙ ap (is_left_side c.args.names.now) c.as_slice.ensures) in
    record {
      has = (λ _. size, λ _. refl);
      noted = subst (λ (ss : List StartUse). Noted c.args.first.now.fault c.note_if-in-loop-declaration.new.self.fault (StartFault c.args.names.now ss)) (sym more) (starts_push c.args.names.now (flat_map start_in (take i ds)) start c.loop-declaration.has_start _ c.loop-declaration.invariant.has unknown c.loop-declaration.invariant.noted c.note_if.ensures c.note_if-in-loop-declaration.ensures);
    }
