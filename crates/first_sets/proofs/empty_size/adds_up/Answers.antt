use Rattle.std.proofs.Common.{◌≡◌, ◌+◌, ◌-◌, ◌<◌, ◌↔◌, ◌∷◌, length, drop, sym, ap, subst, ◌∙◌, arith}
use Rattle.std.proofs.lemmas.List.{drop_more}
use Rattle.grammar_data.specs.declared.rule.Sym.{Sym}
use Rattle.grammar_theory.specs.EmptyNames.{AddsUp}
use Rattle.first_sets.specs.EmptySizes.{size_in, symbol_size_in}
use Rattle.first_sets.proofs.RoundLemmas.{adds_more}
use Rattle.first_sets.proofs.empty_size.adds_up.Goals as goal

pub loop-symbol-preserved : goal.loop-symbol-preserved
loop-symbol-preserved c =
    let right = c.args.right.now in
    let sizes = c.args.sizes.now in
    let i = c.loop-symbol.symbol-index in
    let x = c.symbol-item.result in
    let rest = c.loop-symbol.rest in
    let inside : i < length right = omega arith in
    let here : drop i right ≡ x ∷ drop (i + 1) right = drop_more right i x inside ∙ ap (λ (y : Sym). y ∷ drop (i + 1) right) (sym c.symbol-item.is) in
    let more : AddsUp (size_in sizes) (x ∷ drop (i + 1) right) rest ↔ AddsUp (size_in sizes) (drop (i + 1) right) (rest - symbol_size_in sizes x) =
    adds_more sizes x (drop (i + 1) right) rest (omega (arith, c.symbol_size-size.ensures)) (omega (arith, c.symbol_size-size.ensures)) in
    let size : rest - symbol_size_in sizes x ≡ rest - c.symbol_size-size.result = ap (λ k. rest - k) (sym c.symbol_size-size.ensures) in (
      λ sum. c.loop-symbol.invariant.0 (subst (λ l. AddsUp (size_in sizes) l rest) (sym here) (more.1 (subst (λ k. AddsUp (size_in sizes) (drop (i + 1) right) k) (sym size) sum))),
      λ sum. subst (λ k. AddsUp (size_in sizes) (drop (i + 1) right) k) size (more.0 (subst (λ l. AddsUp (size_in sizes) l rest) here (c.loop-symbol.invariant.1 sum))),
    )
