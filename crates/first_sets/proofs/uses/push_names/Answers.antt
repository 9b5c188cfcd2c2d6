use Rattle.std.proofs.Common.{◌≡◌, ◌+◌, ◌<◌, [], ◌∷◌, ◌++◌, length, take, sym, ap, subst, ◌∙◌, arith}
use Rattle.std.proofs.lemmas.List.{take_more}
use Rattle.grammar_data.specs.declared.rule.Sym.{Sym}
use Rattle.grammar_data.specs.declared.rule.Sym.TheVariants.{Name}
use Rattle.first_sets.specs.KnownNames.{HasNamesOf}
use Rattle.first_sets.proofs.UseLemmas.{names_name, names_other}
use Rattle.first_sets.proofs.uses.push_names.Goals as goal
use Rattle.first_sets.proofs.uses.push_names.Goals.{in-Name+in_ok-push, in_default}

pub loop-symbol-preserved : goal.loop-symbol-preserved
loop-symbol-preserved c =
    let right = c.args.right.now in
    let i = c.loop-symbol.symbol-index in
    let inside : i < length right = omega arith in
    let x = c.symbol-item.result in
    let old = c.args.pairs.now.items in
    let grown : take (i + 1) right ≡ take i right ++ x ∷ [] = take_more right i x inside ∙ ap (λ (y : Sym). take i right ++ y ∷ []) (sym c.symbol-item.is) in
    elim c.match-symbol.branch [
      | in-Name+in_ok-push w ↦
          let name = w.name.inside.0 in
          let is : x ≡ Name name = w.in-Name.is ∙ ap Name (sym w.name.view_is) in
          let pushed : c.match-symbol.pairs.items ≡ c.loop-symbol.pairs.items ++ (name, c.args.number) ∷ [] =
          ap (λ v. v.items) w.pairs-is ∙ w.in_ok-push.ensures.items in
          subst (λ l. HasNamesOf l c.args.number old c.match-symbol.pairs.items) (sym (grown ∙ ap (λ (y : Sym). take i right ++ y ∷ []) is))
          (subst (λ l. HasNamesOf (take i right ++ Name name ∷ []) c.args.number old l) (sym pushed)
          (names_name (take i right) name c.args.number old c.loop-symbol.pairs.items c.loop-symbol.invariant))
      | in_default w ↦
          subst (λ l. HasNamesOf l c.args.number old c.match-symbol.pairs.items) (sym grown)
          (subst (λ v. HasNamesOf (take i right ++ x ∷ []) c.args.number old v.items) (sym w.pairs-is)
          (names_other (take i right) x c.args.number old c.loop-symbol.pairs.items w.in_default.not-Name c.loop-symbol.invariant))
    ]
