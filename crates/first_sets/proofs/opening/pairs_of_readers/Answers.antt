use Rattle.std.proofs.Common.{◌≡◌, ◌+◌, ◌<◌, [], ◌∷◌, ◌++◌, length, take, sym, ap, subst, ◌∙◌, arith}
use Rattle.std.proofs.lemmas.List.{take_more, length-take-le, length-append}
use Rattle.grammar_data.specs.declared.rule.Sym.TheVariants.{Name}
use Rattle.first_sets.specs.declared.opening.Opening.{Opening}
use Rattle.first_sets.specs.Openings.{AreReaders}
use Rattle.first_sets.proofs.OpeningLemmas.{readers_name, readers_other}
use Rattle.first_sets.proofs.opening.pairs_of_readers.Goals as goal
use Rattle.first_sets.proofs.opening.pairs_of_readers.Goals.{in-Name+in_ok-push, in_default}

pub loop-place-preserved : goal.loop-place-preserved
loop-place-preserved c =
    let openings = c.args.openings.now in
    let i = c.loop-place.place in
    let pairs = c.loop-place.pairs.items in
    let inside : i < length openings = omega arith in
    let last = c.index-openings-place.result in
    let grown : take (i + 1) openings ≡ take i openings ++ last ∷ [] =
    take_more openings i last inside ∙ ap (λ (o : Opening). take i openings ++ o ∷ []) (sym c.index-openings-place.is) in
    let long : length (take i openings) ≡ i = length-take-le i openings (omega arith) in
    elim c.match-opening.branch [
      | in-Name+in_ok-push w ↦
          let name = w.name.inside.0 in
          let pushed : c.match-opening.pairs.items ≡ pairs ++ (name, i) ∷ [] = ap (λ v. v.items) w.pairs-is ∙ w.in_ok-push.ensures.items in
          record {
            readers =
                subst (λ l. AreReaders l c.match-opening.pairs.items) (sym grown)
                (subst (λ l. AreReaders (take i openings ++ last ∷ []) l) (sym pushed)
                (subst (λ n. AreReaders (take i openings ++ last ∷ []) (pairs ++ (name, n) ∷ [])) long
                (readers_name (take i openings) last name pairs (w.in-Name.is ∙ ap Name (sym w.name.view_is)) c.loop-place.invariant.readers)));
            few = omega (arith, ap length pushed, length-append pairs ((name, i) ∷ []), c.loop-place.invariant.few);
          }
      | in_default w ↦ record {
        readers =
            subst (λ l. AreReaders l c.match-opening.pairs.items) (sym grown)
            (subst (λ v. AreReaders (take i openings ++ last ∷ []) v.items) (sym w.pairs-is)
            (readers_other (take i openings) last pairs w.in_default.not-Name c.loop-place.invariant.readers));
        few = omega (arith, ap (λ v. length v.items) w.pairs-is, c.loop-place.invariant.few);
      }
    ]
