use Rattle.std.proofs.Common.{◌≡◌, ◌+◌, ◌∷◌, [], ℕ, List, ⊎_elim, length, length-append, sym, ap, ◌∙◌, subst}
use Rattle.std.specs.Prelude.{slice_get, Some}
use Rattle.std.specs.Global.{Vec}
use Rattle.position_sets.specs.Sets.{IsSetOfWords}
use Rattle.token_patterns.specs.Ahead.{IsMaskOf}
use Rattle.token_patterns.proofs.SetLemmas.{slice_get_cases}
use Rattle.token_patterns.proofs.masking.masks.Goals as goal

pub loop-byte-preserved : goal.loop-byte-preserved
loop-byte-preserved c =
    let masks = c.loop-byte.masks.items in
    let mask = c.in_ok-mask_of.field-0 in
    let pushed = c.in_ok-push.ensures.items in
    let positions = c.args.positions.now in
    record {
      count = ap length pushed ∙ length-append masks (mask ∷ []) ∙ ap (λ n. n + 1) c.loop-byte.invariant.count;
      masks = λ byte other at. ⊎_elim
          (λ before. c.loop-byte.invariant.masks byte other before)
          (λ here.
          let e : c.loop-byte.byte ≡ byte = sym (here.0 ∙ c.loop-byte.invariant.count) in
          subst (λ n. IsMaskOf positions n other.items) e (subst (λ (m : Vec ℕ). IsMaskOf positions c.loop-byte.byte m.items) here.1 c.in_ok-mask_of.ensures.mask))
          (slice_get_cases masks mask other byte (subst (λ (l : List (Vec ℕ)). slice_get l byte ≡ Some other) pushed at));
      sets = λ byte other at. ⊎_elim
          (λ before. c.loop-byte.invariant.sets byte other before)
          (λ here. subst (λ (m : Vec ℕ). IsSetOfWords c.args.size m.items) here.1 c.in_ok-mask_of.ensures.set)
          (slice_get_cases masks mask other byte (subst (λ (l : List (Vec ℕ)). slice_get l byte ≡ Some other) pushed at));
    }
