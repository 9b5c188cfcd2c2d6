use Rattle.std.proofs.Common.{◌≡◌, ◌||◌, ◌++◌, ◌∷◌, ℕ, ◌<◌, List, [], length, get_or, set, true, false, ap, sym, subst, ◌∙◌, arith}
use Rattle.std.proofs.lemmas.List.{get_or_default, get_or_read, length-set}
use Rattle.grammar_data.specs.TokenSet.{has_token}
use Rattle.item_sets.specs.Closing.{IsAdded, IsMarked, PartClosure}
use Rattle.item_sets.proofs.ClosingLemmas.{added_grew, added_waiting, added_same, marked_set, marked_more}
use Rattle.item_sets.proofs.closing.Closing.add.Goals as goal
use Rattle.item_sets.proofs.closing.Closing.add.Goals.{else-union-via-then-union+else-not-index, else-union-via-else-union}

pub invariant_of-self : goal.invariant_of-self
invariant_of-self c =
    let old = c.self.inside.lookaheads.items in
    let work = c.self.inside.work.items in
    let waits = c.self.inside.waits.items in
    let n = c.name.inside.0 in
    let both = c.union.new.self in
    subst (λ (w : List ℕ). IsMarked (set old n both) w waits) (sym c.in_err-push.ensures.items) (marked_set old work waits n both c.union.ensures.set c.self.invariant)

pub invariant_of-self-then-not-index : goal.invariant_of-self-then-not-index
invariant_of-self-then-not-index c =
    let old = c.self.inside.lookaheads.items in
    let work = c.self.inside.work.items in
    let waits = c.self.inside.waits.items in
    let n = c.name.inside.0 in
    let both = c.union.new.self in
    let within : n < length (set old n both) = omega (arith, length-set old n both, c.name.view_is, ap (λ (p : PartClosure). length p.aheads) c.self.view_is, c.requires) in
    subst (λ (w : List ℕ). IsMarked (set old n both) w (set waits n true)) (sym (c.in_ok-push.ensures.items ∙ ap (λ k. work ++ k ∷ []) (sym c.name.view_is)))
    (marked_more (set old n both) work waits n within (marked_set old work waits n both c.union.ensures.set c.self.invariant))

pub invariant_of-self-else-not-index : goal.invariant_of-self-else-not-index
invariant_of-self-else-not-index c = marked_set c.self.inside.lookaheads.items c.self.inside.work.items c.self.inside.waits.items c.name.inside.0 c.union.new.self c.union.ensures.set c.self.invariant

pub returns-in_ok-push : goal.returns-in_ok-push
returns-in_ok-push c =
    let old = c.self.inside.lookaheads.items in
    let work = c.self.inside.work.items in
    let n = c.name.inside.0 in
    let tokens = c.args.tokens.now in
    let both = c.union.new.self in
    let here = c.index_mut.result.now in
    let within : n < length old = omega (arith, c.name.view_is, ap (λ (p : PartClosure). length p.aheads) c.self.view_is, c.requires) in
    let was : here ≡ get_or old n [] = c.index_mut.ensures.value ∙ get_or_default old n here [] within in
    subst (λ (p : PartClosure). IsAdded c.args.name tokens p.aheads p.work (set old n both) c.push.new.self.items) c.self.view_is
    (subst (λ k. IsAdded k tokens old work (set old n both) c.push.new.self.items) c.name.view_is
    (added_grew old work n tokens both within
    (λ b. subst (λ s. has_token both b ≡ (has_token s b || has_token tokens b)) was (c.union.ensures.members b))
    c.union.ensures.set c.push.new.self.items (c.in_ok-push.ensures.items ∙ ap (λ k. work ++ k ∷ []) (sym c.name.view_is))
    (subst (λ s. (a : ℕ) × (has_token s a ≡ false) × (has_token tokens a ≡ true)) was c.if-union.ensures.grew)))

pub returns-else-union : goal.returns-else-union
returns-else-union c =
    let old = c.self.inside.lookaheads.items in
    let work = c.self.inside.work.items in
    let waits = c.self.inside.waits.items in
    let n = c.name.inside.0 in
    let tokens = c.args.tokens.now in
    let both = c.union.new.self in
    let here = c.index_mut.result.now in
    let within : n < length old = omega (arith, c.name.view_is, ap (λ (p : PartClosure). length p.aheads) c.self.view_is, c.requires) in
    let inside : n < length waits = omega (arith, within, c.self.invariant.count) in
    let was : here ≡ get_or old n [] = c.index_mut.ensures.value ∙ get_or_default old n here [] within in
    let members : (b : ℕ) → has_token both b ≡ (has_token (get_or old n []) b || has_token tokens b) =
    λ b. subst (λ s. has_token both b ≡ (has_token s b || has_token tokens b)) was (c.union.ensures.members b) in
    elim c.else-union.branch [
      | else-union-via-then-union+else-not-index w ↦
          subst (λ (p : PartClosure). IsAdded c.args.name tokens p.aheads p.work c.else-union.self.aheads c.else-union.self.work) c.self.view_is
          (subst (λ k. IsAdded k tokens old work c.else-union.self.aheads c.else-union.self.work) c.name.view_is
          (subst (λ (p : PartClosure). IsAdded n tokens old work p.aheads p.work) (sym w.self-is)
          (added_waiting old work n tokens both within members c.union.ensures.set
          (c.self.invariant.waiting n (sym (get_or_read waits n w.index.result.now inside w.index.ensures false) ∙ w.if-not-index.false))
          (subst (λ s. (a : ℕ) × (has_token s a ≡ false) × (has_token tokens a ≡ true)) was w.if-union.ensures.grew))))
      | else-union-via-else-union w ↦
          subst (λ (p : PartClosure). IsAdded c.args.name tokens p.aheads p.work c.else-union.self.aheads c.else-union.self.work) c.self.view_is
          (subst (λ k. IsAdded k tokens old work c.else-union.self.aheads c.else-union.self.work) c.name.view_is
          (subst (λ (p : PartClosure). IsAdded n tokens old work p.aheads p.work) (sym w.self-is)
          (added_same old work n tokens both within members c.union.ensures.set (w.if-union.ensures.grew ∙ was))))
    ]
