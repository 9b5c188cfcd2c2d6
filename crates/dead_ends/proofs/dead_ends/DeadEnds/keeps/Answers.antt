use Rattle.std.proofs.Common.{◌≡◌, ◌<◌, List, ℕ, ap, sym, ◌∙◌, subst}
use Rattle.position_sets.specs.Sets.{Has, has_place}
use Rattle.dead_ends.specs.Pairs.{Pairs}
use Rattle.dead_ends.proofs.PairLemmas.{one_index}
use Rattle.dead_ends.proofs.dead_ends.DeadEnds.keeps.Goals as goal

pub returns-in-Some : goal.returns-in-Some
returns-in-Some c =
    let words : c.deref.result.now ≡ c.args.self.now.words = c.deref.ensures.value ∙ ap (λ (p : Pairs). p.words) c.self.view_is in
    let apart : 0 < c.args.self.now.step = subst (λ (p : Pairs). 0 < p.step) c.self.view_is c.self.invariant.apart in (
      λ is. (c.in-Some.index, c.in-Some.ensures, subst (λ (ws : List ℕ). Has ws c.in-Some.index) words (sym c.has.ensures ∙ is)),
      λ (index, at, has). c.has.ensures ∙ ap (λ ws. has_place ws c.in-Some.index) words
          ∙ subst (Has c.args.self.now.words) (one_index c.args.self.now c.args.place c.args.state index c.in-Some.index apart at c.in-Some.ensures) has,
    )
