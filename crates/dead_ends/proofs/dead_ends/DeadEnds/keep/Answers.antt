use Rattle.std.proofs.Common.{◌≡◌, ◌<◌, ◌==◌, ◌||◌, length, arith, ap, ◌∙◌, subst}
use Rattle.position_sets.specs.Sets.{has_place}
use Rattle.dead_ends.specs.Pairs.{Pairs, ArePairs, AreOfOneLine}
use Rattle.dead_ends.proofs.PairLemmas.{kept_more, kept_same, on_err, words_for}
use Rattle.dead_ends.proofs.dead_ends.DeadEnds.keep.Goals as goal

pub returns-in_ok-grow-clause-ok : goal.returns-in_ok-grow-clause-ok
returns-in_ok-grow-clause-ok c =
    let old : Pairs = c.args.self.now in
    let new : Pairs = record { begin = c.self.inside.begin; states = c.self.inside.states; step = c.self.inside.step; words = c.insert.new.set.items } in
    let line : AreOfOneLine old new = record { begin = ap (λ (p : Pairs). p.begin) c.self.view_is; states = ap (λ (p : Pairs). p.states) c.self.view_is; step = ap (λ (p : Pairs). p.step) c.self.view_is } in
    let apart : 0 < old.step = subst (λ (p : Pairs). 0 < p.step) c.self.view_is c.self.invariant.apart in
    kept_more old new c.args.place c.args.state c.in-Some.index line apart c.in-Some.ensures
    (λ other. c.insert.ensures.places other ∙ ap (λ b. (other == c.in-Some.index) || b) (c.grow.ensures.same other ∙ ap (λ (p : Pairs). has_place p.words other) c.self.view_is))

pub returns-in_err-grow-clause-err : goal.returns-in_err-grow-clause-err
returns-in_err-grow-clause-err c =
    let old : Pairs = c.args.self.now in
    let same : c.grow.new.words.items ≡ old.words = c.in_err-grow.ensures.err ∙ ap (λ (p : Pairs). p.words) c.self.view_is in
    on_err c.from_residual.result (kept_same old (record { begin = c.self.inside.begin; states = c.self.inside.states; step = c.self.inside.step; words = c.grow.new.words.items })
    (record { begin = ap (λ (p : Pairs). p.begin) c.self.view_is; states = ap (λ (p : Pairs). p.states) c.self.view_is; step = ap (λ (p : Pairs). p.step) c.self.view_is }) same)

pub returns-in_err-grow-clause-small : goal.returns-in_err-grow-clause-small
returns-in_err-grow-clause-small c =
    let same : length c.self.inside.words.items ≡ length c.args.self.now.words = ap (λ (p : Pairs). length p.words) c.self.view_is in
    let words = words_for c.args.self.now c.args.place c.args.state c.in-Some.index (subst ArePairs c.self.view_is c.self.invariant) c.in-Some.ensures in
    omega (arith, c.grow.ensures.size, same, words)

pub returns-in_ok-grow-clause-small : goal.returns-in_ok-grow-clause-small
returns-in_ok-grow-clause-small c =
    let same : length c.self.inside.words.items ≡ length c.args.self.now.words = ap (λ (p : Pairs). length p.words) c.self.view_is in
    let words = words_for c.args.self.now c.args.place c.args.state c.in-Some.index (subst ArePairs c.self.view_is c.self.invariant) c.in-Some.ensures in
    let size = (c.insert.ensures.set (length c.grow.new.words.items) c.in_ok-grow.ensures.fit).size_is in
    omega (arith, c.grow.ensures.size, size, same, words)
