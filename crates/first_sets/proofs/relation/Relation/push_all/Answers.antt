use Rattle.std.proofs.Common.{◌≡◌, ℕ, suc, ◌-◌, ◌<◌, length, get_or, ap, arith, subst, sym}
use Rattle.std.proofs.lemmas.List.{get_or_read}
use Rattle.first_sets.specs.Relations.{value_at}
use Rattle.first_sets.proofs.RelationLemmas.{IsPushing, push_more}
use Rattle.first_sets.proofs.relation.Relation.push_all.Goals as goal

pub loop-place-preserved : goal.loop-place-preserved
loop-place-preserved c =
    let pairs = c.self.inside.pairs.items in
    let before = c.self.inside.before.items in
    let k : ℕ = c.loop-place.place - 1 in
    let at : c.loop-place.place ≡ suc k = omega arith in
    let short : k < length pairs = omega (arith, c.loop-place.invariant.within, ap (λ v. length v.pairs) c.self.view_is) in
    let value : c.index.result.now.1 ≡ value_at pairs k = ap (λ q. q.1) (get_or_read pairs k c.index.result.now short c.index.ensures (0, 0)) in
    let place : c.index-place-in-loop-place.result.now ≡ get_or before k 0 = get_or_read before k c.index-place-in-loop-place.result.now (omega (arith, c.self.invariant.long)) c.index-place-in-loop-place.ensures 0 in
    let p : IsPushing pairs c.args.key c.loop-place.place c.args.values.now.items c.loop-place.values.items =
    subst (λ v. IsPushing v.pairs c.args.key c.loop-place.place c.args.values.now.items c.loop-place.values.items) (sym c.self.view_is) c.loop-place.invariant in
    rw (← c.self.view_is, place, c.in_ok-push.ensures.items, value)
    (push_more pairs c.loop-place.place c.args.key k (get_or before k 0) c.args.values.now.items c.loop-place.values.items at (c.self.invariant.befores k short) p)
