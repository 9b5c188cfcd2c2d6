use Rattle.std.proofs.Common.{◌≡◌, ◌++◌, List, ℕ, length, take, drop, subst, sym, ◌∙◌, arith}
use Rattle.arrow_table.specs.Forgetting.{AreKept}
use Rattle.segment_parser.specs.Numbers.{IsKeepList, IsRenumbered}
use Rattle.segment_parser.proofs.FlushLemmas.{HasFlushed, as_items, flushed_between}
use Rattle.segment_parser.proofs.leaf.Leaf.forget_others.Goals as goal

pub returns-clause-between : goal.returns-clause-between
returns-clause-between c store tokens index was =
    let maps = c.args.arrows.now.1 in
    let new = c.forget.new.self.1 in
    let s = c.args.self.now in
    let after = c.renumber.new.self in
    let places = c.in_ok-places.places.items in
    let keep = c.in_ok-keep.keep.items in
    let again = c.deref-3.result.now in
    let list : IsKeepList s places keep = subst (λ (l : List ℕ). IsKeepList s l keep) c.deref.ensures.value c.in_ok-keep.ensures in
    let base = c.forget.new.self.2 in
    let numbers = c.forget.new.keep in
    let in_place : AreKept maps new base keep numbers = subst (λ (l : List ℕ). AreKept maps new base l numbers) c.deref_mut.ensures.value c.in_ok-forget.ensures.kept in
    let whole : take c.in_ok-keep.keep.len (numbers ++ drop (length numbers) keep) ≡ numbers = as_items c.in_ok-keep.keep.len keep numbers (let f = c.in_ok-keep.keep.ok.0 in omega (arith, f)) in_place.even in
    let kept : AreKept maps new base keep again = subst (λ (l : List ℕ). AreKept maps new base keep l) (sym (c.deref-3.ensures.value ∙ whole)) in_place in
    let renumbered : IsRenumbered s after places again = subst (λ (l : List ℕ). IsRenumbered s after l again) c.deref-2.ensures.value c.renumber.ensures in
    let is : HasFlushed maps new c.args.arrows.now.2 base s after = record { grows = c.forget.ensures.grows; has = c.requires.maps; some = c.requires.some; places = places; keep = keep; again = again; inside = c.in_ok-places.ensures; list = list; kept = kept; renumbered = renumbered } in
    flushed_between s after tokens index is was
