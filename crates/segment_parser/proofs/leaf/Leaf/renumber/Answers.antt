use Rattle.std.proofs.Common.{◌≡◌, ◌++◌, ◌+◌, ◌-◌, ℕ, List, take, drop, length, slice_set, refl, ap, ◌∙◌, subst, arith}
use Rattle.std.proofs.lemmas.List.{get_or_default}
use Rattle.segment_parser.specs.Numbers.{ArePut}
use Rattle.segment_parser.proofs.FlushLemmas.{as_items, entries_renumbered, last_renumbered}
use Rattle.segment_parser.proofs.leaf.Leaf.renumber.Goals as goal

pub returns : goal.returns
returns c =
    let s = c.args.self.now in
    let ids = s.ids.items in
    let places = c.args.places.now in
    let numbers = c.args.numbers.now in
    let count = length places in
    let many = c.requires.numbers in
    let put = c.put_numbers.new.ids in
    let last = c.len-last.result - 1 in
    let number = c.index-numbers-count-3.result in
    let are : ArePut ids places numbers put = subst (λ (l : List ℕ). ArePut l places numbers put) c.deref_mut.ensures.value c.put_numbers.ensures in
    let whole : take s.ids.len (put ++ drop (length put) ids) ≡ put = as_items s.ids.len ids put (let f = s.ids.ok.0 in omega (arith, f)) are.even in
    let after : List ℕ = slice_set (take s.ids.len (put ++ drop (length put) ids)) last number in
    let is : after ≡ slice_set put last number = ap (λ (l : List ℕ). slice_set l last number) whole in
    let at : last ≡ length ids - 1 = let e = c.len-last.ensures in let f = s.ids.ok.0 in omega (arith, e, f) in
    let ends = last_renumbered ids places numbers put after last number c.requires.some are at is in
    record {
      block = refl;
      faults = refl;
      opened = refl;
      stale = refl;
      first = refl;
      count = refl;
      starts = c.index-numbers-count.is ∙ get_or_default numbers count c.index-numbers-count.result 0 (omega (arith, many));
      own = c.index-numbers-count-2.is ∙ get_or_default numbers (count + 1) c.index-numbers-count-2.result 0 (omega (arith, many));
      top = ends.0 ∙ c.index-numbers-count-3.is ∙ get_or_default numbers (count + 2) number 0 (omega (arith, many));
      entries = entries_renumbered ids places numbers put after last number are at is;
      even = ends.1;
    }
