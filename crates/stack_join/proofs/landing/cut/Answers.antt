use Rattle.std.proofs.Common.{◌≡◌, ◌<◌, ◌≤◌, ◌-◌, ℕ, [], length, get_or, take, drop, refl, sym, ap, ◌∙◌, subst, append-nil, arith}
use Rattle.std.proofs.lemmas.List.{length-take, take-append-drop}
use Rattle.segment_parser.specs.declared.leaf.Leaf.{Leaf}
use Rattle.segment_parser.specs.Working.{AreThere, IsFreshAt}
use Rattle.stack_join.specs.Landing.{IsCut}
use Rattle.stack_join.proofs.HeldLemmas.{there_front}
use Rattle.stack_join.proofs.CutLemmas.{cut_all, cut_some}
use Rattle.stack_join.proofs.NumberLemmas.{from_first}
use Rattle.segment_parser.specs.Numbers.{AreFrom}
use Rattle.stack_join.proofs.landing.cut.Goals as goal

pub freshen-requires-clause-depth : goal.freshen-requires-clause-depth
freshen-requires-clause-depth c =
    let cut = ap length c.truncate.ensures.items in
    let count = length-take c.args.rest c.args.leaf.now.ids.items in
    let less = c.requires.rest in
    omega (arith, cut, count, less)

pub freshen-requires-clause-there : goal.freshen-requires-clause-there
freshen-requires-clause-there c =
    let maps = c.args.arrows.now.1 in
    let ids = c.args.leaf.now.ids.items in
    subst (λ l. AreThere maps l) (sym c.truncate.ensures.items) (there_front maps (take c.args.rest ids) (drop c.args.rest ids) (subst (λ l. AreThere maps l) (sym (take-append-drop c.args.rest ids)) c.requires.has.there))

pub freshen-requires-clause-starts : goal.freshen-requires-clause-starts
freshen-requires-clause-starts c = c.requires.has.starts

pub returns-then-rest-eq0-clause-cut : goal.returns-then-rest-eq0-clause-cut
returns-then-rest-eq0-clause-cut c =
    let maps = c.args.arrows.now.1 in
    let s = c.args.leaf.now in
    let none : c.args.rest ≡ 0 = c.if-rest-eq0.true in
    let even = c.requires.has.even in
    let len = c.len.ensures in
    let nothing : length s.block.kids - (c.len.result - c.args.rest) ≡ 0 = omega (arith, even, len, none) in
    let after : Leaf = record s { block = c.drop_kids.new.self; ids = c.truncate.new.self; stale = 0 } in
    subst (λ (n : ℕ). IsCut maps maps s after n) (sym none)
    (cut_all maps maps s after c.requires.has ([], sym (append-nil maps)) (record { floors = c.drop_kids.ensures.floors; closed = c.drop_kids.ensures.closed; faults = refl; opened = refl; starts = refl; own = refl; first = refl }) refl
    (c.drop_kids.ensures.kids ∙ ap (λ n. take n s.block.kids) nothing) (c.truncate.ensures.items ∙ ap (λ n. take n s.ids.items) none) refl)

pub returns-clause-cut : goal.returns-clause-cut
returns-clause-cut c =
    let maps = c.args.arrows.now.1 in
    let new = c.freshen.new.arrows.1 in
    let s = c.args.leaf.now in
    let after = c.freshen.new.self in
    let even = c.requires.has.even in
    let len = c.len.ensures in
    let less = c.requires.rest in
    let some : 0 < c.args.rest = omega arith in
    let left : length s.block.kids - (c.len.result - c.args.rest) ≡ c.args.rest = omega (arith, even, len, less) in
    let fresh : IsFreshAt maps new s.starts s.stale after.stale (c.args.rest - 1) (take c.args.rest s.ids.items) after.ids.items = subst (λ l. IsFreshAt maps new s.starts s.stale after.stale (c.args.rest - 1) l after.ids.items) c.truncate.ensures.items c.in_ok-freshen.ensures.fresh in
    let same = c.freshen.ensures.same in
    cut_some maps new s after c.args.rest c.requires.has c.freshen.ensures.grows
    (record { floors = same.floors ∙ c.drop_kids.ensures.floors; closed = same.closed ∙ c.drop_kids.ensures.closed; faults = same.faults; opened = same.opened; starts = same.starts; own = same.own; first = same.first })
    c.freshen.ensures.count some less (ap (λ b. b.kids) c.freshen.ensures.block ∙ c.drop_kids.ensures.kids ∙ ap (λ n. take n s.block.kids) left) fresh

pub freshen-requires-clause-stands : goal.freshen-requires-clause-stands
freshen-requires-clause-stands c =
    let base = c.args.arrows.now.2 in
    let ids = c.args.leaf.now.ids.items in
    let less = c.requires.rest in
    let count = length-take c.args.rest ids in
    let some : 0 < c.args.rest = omega arith in
    let inside : c.args.rest - 1 < length (take c.args.rest ids) = omega (arith, less, count, some) in
    subst (λ l. base ≤ get_or l (c.args.rest - 1) 0) (sym c.truncate.ensures.items) (from_first base c.args.rest ids c.requires.stand.entries (c.args.rest - 1) 0 inside)

pub returns-then-rest-eq0-clause-stand : goal.returns-then-rest-eq0-clause-stand
returns-then-rest-eq0-clause-stand c =
    let base = c.args.arrows.now.2 in
    record {
      starts = c.requires.stand.starts;
      own = c.requires.stand.own;
      entries = subst (λ l. AreFrom base l) (sym c.truncate.ensures.items) (from_first base c.args.rest c.args.leaf.now.ids.items c.requires.stand.entries);
    }

pub returns-clause-stand : goal.returns-clause-stand
returns-clause-stand c =
    let was = c.args.arrows.now.2 in
    let base = c.freshen.new.arrows.2 in
    let same = c.freshen.ensures.same in
    let before : AreFrom was c.truncate.new.self.items = subst (λ l. AreFrom was l) (sym c.truncate.ensures.items) (from_first was c.args.rest c.args.leaf.now.ids.items c.requires.stand.entries) in
    record {
      starts = subst (λ n. base ≤ n) (sym same.starts) (subst (λ b. b ≤ c.args.leaf.now.starts) (sym c.freshen.ensures.base) c.requires.stand.starts);
      own = subst (λ n. base ≤ n) (sym same.own) (subst (λ b. b ≤ c.args.leaf.now.own) (sym c.freshen.ensures.base) c.requires.stand.own);
      entries = c.in_ok-freshen.ensures.levels before;
    }
