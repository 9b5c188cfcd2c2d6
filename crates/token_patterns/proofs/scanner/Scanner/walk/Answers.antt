use Rattle.std.proofs.Common.{◌≡◌, ℕ, true, false, ◌+◌, ◌-◌, ◌*◌, ◌^◌, ◌<◌, ◌≤◌, List, length, get_or, sym, ap, ◌∙◌, subst, arith}
use Rattle.std.specs.Prelude.{slice_index}
use Rattle.pattern_data.specs.declared.pattern.Pattern.{Pattern}
use Rattle.token_patterns.specs.Scanner.{Table, IsScannerOf, IsTable, EndsHere}
use Rattle.token_patterns.specs.Walking.{read_of, IsFound, IsRead}
use Rattle.token_patterns.proofs.LongestLemmas.{read_on, dead_end, cell_inside}
use Rattle.token_patterns.proofs.FoundLemmas.{found_first, found_more, no_rank_among, walk_of}
use Rattle.token_patterns.proofs.WalkLemmas.{ends_before}
use Rattle.token_patterns.proofs.scanner.Scanner.walk.Goals as goal

pub found_of-found-requires-clause-inside : goal.found_of-found-requires-clause-inside
found_of-found-requires-clause-inside c = ends_before c.args.walk.best c.args.from c.args.walk.at 18446744073709551615 (let order = c.requires.order in let fits = c.ranges.to.fits in omega (arith, order, fits)) c.requires.walk.within

pub found_of-found-requires-clause-ranked : goal.found_of-found-requires-clause-ranked
found_of-found-requires-clause-ranked c = no_rank_among c.args.self.now c.args.walk.best (subst IsTable c.self.view_is c.self.invariant) c.requires.walk.ranked

pub loop-at-init : goal.loop-at-init
loop-at-init c =
    let table = c.args.self.now in
    let text = c.args.text.now in
    let from = c.args.from in
    let walk = c.args.walk in
    let same : c.from-state.result ≡ walk.state = c.from-state.ensures in
    record {
      inside = subst (λ k. k < length table.ends) (sym same) c.requires.walk.state;
      small = subst (λ k. k < 2 ^ 16) (sym same) c.requires.walk.small;
      read = λ patterns s. subst (λ k. IsRead table patterns s (read_of text from (walk.at - from)) k) (sym same) (c.requires.walk.goes_on c.requires.goes_on patterns s);
      found = found_first table text from walk c.found_of-found.result c.requires.walk c.found_of-found.ensures.behind c.found_of-found.ensures.found;
    }

pub returns-then-state-eq0-clause-walk : goal.returns-then-state-eq0-clause-walk
returns-then-state-eq0-clause-walk c =
    let table = c.args.self.now in
    let text = c.args.text.now in
    let from = c.args.from in
    let at = c.loop-at.at in
    let n : ℕ = at - from in
    let is : IsTable table = subst IsTable c.self.view_is c.self.invariant in
    let after : from ≤ at = omega (arith, c.requires.walk.begun, c.loop-at.auto.at) in
    let here : from + n ≡ at = omega (arith, after) in
    let inside : from + n < length text = omega (arith, here, c.loop-at-test.true, c.requires.inside) in
    let byte : get_or text at 0 ≡ get_or text (from + n) 0 = ap (λ k. get_or text k 0) (sym here) in
    let cells : c.as_slice-cells.result.now ≡ table.cells = c.as_slice-cells.ensures.value ∙ ap (λ (t : Table). t.cells) c.self.view_is in
    let cell : c.step-state.result ≡ slice_index table.cells (256 * c.loop-at.state + get_or text at 0) = c.step-state.ensures.cell ∙ ap (λ l. slice_index l (256 * c.loop-at.state + get_or text at 0)) cells in
    walk_of table text from at 0 c.loop-at.found c.best_of.result true c.loop-at.invariant.found c.best_of.ensures after (omega (arith, here, inside)) is.some (omega arith)
    (λ e. absurd (cc))
    (λ _ patterns s. dead_end table patterns s text from n c.loop-at.state (get_or text at 0) c.step-state.result inside byte (c.type_inv.text at).fits (c.loop-at.invariant.read patterns s) is.sized cell c.if-state-eq0.true)

pub loop-at-preserved : goal.loop-at-preserved
loop-at-preserved c =
    let table = c.args.self.now in
    let text = c.args.text.now in
    let from = c.args.from in
    let at = c.loop-at.at in
    let old = c.loop-at.state in
    let state = c.step-state.result in
    let n : ℕ = at - from in
    let is : IsTable table = subst IsTable c.self.view_is c.self.invariant in
    let after : from ≤ at = omega (arith, c.requires.walk.begun, c.loop-at.auto.at) in
    let here : from + n ≡ at = omega (arith, after) in
    let inside : from + n < length text = omega (arith, here, c.loop-at-test.true, c.requires.inside) in
    let byte : get_or text at 0 ≡ get_or text (from + n) 0 = ap (λ k. get_or text k 0) (sym here) in
    let small : get_or text at 0 < 256 = (c.type_inv.text at).fits in
    let cells : c.as_slice-cells.result.now ≡ table.cells = c.as_slice-cells.ensures.value ∙ ap (λ (t : Table). t.cells) c.self.view_is in
    let ends : c.as_slice-ends.result.now ≡ table.ends = c.as_slice-ends.ensures.value ∙ ap (λ (t : Table). t.ends) c.self.view_is in
    let cell : state ≡ slice_index table.cells (256 * old + get_or text at 0) = c.step-state.ensures.cell ∙ ap (λ l. slice_index l (256 * old + get_or text at 0)) cells in
    let below : 256 * old + get_or text at 0 < length table.cells = let sized = is.sized in let under = c.loop-at.invariant.inside in omega (arith, small, sized, under) in
    let state_inside : state < length table.ends = subst (λ k. k < length table.ends) (sym cell) (cell_inside table (256 * old + get_or text at 0) is below) in
    let more : at + 1 - from ≡ n + 1 = omega (arith, after) in
    let read : (patterns : List Pattern) (s : IsScannerOf table patterns) → IsRead table patterns s (read_of text from (n + 1)) state =
    λ patterns s. read_on table patterns s text from n old (get_or text at 0) state inside byte small (c.loop-at.invariant.read patterns s) is.sized cell c.if-state-eq0.false in
    record {
      inside = state_inside;
      small = c.step-state.ensures.small;
      read = λ patterns s. subst (λ k. IsRead table patterns s (read_of text from k) state) (sym more) (read patterns s);
      found = found_more table text from at state c.loop-at.found c.ended-found.result is after (omega (arith, here, inside)) state_inside read (subst (λ (l : List ℕ). EndsHere (slice_index l state) (at + 1) c.loop-at.found c.ended-found.result) ends c.ended-found.ensures) c.loop-at.invariant.found;
    }

pub returns-clause-walk : goal.returns-clause-walk
returns-clause-walk c =
    let table = c.args.self.now in
    let text = c.args.text.now in
    let from = c.args.from in
    let here : c.loop-at.at ≡ c.args.to = omega arith in
    walk_of table text from c.args.to c.loop-at.state c.loop-at.found c.best_of-2.result false (subst (λ at. IsFound table text from at c.loop-at.found) here c.loop-at.invariant.found) c.best_of-2.ensures (omega (arith, c.requires.walk.begun, c.requires.order)) c.requires.inside c.loop-at.invariant.inside c.loop-at.invariant.small
    (λ _ patterns s. subst (λ at. IsRead table patterns s (read_of text from (at - from)) c.loop-at.state) here (c.loop-at.invariant.read patterns s))
    (λ e. absurd (cc))
