use Rattle.std.proofs.Common.{◌≡◌, ℕ, ◌+◌, List, length, length-append, refl, sym, ap, ◌∙◌, subst, arith}
use Rattle.std.specs.Prelude.{slice_get, Some, Result, Ok, Err, IfErr, IsErrAnd}
use Rattle.std.proofs.lemmas.Option.{slice_get_read, slice_get_within}
use Rattle.position_theory.specs.Positions.{count_all}
use Rattle.position_theory.specs.States.{HasMoreStates}
use Rattle.position_sets.specs.Sets.{IsSetOfWords}
use Rattle.scanning_theory.specs.declared.limits.TheConstants.{STATES}
use Rattle.token_patterns.specs.declared.fault.ScannerFault.TheVariants.{TooManyStates}
use Rattle.token_patterns.specs.Ahead.{IsFirstRank}
use Rattle.token_patterns.specs.Searching.{words_of, IsCell, IsOneTooMany, IsSearchAt}
use Rattle.token_patterns.proofs.KeyLemmas.{length_words}
use Rattle.token_patterns.proofs.TableLemmas.{search_at}
use Rattle.token_patterns.proofs.SearchLemmas.{search_step, too_many}
use Rattle.token_patterns.proofs.building.expand.Goals as goal

pub loop-mask-init : goal.loop-mask-init
loop-mask-init c =
    let patterns = c.args.patterns.now in
    let setting = c.requires.setting in
    let before = c.requires.search in
    let old = c.args.search.now in
    let count : c.len.result ≡ count_all patterns = let is = setting.joint.count_is in omega (arith, is) in
    let end : IsFirstRank c.in_ok-ahead.ahead.items (count_all patterns) (length patterns) c.first_rank-end.result = rw (c.deref.ensures.value, count) at c.first_rank-end.ensures in
    record {
      search = subst (λ (l : List ℕ). IsSearchAt patterns c.args.size (words_of old.sets.keys) old.cells.items l c.args.state c.in_ok-ahead.ahead.items) (sym c.in_ok-push.ensures.items)
          (search_at patterns c.args.size c.args.joint.now.positions.items c.args.joint.now.front.items setting.joint old.sets.keys old.cells.items old.ends.items c.args.state before c.requires.state
          c.in_ok-ahead.ahead.items c.in_ok-ahead.ensures.start c.in_ok-ahead.ensures.others c.first_rank-end.result end);
      cells_are = omega (arith, before.cells_are);
      ends_count = ap length c.in_ok-push.ensures.items ∙ length-append old.ends.items _ ∙ ap (λ n. n + 1) before.ends_count;
      few = before.few;
      inside = c.requires.state;
    }

pub step-requires-clause-mask : goal.step-requires-clause-mask
step-requires-clause-mask c =
    let masks = c.args.masks.now in
    let mask = c.mask-item.result in
    let k = c.loop-mask.mask-index in
    let at : slice_get masks k ≡ Some mask = slice_get_read masks (length masks) k mask refl c.loop-mask-test.true c.mask-item.is in
    let size : length c.deref-in-loop-mask.result.now ≡ c.args.size = ap length c.deref-in-loop-mask.ensures.value ∙ c.in_ok-ahead.ensures.set.size_is in
    subst (λ n. IsSetOfWords n c.deref-in-loop-mask-2.result.now) (sym size) (subst (λ (l : List ℕ). IsSetOfWords c.args.size l) (sym c.deref-in-loop-mask-2.ensures.value) (c.requires.setting.mask_sets k mask at))

-- the error that a `?` hands on
err_is : {A E : Type 0} (Q : E → Type 0) (r : Result A E) (e : E) → IsErrAnd r (λ x. x ≡ e) → Q e → IfErr r Q
err_is Q (Ok a) e same h = tt
err_is Q (Err x) e same h = subst Q (sym same) h

pub returns-in_err-cell-clause-many : goal.returns-in_err-cell-clause-many
returns-in_err-cell-clause-many c =
    err_is (λ fault. fault ≡ TooManyStates → HasMoreStates c.args.patterns.now STATES) c.from_residual-in_err-cell.result c.in_err-cell.field-0.0 c.from_residual-in_err-cell.ensures.1 (λ same.
    let patterns = c.args.patterns.now in
    let setting = c.requires.setting in
    let loop = c.loop-mask.invariant in
    let masks = c.args.masks.now in
    let mask = c.mask-item.result in
    let k = c.loop-mask.mask-index in
    let at : slice_get masks k ≡ Some mask = slice_get_read masks (length masks) k mask refl c.loop-mask-test.true c.mask-item.is in
    let many : IsOneTooMany c.args.size STATES c.in_ok-ahead.ahead.items mask.items (words_of c.loop-mask.search.sets.keys) =
    rw (c.deref-in-loop-mask.ensures.value, c.deref-in-loop-mask-2.ensures.value, c.in_ok-ahead.ensures.set.size_is) at (c.in_err-cell.ensures.many same) in
    too_many patterns c.args.size c.args.joint.now.positions.items c.args.joint.now.front.items setting.joint (words_of c.loop-mask.search.sets.keys) c.loop-mask.search.cells.items c.loop-mask.search.ends.items c.args.state
    c.in_ok-ahead.ahead.items mask.items k loop.search (setting.masks_are k mask at) loop.cells_are (omega (arith, setting.mask_count)) (omega (arith, loop.ends_count, loop.inside, length_words c.loop-mask.search.sets.keys)) STATES many)

pub loop-mask-preserved : goal.loop-mask-preserved
loop-mask-preserved c =
    let patterns = c.args.patterns.now in
    let setting = c.requires.setting in
    let loop = c.loop-mask.invariant in
    let masks = c.args.masks.now in
    let mask = c.mask-item.result in
    let k = c.loop-mask.mask-index in
    let at : slice_get masks k ≡ Some mask = slice_get_read masks (length masks) k mask refl c.loop-mask-test.true c.mask-item.is in
    let old = c.loop-mask.search.sets.keys in
    let new = c.step.new.sets.keys in
    let cell : IsCell c.args.size c.in_ok-ahead.ahead.items mask.items (words_of old) (words_of new) c.in_ok-cell.cell =
    rw (c.deref-in-loop-mask.ensures.value, c.deref-in-loop-mask-2.ensures.value, c.in_ok-ahead.ensures.set.size_is) at c.in_ok-cell.ensures.cell in
    let next = search_step patterns c.args.size c.args.joint.now.positions.items c.args.joint.now.front.items setting.joint (words_of old) c.loop-mask.search.cells.items c.loop-mask.search.ends.items c.args.state
    c.in_ok-ahead.ahead.items mask.items k loop.search (setting.masks_are k mask at) loop.cells_are (omega (arith, setting.mask_count)) (omega (arith, loop.ends_count, loop.inside, length_words old)) (words_of new) c.in_ok-cell.cell cell in
    let below = slice_get_within next.search.words c.args.state next.word next.at in
    record {
      search = subst (λ (l : List ℕ). IsSearchAt patterns c.args.size (words_of new) l c.loop-mask.search.ends.items c.args.state c.in_ok-ahead.ahead.items) (sym c.in_ok-push-2.ensures.items) next;
      cells_are = ap length c.in_ok-push-2.ensures.items ∙ length-append c.loop-mask.search.cells.items _ ∙ omega (arith, loop.cells_are);
      ends_count = loop.ends_count;
      few = c.in_ok-cell.ensures.few;
      inside = omega (arith, below, next.search.found.count, length_words new);
    }
