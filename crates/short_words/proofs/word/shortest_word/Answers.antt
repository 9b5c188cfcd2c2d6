use Rattle.std.proofs.Common.{◌≡◌, ◌<◌, ⊎_elim, List, length, sym, ap, ◌∙◌, subst, arith}
use Rattle.std.specs.Prelude.{slice_get, slice_index, Some}
use Rattle.std.proofs.lemmas.Bool.{cases_lt, false≢true}
use Rattle.std.proofs.lemmas.Option.{slice_get-get_or, slice_get_within}
use Rattle.position_theory.proofs.StateLemmas.{get_at}
use Rattle.token_patterns.specs.Scanner.{Table}
use Rattle.short_words.specs.declared.search.Found.{Found}
use Rattle.short_words.specs.Searching.{AreWordsOf}
use Rattle.short_words.proofs.SearchLemmas.{some_same}
use Rattle.short_words.proofs.EndLemmas.{no_word, shortest}
use Rattle.short_words.proofs.word.shortest_word.Goals as goal

pub returns-then-ends : goal.returns-then-ends
returns-then-ends c = λ patterns scanner.
    let table : Table = c.args.scanner.now in
    let found : List Found = c.loop-at.search.found.items in
    let at = c.loop-at.at in
    let s = c.loop-at.invariant.search in
    let f : Found = c.index.result.now in
    let inside : at < length found = omega (arith, c.loop-at-test.true, c.len.ensures) in
    let here : slice_get found at ≡ Some f = slice_get-get_or found at f inside ∙ ap Some (sym c.index.ensures) in
    let ends = c.ends.ensures.0 c.if-ends.true in
    let word = c.in_ok-word_at.ensures s.words (subst (λ (l : List Found). AreWordsOf l s.words) (sym c.deref.ensures.value) s.search.are) in
    shortest table found c.loop-at.search.seen.items at s patterns scanner c.loop-at.invariant.table c.args.rank c.loop-at.invariant.not_ended f c.in_ok-word_at.field-0.items here word ends.0 ends.1

pub loop-at-preserved : goal.loop-at-preserved
loop-at-preserved c =
    let found : List Found = c.loop-at.search.found.items in
    let more : List Found = c.expand.new.search.found.items in
    let at = c.loop-at.at in
    let inside : at < length found = omega (arith, c.loop-at-test.true, c.len.ensures) in
    record {
      table = c.loop-at.invariant.table;
      search = c.in_ok-expand.ensures.search;
      size = c.in_ok-expand.ensures.size ∙ c.loop-at.invariant.size;
      within = let last = get_at found at inside in let below = slice_get_within more at last.0 (c.in_ok-expand.ensures.kept at last.0 last.1) in omega (arith, below);
      not_ended = λ k f below there ends other.
          let old = get_at found k (omega (arith, below, inside)) in
          let same : old.0 ≡ f = some_same (sym (c.in_ok-expand.ensures.kept k old.0 old.1) ∙ there) in
          ⊎_elim
          (λ less. c.loop-at.invariant.not_ended k old.0 less old.1 (ap (λ (g : Found). slice_index c.args.scanner.now.ends g.state) same ∙ ends) other)
          (λ last.
          let here : k ≡ at = omega (arith, last, below) in
          let this : Found = c.index.result.now in
          let entry : f ≡ this = some_same (sym (old.1 ∙ ap Some same) ∙ ap (λ i. slice_get found i) here ∙ slice_get-get_or found at this inside ∙ ap Some (sym c.index.ensures)) in
          let is : slice_index c.args.scanner.now.ends this.state ≡ c.args.rank = ap (λ (g : Found). slice_index c.args.scanner.now.ends g.state) (sym entry) ∙ ends in
          false≢true (sym c.if-ends.false ∙ c.ends.ensures.1 (is, other)))
          (cases_lt k at);
    }

pub returns : goal.returns
returns c = λ patterns scanner.
    no_word c.args.scanner.now c.loop-at.search.found.items c.loop-at.search.seen.items c.loop-at.at c.loop-at.invariant.search patterns scanner c.loop-at.invariant.table c.args.rank c.loop-at.invariant.not_ended (omega (arith, c.loop-at-test.false, c.len.ensures))
