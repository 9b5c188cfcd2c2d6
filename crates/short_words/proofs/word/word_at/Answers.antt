use Rattle.std.proofs.Common.{◌≡◌, ℕ, ◌<◌, List, [], ◌∷◌, ◌++◌, reverse, sym, ap, ◌∙◌, arith, append_assoc}
use Rattle.std.specs.Prelude.{slice_get, slice_index_or, Some}
use Rattle.std.proofs.lemmas.List.{append-nil, reverse-append}
use Rattle.std.proofs.lemmas.Option.{slice_get-get_or}
use Rattle.position_theory.proofs.StateLemmas.{get_at}
use Rattle.short_words.specs.declared.search.Found.{Found}
use Rattle.short_words.proofs.SearchLemmas.{start, some_same}
use Rattle.short_words.proofs.word.word_at.Goals as goal

pub loop-at-init : goal.loop-at-init
loop-at-init c = record {
  inside = c.requires.place;
  back = λ words are.
      let w = get_at words c.args.place (let count = are.count in omega (arith, count, c.requires.place)) in
      let none : c.new-bytes.result.items ≡ [] = c.new-bytes.ensures.items in
      (w.0, w.1, w.1 ∙ ap Some (sym (ap (λ (l : List ℕ). w.0 ++ reverse l) none ∙ append-nil w.0)));
}

pub loop-at-smaller : goal.loop-at-smaller
loop-at-smaller c = c.requires.linked c.loop-at.at (slice_index_or c.args.found.now c.loop-at.at start) c.loop-at-test.true (slice_get-get_or c.args.found.now c.loop-at.at start c.loop-at.invariant.inside)

pub loop-at-preserved : goal.loop-at-preserved
loop-at-preserved c =
    let found : List Found = c.args.found.now in
    let at = c.loop-at.at in
    let f : Found = slice_index_or found at start in
    let here : slice_get found at ≡ Some f = slice_get-get_or found at start c.loop-at.invariant.inside in
    let earlier : f.from < at = c.requires.linked at f c.loop-at-test.true here in
    record {
      inside = let inside = c.loop-at.invariant.inside in omega (arith, earlier, inside);
      back = λ words are.
          let b = c.loop-at.invariant.back words are in
          let m = are.longer at b.0 f c.loop-at-test.true b.1 here in
          let pushed : c.push.new.self.items ≡ c.loop-at.bytes.items ++ f.byte ∷ [] = c.in_ok-push.ensures.items in
          let turned : reverse c.push.new.self.items ≡ f.byte ∷ reverse c.loop-at.bytes.items = ap reverse pushed ∙ reverse-append c.loop-at.bytes.items (f.byte ∷ []) in
          let whole : b.0 ++ reverse c.loop-at.bytes.items ≡ m.0 ++ reverse c.push.new.self.items =
          ap (λ (l : List ℕ). l ++ reverse c.loop-at.bytes.items) m.2 ∙ append_assoc m.0 (f.byte ∷ []) (reverse c.loop-at.bytes.items) ∙ ap (λ (l : List ℕ). m.0 ++ l) (sym turned) in
          (m.0, m.1, b.2 ∙ ap Some whole);
    }

pub returns : goal.returns
returns c = λ words are.
    let b = c.loop-at.invariant.back words are in
    let zeroth : c.loop-at.at ≡ 0 = omega (arith, c.loop-at-test.false) in
    let empty : b.0 ≡ [] = some_same (sym b.1 ∙ ap (λ k. slice_get words k) zeroth ∙ are.start) in
    b.2 ∙ ap Some (ap (λ (l : List ℕ). l ++ reverse c.loop-at.bytes.items) empty ∙ sym c.reverse.ensures.items)
