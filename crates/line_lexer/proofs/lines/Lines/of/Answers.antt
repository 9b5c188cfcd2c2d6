use Rattle.std.proofs.Common.{◌≡◌, length, ℕ, ◌+◌, List, [], ◌∷◌, ◌++◌, sym, ap, ◌∙◌, arith, length-append}
use Rattle.std.proofs.lemmas.List.{append-nil}
use Rattle.memchr.specs.Find.{is_byte, places}
use Rattle.line_lexer.proofs.LinesLemmas.{behind_each, starts_by_feeds, no_starts, starts_more, next_inside}
use Rattle.line_lexer.proofs.lines.Lines.of.Goals as goal

pub returns-in_default : goal.returns-in_default
returns-in_default c = c.new-starts.ensures.items ∙ sym (no_starts c.args.text.now c.in_default.ensures.cases)

pub overflow_cast-feed : goal.overflow_cast-feed
overflow_cast-feed c = omega (arith, c.requires, next_inside c.args.text.now c.loop-feed.starts.items c.loop-feed.feed-iterator c.next.new.self c.in-Some-feed.feed c.loop-feed.invariant.starts c.in-Some-feed.ensures.steps)

pub overflow_add-feed : goal.overflow_add-feed
overflow_add-feed c = omega (arith, c.requires, next_inside c.args.text.now c.loop-feed.starts.items c.loop-feed.feed-iterator c.next.new.self c.in-Some-feed.feed c.loop-feed.invariant.starts c.in-Some-feed.ensures.steps)

pub loop-feed-init : goal.loop-feed-init
loop-feed-init c =
    let same : c.into_iter-feed-iterator.result ≡ places (is_byte 10) c.in-Some.front.now = c.into_iter-feed-iterator.ensures.into_iter_gives ∙ c.memchr_iter-feed-items.ensures.value in
    let begun : c.push.new.self.items ≡ 0 ∷ [] = c.in_ok-push.ensures.items ∙ ap (λ (l : List ℕ). l ++ 0 ∷ []) c.new-starts.ensures.items in
    record {
      starts = ap (λ (l : List ℕ). l ++ behind_each c.into_iter-feed-iterator.result) begun ∙ ap (λ (l : List ℕ). 0 ∷ behind_each l) same ∙ sym (starts_by_feeds c.args.text.now c.in-Some.front.now c.in-Some.field-0-0.now c.in-Some.ensures.cases.0);
      few = omega (arith, c.in-Some.ensures.cases.1, ap length begun, ap (λ (l : List ℕ). length l) c.into_iter-feed-iterator.ensures.into_iter_gives, c.memchr_iter-feed-items.ensures.len);
    }

pub loop-feed-preserved : goal.loop-feed-preserved
loop-feed-preserved c = record {
  starts = starts_more c.args.text.now c.loop-feed.starts.items c.push-in-loop-feed.new.self.items c.loop-feed.feed-iterator c.next.new.self c.in-Some-feed.feed c.loop-feed.invariant.starts c.in-Some-feed.ensures.steps c.in_ok-push-2.ensures.items;
  few = omega (arith, c.loop-feed.invariant.few, ap (λ (l : List ℕ). length l) c.in-Some-feed.ensures.steps, ap length c.in_ok-push-2.ensures.items, length-append c.loop-feed.starts.items ((c.in-Some-feed.feed + 1) ∷ []));
}

pub invariant_of-result-2 : goal.invariant_of-result-2
invariant_of-result-2 c = omega (arith, c.requires, c.loop-feed.invariant.few)

pub returns : goal.returns
returns c =
    sym (append-nil c.loop-feed.starts.items) ∙ ap (λ (l : List ℕ). c.loop-feed.starts.items ++ behind_each l) (sym c.in-None.ensures.steps.0) ∙ c.loop-feed.invariant.starts
