use Rattle.std.proofs.Common.{◌≡◌, ◌<◌, List, length, sym, ap, ◌∙◌, subst, arith}
use Rattle.std.specs.Prelude.{slice_get, Bool, Some}
use Rattle.std.proofs.lemmas.Option.{slice_get-get_or}
use Rattle.token_patterns.specs.Scanner.{Table}
use Rattle.short_words.specs.declared.search.Found.{Found}
use Rattle.short_words.specs.Searching.{IsSearchTo, IsNoted, led_to}
use Rattle.short_words.proofs.SearchLemmas.{noted, noted_size, noted_kept, noted_unseen}
use Rattle.short_words.proofs.search.expand.Goals as goal

pub loop-byte-preserved : goal.loop-byte-preserved
loop-byte-preserved c =
    let table : Table = c.args.scanner.now in
    let found : List Found = c.loop-byte.search.found.items in
    let new_found : List Found = c.note.new.search.found.items in
    let seen : List Bool = c.loop-byte.search.seen.items in
    let new_seen : List Bool = c.note.new.search.seen.items in
    let at = c.args.at in
    let byte = c.loop-byte.byte in
    let small : byte < 256 = omega arith in
    let f : Found = c.index.result.now in
    let here : slice_get found at ≡ Some f = c.loop-byte.invariant.kept at f (slice_get-get_or c.args.search.now.found.items at f c.requires.at ∙ ap Some (sym c.index.ensures)) in
    let n : IsNoted (record { from = at; state = c.next-next.result; byte = byte }) found seen new_found new_seen = c.in_ok-note.ensures in
    let next : c.next-next.result ≡ led_to table f.state byte = c.next-next.ensures.cell in
    let fits : c.next-next.result < length seen = omega (arith, c.next-next.ensures.inside, c.loop-byte.invariant.size) in
    let step = noted table found seen at byte c.loop-byte.invariant.search f here small new_found new_seen (subst (λ k. k < length seen) next fits) (subst (λ k. IsNoted (record { from = at; state = k; byte = byte }) found seen new_found new_seen) next n) in
    let size = noted_size n in
    let unseen = noted_unseen fits n in
    record {
      search = subst (λ k. IsSearchTo table new_found new_seen k) (omega arith) step;
      size = size ∙ c.loop-byte.invariant.size;
      unseen = unseen ∙ c.loop-byte.invariant.unseen;
      kept = λ k g old. noted_kept n k g (c.loop-byte.invariant.kept k g old);
    }
