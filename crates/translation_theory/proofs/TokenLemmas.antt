-- The tokens of a text stand in it, and there are no more of them than bytes: a line's tokens stand one behind the other
-- before its end, and the next line begins behind that.
use Rattle.std.proofs.Common.{◌≡◌, ◌≢◌, ℕ, suc, ◌+◌, ◌-◌, ◌<◌, ◌≤◌, List, ◌∷◌, ◌++◌, length, get_or, take, drop, Bool, true, false, refl, sym, ap, subst, ◌∙◌, ⊎_elim, inl, inr, ◌⊎◌, arith}
use Rattle.std.specs.Prelude.{◌||◌, ◌==◌, All, Contains, slice_get, slice_index, Some}
use Rattle.std.specs.List.{range_with_len}
use Rattle.std.proofs.lemmas.Bool.{cases_lt}
use Rattle.std.proofs.lemmas.Bool.Decides.{Decides-eqb}
use Rattle.std.proofs.lemmas.List.{length-take-le, length-drop, length-append, get_or-take, get_or-drop}
use Rattle.std.proofs.lemmas.List.Elements.{All-nil, All-cons, All-append, filter_passes}
use Rattle.std.proofs.lemmas.Option.{slice_get_within, slice_get-get_or, get_or_from_slice_get}
use Rattle.grammar_data.specs.declared.token.Token.{Token as TextToken}
use Rattle.pattern_data.proofs.LanguageLemmas.{Matches-no_feed}
use Rattle.scanning_theory.specs.Lines.{line_feed, begins_line, line_starts, IsLineEnd}
use Rattle.scanning_theory.specs.Scan.{Scanning, AreTokensFrom, AreTokensOfLines}
use Rattle.scanning_theory.specs.Scan.AreTokensFrom.{at_end, takes_token, skips, takes_bad_byte}
use Rattle.scanning_theory.specs.Scan.AreTokensOfLines.{no_line, first_line}
use Rattle.scanning_theory.proofs.StartLemmas.{line_starts-rising, line_starts-inside}
use Rattle.translation_theory.specs.TokenTexts.{IsInText, InTextLaw}

-- no line feed stands from one place up to another
abbrev HasNoFeed : List ℕ → ℕ → ℕ → Type 0
HasNoFeed text from to = (j : ℕ) → from ≤ j → j < to → slice_get text j ≢ Some line_feed

no_feed_join : (text : List ℕ) (from middle to : ℕ) → HasNoFeed text from middle → HasNoFeed text middle to → HasNoFeed text from to
no_feed_join text from middle to first second j low high at =
    ⊎_elim (λ less. first j low less at) (λ more. second j more high at) (cases_lt j middle)

-- a string that a pattern has there has none
no_feed_match : (text : List ℕ) (at len : ℕ) → at + len ≤ length text → ¬ (Contains (take len (drop at text)) 10) → HasNoFeed text at (at + len)
no_feed_match text at len inside none j low high feed =
    let size : length (take len (drop at text)) ≡ len = length-take-le len (drop at text) (let rest = length-drop at text in omega (arith, rest, inside)) in
    let place : at + (j - at) ≡ j = omega (arith, low) in
    let read : get_or (take len (drop at text)) (j - at) 10 ≡ 10 = get_or-take len (drop at text) (j - at) 10 (omega (arith, low, high)) ∙ get_or-drop at text (j - at) 10 ∙ ap (λ i. get_or text i 10) place ∙ get_or_from_slice_get text j 10 10 feed in
    none (j - at, omega (arith, size, low, high), read)

no_feed_byte : (text : List ℕ) (at : ℕ) → ¬ (IsLineEnd text at) → HasNoFeed text at (at + 1)
no_feed_byte text at not_end j low high feed =
    let same : j ≡ at = omega (arith, low, high) in
    not_end (inr (ap (slice_get text) (sym same) ∙ feed))

-- the tokens from a place stand one behind the other up to a line's end
record AreInLine (text : List ℕ) (at : ℕ) (tokens : List TextToken) : Type 0 where
  end : ℕ
  ends : IsLineEnd text end
  few : at + length tokens ≤ end
  inside : end ≤ length text
  no_feed : HasNoFeed text at end
  each : All (IsInText text) tokens

in_line_moved : {text : List ℕ} {tokens : List TextToken} (at next : ℕ) → at ≤ next → HasNoFeed text at next → AreInLine text next tokens → AreInLine text at tokens
in_line_moved {text = text} {tokens = tokens} at next less none rest = record {
  end = rest.end;
  ends = rest.ends;
  few = (let few = rest.few in omega (arith, few, less));
  inside = rest.inside;
  no_feed = no_feed_join text at next rest.end none rest.no_feed;
  each = rest.each;
}

in_line_token : {text : List ℕ} {tokens all : List TextToken} (at next : ℕ) (token : TextToken) → at < next → HasNoFeed text at next → IsInText text token → all ≡ token ∷ tokens → AreInLine text next tokens → AreInLine text at all
in_line_token {text = text} {tokens = tokens} {all = all} at next token less none here is rest = record {
  end = rest.end;
  ends = rest.ends;
  few = (let few = rest.few in let size : length all ≡ suc (length tokens) = ap length is in omega (arith, few, less, size));
  inside = rest.inside;
  no_feed = no_feed_join text at next rest.end none rest.no_feed;
  each = subst (All (IsInText text)) (sym is) (All-cons (IsInText text) token tokens here rest.each);
}

not_end_inside : (text : List ℕ) (at : ℕ) → ¬ (IsLineEnd text at) → at ≤ length text → at < length text
not_end_inside text at not_end within =
    ⊎_elim (λ less. less) (λ more. absurd (not_end (inl (omega (arith, within, more))))) (cases_lt at (length text))

module _ (scanning : Scanning) (text : List ℕ) where
  in_line : (line : ℕ) {at : ℕ} {tokens : List TextToken} → AreTokensFrom scanning text line at tokens → at ≤ length text → AreInLine text at tokens
  in_line line {at} (at_end ends) within = record {
    end = at;
    ends = ends;
    few = omega arith;
    inside = within;
    no_feed = (λ j low high at_feed. absurd (omega (arith, low, high)));
    each = All-nil (IsInText text);
  }
  in_line line {at} (takes_token {id = id} len not_end longest means more is) within =
      let found = longest.matches in
      let some = found.some in
      let inside = found.inside in
      in_line_token at (at + len) _ (omega (arith, some)) (no_feed_match text at len inside (Matches-no_feed found.matched)) inside is (in_line line more inside)
  in_line line {at} (skips len not_end longest means more) within =
      let found = longest.matches in
      let inside = found.inside in
      in_line_moved at (at + len) (omega arith) (no_feed_match text at len inside (Matches-no_feed found.matched)) (in_line line more inside)
  in_line line {at} (takes_bad_byte not_end none more is) within =
      let less : at < length text = not_end_inside text at not_end within in
      let inside : at + 1 ≤ length text = omega (arith, less) in
      in_line_token at (at + 1) _ (omega arith) (no_feed_byte text at not_end) inside is (in_line line more inside)

-- ---- lines

or_cases : (a b : Bool) → (a || b) ≡ true → (a ≡ true) ⊎ (b ≡ true)
or_cases true b e = inl refl
or_cases false b e = inr e

begins_of : (text : List ℕ) (next : ℕ) → 0 < next → begins_line text next ≡ true → slice_index text (next - 1) ≡ line_feed
begins_of text next above begins =
    ⊎_elim (λ e. (let none = (Decides-eqb next 0).0 e in absurd (omega (arith, none, above)))) (λ e. (Decides-eqb (slice_index text (next - 1)) line_feed).0 e) (or_cases (next == 0) (slice_index text (next - 1) == line_feed) begins)

at_index : (P : ℕ → Type 0) (xs : List ℕ) (k x : ℕ) → All P xs → slice_get xs k ≡ Some x → P x
at_index P xs k x all at = subst P (get_or_from_slice_get xs k x x at) (all k x (slice_get_within xs k x at))

start_begins : (text : List ℕ) (k next : ℕ) → slice_get (line_starts text) k ≡ Some next → begins_line text next ≡ true
unfolding line_starts
start_begins text k next at =
    at_index (λ x. begins_line text x ≡ true) (line_starts text) k next (filter_passes (begins_line text) (range_with_len 0 (length text))) at

start_inside : (text : List ℕ) (k next : ℕ) → slice_get (line_starts text) k ≡ Some next → next < length text
start_inside text k next at = at_index (λ x. x < length text) (line_starts text) k next (line_starts-inside text) at

start_rises : (text : List ℕ) (k at next : ℕ) → slice_get (line_starts text) k ≡ Some at → slice_get (line_starts text) (k + 1) ≡ Some next → at < next
start_rises text k at next here there =
    let starts : List ℕ = line_starts text in
    let less = line_starts-rising text k (slice_get_within starts (k + 1) next there) in
    let one : get_or starts k 0 ≡ at = get_or_from_slice_get starts k at 0 here in
    let other : get_or starts (k + 1) 0 ≡ next = get_or_from_slice_get starts (k + 1) next 0 there in
    omega (arith, less, one, other)

-- where no line feed stands from a line's first byte up to a place, the next line begins behind it
next_behind : (text : List ℕ) (k at next end : ℕ) → slice_get (line_starts text) k ≡ Some at → slice_get (line_starts text) (k + 1) ≡ Some next → HasNoFeed text at end → end ≤ next
next_behind text k at next end here there none =
    let rises = start_rises text k at next here there in
    let inside = start_inside text (k + 1) next there in
    let feed : slice_index text (next - 1) ≡ line_feed = begins_of text next (omega (arith, rises)) (start_begins text (k + 1) next there) in
    let found : slice_get text (next - 1) ≡ Some line_feed = slice_get-get_or text (next - 1) 0 (omega (arith, inside, rises)) ∙ ap Some feed in
    ⊎_elim (λ less. absurd (none (next - 1) (omega (arith, rises)) less found)) (λ more. omega (arith, more)) (cases_lt (next - 1) end)

-- tokens of lines of which the first begins at this place or behind it
record AreBehind (text : List ℕ) (at : ℕ) (tokens : List TextToken) : Type 0 where
  few : at + length tokens ≤ length text
  each : All (IsInText text) tokens

behind_line : {text : List ℕ} {here rest all : List TextToken} (bound at : ℕ) (line : AreInLine text at here) → bound ≤ at → AreBehind text line.end rest → all ≡ here ++ rest → AreBehind text bound all
behind_line {text = text} {here = here} {rest = rest} {all = all} bound at line low behind is = record {
  few = (let count : length all ≡ length here + length rest = ap length is ∙ length-append here rest in let few = line.few in let more = behind.few in omega (arith, count, few, more, low));
  each = subst (All (IsInText text)) (sym is) (All-append (IsInText text) here rest line.each behind.each);
}

module _ (scanning : Scanning) (text : List ℕ) where
  -- the line, if it is one of those up to line `to`, begins at the place or behind it
  abbrev BeginsBehind : ℕ → ℕ → ℕ → Type 0
  BeginsBehind to from bound = (start : ℕ) → from < to → slice_get (line_starts text) from ≡ Some start → bound ≤ start

  behind : {to from : ℕ} {tokens : List TextToken} → AreTokensOfLines scanning text to from tokens → (bound : ℕ) → bound ≤ length text → BeginsBehind to from bound → AreBehind text bound tokens
  behind (no_line same) bound within begins = record { few = omega (arith, within); each = All-nil (IsInText text) }
  behind {to} {from} (first_line {at = at} less start tokens more is) bound within begins =
      let low : bound ≤ at = begins at less start in
      let inside = start_inside text from at start in
      let line : AreInLine text at _ = in_line scanning text (from + 1) tokens (omega (arith, inside)) in
      behind_line bound at line low (behind more line.end line.inside (λ next below there. next_behind text from at next line.end start there line.no_feed)) is

pub in_text : InTextLaw
in_text scanning text tokens are =
    let behind = behind scanning text are 0 (omega arith) (λ start less there. omega arith) in
    record { each = behind.each; few = (let few = behind.few in omega (arith, few)) }
