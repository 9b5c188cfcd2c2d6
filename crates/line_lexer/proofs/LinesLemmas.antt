-- The lines' starts.
use Rattle.std.proofs.Common.{◌≡◌, ℕ, zero, suc, ◌+◌, ◌-◌, Bool, true, false, cond, List, [], ◌∷◌, ◌++◌, length, get_or, refl, sym, ap, ◌∙◌, subst, append_assoc, ⊎_elim, arith}
use Rattle.std.specs.Prelude.{◌<◌, ◌≤◌, ◌==◌, ◌||◌, map, filter, slice_get, slice_index, Some, All}
use Rattle.std.specs.List.{range_with_len}
use Rattle.std.proofs.Math.Seq.{get_or-append_seam}
use Rattle.std.proofs.lemmas.Bool.Decides.{eqb_tells}
use Rattle.std.proofs.lemmas.List.{length-append, get_or_append_left}
use Rattle.std.proofs.lemmas.List.Elements.{All-get_or}
use Rattle.std.proofs.lemmas.Option.{slice_get_within, get_or_from_slice_get}
use Rattle.memchr.specs.Find.{is_byte, places_from, places}
use Rattle.scanning_theory.specs.Lines.{begins_line, line_starts}
use Rattle.scanning_theory.proofs.StartLemmas.{line_starts-inside}

-- behind each line feed a line begins
abbrev pub behind_each : List ℕ → List ℕ
behind_each feeds = map (λ k. k + 1) feeds

not_zero : (n : ℕ) → (suc n == 0) ≡ false
not_zero n = ⊎_elim (λ t. absurd (omega (arith, t.1))) (λ f. f.0) (eqb_tells (suc n) 0)

begins_next : (bytes : List ℕ) (at : ℕ) → begins_line bytes (suc at) ≡ (get_or bytes at 0 == 10)
begins_next bytes at =
    let same : suc at - 1 ≡ at = omega arith in
    ap (λ k. (suc at == 0) || (get_or bytes k 0 == 10)) same ∙ ap (λ b. b || (get_or bytes at 0 == 10)) (not_zero at)

step : (i : ℕ) (rest later : List ℕ) (b c : Bool) → b ≡ c → rest ≡ behind_each later → cond b ((i + 1) ∷ rest) rest ≡ behind_each (cond c (i ∷ later) later)
step i rest later true true e same = ap (λ l. (i + 1) ∷ l) same
step i rest later false false e same = same
step i rest later true false e same = absurd (cc)
step i rest later false true e same = absurd (cc)

module _ (front : List ℕ) (last : ℕ) where
  behind : (i : ℕ) → i < length front → begins_line (front ++ last ∷ []) (i + 1) ≡ is_byte 10 (slice_index front i)
  behind i inside =
      let next : i + 1 ≡ suc i = omega arith in
      ap (begins_line (front ++ last ∷ [])) next ∙ begins_next (front ++ last ∷ []) i ∙ ap (λ byte. byte == 10) (get_or_append_left front (last ∷ []) 0 i inside)

  starts_from : (n i : ℕ) → i + n ≤ length front → filter (begins_line (front ++ last ∷ [])) (range_with_len (i + 1) n) ≡ behind_each (places_from (is_byte 10) front i n)
  unfolding places_from
  starts_from zero i within = refl
  starts_from (suc n) i within =
      step i (filter (begins_line (front ++ last ∷ [])) (range_with_len (i + 1 + 1) n)) (places_from (is_byte 10) front (i + 1) n) (begins_line (front ++ last ∷ []) (i + 1)) (is_byte 10 (slice_index front i)) (behind i (omega (arith, within))) (starts_from n (i + 1) (omega (arith, within)))

-- a line begins at the first byte, and behind each line feed but one that ends the text
pub starts_by_feeds : (text front : List ℕ) (last : ℕ) → text ≡ front ++ last ∷ [] → line_starts text ≡ 0 ∷ behind_each (places (is_byte 10) front)
unfolding line_starts
starts_by_feeds text front last is =
    let count : length (front ++ last ∷ []) ≡ suc (length front) = length-append front (last ∷ []) ∙ omega arith in
    let all : length front - 0 ≡ length front = omega arith in
    ap (λ t. filter (begins_line t) (range_with_len 0 (length t))) is ∙ ap (λ n. filter (begins_line (front ++ last ∷ [])) (range_with_len 0 n)) count
    ∙ ap (λ l. 0 ∷ l) (starts_from front last (length front) 0 (omega arith) ∙ ap (λ n. behind_each (places_from (is_byte 10) front 0 n)) (sym all))

pub no_starts : (text : List ℕ) → length text ≡ 0 → line_starts text ≡ []
unfolding line_starts
no_starts text none = ap (λ n. filter (begins_line text) (range_with_len 0 n)) none

-- with one more start, the rest follows behind the other feeds
pub starts_more : (text starts now feeds later : List ℕ) (feed : ℕ) → starts ++ behind_each feeds ≡ line_starts text → feeds ≡ feed ∷ later → now ≡ starts ++ (feed + 1) ∷ [] → now ++ behind_each later ≡ line_starts text
starts_more text starts now feeds later feed before is pushed =
    ap (λ (l : List ℕ). l ++ behind_each later) pushed ∙ append_assoc starts ((feed + 1) ∷ []) (behind_each later) ∙ ap (λ l. starts ++ behind_each l) (sym is) ∙ before

-- what follows the starts is a start
pub next_inside : (text starts feeds later : List ℕ) (feed : ℕ) → starts ++ behind_each feeds ≡ line_starts text → feeds ≡ feed ∷ later → feed + 1 < length text
next_inside text starts feeds later feed before is =
    let all : starts ++ (feed + 1) ∷ behind_each later ≡ line_starts text = ap (λ l. starts ++ behind_each l) (sym is) ∙ before in
    let inside : All (λ at. at < length text) (starts ++ (feed + 1) ∷ behind_each later) = subst (λ (l : List ℕ). All (λ at. at < length text) l) (sym all) (line_starts-inside text) in
    let within : length starts < length (starts ++ (feed + 1) ∷ behind_each later) = omega (arith, length-append starts ((feed + 1) ∷ behind_each later)) in
    subst (λ n. n < length text) (get_or-append_seam starts (feed + 1) (behind_each later) 0) (All-get_or (λ at. at < length text) (starts ++ (feed + 1) ∷ behind_each later) (length starts) 0 within inside)

-- a line begins before the text's end
pub start-inside : (text starts : List ℕ) (line at : ℕ) → starts ≡ line_starts text → slice_get starts line ≡ Some at → at < length text
start-inside text starts line at is found =
    let here : slice_get (line_starts text) line ≡ Some at = ap (λ xs. slice_get xs line) (sym is) ∙ found in
    let P : ℕ → Type 0 = λ n. n < length text in
    subst P (get_or_from_slice_get (line_starts text) line at 0 here) (line_starts-inside text line 0 (slice_get_within (line_starts text) line at here))
