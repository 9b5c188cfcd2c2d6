-- Walks from their start to their answer, and the dead ends that they come to and leave.
use Rattle.std.proofs.Common.{◌≡◌, ◌≢◌, ℕ, ◌+◌, ◌-◌, ◌≤◌, ◌↔◌, ◌⊎◌, ⊎_elim, Bool, true, false, List, [], ◌∷◌, ◌++◌, length, take, drop, refl, sym, ap, ◌∙◌, subst, append_assoc, arith}
use Rattle.std.specs.Prelude.{Option, Some, None, MatchOption, IfSome}
use Rattle.std.proofs.Math.Seq.{take-add}
use Rattle.std.proofs.lemmas.Bool.{cases_lt}
use Rattle.std.proofs.lemmas.List.{append-nil, drop-drop}
use Rattle.dead_ends.specs.Pairs.{Pairs, Keeps}
use Rattle.pattern_data.specs.declared.pattern.Pattern.{Pattern}
use Rattle.pattern_data.specs.Language.{Matches}
use Rattle.position_theory.specs.Positions.{ReachesOne}
use Rattle.position_theory.specs.States.{HaveSameSet}
use Rattle.position_theory.proofs.MatchLemmas.{match_ends, ends_match, some_behind}
use Rattle.position_theory.proofs.StateLemmas.{same_step}
use Rattle.scanning_theory.specs.Scan.{IsMatch, HasNoMatch, IsLongest}
use Rattle.token_patterns.specs.Scanner.{Table, IsScannerOf, IsTable}
use Rattle.token_patterns.specs.Walking.{read_of, IsBest, IsRead, NoneLonger, IsWalk, IsDeadEnd, AreDeadEnds}
use Rattle.token_patterns.specs.declared.walk.Walk.{Walk}
use Rattle.token_patterns.proofs.LongestLemmas.{read_some, read_start, best_start, longest_of, all_read}

-- ---- strings with the same set, and more bytes behind both
same_behind : (patterns : List Pattern) (u v w : List ℕ) → ((u ≡ []) ↔ (v ≡ [])) → HaveSameSet patterns u v → HaveSameSet patterns (u ++ w) (v ++ w)
same_behind patterns u v [] none same = subst (λ (x : List ℕ). HaveSameSet patterns x (v ++ [])) (sym (append-nil u)) (subst (λ (x : List ℕ). HaveSameSet patterns u x) (sym (append-nil v)) same)
same_behind patterns u v (byte ∷ w) none same =
    let longer : HaveSameSet patterns ((u ++ byte ∷ []) ++ w) ((v ++ byte ∷ []) ++ w) =
    same_behind patterns (u ++ byte ∷ []) (v ++ byte ∷ []) w (λ e. absurd (some_behind u (byte ∷ []) (λ x. cc) e), λ e. absurd (some_behind v (byte ∷ []) (λ x. cc) e)) (same_step patterns u v byte none same) in
    subst (λ (x : List ℕ). HaveSameSet patterns x (v ++ byte ∷ w)) (append_assoc u (byte ∷ []) w) (subst (λ (x : List ℕ). HaveSameSet patterns ((u ++ byte ∷ []) ++ w) x) (append_assoc v (byte ∷ []) w) longer)

-- what is read further on
read_on_to : (text : List ℕ) (from n more : ℕ) → read_of text from (n + more) ≡ read_of text from n ++ take more (drop (from + n) text)
read_on_to text from n more = take-add n more (drop from text) ∙ ap (λ rest. read_of text from n ++ take more rest) (drop-drop n from text)

-- ---- dead ends
module _ (table : Table) (text : List ℕ) (from n state : ℕ) where
  -- a walk that comes to one has no longer match
  pub none_behind : (patterns : List Pattern) (s : IsScannerOf table patterns) → IsRead table patterns s (read_of text from n) state → IsDeadEnd table text (from + n) state → NoneLonger patterns text from n
  none_behind patterns s r dead len rank m = ⊎_elim (λ less. omega arith)
      (λ upper.
      let more : ℕ = len - n in
      let len_is : len ≡ n + more = omega (arith, upper) in
      let rest : List ℕ = take more (drop (from + n) text) in
      let cut : read_of text from len ≡ read_of text from n ++ rest = ap (λ k. read_of text from k) len_is ∙ read_on_to text from n more in
      let inside = m.inside in
      let some : read_of text from n ++ rest ≢ [] = λ none. read_some text from len m.some m.inside (cut ∙ none) in
      let matched : Matches m.pattern (read_of text from n ++ rest) = subst (λ (w : List ℕ). Matches m.pattern w) cut m.matched in
      let ending = match_ends patterns rank m.pattern (read_of text from n ++ rest) m.ranked some matched in
      let reach : ReachesOne patterns (r.word ++ rest) ending.0 = (same_behind patterns r.word (read_of text from n) rest r.none r.same ending.0).1 ending.1 in
      absurd (dead patterns s r.word r.at more rank m.pattern (omega (arith, upper)) (omega (arith, upper, inside)) m.ranked (ends_match patterns rank m.pattern (r.word ++ rest) m.ranked ending.0 reach ending.2)))
      (cases_lt len (n + 1))

  -- a state from which no longer match came is one
  pub dead_here : from + n ≤ length text → ((patterns : List Pattern) (s : IsScannerOf table patterns) → IsRead table patterns s (read_of text from n) state)
      → ((patterns : List Pattern) → IsScannerOf table patterns → NoneLonger patterns text from n) → IsDeadEnd table text (from + n) state
  dead_here here read none patterns s word at more rank pattern some inside ranked matches =
      let r = read patterns s in
      let both : Some word ≡ Some r.word = sym at ∙ r.at in
      let word_is : word ≡ r.word = cc in
      let rest : List ℕ = take more (drop (from + n) text) in
      let rest_some : rest ≢ [] = read_some text (from + n) more some inside in
      let matched : Matches pattern (r.word ++ rest) = subst (λ (w : List ℕ). Matches pattern (w ++ rest)) word_is matches in
      let ending = match_ends patterns rank pattern (r.word ++ rest) ranked (some_behind r.word rest rest_some) matched in
      let reach : ReachesOne patterns (read_of text from n ++ rest) ending.0 = (same_behind patterns r.word (read_of text from n) rest r.none r.same ending.0).0 ending.1 in
      let longer : Matches pattern (read_of text from (n + more)) = subst (λ (w : List ℕ). Matches pattern w) (sym (read_on_to text from n more)) (ends_match patterns rank pattern (read_of text from n ++ rest) ranked ending.0 reach ending.2) in
      let m : IsMatch patterns text from (n + more) rank = record { pattern = pattern; ranked = ranked; some = omega (arith, some); inside = omega (arith, inside); matched = longer } in
      let under = none patterns s (n + more) rank m in
      omega (arith, under, some)

-- no match is longer than the best of all
pub none_longer : (patterns : List Pattern) (text : List ℕ) (from read n : ℕ) (best : Option (ℕ × ℕ)) → IsBest patterns text from read best → NoneLonger patterns text from read → IfSome best (λ found. from + found.0 ≤ from + n) → NoneLonger patterns text from n
none_longer patterns text from read n None best all within other rank m = absurd (best other rank (all other rank m) m)
none_longer patterns text from read n (Some found) best all within other rank m = let under = best.1 other rank (all other rank m) m in omega (arith, under, within)

-- one pair more
pub dead_ends_more : (table : Table) (text : List ℕ) (old new : Pairs) (place state : ℕ) (can : Type 0) → ((p s : ℕ) → Keeps new p s ↔ (Keeps old p s ⊎ ((p ≡ place) × (s ≡ state) × can))) → AreDeadEnds table text old → IsDeadEnd table text place state → AreDeadEnds table text new
dead_ends_more table text old new place state can more before dead p s keeps = ⊎_elim
    (λ kept. before p s kept)
    (λ new_pair. subst (λ q. IsDeadEnd table text q s) (sym new_pair.0) (subst (λ t. IsDeadEnd table text place t) (sym new_pair.1) dead))
    ((more p s).0 keeps)

-- ---- walks
pub walk_start : (table : Table) (text : List ℕ) (from : ℕ) → IsTable table → from ≤ length text → IsWalk table text from (record { at = from; state = 0; best = None; ended = false })
walk_start table text from is inside =
    let none : from - from ≡ 0 = omega arith in
    record {
      begun = omega arith;
      inside = inside;
      state = is.some;
      small = omega arith;
      some = tt;
      within = tt;
      ranked = tt;
      best = λ patterns s. subst (λ n. IsBest patterns text from n None) (sym none) (best_start table patterns s text from);
      goes_on = λ _ patterns s. subst (λ n. IsRead table patterns s (read_of text from n) 0) (sym none) (read_start table patterns s text from);
      ends = λ e. absurd (cc);
    }

-- a walk that may end where it is
pub walk_stop : (table : Table) (text : List ℕ) (from : ℕ) (walk : Walk) → IsWalk table text from walk → ((patterns : List Pattern) → IsScannerOf table patterns → NoneLonger patterns text from (walk.at - from))
    → IsWalk table text from (record { at = walk.at; state = walk.state; best = walk.best; ended = true })
walk_stop table text from walk is none = record {
  begun = is.begun;
  inside = is.inside;
  state = is.state;
  small = is.small;
  some = is.some;
  within = is.within;
  ranked = is.ranked;
  best = is.best;
  goes_on = λ e. absurd (cc);
  ends = λ _. none;
}

pub at_text_end : (table : Table) (text : List ℕ) (from : ℕ) (walk : Walk) → IsWalk table text from walk → length text ≤ walk.at → (patterns : List Pattern) → IsScannerOf table patterns → NoneLonger patterns text from (walk.at - from)
at_text_end table text from walk is done patterns s = let begun = is.begun in all_read table patterns s text from (walk.at - from) (omega (arith, begun, done))

pub at_dead_end : (table : Table) (text : List ℕ) (from : ℕ) (walk : Walk) → IsWalk table text from walk → walk.ended ≡ false → IsDeadEnd table text walk.at walk.state → (patterns : List Pattern) → IsScannerOf table patterns → NoneLonger patterns text from (walk.at - from)
at_dead_end table text from walk is on dead patterns s =
    let begun = is.begun in
    let here : walk.at ≡ from + (walk.at - from) = omega (arith, begun) in
    none_behind table text from (walk.at - from) walk.state patterns s (is.goes_on on patterns s) (subst (λ p. IsDeadEnd table text p walk.state) here dead)

-- what a walk passed behind the best match of all is a dead end
pub dead_end_passed : (table : Table) (text : List ℕ) (from : ℕ) (far walk : Walk) → IsWalk table text from far → far.ended ≡ true → IsWalk table text from walk → walk.ended ≡ false → IfSome far.best (λ found. from + found.0 ≤ walk.at) → IsDeadEnd table text walk.at walk.state
dead_end_passed table text from far walk is_far ended is on beyond =
    let begun = is.begun in
    let inside = is.inside in
    let here : walk.at ≡ from + (walk.at - from) = omega (arith, begun) in
    let beyond_here : IfSome far.best (λ found. from + found.0 ≤ from + (walk.at - from)) = subst (λ p. IfSome far.best (λ found. from + found.0 ≤ p)) here beyond in
    subst (λ p. IsDeadEnd table text p walk.state) (sym here)
    (dead_here table text from (walk.at - from) walk.state (omega (arith, begun, inside)) (is.goes_on on)
    (λ patterns s. none_longer patterns text from (far.at - from) (walk.at - from) far.best (is_far.best patterns s) (is_far.ends ended patterns s) beyond_here))

-- the answer of a walk
pub walk_answer : (table : Table) (text : List ℕ) (from : ℕ) (walk : Walk) → IsWalk table text from walk → ((walk.ended ≡ false) → walk.at ≡ length text) → (patterns : List Pattern) → IsScannerOf table patterns
    → MatchOption walk.best (HasNoMatch patterns text from) (λ found. IsLongest patterns text from found.0 found.1)
walk_answer table text from walk is whole patterns s = longest_of table patterns s text from (walk.at - from) walk.best (all walk.ended refl) (is.best patterns s)
  where
    all : (b : Bool) → walk.ended ≡ b → NoneLonger patterns text from (walk.at - from)
    all true e = is.ends e patterns s
    all false e = let end = whole e in at_text_end table text from walk is (omega (arith, end)) patterns s

-- a match that ends before one place ends before each later one
pub ends_before : (best : Option (ℕ × ℕ)) (from at size : ℕ) → at ≤ size → IfSome best (λ found. from + found.0 ≤ at) → IfSome best (λ found. from + found.0 ≤ size)
ends_before None from at size under within = tt
ends_before (Some found) from at size under within = omega (arith, under, within)

-- how far beyond its match a walk has come
pub beyond_match : (best : Option (ℕ × ℕ)) (from size far at : ℕ) → MatchOption best (size ≡ 0) (λ found. size ≡ found.0) → at ≡ from + size + far → IfSome best (λ found. from + found.0 ≤ at)
beyond_match None from size far at is here = tt
beyond_match (Some found) from size far at is here = omega (arith, is, here)
