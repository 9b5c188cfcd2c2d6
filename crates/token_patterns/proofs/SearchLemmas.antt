-- The search of the states, step by step.
use Rattle.std.proofs.Common.{◌≡◌, ◌≢◌, ℕ, zero, suc, ◌+◌, ◌*◌, ◌/◌, ◌%◌, ◌<◌, ◌≤◌, ◌↔◌, ◌⊎◌, inl, inr, ⊎_elim, true, false, List, [], ◌∷◌, ◌++◌, length, length-append, drop, refl, sym, ap, ◌∙◌, subst, arith}
use Rattle.std.specs.Prelude.{◌&&◌, slice_get, slice_index, Some}
use Rattle.std.proofs.lemmas.Bool.{false≢true, and_from, and_parts, cases_eq, cases_lt}
use Rattle.std.proofs.lemmas.List.Elements.{All-push}
use Rattle.std.proofs.lemmas.Option.{slice_get_within}
use Rattle.grammar_data.proofs.WordLemmas.{equal_from_numbers}
use Rattle.pattern_data.specs.declared.pattern.Pattern.{Pattern}
use Rattle.position_theory.specs.Positions.{count_all, ReachesOne, IsFirstOfOne, ReadsAmong, Ends}
use Rattle.position_theory.specs.States.{HaveSameSet, AreBytes, HaveDifferentSets, HasMoreStates, IsAhead}
use Rattle.position_theory.proofs.BoundLemmas.{one_first_below, one_follows_below, one_reached_below, reads_all_below}
use Rattle.position_theory.proofs.MatchLemmas.{one_some}
use Rattle.position_theory.proofs.StepLemmas.{step_from_one, step_to_one}
use Rattle.position_theory.proofs.StateLemmas.{get_at}
use Rattle.position_sets.specs.declared.following.Position.{Position}
use Rattle.position_sets.specs.Joints.{AreJoint}
use Rattle.position_sets.specs.Sets.{Has, IsSetOfWords, has_place}
use Rattle.token_patterns.specs.Ahead.{IsBehindOne, ReadsAt, IsMaskOf, IsFirstRank}
use Rattle.token_patterns.specs.Scanner.{IsStep, IsEnding, IsEnd, AreSteps, AreEnds}
use Rattle.token_patterns.specs.Searching.{IsSetAfter, AreFound, IsAheadOf, IsSearchAt, IsCommonOf, IsCell, IsOneTooMany}
use Rattle.token_patterns.proofs.SetLemmas.{slice_get_last, slice_get_cases, kept_get}

-- ---- what is ahead
module _ (patterns : List Pattern) (size : ℕ) (positions : List Position) (front : List ℕ) (joint : AreJoint patterns (count_all patterns) size positions front) where
  first_ahead : (t : ℕ) → IsAhead patterns [] t → IsFirstOfOne patterns t
  first_ahead t (inl both) = both.1
  first_ahead t (inr both) = absurd (one_some both.1 refl)

  pub front_ahead : IsAheadOf patterns [] front
  front_ahead = record {
    next = λ t below. (λ has. inl (refl, (joint.front_has t).0 has), λ ahead. (joint.front_has t).1 (first_ahead t ahead));
    ending = λ rank below. (
      λ has. absurd (let far = one_first_below ((joint.front_has (count_all patterns + rank)).0 has) in omega (arith, far)),
      λ ends. absurd (one_some ends.1 refl),
    );
  }

  row_at : (q : ℕ) → q < count_all patterns → (row : Position) × (slice_get positions q ≡ Some row)
  row_at q below = get_at positions q (omega (arith, joint.count_is))

  -- behind a set of positions
  module _ (set ahead w : List ℕ) (after : IsSetAfter patterns set w) (some : w ≢ []) (places : (place : ℕ) → Has ahead place ↔ IsBehindOne positions set place) where
    next_from : (t : ℕ) → t < count_all patterns → IsBehindOne positions set t → IsAhead patterns w t
    next_from t below b = ⊎_elim
        (λ follows. inr (b.q, (after b.q).0 b.has, follows))
        (λ ends. absurd (let at = ends.1 in omega (arith, at)))
        ((joint.behind b.q b.row b.at t).0 b.next)

    next_to : (t : ℕ) → IsAhead patterns w t → IsBehindOne positions set t
    next_to t (inl both) = absurd (some both.0)
    next_to t (inr (q, reach, follows)) =
        let row = row_at q (one_reached_below reach) in
        record { q = q; row = row.0; at = row.1; has = (after q).1 reach; next = (joint.behind q row.0 row.1 t).1 (inl follows) }

    ending_from : (rank : ℕ) → IsBehindOne positions set (count_all patterns + rank) → IsEnding patterns w rank
    ending_from rank b = ⊎_elim
        (λ follows. absurd (let far = (one_follows_below follows).1 in omega (arith, far)))
        (λ ends. let same : ends.0 ≡ rank = let at = ends.1 in omega (arith, at) in (b.q, (after b.q).0 b.has, subst (λ r. Ends patterns r b.q) same ends.2))
        ((joint.behind b.q b.row b.at (count_all patterns + rank)).0 b.next)

    ending_to : (rank : ℕ) → IsEnding patterns w rank → IsBehindOne positions set (count_all patterns + rank)
    ending_to rank (q, reach, ends) =
        let row = row_at q (one_reached_below reach) in
        record { q = q; row = row.0; at = row.1; has = (after q).1 reach; next = (joint.behind q row.0 row.1 (count_all patterns + rank)).1 (inr (rank, refl, ends)) }

    pub set_ahead : IsAheadOf patterns w ahead
    set_ahead = record {
      next = λ t below. (λ has. next_from t below ((places t).0 has), λ h. (places t).1 (next_to t h));
      ending = λ rank below. (λ has. ending_from rank ((places (count_all patterns + rank)).0 has), λ h. (places (count_all patterns + rank)).1 (ending_to rank h));
    }

  -- ---- one more byte
  module _ (ahead mask w : List ℕ) (byte : ℕ) (is_ahead : IsAheadOf patterns w ahead) (is_mask : IsMaskOf positions byte mask) where
    reads_to : (q : ℕ) → ReadsAt positions byte q → ReadsAmong patterns q byte
    reads_to q r = (joint.reads q r.row r.at byte).0 r.member

    reads_from : (q : ℕ) → ReadsAmong patterns q byte → ReadsAt positions byte q
    reads_from q r = let row = row_at q (reads_all_below r) in record { row = row.0; at = row.1; member = (joint.reads q row.0 row.1 byte).1 r }

    both_reach : (q : ℕ) → Has ahead q → Has mask q → ReachesOne patterns (w ++ byte ∷ []) q
    both_reach q has in_mask =
        let reads = reads_to q ((is_mask q).0 in_mask) in
        step_to_one patterns w byte q ((is_ahead.next q (reads_all_below reads)).0 has) reads

    reach_both : (q : ℕ) → ReachesOne patterns (w ++ byte ∷ []) q → Has ahead q × Has mask q
    reach_both q reach =
        let h = step_from_one reach w byte refl in
        ((is_ahead.next q (reads_all_below h.1)).1 h.0, (is_mask q).1 (reads_from q h.1))

    pub common_after : (set : List ℕ) → ((place : ℕ) → has_place set place ≡ (has_place ahead place && has_place mask place)) → IsSetAfter patterns set (w ++ byte ∷ [])
    common_after set both q = (
      λ has. let h = and_parts (has_place ahead q) (has_place mask q) (sym (both q) ∙ has) in both_reach q h.0 h.1,
      λ reach. let h = reach_both q reach in both q ∙ and_from (has_place ahead q) (has_place mask q) h.0 h.1,
    )

    pub none_after : ((place : ℕ) → (has_place ahead place && has_place mask place) ≡ false) → (q : ℕ) → ReachesOne patterns (w ++ byte ∷ []) q → ⊥
    none_after none q reach = let h = reach_both q reach in false≢true (sym (none q) ∙ and_from (has_place ahead q) (has_place mask q) h.0 h.1)

-- ---- the sets that were found
module _ (patterns : List Pattern) (size : ℕ) (sets words : List (List ℕ)) (found : AreFound patterns size sets words) where
  set_at : (k : ℕ) (w : List ℕ) → slice_get words k ≡ Some w → (set : List ℕ) × (slice_get sets k ≡ Some set)
  set_at k w at = get_at sets k (let below = slice_get_within words k w at in omega (arith, below, found.count))

  pub word_at : (k : ℕ) (set : List ℕ) → slice_get sets k ≡ Some set → (w : List ℕ) × (slice_get words k ≡ Some w)
  word_at k set at = get_at words k (let below = slice_get_within sets k set at in omega (arith, below, found.count))

  -- two strings with the same set have one place
  one_place : (i j : ℕ) (u v : List ℕ) → slice_get words i ≡ Some u → slice_get words j ≡ Some v → HaveSameSet patterns u v → i ≡ j
  one_place i j u v here there same =
      let a = set_at i u here in
      let b = set_at j v there in
      let one : IsSetOfWords size a.0 = found.fit i a.0 a.1 in
      let other : IsSetOfWords size b.0 = found.fit j b.0 b.1 in
      let equal : a.0 ≡ b.0 = equal_from_numbers a.0 b.0 (one.size_is ∙ sym other.size_is) one.fit other.fit (λ q. places q) in
      found.once i j a.0 a.1 (b.1 ∙ ap Some (sym equal))
    where
      same_test : (a b : List ℕ) (q : ℕ) → (Has a q → Has b q) → (Has b q → Has a q) → has_place a q ≡ has_place b q
      same_test a b q to from = go (has_place a q) (has_place b q) to from
        where
          go : (x y : _) → (x ≡ true → y ≡ true) → (y ≡ true → x ≡ true) → x ≡ y
          go true y to from = sym (to refl)
          go false true to from = from refl
          go false false to from = refl

      places : (q : ℕ) → has_place (set_at i u here).0 q ≡ has_place (set_at j v there).0 q
      places q = same_test (set_at i u here).0 (set_at j v there).0 q
          (λ has. (found.after j v (set_at j v there).0 there (set_at j v there).1 q).1 ((same q).0 ((found.after i u (set_at i u here).0 here (set_at i u here).1 q).0 has)))
          (λ has. (found.after i u (set_at i u here).0 here (set_at i u here).1 q).1 ((same q).1 ((found.after j v (set_at j v there).0 there (set_at j v there).1 q).0 has)))

  pub different_sets : HaveDifferentSets patterns (drop 1 words)
  different_sets = record {
    bytes = λ i w at. found.bytes (suc i) w (later words i w at);
    some = λ i w at. found.some (suc i) w (omega arith) (later words i w at);
    different = λ i j u v less here there same. absurd (let equal = one_place (suc i) (suc j) u v (later words i u here) (later words j v there) same in omega (arith, equal));
  }
    where
      later : (words : List (List ℕ)) (i : ℕ) (w : List ℕ) → slice_get (drop 1 words) i ≡ Some w → slice_get words (suc i) ≡ Some w
      later [] i w at = absurd (cc)
      later (x ∷ xs) i w at = at

  pub words_some : 0 < length words
  words_some = slice_get_within words 0 [] found.start

  -- a new set is put last
  module _ (set x : List ℕ) (after : IsSetAfter patterns set x) (some : (q : ℕ) × ReachesOne patterns x q) (bytes : AreBytes x) (fit : IsSetOfWords size set) (fresh : (i : ℕ) → slice_get sets i ≡ Some set → ⊥) where
    after_more : (k : ℕ) (w s : List ℕ) → (slice_get words k ≡ Some w) ⊎ ((k ≡ length words) × (x ≡ w)) → (slice_get sets k ≡ Some s) ⊎ ((k ≡ length sets) × (set ≡ s)) → IsSetAfter patterns s w
    after_more k w s (inl here) (inl there) = found.after k w s here there
    after_more k w s (inl here) (inr last) = absurd (let below = slice_get_within words k w here in let at = last.0 in omega (arith, below, at, found.count))
    after_more k w s (inr last) (inl there) = absurd (let below = slice_get_within sets k s there in let at = last.0 in omega (arith, below, at, found.count))
    after_more k w s (inr a) (inr b) = subst (λ (y : List ℕ). IsSetAfter patterns s y) a.1 (subst (λ (y : List ℕ). IsSetAfter patterns y x) b.1 after)

    once_more : (i j : ℕ) (s : List ℕ) → (slice_get sets i ≡ Some s) ⊎ ((i ≡ length sets) × (set ≡ s)) → (slice_get sets j ≡ Some s) ⊎ ((j ≡ length sets) × (set ≡ s)) → i ≡ j
    once_more i j s (inl a) (inl b) = found.once i j s a b
    once_more i j s (inl a) (inr b) = absurd (fresh i (a ∙ ap Some (sym b.1)))
    once_more i j s (inr a) (inl b) = absurd (fresh j (b ∙ ap Some (sym a.1)))
    once_more i j s (inr a) (inr b) = a.0 ∙ sym b.0

    pub found_more : AreFound patterns size (sets ++ set ∷ []) (words ++ x ∷ [])
    found_more = record {
      count = length-append words (x ∷ []) ∙ ap (λ n. n + 1) found.count ∙ sym (length-append sets (set ∷ []));
      start = kept_get words (x ∷ []) 0 [] found.start;
      after = λ k w s here there. after_more k w s (slice_get_cases words x w k here) (slice_get_cases sets set s k there);
      some = λ k w above at. ⊎_elim (λ before. found.some k w above before) (λ last. subst (λ (y : List ℕ). (q : ℕ) × ReachesOne patterns y q) last.1 some) (slice_get_cases words x w k at);
      bytes = λ k w at. ⊎_elim (λ before. found.bytes k w before) (λ last. subst AreBytes last.1 bytes) (slice_get_cases words x w k at);
      fit = λ k s at. ⊎_elim (λ before. found.fit k s before) (λ last. subst (λ (y : List ℕ). IsSetOfWords size y) last.1 fit) (slice_get_cases sets set s k at);
      once = λ i j s a b. once_more i j s (slice_get_cases sets set s i a) (slice_get_cases sets set s j b);
    }

-- ---- cells and ends, as the search goes on
step_kept : (patterns : List Pattern) (words : List (List ℕ)) (more x : List ℕ) (cell : ℕ) → IsStep patterns words x cell → IsStep patterns (words ++ more ∷ []) x cell
step_kept patterns words more x cell (inl none) = inl none
step_kept patterns words more x cell (inr (u, above, at, same)) = inr (u, above, kept_get words (more ∷ []) cell u at, same)

pub steps_kept : (patterns : List Pattern) (words : List (List ℕ)) (cells more : List ℕ) → length cells ≤ 256 * length words → AreSteps patterns words cells → AreSteps patterns (words ++ more ∷ []) cells
steps_kept patterns words cells more few steps i w below at = ⊎_elim
    (λ before. step_kept patterns words more (w ++ i % 256 ∷ []) (slice_index cells i) (steps i w below before))
    (λ last. absurd (let e = last.0 in omega (arith, e, few, below)))
    (slice_get_cases words more w (i / 256) at)

pub ends_kept : (patterns : List Pattern) (words : List (List ℕ)) (ends more : List ℕ) → length ends ≤ length words → AreEnds patterns words ends → AreEnds patterns (words ++ more ∷ []) ends
ends_kept patterns words ends more few are k w below at = ⊎_elim
    (λ before. are k w below before)
    (λ last. absurd (let e = last.0 in omega (arith, e, few, below)))
    (slice_get_cases words more w k at)

-- an element of a list with one more
pub push_before : (xs : List ℕ) (x i : ℕ) → i < length xs → slice_index (xs ++ x ∷ []) i ≡ slice_index xs i
push_before [] x i below = absurd (omega arith)
push_before (y ∷ xs) x zero below = refl
push_before (y ∷ xs) x (suc i) below = push_before xs x i (omega arith)

pub push_last : (xs : List ℕ) (x i : ℕ) → i ≡ length xs → slice_index (xs ++ x ∷ []) i ≡ x
push_last [] x zero is = refl
push_last [] x (suc i) is = absurd (omega arith)
push_last (y ∷ xs) x zero is = absurd (omega arith)
push_last (y ∷ xs) x (suc i) is = push_last xs x i (omega arith)

pub steps_pushed : (patterns : List Pattern) (words : List (List ℕ)) (cells : List ℕ) (cell : ℕ) (word : List ℕ) → AreSteps patterns words cells → slice_get words (length cells / 256) ≡ Some word
    → IsStep patterns words (word ++ length cells % 256 ∷ []) cell → AreSteps patterns words (cells ++ cell ∷ [])
steps_pushed patterns words cells cell word steps at step i w below here = ⊎_elim
    (λ less. subst (λ c. IsStep patterns words (w ++ i % 256 ∷ []) c) (sym (push_before cells cell i less)) (steps i w less here))
    (λ upper.
    let size = length-append cells (cell ∷ []) in
    let last : i ≡ length cells = omega (arith, size, below, upper) in
    let both : Some word ≡ Some w = sym at ∙ ap (λ n. slice_get words (n / 256)) (sym last) ∙ here in
    let same : word ≡ w = cc in
    subst (λ c. IsStep patterns words (w ++ i % 256 ∷ []) c) (sym (push_last cells cell i last))
    (subst (λ n. IsStep patterns words (w ++ n % 256 ∷ []) cell) (sym last) (subst (λ (y : List ℕ). IsStep patterns words (y ++ length cells % 256 ∷ []) cell) same step)))
    (cases_lt i (length cells))

pub ends_pushed : (patterns : List Pattern) (words : List (List ℕ)) (ends : List ℕ) (end : ℕ) (word : List ℕ) → AreEnds patterns words ends → slice_get words (length ends) ≡ Some word → IsEnd patterns word end → AreEnds patterns words (ends ++ end ∷ [])
ends_pushed patterns words ends end word are at is k w below here = ⊎_elim
    (λ less. subst (λ e. IsEnd patterns w e) (sym (push_before ends end k less)) (are k w less here))
    (λ upper.
    let size = length-append ends (end ∷ []) in
    let last : k ≡ length ends = omega (arith, size, below, upper) in
    let both : Some word ≡ Some w = sym at ∙ ap (λ n. slice_get words n) (sym last) ∙ here in
    let same : word ≡ w = cc in
    subst (λ e. IsEnd patterns w e) (sym (push_last ends end k last)) (subst (λ (y : List ℕ). IsEnd patterns y end) same is))
    (cases_lt k (length ends))

pub end_of : (patterns : List Pattern) (w ahead : List ℕ) (result : ℕ) → IsAheadOf patterns w ahead → IsFirstRank ahead (count_all patterns) (length patterns) result → IsEnd patterns w result
end_of patterns w ahead result is (inl none) = inl (none.0, λ rank below ending. none.1 rank below ((is.ending rank below).1 ending))
end_of patterns w ahead result is (inr least) = inr (least.0, (is.ending result least.0).0 least.1, λ other below ending. least.2 other below ((is.ending other below).1 ending))

-- ---- a step of the search
module _ (patterns : List Pattern) (size : ℕ) (positions : List Position) (front : List ℕ) (joint : AreJoint patterns (count_all patterns) size positions front)
    (sets : List (List ℕ)) (cells ends : List ℕ) (state : ℕ) (ahead mask : List ℕ) (byte : ℕ) (s : IsSearchAt patterns size sets cells ends state ahead)
    (is_mask : IsMaskOf positions byte mask) (here : length cells ≡ 256 * state + byte) (small : byte < 256) (ended : length ends ≤ length sets) where
  inside : state < length (s.search.words)
  inside = slice_get_within s.search.words state s.word s.at

  few_cells : length cells ≤ 256 * length (s.search.words)
  few_cells = let below = inside in omega (arith, below)

  few_ends : length ends ≤ length (s.search.words)
  few_ends = omega (arith, s.search.found.count)

  state_is : length cells / 256 ≡ state
  state_is = omega arith

  byte_is : length cells % 256 ≡ byte
  byte_is = omega arith

  longer_bytes : AreBytes (s.word ++ byte ∷ [])
  longer_bytes = All-push (λ b. b < 256) s.word byte (s.search.found.bytes state s.word s.at) small

  -- the cell in the list of cells
  placed : (all : List (List ℕ)) (cell : ℕ) → slice_get all state ≡ Some s.word → IsStep patterns all (s.word ++ byte ∷ []) cell → AreSteps patterns all cells → AreSteps patterns all (cells ++ cell ∷ [])
  placed all cell at step steps =
      steps_pushed patterns all cells cell s.word steps (ap (λ n. slice_get all n) state_is ∙ at) (subst (λ b. IsStep patterns all (s.word ++ b ∷ []) cell) (sym byte_is) step)

  common_is : (set : List ℕ) → IsCommonOf size ahead mask set → IsSetAfter patterns set (s.word ++ byte ∷ [])
  common_is set c = common_after patterns size positions front joint ahead mask s.word byte s.is_ahead is_mask set c.both

  reached : (set : List ℕ) → IsCommonOf size ahead mask set → (q : ℕ) × ReachesOne patterns (s.word ++ byte ∷ []) q
  reached set c = (c.some.0, (common_is set c c.some.0).0 c.some.1)

  old_state : (set : List ℕ) (cell : ℕ) → IsCommonOf size ahead mask set → slice_get sets cell ≡ Some set → IsStep patterns s.search.words (s.word ++ byte ∷ []) cell
  old_state set cell c at =
      let u = word_at patterns size sets s.search.words s.search.found cell set at in
      let after = s.search.found.after cell u.0 set u.1 at in
      let same : HaveSameSet patterns u.0 (s.word ++ byte ∷ []) = λ q. (λ reach. (common_is set c q).0 ((after q).1 reach), λ reach. (after q).0 ((common_is set c q).1 reach)) in
      ⊎_elim
      (λ zeroth. absurd (start_empty u.0 (ap (λ n. slice_get s.search.words n) (sym zeroth) ∙ u.1) (c.some.0) ((after c.some.0).0 c.some.1)))
      (λ other. inr (u.0, omega arith, u.1, same))
      (cases_eq cell 0)
    where
      start_empty : (u : List ℕ) → slice_get s.search.words 0 ≡ Some u → (q : ℕ) → ReachesOne patterns u q → ⊥
      start_empty u at q reach =
          let both : Some u ≡ Some [] = sym at ∙ s.search.found.start in
          let empty : u ≡ [] = cc in
          one_some reach empty

  new_state : (set : List ℕ) (cell : ℕ) → cell ≡ length sets → IsStep patterns (s.search.words ++ (s.word ++ byte ∷ []) ∷ []) (s.word ++ byte ∷ []) cell
  new_state set cell is =
      let last : cell ≡ length (s.search.words) = is ∙ sym s.search.found.count in
      let some = words_some patterns size sets s.search.words s.search.found in
      inr (s.word ++ byte ∷ [], omega (arith, some, last), ap (λ n. slice_get (s.search.words ++ (s.word ++ byte ∷ []) ∷ []) n) last ∙ slice_get_last s.search.words (s.word ++ byte ∷ []), λ q. (λ r. r, λ r. r))

  found_now : (set : List ℕ) → IsCommonOf size ahead mask set → ((i : ℕ) → slice_get sets i ≡ Some set → ⊥) → AreFound patterns size (sets ++ set ∷ []) (s.search.words ++ (s.word ++ byte ∷ []) ∷ [])
  found_now set c fresh = found_more patterns size sets s.search.words s.search.found set (s.word ++ byte ∷ []) (common_is set c) (reached set c) longer_bytes c.fit fresh

  pub search_step : (new : List (List ℕ)) (cell : ℕ) → IsCell size ahead mask sets new cell → IsSearchAt patterns size new (cells ++ cell ∷ []) ends state ahead
  search_step new cell (inl (zeroth, same, none)) =
      subst (λ (l : List (List ℕ)). IsSearchAt patterns size l (cells ++ cell ∷ []) ends state ahead) (sym same) (record {
        search = record {
          words = s.search.words;
          found = s.search.found;
          steps = placed s.search.words cell s.at (inl (zeroth, none_after patterns size positions front joint ahead mask s.word byte s.is_ahead is_mask none)) s.search.steps;
          ends_are = s.search.ends_are;
        };
        word = s.word;
        at = s.at;
        is_ahead = s.is_ahead;
      })
  search_step new cell (inr (set, c, inl (same, at))) =
      subst (λ (l : List (List ℕ)). IsSearchAt patterns size l (cells ++ cell ∷ []) ends state ahead) (sym same) (record {
        search = record {
          words = s.search.words;
          found = s.search.found;
          steps = placed s.search.words cell s.at (old_state set cell c at) s.search.steps;
          ends_are = s.search.ends_are;
        };
        word = s.word;
        at = s.at;
        is_ahead = s.is_ahead;
      })
  search_step new cell (inr (set, c, inr (grown, last, fresh))) =
      let at_now = kept_get s.search.words ((s.word ++ byte ∷ []) ∷ []) state s.word s.at in
      subst (λ (l : List (List ℕ)). IsSearchAt patterns size l (cells ++ cell ∷ []) ends state ahead) (sym grown) (record {
        search = record {
          words = s.search.words ++ (s.word ++ byte ∷ []) ∷ [];
          found = found_now set c fresh;
          steps = placed (s.search.words ++ (s.word ++ byte ∷ []) ∷ []) cell at_now (new_state set cell last) (steps_kept patterns s.search.words cells (s.word ++ byte ∷ []) few_cells s.search.steps);
          ends_are = ends_kept patterns s.search.words ends (s.word ++ byte ∷ []) few_ends s.search.ends_are;
        };
        word = s.word;
        at = at_now;
        is_ahead = s.is_ahead;
      })

  pub too_many : (limit : ℕ) → IsOneTooMany size limit ahead mask sets → HasMoreStates patterns limit
  too_many limit many =
      let found = found_now many.set many.common many.fresh in
      let all = s.search.words ++ (s.word ++ byte ∷ []) ∷ [] in
      let count : length all ≡ length sets + 1 = found.count ∙ length-append sets (many.set ∷ []) in
      (drop 1 all, different_sets patterns size (sets ++ many.set ∷ []) all found, tail_length all (let full = many.full in omega (arith, count, full)))
    where
      tail_length : (all : List (List ℕ)) → limit < length all → limit < 1 + length (drop 1 all)
      tail_length [] above = omega arith
      tail_length (w ∷ all) above = omega arith
