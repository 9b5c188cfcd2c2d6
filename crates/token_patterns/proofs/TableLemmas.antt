-- The search from its first state to its last: what is known when it begins, at each state, and when it is done.
use Rattle.std.proofs.Common.{◌≡◌, ◌≢◌, ℕ, zero, suc, ◌+◌, ◌*◌, ◌/◌, ◌%◌, ◌<◌, ◌≤◌, ◌↔◌, ◌⊎◌, inl, inr, ⊎_elim, false, List, [], ◌∷◌, ◌++◌, length, refl, sym, ap, ◌∙◌, subst, append_assoc, arith}
use Rattle.std.specs.Prelude.{slice_get, slice_index, Some}
use Rattle.std.specs.Global.{Vec}
use Rattle.std.proofs.lemmas.Bool.{false≢true, cases_eq}
use Rattle.std.proofs.lemmas.List.{append-nil}
use Rattle.std.proofs.lemmas.List.Elements.{All-head, All-tail, All-from_get_or}
use Rattle.std.proofs.lemmas.Option.{slice_get_within}
use Rattle.pattern_data.specs.declared.pattern.Pattern.{Pattern}
use Rattle.position_theory.specs.Positions.{count_all, ReachesOne}
use Rattle.position_theory.specs.States.{HaveSameSet, AreBytes, HasMoreStates, AreStates}
use Rattle.position_theory.proofs.MatchLemmas.{one_some, some_behind}
use Rattle.position_theory.proofs.StateLemmas.{same_step, front_reaches, more_states, get_at}
use Rattle.position_sets.specs.declared.following.Position.{Position}
use Rattle.position_sets.specs.Joints.{AreJoint}
use Rattle.position_sets.specs.Sets.{Has, IsSetOfWords, has_place}
use Rattle.token_patterns.specs.Ahead.{IsBehindOne, IsFirstRank, no_rank}
use Rattle.scanning_theory.specs.declared.limits.TheConstants.{PATTERNS, STATES}
use Rattle.token_patterns.specs.Scanner.{Table, IsStep, IsEnd, AreSteps, IsScannerOf, IsTable}
use Rattle.token_patterns.specs.Searching.{words_of, AreFound, IsSearch, IsAheadOf, IsSearchAt, IsSearchBefore, IsFoundOrAdded}
use Rattle.token_patterns.proofs.KeyLemmas.{length_words}
use Rattle.token_patterns.proofs.SearchLemmas.{front_ahead, set_ahead, different_sets, end_of, ends_pushed}

-- ---- the start
one_word : (x y : List ℕ) (k : ℕ) → slice_get (x ∷ []) k ≡ Some y → (k ≡ 0) × (x ≡ y)
one_word x y zero at = (refl, cc)
one_word x y (suc k) at = absurd (cc)

start_found : (patterns : List Pattern) (size : ℕ) (start : List ℕ) → IsSetOfWords size start → ((place : ℕ) → has_place start place ≡ false) → AreFound patterns size (start ∷ []) ([] ∷ [])
start_found patterns size start set none = record {
  count = refl;
  start = refl;
  after = λ k w s here there q.
      let a = one_word [] w k here in
      let b = one_word start s k there in
      (λ has. absurd (false≢true (sym (none q) ∙ subst (λ (x : List ℕ). Has x q) (sym b.1) has)), λ reach. absurd (one_some (subst (λ (x : List ℕ). ReachesOne patterns x q) (sym a.1) reach) refl));
  some = λ k w above at. absurd (let zeroth = (one_word [] w k at).0 in omega (arith, zeroth, above));
  bytes = λ k w at. subst AreBytes (one_word [] w k at).1 (λ i d below. absurd (omega arith));
  fit = λ k s at. subst (λ (x : List ℕ). IsSetOfWords size x) (one_word start s k at).1 set;
  once = λ i j s a b. (one_word start s i a).0 ∙ sym (one_word start s j b).0;
}

pub start_search : (patterns : List Pattern) (size : ℕ) (start : Vec ℕ) (none keys : List (Vec ℕ)) (k : ℕ) (cells ends : List ℕ) → IsSetOfWords size start.items → ((place : ℕ) → has_place start.items place ≡ false)
    → none ≡ [] → IsFoundOrAdded start.items (words_of none) (words_of keys) k → cells ≡ [] → ends ≡ [] → IsSearchBefore patterns size keys cells ends 0
start_search patterns size start none keys k cells ends set nothing empty added no_cells no_ends = ⊎_elim
    (λ old. absurd (let below = slice_get_within (words_of none) k start.items old.1 in let e : length (words_of none) ≡ 0 = ap (λ l. length (words_of l)) empty in omega (arith, below, e)))
    (λ new.
    let sets : words_of keys ≡ start.items ∷ [] = new.0 ∙ ap (λ l. words_of l ++ start.items ∷ []) empty in
    record {
      search = subst (λ (l : List (List ℕ)). IsSearch patterns size l cells ends) (sym sets) (record {
        words = [] ∷ [];
        found = start_found patterns size start.items set nothing;
        steps = λ i w below at. absurd (let e : length cells ≡ 0 = ap length no_cells in omega (arith, e, below));
        ends_are = λ i w below at. absurd (let e : length ends ≡ 0 = ap length no_ends in omega (arith, e, below));
      });
      cells_are = ap length no_cells;
      ends_count = ap length no_ends;
      few = let one : length (words_of keys) ≡ 1 = ap length sets in omega (arith, one, length_words keys);
    })
    added

-- ---- at a state
module _ (patterns : List Pattern) (size : ℕ) (positions : List Position) (front : List ℕ) (joint : AreJoint patterns (count_all patterns) size positions front)
    (keys : List (Vec ℕ)) (cells ends : List ℕ) (state : ℕ) (before : IsSearchBefore patterns size keys cells ends state) (inside : state < length keys)
    (ahead : List ℕ) (starts : state ≡ 0 → ahead ≡ front)
    (others : 0 < state → (set : List ℕ) → slice_get (words_of keys) state ≡ Some set → (place : ℕ) → Has ahead place ↔ IsBehindOne positions set place) where
  word_here : (w : List ℕ) × (slice_get (before.search.words) state ≡ Some w)
  word_here = get_at before.search.words state (omega (arith, before.search.found.count, length_words keys))

  set_here : (set : List ℕ) × (slice_get (words_of keys) state ≡ Some set)
  set_here = get_at (words_of keys) state (omega (arith, length_words keys))

  ahead_here : (w set : List ℕ) → slice_get (before.search.words) state ≡ Some w → slice_get (words_of keys) state ≡ Some set → (state ≡ 0) ⊎ (state ≡ 0 → ⊥) → IsAheadOf patterns w ahead
  ahead_here w set here there (inl zeroth) =
      let both : Some w ≡ Some [] = sym here ∙ ap (λ n. slice_get (before.search.words) n) zeroth ∙ before.search.found.start in
      let empty : w ≡ [] = cc in
      subst (λ (x : List ℕ). IsAheadOf patterns x ahead) (sym empty) (subst (λ (a : List ℕ). IsAheadOf patterns [] a) (sym (starts zeroth)) (front_ahead patterns size positions front joint))
  ahead_here w set here there (inr other) =
      let above : 0 < state = omega arith in
      let some = before.search.found.some state w above here in
      set_ahead patterns size positions front joint set ahead w (before.search.found.after state w set here there) (one_some some.1) (others above set there)

  pub search_at : (end : ℕ) → IsFirstRank ahead (count_all patterns) (length patterns) end → IsSearchAt patterns size (words_of keys) cells (ends ++ end ∷ []) state ahead
  search_at end is =
      let is_ahead = ahead_here word_here.0 set_here.0 word_here.1 set_here.1 (cases_eq state 0) in
      let at_end : slice_get (before.search.words) (length ends) ≡ Some (word_here.0) = ap (λ n. slice_get (before.search.words) n) before.ends_count ∙ word_here.1 in
      record {
        search = record {
          words = before.search.words;
          found = before.search.found;
          steps = before.search.steps;
          ends_are = ends_pushed patterns before.search.words ends end word_here.0 before.search.ends_are at_end (end_of patterns word_here.0 ahead end is_ahead is);
        };
        word = word_here.0;
        at = word_here.1;
        is_ahead = is_ahead;
      }

-- ---- when all states were looked at
module _ (patterns : List Pattern) (words : List (List ℕ)) (cells : List ℕ) (steps : AreSteps patterns words cells) (all : length cells ≡ 256 * length words)
    (some : (k : ℕ) (w : List ℕ) → 0 < k → slice_get words k ≡ Some w → (q : ℕ) × ReachesOne patterns w q) where
  abbrev IsSomeState : List ℕ → Type 0
  IsSomeState w = (i : ℕ) × (u : List ℕ) × (slice_get words i ≡ Some u) × HaveSameSet patterns u w

  -- from the state of a string over the bytes behind it
  pub walk : (rest w : List ℕ) (k : ℕ) (u : List ℕ) → slice_get words k ≡ Some u → HaveSameSet patterns u w → ((u ≡ []) ↔ (w ≡ [])) → AreBytes rest → (q : ℕ) → ReachesOne patterns (w ++ rest) q → IsSomeState (w ++ rest)
  walk [] w k u at same none bytes q reach = (k, u, at, subst (λ (x : List ℕ). HaveSameSet patterns u x) (sym (append-nil w)) same)
  walk (byte ∷ rest) w k u at same none bytes q reach =
      let small : byte < 256 = All-head (λ b. b < 256) byte rest bytes in
      let inside : k < length words = slice_get_within words k u at in
      let i : ℕ = 256 * k + byte in
      let state_is : i / 256 ≡ k = omega arith in
      let byte_is : i % 256 ≡ byte = omega arith in
      let below : i < length cells = omega (arith, all, inside, small) in
      let step = subst (λ b. IsStep patterns words (u ++ b ∷ []) (slice_index cells i)) byte_is (steps i u below (ap (λ n. slice_get words n) state_is ∙ at)) in
      let next : HaveSameSet patterns (u ++ byte ∷ []) (w ++ byte ∷ []) = same_step patterns u w byte none same in
      let joined : (w ++ byte ∷ []) ++ rest ≡ w ++ byte ∷ rest = append_assoc w (byte ∷ []) rest in
      let longer : w ++ byte ∷ [] ≢ [] = some_behind w (byte ∷ []) (λ e. cc) in
      let reach_now : ReachesOne patterns ((w ++ byte ∷ []) ++ rest) q = subst (λ (x : List ℕ). ReachesOne patterns x q) (sym joined) reach in
      let t = front_reaches patterns (w ++ byte ∷ []) rest q reach_now longer in
      let found : IsSomeState ((w ++ byte ∷ []) ++ rest) = ⊎_elim
      (λ dead. absurd {A = IsSomeState ((w ++ byte ∷ []) ++ rest)} (dead.1 t.0 ((next t.0).1 t.1)))
      (λ alive.
      let v_some : alive.0 ≢ [] = let r = some (slice_index cells i) alive.0 alive.1 alive.2 in one_some r.1 in
      walk rest (w ++ byte ∷ []) (slice_index cells i) alive.0 alive.2
      (λ n. (λ r. (next n).0 ((alive.3 n).0 r), λ r. (alive.3 n).1 ((next n).1 r)))
      (λ e. absurd (v_some e), λ e. absurd (longer e))
      (All-tail (λ b. b < 256) byte rest bytes) q reach_now)
      step in
      subst IsSomeState joined found

module _ (patterns : List Pattern) (size : ℕ) (keys : List (Vec ℕ)) (cells ends : List ℕ) (done : IsSearchBefore patterns size keys cells ends (length keys)) where
  words_count : length (done.search.words) ≡ length keys
  words_count = done.search.found.count ∙ length_words keys

  pub are_states : AreStates patterns (done.search.words)
  are_states = record {
    start = done.search.found.start;
    others = different_sets patterns size (words_of keys) done.search.words done.search.found;
    every = λ w bytes q reach.
        walk patterns done.search.words cells done.search.steps (done.cells_are ∙ ap (λ n. 256 * n) (sym words_count)) done.search.found.some
        w [] 0 [] done.search.found.start (λ n. (λ r. r, λ r. r)) (λ e. e, λ e. e) bytes q reach;
  }

  pub scanner_of : IsScannerOf (record { cells = cells; ends = ends; ranks = length patterns }) patterns
  scanner_of = record {
    ranks_are = refl;
    words = done.search.words;
    states = are_states;
    states_are = words_count ∙ sym done.ends_count;
    steps = done.search.steps;
    ends = done.search.ends_are;
  }

  pub not_more_states : HasMoreStates patterns STATES → ⊥
  not_more_states more = let above = (more_states patterns done.search.words STATES are_states).0 more in omega (arith, above, words_count, done.few)

-- ---- what a scanner may keep
module _ (patterns : List Pattern) (table : Table) (s : IsScannerOf table patterns) (sized : length table.cells ≡ 256 * length table.ends) (few : length patterns ≤ PATTERNS) where
  cell_inside : (cell : ℕ) (x : List ℕ) → IsStep patterns s.words x cell → cell < length table.ends
  cell_inside cell x (inl none) = let start = slice_get_within s.words 0 [] s.states.start in let same = s.states_are in let is = none.0 in omega (arith, start, same, is)
  cell_inside cell x (inr alive) = let below = slice_get_within s.words cell alive.0 alive.2 in let same = s.states_are in omega (arith, below, same)

  end_ranked : (end : ℕ) (x : List ℕ) → IsEnd patterns x end → (end ≡ no_rank) ⊎ (end < table.ranks)
  end_ranked end x (inl none) = inl none.0
  end_ranked end x (inr least) = inr (let below = least.0 in let same = s.ranks_are in omega (arith, below, same))

  pub table_of : IsTable table
  table_of = record {
    sized = sized;
    some = let start = slice_get_within s.words 0 [] s.states.start in let same = s.states_are in omega (arith, start, same);
    cells_inside = All-from_get_or (λ cell. cell < length table.ends) table.cells 0 (λ i below.
        let same = s.states_are in
        let w = get_at s.words (i / 256) (omega (arith, below, sized, same)) in
        cell_inside (slice_index table.cells i) (w.0 ++ i % 256 ∷ []) (s.steps i w.0 below w.1));
    ends_ranked = All-from_get_or (λ end. (end ≡ no_rank) ⊎ (end < table.ranks)) table.ends 0 (λ k below.
        let same = s.states_are in
        let w = get_at s.words k (omega (arith, below, same)) in
        end_ranked (slice_index table.ends k) w.0 (s.ends k w.0 below w.1));
    few = let same = s.ranks_are in omega (arith, same, few);
  }
