-- The longest match, by the states of the strings that are read.
use Rattle.std.proofs.Common.{◌≡◌, ◌≢◌, ℕ, suc, ◌+◌, ◌-◌, ◌*◌, ◌/◌, ◌%◌, ◌<◌, ◌≤◌, inl, inr, ⊎_elim, List, [], ◌∷◌, ◌++◌, length, take, drop, get_or, sym, ap, ◌∙◌, subst, arith, length-drop}
use Rattle.std.specs.Prelude.{slice_get, slice_index, Option, Some, None, MatchOption, IfSome}
use Rattle.std.proofs.Math.Seq.{take-add}
use Rattle.std.proofs.lemmas.Bool.{cases_lt}
use Rattle.std.proofs.lemmas.List.{length-take, take_more, get_or-drop}
use Rattle.std.proofs.lemmas.Option.{slice_get_within}
use Rattle.pattern_data.specs.declared.pattern.Pattern.{Pattern}
use Rattle.position_theory.specs.Positions.{ReachesOne}
use Rattle.position_theory.specs.States.{HaveSameSet}
use Rattle.position_theory.proofs.MatchLemmas.{match_ends, ends_match, one_some}
use Rattle.position_theory.proofs.StateLemmas.{same_step, front_reaches, get_at}
use Rattle.scanning_theory.specs.Scan.{IsMatch, HasNoMatch, IsLongest}
use Rattle.scanning_theory.specs.declared.limits.TheConstants.{PATTERNS}
use Rattle.token_patterns.specs.Ahead.{no_rank}
use Rattle.token_patterns.specs.Scanner.{Table, IsStep, IsEnding, IsEnd, IsScannerOf, IsTable, EndsMatch}
use Rattle.token_patterns.specs.Walking.{read_of, IsBest, IsRead}

module _ (text : List ℕ) (from : ℕ) where
  pub read_length : (n : ℕ) → from + n ≤ length text → length (read_of text from n) ≡ n
  read_length n inside = length-take n (drop from text) ∙ (let rest : length (drop from text) ≡ length text - from = length-drop from text in omega (arith, rest))

  pub read_some : (n : ℕ) → 0 < n → from + n ≤ length text → read_of text from n ≢ []
  read_some n some inside none = let size : length (read_of text from n) ≡ 0 = ap length none in let is = read_length n inside in omega (arith, size, is, some)

  pub read_more : (n : ℕ) → from + n < length text → read_of text from (n + 1) ≡ read_of text from n ++ get_or text (from + n) 0 ∷ []
  read_more n inside =
      let rest : length (drop from text) ≡ length text - from = length-drop from text in
      take_more (drop from text) n 0 (omega (arith, rest)) ∙ ap (λ b. read_of text from n ++ b ∷ []) (get_or-drop from text n 0)

module _ (table : Table) (patterns : List Pattern) (s : IsScannerOf table patterns) (text : List ℕ) (from : ℕ) where
  -- ---- matches
  match_reaches : (len rank : ℕ) → IsMatch patterns text from len rank → IsEnding patterns (read_of text from len) rank
  match_reaches len rank m = match_ends patterns rank m.pattern (read_of text from len) m.ranked (read_some text from len m.some m.inside) m.matched

  ending_moved : (u w : List ℕ) (rank : ℕ) → HaveSameSet patterns u w → IsEnding patterns w rank → IsEnding patterns u rank
  ending_moved u w rank same (q, reach, ends) = (q, (same q).1 reach, ends)

  match_here : (n rank : ℕ) → 0 < n → from + n ≤ length text → rank < length patterns → IsEnding patterns (read_of text from n) rank → IsMatch patterns text from n rank
  match_here n rank some inside below ending =
      let p = get_at patterns rank below in
      record { pattern = p.0; ranked = p.1; some = some; inside = inside; matched = ends_match patterns rank p.0 (read_of text from n) p.1 ending.0 ending.1 ending.2 }

  rank_below : (len rank : ℕ) → IsMatch patterns text from len rank → rank < length patterns
  rank_below len rank m = slice_get_within patterns rank m.pattern m.ranked

  -- ---- one more byte
  best_none : (n : ℕ) (best : Option (ℕ × ℕ)) → ((rank : ℕ) → IsMatch patterns text from (n + 1) rank → ⊥) → IsBest patterns text from n best → IsBest patterns text from (n + 1) best
  best_none n None none best = λ len rank below m. ⊎_elim (λ less. best len rank (omega arith) m) (λ upper. let same : len ≡ n + 1 = omega arith in none rank (subst (λ l. IsMatch patterns text from l rank) same m)) (cases_lt len (n + 1))
  best_none n (Some found) none (m, longest, least) =
      (m, λ len rank below other. ⊎_elim (λ less. longest len rank (omega arith) other) (λ upper. let same : len ≡ n + 1 = omega arith in absurd (none rank (subst (λ l. IsMatch patterns text from l rank) same other))) (cases_lt len (n + 1)), least)

  module _ (n state : ℕ) (inside : from + (n + 1) ≤ length text) (r : IsRead table patterns s (read_of text from (n + 1)) state) (few : table.ranks ≤ PATTERNS) where
    end_here : IsEnd patterns (r.word) (slice_index table.ends state)
    end_here = s.ends state r.word (let below = slice_get_within s.words state r.word r.at in let size = s.states_are in omega (arith, below, size)) r.at

    from_read : (rank : ℕ) → IsMatch patterns text from (n + 1) rank → IsEnding patterns (r.word) rank
    from_read rank m = ending_moved r.word (read_of text from (n + 1)) rank r.same (match_reaches (n + 1) rank m)

    to_read : (rank : ℕ) → rank < length patterns → IsEnding patterns (r.word) rank → IsMatch patterns text from (n + 1) rank
    to_read rank below (q, reach, ends) = match_here (n + 1) rank (omega arith) inside below (q, (r.same q).0 reach, ends)

    no_end : slice_index table.ends state ≡ no_rank → IsEnd patterns (r.word) (slice_index table.ends state) → (rank : ℕ) → IsMatch patterns text from (n + 1) rank → ⊥
    no_end is (inl none) rank m = none.1 rank (rank_below (n + 1) rank m) (from_read rank m)
    no_end is (inr least) rank m = let below = least.0 in let ranks = s.ranks_are in omega (arith, is, below, ranks, few)

    some_end : slice_index table.ends state ≢ no_rank → IsEnd patterns (r.word) (slice_index table.ends state) → IsBest patterns text from (n + 1) (Some (n + 1, slice_index table.ends state))
    some_end other (inl none) = absurd (other none.0)
    some_end other (inr least) = (to_read (slice_index table.ends state) least.0 least.1, λ len rank under m. under, λ rank m. least.2 rank (rank_below (n + 1) rank m) (from_read rank m))

    pub best_more : (before result : Option (ℕ × ℕ)) → EndsMatch (slice_index table.ends state) (n + 1) before result → IsBest patterns text from n before → IsBest patterns text from (n + 1) result
    best_more before result (inl (is, same)) best = subst (λ (o : Option (ℕ × ℕ)). IsBest patterns text from (n + 1) o) (sym same) (best_none n before (no_end is end_here) best)
    best_more before result (inr (below, same)) best = subst (λ (o : Option (ℕ × ℕ)). IsBest patterns text from (n + 1) o) (sym same) (some_end below end_here)

  -- ---- the state of one more byte
  module _ (n state byte cell : ℕ) (inside : from + n < length text) (is_byte : byte ≡ get_or text (from + n) 0) (small : byte < 256) (r : IsRead table patterns s (read_of text from n) state)
      (sized : length table.cells ≡ 256 * length table.ends) (is_cell : cell ≡ slice_index table.cells (256 * state + byte)) where
    i : ℕ
    i = 256 * state + byte

    longer : read_of text from (n + 1) ≡ read_of text from n ++ byte ∷ []
    longer = read_more text from n inside ∙ ap (λ b. read_of text from n ++ b ∷ []) (sym is_byte)

    step_here : IsStep patterns s.words (r.word ++ byte ∷ []) cell
    step_here =
        let below = slice_get_within s.words state r.word r.at in
        let size = s.states_are in
        let state_is : (256 * state + byte) / 256 ≡ state = omega (arith, small) in
        let byte_is : (256 * state + byte) % 256 ≡ byte = omega (arith, small) in
        let step = s.steps (256 * state + byte) r.word (omega (arith, below, size, sized, small)) (ap (λ k. slice_get s.words k) state_is ∙ r.at) in
        subst (λ c. IsStep patterns s.words (r.word ++ byte ∷ []) c) (sym is_cell) (subst (λ b. IsStep patterns s.words (r.word ++ b ∷ []) (slice_index table.cells (256 * state + byte))) byte_is step)

    next_same : HaveSameSet patterns (r.word ++ byte ∷ []) (read_of text from (n + 1))
    next_same = subst (λ (w : List ℕ). HaveSameSet patterns (r.word ++ byte ∷ []) w) (sym longer) (same_step patterns r.word (read_of text from n) byte r.none r.same)

    -- where no string goes on, none is longer
    no_longer : ((q : ℕ) → ReachesOne patterns (r.word ++ byte ∷ []) q → ⊥) → (len rank : ℕ) → IsMatch patterns text from len rank → len ≤ n
    no_longer dead len rank m = ⊎_elim (λ less. omega arith)
        (λ upper.
        let rest : ℕ = len - (n + 1) in
        let parts : len ≡ (n + 1) + rest = omega arith in
        let cut : read_of text from len ≡ read_of text from (n + 1) ++ take rest (drop (n + 1) (drop from text)) = ap (λ k. take k (drop from text)) parts ∙ take-add (n + 1) rest (drop from text) in
        let ending = match_reaches len rank m in
        let reach : ReachesOne patterns (read_of text from (n + 1) ++ take rest (drop (n + 1) (drop from text))) ending.0 = subst (λ (w : List ℕ). ReachesOne patterns w ending.0) cut ending.1 in
        let some : read_of text from (n + 1) ≢ [] = read_some text from (n + 1) (omega arith) (omega arith) in
        let t = front_reaches patterns (read_of text from (n + 1)) (take rest (drop (n + 1) (drop from text))) ending.0 reach some in
        absurd (dead t.0 ((next_same t.0).1 t.1)))
        (cases_lt len (n + 1))

    pub dead_end : cell ≡ 0 → (len rank : ℕ) → IsMatch patterns text from len rank → len ≤ n
    dead_end zeroth = ⊎_elim
        (λ dead. no_longer dead.1)
        (λ alive. absurd (let above = alive.1 in omega (arith, above, zeroth)))
        step_here

    alive_word : (u : List ℕ) → 0 < cell → slice_get s.words cell ≡ Some u → u ≢ []
    alive_word u above at =
        let again : (words : List (List ℕ)) (k : ℕ) → slice_get words (suc k) ≡ Some u → slice_get (drop 1 words) k ≡ Some u = tail_at in
        let before : suc (cell - 1) ≡ cell = omega arith in
        let r = s.states.others.some (cell - 1) u (again s.words (cell - 1) (ap (λ k. slice_get s.words k) before ∙ at)) in
        one_some r.1
      where
        tail_at : (words : List (List ℕ)) (k : ℕ) → slice_get words (suc k) ≡ Some u → slice_get (drop 1 words) k ≡ Some u
        tail_at [] k at = absurd (cc)
        tail_at (w ∷ words) k at = at

    pub read_on : cell ≢ 0 → IsRead table patterns s (read_of text from (n + 1)) cell
    read_on other = ⊎_elim
        (λ dead. absurd (other dead.0))
        (λ alive.
        let some : read_of text from (n + 1) ≢ [] = read_some text from (n + 1) (omega arith) (omega arith) in
        let word_some = alive_word alive.0 alive.1 alive.2 in
        record {
          word = alive.0;
          at = alive.2;
          same = λ q. (λ reach. (next_same q).0 ((alive.3 q).0 reach), λ reach. (alive.3 q).1 ((next_same q).1 reach));
          none = (λ e. absurd (word_some e), λ e. absurd (some e));
        })
        step_here

  -- ---- the beginning and the end
  pub read_start : IsRead table patterns s (read_of text from 0) 0
  read_start = record { word = []; at = s.states.start; same = λ q. (λ r. r, λ r. r); none = (λ e. e, λ e. e) }

  pub best_start : IsBest patterns text from 0 None
  best_start len rank below m = let some = m.some in omega (arith, some, below)

  pub longest_of : (n : ℕ) (best : Option (ℕ × ℕ)) → ((len rank : ℕ) → IsMatch patterns text from len rank → len ≤ n) → IsBest patterns text from n best
      → MatchOption best (HasNoMatch patterns text from) (λ found. IsLongest patterns text from found.0 found.1)
  longest_of n None all best = λ len rank m. best len rank (all len rank m) m
  longest_of n (Some found) all (m, longest, least) = record { matches = m; longest = λ len rank other. longest len rank (all len rank other) other; least = least }

  pub all_read : (n : ℕ) → length text ≤ from + n → (len rank : ℕ) → IsMatch patterns text from len rank → len ≤ n
  all_read n done len rank m = let inside = m.inside in omega (arith, inside, done)

-- a fact of each match that is found
pub ended_keeps : (P : ℕ × ℕ → Type 0) (end len : ℕ) (before result : Option (ℕ × ℕ)) → EndsMatch end len before result → IfSome before P → (end ≢ no_rank → P (len, end)) → IfSome result P
ended_keeps P end len before result (inl (is, same)) old new = subst (λ (o : Option (ℕ × ℕ)). IfSome o P) (sym same) old
ended_keeps P end len before result (inr (other, same)) old new = subst (λ (o : Option (ℕ × ℕ)). IfSome o P) (sym same) (new other)

-- a match within what was read, when more was read
pub within_more : (best : Option (ℕ × ℕ)) (from at : ℕ) → IfSome best (λ found. from + found.0 ≤ at) → IfSome best (λ found. from + found.0 ≤ at + 1)
within_more None from at h = tt
within_more (Some found) from at h = omega (arith, h)

-- an end is a rank where it isn't that of no pattern
pub rank_of_end : (table : Table) (state : ℕ) → IsTable table → state < length table.ends → slice_index table.ends state ≢ no_rank → slice_index table.ends state < table.ranks
rank_of_end table state is inside other = ⊎_elim (λ none. absurd (other none)) (λ below. below) (is.ends_ranked state 0 inside)

pub cell_inside : (table : Table) (i : ℕ) → IsTable table → i < length table.cells → slice_index table.cells i < length table.ends
cell_inside table i is inside = is.cells_inside i 0 inside
