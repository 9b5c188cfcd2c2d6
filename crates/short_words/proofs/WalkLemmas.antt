-- The words of a rank are the byte strings that lead to a state at which a pattern of this rank ends.
use Rattle.std.proofs.Common.{◌≡◌, ◌≢◌, ℕ, zero, suc, ◌+◌, ◌-◌, ◌*◌, ◌/◌, ◌%◌, ◌<◌, ◌↔◌, ⊎_elim, List, [], ◌∷◌, ◌++◌, length, drop, refl, sym, ap, ◌∙◌, subst, arith, append_assoc, length-append}
use Rattle.std.specs.Prelude.{slice_get, slice_index, Some}
use Rattle.std.proofs.lemmas.List.{append-nil, take_all}
use Rattle.std.proofs.lemmas.List.Elements.{All-head, All-tail, All-append}
use Rattle.std.proofs.lemmas.Option.{slice_get_within}
use Rattle.pattern_data.specs.declared.pattern.Pattern.{Pattern}
use Rattle.pattern_data.specs.Language.{Matches}
use Rattle.position_theory.specs.Positions.{ReachesOne}
use Rattle.position_theory.specs.States.{HaveSameSet, AreBytes}
use Rattle.position_theory.proofs.MatchLemmas.{match_ends, ends_match, one_some}
use Rattle.position_theory.proofs.StateLemmas.{same_step, front_reaches, get_at}
use Rattle.sample_theory.specs.ShortestWords.{IsWordOf}
use Rattle.scanning_theory.specs.Scan.{IsMatch}
use Rattle.token_patterns.specs.Ahead.{no_rank}
use Rattle.token_patterns.specs.Scanner.{Table, IsStep, IsEnding, IsEnd, IsScannerOf, IsTable}
use Rattle.short_words.specs.Searching.{led_to, Leads, nowhere, by_byte}

some_length : (w : List ℕ) → w ≢ [] → 0 < length w
some_length [] some = absurd (some refl)
some_length (byte ∷ w) some = omega arith

not_empty : (w : List ℕ) → 0 < length w → w ≢ []
not_empty w some e = let none : length w ≡ 0 = ap length e in omega (arith, none, some)

longer_some : (w : List ℕ) (byte : ℕ) → w ++ byte ∷ [] ≢ []
longer_some w byte e = let none : length (w ++ byte ∷ []) ≡ 0 = ap length e in omega (arith, none, length-append w (byte ∷ []))

one_small : (b : ℕ) → b < 256 → AreBytes (b ∷ [])
one_small b below zero d less = below
one_small b below (suc i) d less = absurd (omega arith)

pub leads_bytes : {table : Table} {w : List ℕ} {state : ℕ} → Leads table w state → AreBytes w
leads_bytes (nowhere empty is) = subst AreBytes (sym empty) (λ i d below. absurd (omega arith))
leads_bytes (by_byte {w = w} {byte = byte} leads less is other longer) = subst AreBytes (sym longer) (pushed_bytes w byte less (leads_bytes leads))
  where
    pushed_bytes : (v : List ℕ) (b : ℕ) → b < 256 → AreBytes v → AreBytes (v ++ b ∷ [])
    pushed_bytes v b below are = All-append (λ byte. byte < 256) v (b ∷ []) are (one_small b below)

module _ (table : Table) (patterns : List Pattern) (s : IsScannerOf table patterns) (is : IsTable table) where
  -- the state is that of the string
  pub record IsRead (w : List ℕ) (state : ℕ) : Type 0 where
    pub word : List ℕ
    pub at : slice_get s.words state ≡ Some word
    pub same : HaveSameSet patterns word w
    pub none : (word ≡ []) ↔ (w ≡ [])

  module _ (w : List ℕ) (state byte : ℕ) (r : IsRead w state) (small : byte < 256) where
    step_here : IsStep patterns s.words (r.word ++ byte ∷ []) (led_to table state byte)
    step_here =
        let below = slice_get_within s.words state r.word r.at in
        let size = s.states_are in
        let sized = is.sized in
        let state_is : (256 * state + byte) / 256 ≡ state = omega (arith, small) in
        let byte_is : (256 * state + byte) % 256 ≡ byte = omega (arith, small) in
        let step = s.steps (256 * state + byte) r.word (omega (arith, below, size, sized, small)) (ap (λ k. slice_get s.words k) state_is ∙ r.at) in
        subst (λ b. IsStep patterns s.words (r.word ++ b ∷ []) (led_to table state byte)) byte_is step

    step_same : HaveSameSet patterns (r.word ++ byte ∷ []) (w ++ byte ∷ [])
    step_same = same_step patterns r.word w byte r.none r.same

    other_word : (u : List ℕ) (cell : ℕ) → 0 < cell → slice_get s.words cell ≡ Some u → u ≢ []
    other_word u cell above at =
        let before : suc (cell - 1) ≡ cell = omega (arith, above) in
        let reach = s.states.others.some (cell - 1) u (tail_at s.words (cell - 1) (ap (λ k. slice_get s.words k) before ∙ at)) in
        one_some reach.1
      where
        tail_at : (words : List (List ℕ)) (k : ℕ) → slice_get words (suc k) ≡ Some u → slice_get (drop 1 words) k ≡ Some u
        tail_at [] k found = absurd (cc)
        tail_at (v ∷ words) k found = found

    read_step : led_to table state byte ≢ 0 → IsRead (w ++ byte ∷ []) (led_to table state byte)
    read_step other = ⊎_elim
        (λ dead. absurd (other dead.0))
        (λ alive.
        let some = other_word alive.0 (led_to table state byte) alive.1 alive.2 in
        record {
          word = alive.0;
          at = alive.2;
          same = λ q. (λ reach. (step_same q).0 ((alive.3 q).0 reach), λ reach. (alive.3 q).1 ((step_same q).1 reach));
          none = (λ e. absurd (some e), λ e. absurd (longer_some w byte e));
        })
        step_here

    reached_step : (q : ℕ) → ReachesOne patterns (w ++ byte ∷ []) q → led_to table state byte ≢ 0
    reached_step q reach none = ⊎_elim
        (λ dead. dead.1 q ((step_same q).1 reach))
        (λ alive. let above = alive.1 in omega (arith, above, none))
        step_here

  pub leads_read : {w : List ℕ} {state : ℕ} → Leads table w state → IsRead w state
  leads_read {w} {state} (nowhere empty zeroth) = record {
    word = [];
    at = ap (λ k. slice_get s.words k) zeroth ∙ s.states.start;
    same = λ q. subst (λ (v : List ℕ). ReachesOne patterns [] q ↔ ReachesOne patterns v q) (sym empty) (λ r. r, λ r. r);
    none = (λ e. empty, λ e. refl);
  }
  leads_read (by_byte {w = w} {state = state} {next = next} {byte = byte} leads less here other longer) =
      let other_cell : led_to table state byte ≢ 0 = λ e. other (here ∙ e) in
      let r = read_step w state byte (leads_read leads) less other_cell in
      subst (λ (v : List ℕ). IsRead v next) (sym longer) (subst (λ k. IsRead (w ++ byte ∷ []) k) (sym here) r)

  pub leads_inside : {w : List ℕ} {state : ℕ} → Leads table w state → state < length table.ends
  leads_inside {w} {state} leads = let r = leads_read leads in let below = slice_get_within s.words state r.word r.at in let size = s.states_are in omega (arith, below, size)

  -- a string that reaches a position leads to a state
  reached_leads : (v w : List ℕ) (state q : ℕ) → Leads table w state → AreBytes v → ReachesOne patterns (w ++ v) q → (t : ℕ) × Leads table (w ++ v) t
  reached_leads [] w state q leads bytes reach = (state, subst (λ (u : List ℕ). Leads table u state) (sym (append-nil w)) leads)
  reached_leads (byte ∷ v) w state q leads bytes reach =
      let small = All-head (λ b. b < 256) byte v bytes in
      let parts : (w ++ byte ∷ []) ++ v ≡ w ++ byte ∷ v = append_assoc w (byte ∷ []) v in
      let whole : ReachesOne patterns ((w ++ byte ∷ []) ++ v) q = subst (λ (u : List ℕ). ReachesOne patterns u q) (sym parts) reach in
      let front = front_reaches patterns (w ++ byte ∷ []) v q whole (longer_some w byte) in
      let other = reached_step w state byte (leads_read leads) small front.0 front.1 in
      let t = reached_leads v (w ++ byte ∷ []) (led_to table state byte) q (by_byte leads small refl other refl) (All-tail (λ b. b < 256) byte v bytes) whole in
      (t.0, subst (λ (u : List ℕ). Leads table u t.0) parts t.1)

  -- ---- ends
  module _ (w : List ℕ) (state : ℕ) (r : IsRead w state) where
    end_here : IsEnd patterns r.word (slice_index table.ends state)
    end_here = s.ends state r.word (let below = slice_get_within s.words state r.word r.at in let size = s.states_are in omega (arith, below, size)) r.at

    moved : (rank : ℕ) → IsEnding patterns w rank → IsEnding patterns r.word rank
    moved rank (q, reach, ends) = (q, (r.same q).1 reach, ends)

    -- an ending of the string is a match of it, and the other way round
    ending_of : (rank : ℕ) → IsMatch patterns w 0 (length w) rank → IsEnding patterns w rank
    ending_of rank m = match_ends patterns rank m.pattern w m.ranked (not_empty w m.some) (subst (λ (u : List ℕ). Matches m.pattern u) (take_all (length w) w (omega arith)) m.matched)

    match_of : (rank : ℕ) → rank < length patterns → IsEnding patterns r.word rank → IsMatch patterns w 0 (length w) rank
    match_of rank below (q, reach, ends) =
        let p = get_at patterns rank below in
        let here = (r.same q).0 reach in
        record {
          pattern = p.0;
          ranked = p.1;
          some = some_length w (one_some here);
          inside = omega arith;
          matched = subst (λ (u : List ℕ). Matches p.0 u) (sym (take_all (length w) w (omega arith))) (ends_match patterns rank p.0 w p.1 q here ends);
        }

    rank_below : (rank : ℕ) → IsMatch patterns w 0 (length w) rank → rank < length patterns
    rank_below rank m = slice_get_within patterns rank m.pattern m.ranked

    word_end : (rank : ℕ) → IsWordOf patterns rank w → (slice_index table.ends state ≡ rank) × (rank ≢ no_rank)
    word_end rank word =
        let m = word.whole.matches in
        let below = rank_below rank m in
        let ending = moved rank (ending_of rank m) in
        let few = is.few in
        let ranks = s.ranks_are in (
          ⊎_elim
              (λ none. absurd (none.1 rank below ending))
              (λ least.
              let upper = least.2 rank below ending in
              let lower = word.whole.least (slice_index table.ends state) (match_of (slice_index table.ends state) least.0 least.1) in
              omega (arith, upper, lower))
              end_here,
          λ e. omega (arith, e, below, few, ranks),
        )

    end_word : (rank : ℕ) → AreBytes w → slice_index table.ends state ≡ rank → rank ≢ no_rank → IsWordOf patterns rank w
    end_word rank bytes ends other = ⊎_elim
        (λ none. absurd (other (sym ends ∙ none.0)))
        (λ least. record {
          bytes = bytes;
          whole = record {
            matches = match_of rank (let below = least.0 in omega (arith, below, ends)) (subst (λ k. IsEnding patterns r.word k) ends least.1);
            longest = λ len other_rank m. let inside = m.inside in omega (arith, inside);
            least = λ other_rank m. let upper = least.2 other_rank (rank_below other_rank m) (moved other_rank (ending_of other_rank m)) in omega (arith, upper, ends);
          };
        })
        end_here

  -- ---- words
  pub word_leads : (rank : ℕ) (w : List ℕ) → IsWordOf patterns rank w → (t : ℕ) × Leads table w t × (slice_index table.ends t ≡ rank) × (rank ≢ no_rank)
  word_leads rank w word =
      let m = word.whole.matches in
      let reach = match_ends patterns rank m.pattern w m.ranked (not_empty w m.some) (subst (λ (u : List ℕ). Matches m.pattern u) (take_all (length w) w (omega arith)) m.matched) in
      let t = reached_leads w [] 0 reach.0 (nowhere refl refl) word.bytes reach.1 in
      let end = word_end w t.0 (leads_read t.1) rank word in
      (t.0, t.1, end.0, end.1)

  pub leads_word : (rank : ℕ) (w : List ℕ) (state : ℕ) → Leads table w state → slice_index table.ends state ≡ rank → rank ≢ no_rank → IsWordOf patterns rank w
  leads_word rank w state leads ends other = end_word w state (leads_read leads) rank (leads_bytes leads) ends other
