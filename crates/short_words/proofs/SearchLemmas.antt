-- A search from its start, by one step after another, to its end.
use Rattle.std.proofs.Common.{◌≡◌, ◌≢◌, ℕ, zero, suc, ◌+◌, ◌*◌, ◌<◌, ◌≤◌, ◌⊎◌, inl, inr, ⊎_elim, Bool, true, false, List, [], ◌∷◌, ◌++◌, length, get_or, set, replicate, refl, sym, ap, ◌∙◌, subst, arith, length-append}
use Rattle.std.specs.Prelude.{slice_get, slice_index_or, slice_set, Some}
use Rattle.std.proofs.lemmas.Bool.{cases_lt, cases_eq, false≢true}
use Rattle.std.proofs.lemmas.List.{get_or-set_same, get_or-set_other, length-set}
use Rattle.std.proofs.lemmas.List.Sums.{sum_by-set}
use Rattle.std.proofs.lemmas.Option.{slice_get_within}
use Rattle.grammar_theory.proofs.DerivationLemmas.{slice_get_kept}
use Rattle.grammar_theory.proofs.RuleLemmas.{slice_get_last, slice_get_cases}
use Rattle.position_theory.proofs.StateLemmas.{get_at}
use Rattle.sample_theory.specs.WordNumbers.{number}
use Rattle.sample_theory.proofs.WordLemmas.{number_push}
use Rattle.token_patterns.specs.Scanner.{Table}
use Rattle.short_words.specs.declared.search.Found.{Found}
use Rattle.short_words.specs.Searching.{led_to, Leads, nowhere, by_byte, AreLinked, IsOneMore, IsSearch, IsMet, IsSearchTo, unseen, unseen_in, IsNoted, was_seen, is_new}

pub some_same : {X : Type 0} {x y : X} → Some x ≡ Some y → x ≡ y
some_same e = cc

-- no byte leads nowhere else than to the start
pub start_state : {table : Table} {w : List ℕ} {state : ℕ} → Leads table w state → w ≡ [] → state ≡ 0
start_state (nowhere empty zeroth) none = zeroth
start_state (by_byte {w = w} {byte = b} leads less here other longer) none = absurd (let size : length (w ++ b ∷ []) ≡ 0 = ap length (sym longer ∙ none) in omega (arith, size, length-append w (b ∷ [])))

-- ---- one step
module _ (table : Table) (found : List Found) (seen : List Bool) (at byte : ℕ) (s : IsSearchTo table found seen (256 * at + byte)) (f : Found) (here : slice_get found at ≡ Some f) (small : byte < 256) where
  abbrev pub next : ℕ
  next = led_to table f.state byte

  entry_word : (k : ℕ) (g : Found) → slice_get found k ≡ Some g → (w : List ℕ) × (slice_get s.words k ≡ Some w)
  entry_word k g gk = get_at s.words k (let below = slice_get_within found k g gk in let count = s.search.are.count in omega (arith, below, count))

  word_entry : (k : ℕ) (w : List ℕ) → slice_get s.words k ≡ Some w → (g : Found) × (slice_get found k ≡ Some g)
  word_entry k w wk = get_at found k (let below = slice_get_within s.words k w wk in let count = s.search.are.count in omega (arith, below, count))

  -- the step itself leads where it leads
  this_step : (k b : ℕ) (g : Found) → slice_get found k ≡ Some g → b < 256 → 256 * k + b ≡ 256 * at + byte → (k ≡ at) × (b ≡ byte) × (led_to table g.state b ≡ next)
  this_step k b g gk below same =
      let place : k ≡ at = omega (arith, below, small, same) in
      let bytes : b ≡ byte = omega (arith, below, small, same) in
      let entries : g ≡ f = some_same (sym gk ∙ ap (λ i. slice_get found i) place ∙ here) in
      (place, bytes, ap (λ (h : Found). led_to table h.state b) entries ∙ ap (λ i. led_to table f.state i) bytes)

  step_seen : slice_index_or seen next false ≡ true → IsSearchTo table found seen (256 * at + byte + 1)
  step_seen was =
      let old = s.seen_found next was in
      let word = entry_word old.0 old.1 old.2 in
      record {
        words = s.words;
        search = s.search;
        below = λ k i b w u wk ui less step. s.below k i b w u wk ui less (omega (arith, step));
        expanded = λ k b w g wk gk less before other. ⊎_elim
            (λ earlier. s.expanded k b w g wk gk less earlier other)
            (λ upper.
            let this = this_step k b g gk less (omega (arith, upper, before)) in
            let bound = s.below old.0 k b word.0 w word.1 wk less (omega (arith, upper)) in
            record { k = old.0; word = word.0; entry = old.1; word_at = word.1; entry_at = old.2; same = old.3 ∙ sym this.2; within = omega (arith, bound) })
            (cases_lt (256 * k + b) (256 * at + byte));
        inside = s.inside;
        found_seen = s.found_seen;
        seen_found = s.seen_found;
      }

  module _ (fresh : slice_index_or seen next false ≡ false) (fits : next < length seen) where
    abbrev entry : Found
    entry = record { from = at; state = next; byte = byte }

    abbrev u : List ℕ
    u = (entry_word at f here).0

    u_at : slice_get s.words at ≡ Some u
    u_at = (entry_word at f here).1

    abbrev new : List ℕ
    new = u ++ byte ∷ []

    abbrev more_found : List Found
    more_found = found ++ entry ∷ []

    abbrev more_words : List (List ℕ)
    more_words = s.words ++ new ∷ []

    new_number : number new ≡ 256 * number u + byte + 1
    new_number = number_push u byte

    count : length s.words ≡ length found
    count = s.search.are.count

    some : 0 < length found
    some = let start = slice_get_within s.words 0 [] s.search.are.start in omega (arith, start, count)

    -- the start was seen, so this is another state
    not_start : next ≢ 0
    not_start e =
        let first = word_entry 0 [] s.search.are.start in
        false≢true (sym fresh ∙ ap (λ k. slice_index_or seen k false) (e ∙ sym (start_state (s.search.lead 0 [] first.0 s.search.are.start first.1) refl)) ∙ s.found_seen 0 first.0 first.1)

    -- what a place of the longer lists has
    word_cases : (k : ℕ) (w : List ℕ) → slice_get more_words k ≡ Some w → (slice_get s.words k ≡ Some w) ⊎ ((k ≡ length found) × (new ≡ w))
    word_cases k w wk = ⊎_elim (λ old. inl old) (λ last. inr (last.0 ∙ count, last.1)) (slice_get_cases s.words new w k wk)

    entry_cases : (k : ℕ) (g : Found) → slice_get more_found k ≡ Some g → (slice_get found k ≡ Some g) ⊎ ((k ≡ length found) × (entry ≡ g))
    entry_cases k g gk = slice_get_cases found entry g k gk

    old_below : (k : ℕ) (w : List ℕ) → slice_get s.words k ≡ Some w → k < length found
    old_below k w wk = let below = slice_get_within s.words k w wk in omega (arith, below, count)

    old_entry_below : (k : ℕ) (g : Found) → slice_get found k ≡ Some g → k < length found
    old_entry_below k g gk = slice_get_within found k g gk

    both : {A : Type 0} (k : ℕ) (w : List ℕ) (g : Found) → slice_get more_words k ≡ Some w → slice_get more_found k ≡ Some g
        → (slice_get s.words k ≡ Some w → slice_get found k ≡ Some g → A) → (k ≡ length found → new ≡ w → entry ≡ g → A) → A
    both k w g wk gk old last = ⊎_elim
        (λ old_word. ⊎_elim (λ old_entry. old old_word old_entry) (λ l. absurd (let below = old_below k w old_word in let is = l.0 in omega (arith, below, is))) (entry_cases k g gk))
        (λ l. ⊎_elim (λ old_entry. absurd (let below = old_entry_below k g old_entry in let is = l.0 in omega (arith, below, is))) (λ m. last l.0 l.1 m.1) (entry_cases k g gk))
        (word_cases k w wk)

    word_kept : (k : ℕ) (w : List ℕ) → slice_get s.words k ≡ Some w → slice_get more_words k ≡ Some w
    word_kept k w wk = slice_get_kept s.words (new ∷ []) k wk

    entry_kept : (k : ℕ) (g : Found) → slice_get found k ≡ Some g → slice_get more_found k ≡ Some g
    entry_kept k g gk = slice_get_kept found (entry ∷ []) k gk

    met_kept : (state bound : ℕ) → IsMet found s.words state bound → IsMet more_found more_words state bound
    met_kept state bound m = record { k = m.k; word = m.word; entry = m.entry; word_at = word_kept m.k m.word m.word_at; entry_at = entry_kept m.k m.entry m.entry_at; same = m.same; within = m.within }

    below_new : (k : ℕ) (w : List ℕ) → slice_get s.words k ≡ Some w → number w < number new
    below_new k w wk = let less = s.below k at byte w u wk u_at small (omega arith) in omega (arith, less, new_number)

    linked : AreLinked more_found
    linked k g above gk = ⊎_elim (λ old. s.search.linked k g above old)
        (λ last. let below = old_entry_below at f here in let from : at ≡ g.from = ap (λ (h : Found). h.from) last.1 in let is = last.0 in omega (arith, below, from, is))
        (entry_cases k g gk)

    one_more_kept : (g : Found) (w : List ℕ) → IsOneMore s.words g w → IsOneMore more_words g w
    one_more_kept g w (v, from, is) = (v, word_kept g.from v from, is)

    step_search : IsSearch table more_found more_words
    step_search = record {
      are = record {
        count = length-append s.words (new ∷ []) ∙ (let two : length more_found ≡ length found + 1 = length-append found (entry ∷ []) in omega (arith, two, count));
        start = word_kept 0 [] s.search.are.start;
        longer = λ k w g above wk gk. both k w g wk gk
            (λ old_word old_entry. one_more_kept g w (s.search.are.longer k w g above old_word old_entry))
            (λ last is_new_word is_entry. subst (λ (h : Found). IsOneMore more_words h w) is_entry (u, word_kept at u u_at, sym is_new_word));
      };
      linked = linked;
      lead = λ k w g wk gk. both k w g wk gk
          (λ old_word old_entry. s.search.lead k w g old_word old_entry)
          (λ last is_new_word is_entry. subst (λ (h : Found). Leads table w h.state) is_entry (by_byte (s.search.lead at u f u_at here) small refl not_start (sym is_new_word)));
      rising = λ i j v w less vi wj. ⊎_elim
          (λ old. ⊎_elim (λ older. s.search.rising i j v w less older old)
          (λ last. absurd (let below = old_below j w old in let is = last.0 in omega (arith, below, is, less))) (word_cases i v vi))
          (λ last. ⊎_elim (λ older. subst (λ x. number v < number x) last.1 (below_new i v older))
          (λ first. absurd (let one = last.0 in let two = first.0 in omega (arith, one, two, less))) (word_cases i v vi))
          (word_cases j w wj);
    }

    -- later steps from earlier places are none
    later_step : (i b : ℕ) (w : List ℕ) → slice_get s.words i ≡ Some w → b < 256 → 256 * at + byte + 1 ≤ 256 * i + b → number new < 256 * number w + b + 1
    later_step i b w wi less step = ⊎_elim
        (λ after. let rise = s.search.rising at i u w after u_at wi in omega (arith, rise, new_number, small))
        (λ upper.
        let place : i ≡ at = omega (arith, upper, less, small, step) in
        let words : w ≡ u = some_same (sym wi ∙ ap (λ k. slice_get s.words k) place ∙ u_at) in
        let numbers : number w ≡ number u = ap number words in
        omega (arith, numbers, new_number, step, place))
        (cases_lt at i)

    step_below : (k i b : ℕ) (w v : List ℕ) → slice_get more_words k ≡ Some w → slice_get more_words i ≡ Some v → b < 256 → 256 * at + byte + 1 ≤ 256 * i + b → number w < 256 * number v + b + 1
    step_below k i b w v wk vi less step = ⊎_elim
        (λ old. ⊎_elim (λ older. s.below k i b w v older old less (omega (arith, step)))
        (λ last. let later = later_step i b v old less step in let same : number new ≡ number w = ap number last.1 in omega (arith, later, same)) (word_cases k w wk))
        (λ last.
        let same : number new ≡ number v = ap number last.1 in
        ⊎_elim (λ older. let under = below_new k w older in omega (arith, under, same))
        (λ also. let equal : number new ≡ number w = ap number also.1 in omega (arith, equal, same)) (word_cases k w wk))
        (word_cases i v vi)

    step_expanded : (k b : ℕ) (w : List ℕ) (g : Found) → slice_get more_words k ≡ Some w → slice_get more_found k ≡ Some g → b < 256 → 256 * k + b < 256 * at + byte + 1 → led_to table g.state b ≢ 0 → IsMet more_found more_words (led_to table g.state b) (256 * number w + b + 1)
    step_expanded k b w g wk gk less before other = both k w g wk gk
        (λ old_word old_entry. ⊎_elim
        (λ earlier. met_kept (led_to table g.state b) (256 * number w + b + 1) (s.expanded k b w g old_word old_entry less earlier other))
        (λ upper.
        let this = this_step k b g old_entry less (omega (arith, upper, before)) in
        let words : w ≡ u = some_same (sym old_word ∙ ap (λ i. slice_get s.words i) this.0 ∙ u_at) in
        let numbers : number w ≡ number u = ap number words in
        let bytes : b ≡ byte = this.1 in
        record {
          k = length found;
          word = new;
          entry = entry;
          word_at = ap (λ i. slice_get more_words i) (sym count) ∙ slice_get_last s.words new;
          entry_at = slice_get_last found entry;
          same = sym this.2;
          within = omega (arith, new_number, numbers, bytes);
        })
        (cases_lt (256 * k + b) (256 * at + byte)))
        (λ last is_new_word is_entry. absurd (let below = old_entry_below at f here in omega (arith, below, last, before)))

    abbrev more_seen : List Bool
    more_seen = slice_set seen next true

    seen_after : (state : ℕ) → (state ≡ next) ⊎ (slice_index_or seen state false ≡ true) → slice_index_or more_seen state false ≡ true
    seen_after state (inl e) = ap (λ k. slice_index_or more_seen k false) e ∙ get_or-set_same seen next true false fits
    seen_after state (inr was) = ⊎_elim
        (λ e. ap (λ k. slice_index_or more_seen k false) e ∙ get_or-set_same seen next true false fits)
        (λ other. get_or-set_other seen next state true false other ∙ was)
        (cases_eq state next)

    found_after : (state : ℕ) → slice_index_or more_seen state false ≡ true → (k : ℕ) × (g : Found) × (slice_get more_found k ≡ Some g) × (g.state ≡ state)
    found_after state is = ⊎_elim
        (λ e. (length found, entry, slice_get_last found entry, sym e))
        (λ other.
        let old = s.seen_found state (sym (get_or-set_other seen next state true false other) ∙ is) in
        (old.0, old.1, entry_kept old.0 old.1 old.2, old.3))
        (cases_eq state next)

    step_new : IsSearchTo table more_found more_seen (256 * at + byte + 1)
    step_new = record {
      words = more_words;
      search = step_search;
      below = step_below;
      expanded = step_expanded;
      inside = λ k g gk. ⊎_elim
          (λ old. let below = s.inside k g old in omega (arith, below, length-set seen next true))
          (λ last. let is : next ≡ g.state = ap (λ (h : Found). h.state) last.1 in omega (arith, fits, is, length-set seen next true))
          (entry_cases k g gk);
      found_seen = λ k g gk. ⊎_elim
          (λ old. seen_after g.state (inr (s.found_seen k g old)))
          (λ last. seen_after g.state (inl (sym (ap (λ (h : Found). h.state) last.1))))
          (entry_cases k g gk);
      seen_found = found_after;
    }

  -- the search when the state to which the step leads is noted
  pub noted : (new_found : List Found) (new_seen : List Bool) → next < length seen → IsNoted (record { from = at; state = next; byte = byte }) found seen new_found new_seen → IsSearchTo table new_found new_seen (256 * at + byte + 1)
  noted new_found new_seen fits (was_seen was same_found same_seen) =
      subst (λ (l : List Found). IsSearchTo table l new_seen (256 * at + byte + 1)) (sym same_found)
      (subst (λ (l : List Bool). IsSearchTo table found l (256 * at + byte + 1)) (sym same_seen) (step_seen was))
  noted new_found new_seen fits (is_new fresh more_of_found more_of_seen) =
      subst (λ (l : List Found). IsSearchTo table l new_seen (256 * at + byte + 1)) (sym more_of_found)
      (subst (λ (l : List Bool). IsSearchTo table (more_found fresh fits) l (256 * at + byte + 1)) (sym more_of_seen) (step_new fresh fits))

-- ---- what noting a state keeps
pub noted_size : {entry : Found} {found new_found : List Found} {seen new_seen : List Bool} → IsNoted entry found seen new_found new_seen → length new_seen ≡ length seen
noted_size (was_seen was same_found same_seen) = ap length same_seen
noted_size {entry} {seen = seen} (is_new fresh found_more seen_more) = ap length seen_more ∙ length-set seen entry.state true

pub noted_kept : {entry : Found} {found new_found : List Found} {seen new_seen : List Bool} → IsNoted entry found seen new_found new_seen → (k : ℕ) (f : Found) → slice_get found k ≡ Some f → slice_get new_found k ≡ Some f
noted_kept (was_seen was same_found same_seen) k f at = ap (λ l. slice_get l k) same_found ∙ at
noted_kept {entry} {found = found} (is_new fresh found_more seen_more) k f at = ap (λ l. slice_get l k) found_more ∙ slice_get_kept found (entry ∷ []) k at

pub noted_unseen : {entry : Found} {found new_found : List Found} {seen new_seen : List Bool} → entry.state < length seen → IsNoted entry found seen new_found new_seen → unseen_in new_seen + length new_found ≡ unseen_in seen + length found
noted_unseen fits (was_seen was same_found same_seen) =
    let one = ap unseen_in same_seen in
    let two = ap length same_found in
    omega (arith, one, two)
noted_unseen {entry} {found = found} {seen = seen} fits (is_new fresh found_more seen_more) =
    let sum : unseen_in (set seen entry.state true) + unseen (get_or seen entry.state false) ≡ unseen_in seen + 0 = sum_by-set unseen seen entry.state true false fits in
    let was : unseen (get_or seen entry.state false) ≡ 1 = ap unseen fresh in
    let now = ap unseen_in seen_more in
    let size : length new_size ≡ length found + 1 = length-append found (entry ∷ []) in
    let grown = ap length found_more in
    omega (arith, sum, was, now, size, grown)
  where
    new_size : List Found
    new_size = found ++ entry ∷ []

-- ---- the start
one_only : {X : Type 0} (x y : X) (k : ℕ) → slice_get (x ∷ []) k ≡ Some y → (k ≡ 0) × (x ≡ y)
one_only x y zero at = (refl, some_same at)
one_only x y (suc k) at = absurd (cc)

abbrev pub start : Found
start = record { from = 0; state = 0; byte = 0 }

pub started : (table : Table) (seen : List Bool) → 0 < length seen → ((k : ℕ) → slice_index_or seen k false ≡ false) → IsSearchTo table (start ∷ []) (slice_set seen 0 true) 0
started table seen some none = record {
  words = [] ∷ [];
  search = record {
    are = record {
      count = refl;
      start = refl;
      longer = λ k w f above wk fk. absurd (let e = (one_only [] w k wk).0 in omega (arith, e, above));
    };
    linked = λ k f above fk. absurd (let e = (one_only start f k fk).0 in omega (arith, e, above));
    lead = λ k w f wk fk. nowhere (sym (one_only [] w k wk).1) (sym (ap (λ (h : Found). h.state) (one_only start f k fk).1));
    rising = λ i j u v less ui vj. absurd (let e = (one_only [] v j vj).0 in omega (arith, e, less));
  };
  below = λ k at byte w u wk ui less step. let e : number [] ≡ number w = ap number (one_only [] w k wk).1 in omega (arith, e);
  expanded = λ k byte w f wk fk less before other. absurd (omega (arith, before));
  inside = λ k f fk. let e : 0 ≡ f.state = ap (λ (h : Found). h.state) (one_only start f k fk).1 in omega (arith, e, some, length-set seen 0 true);
  found_seen = λ k f fk. let e : 0 ≡ f.state = ap (λ (h : Found). h.state) (one_only start f k fk).1 in ap (λ i. slice_index_or (slice_set seen 0 true) i false) (sym e) ∙ get_or-set_same seen 0 true false some;
  seen_found = λ state is. ⊎_elim
      (λ e. (0, start, refl, sym e))
      (λ other. absurd (false≢true (sym (none state) ∙ sym (get_or-set_other seen 0 state true false other) ∙ is)))
      (cases_eq state 0);
}

pub none_seen : (n k : ℕ) → slice_index_or (replicate n false) k false ≡ false
none_seen zero k = refl
none_seen (suc n) zero = refl
none_seen (suc n) (suc k) = none_seen n k
