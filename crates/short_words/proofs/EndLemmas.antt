-- The first state at which a rank ends has the shortest word of the rank; and where the search is done without one, there
-- is no word.
use Rattle.std.proofs.Common.{◌≡◌, ◌≢◌, ℕ, ◌+◌, ◌*◌, ◌<◌, ◌≤◌, ◌⊎◌, inl, inr, ⊎_elim, List, [], ◌∷◌, ◌++◌, length, refl, sym, ap, ◌∙◌, subst, arith}
use Rattle.std.specs.Prelude.{slice_get, slice_index, Some}
use Rattle.std.proofs.lemmas.Bool.{cases_lt}
use Rattle.std.proofs.lemmas.Option.{slice_get_within}
use Rattle.std.specs.Prelude.{Bool}
use Rattle.pattern_data.specs.declared.pattern.Pattern.{Pattern}
use Rattle.position_theory.proofs.StateLemmas.{get_at}
use Rattle.sample_theory.specs.ShortestWords.{IsWordOf, HasNoWord, IsShortestWord}
use Rattle.sample_theory.specs.WordNumbers.{number}
use Rattle.sample_theory.proofs.WordLemmas.{number_push, word_by_number}
use Rattle.token_patterns.specs.Ahead.{no_rank}
use Rattle.token_patterns.specs.Scanner.{Table, IsScannerOf, IsTable}
use Rattle.short_words.specs.declared.search.Found.{Found}
use Rattle.short_words.specs.Searching.{led_to, Leads, nowhere, by_byte, IsMet, IsSearchTo}
use Rattle.short_words.proofs.SearchLemmas.{some_same, start_state}
use Rattle.short_words.proofs.WalkLemmas.{leads_bytes, word_leads, leads_word}

module _ (table : Table) (found : List Found) (seen : List Bool) (at : ℕ) (s : IsSearchTo table found seen (256 * at)) where
  -- a place from which the search has not gone on has a string with a number within the bound
  abbrev IsAhead : ℕ → Type 0
  IsAhead bound = (k : ℕ) × (w : List ℕ) × (at ≤ k) × (slice_get s.words k ≡ Some w) × (number w ≤ bound)

  raise : (state bound upper : ℕ) → bound ≤ upper → IsMet found s.words state bound → IsMet found s.words state upper
  raise state bound upper more m = let within = m.within in record { k = m.k; word = m.word; entry = m.entry; word_at = m.word_at; entry_at = m.entry_at; same = m.same; within = omega (arith, within, more) }

  module _ (w : List ℕ) (state byte : ℕ) (small : byte < 256) (other : led_to table state byte ≢ 0) where
    one_more : IsMet found s.words state (number w) ⊎ IsAhead (number w) → IsMet found s.words (led_to table state byte) (number (w ++ byte ∷ [])) ⊎ IsAhead (number (w ++ byte ∷ []))
    one_more (inl m) =
        let push = number_push w byte in
        let within = m.within in
        ⊎_elim
        (λ less.
        let same : led_to table m.entry.state byte ≡ led_to table state byte = ap (λ q. led_to table q byte) m.same in
        let step = s.expanded m.k byte m.word m.entry m.word_at m.entry_at small (omega (arith, less, small)) (λ e. other (sym same ∙ e)) in
        inl (subst (λ q. IsMet found s.words q (number (w ++ byte ∷ []))) same
        (raise (led_to table m.entry.state byte) (256 * number m.word + byte + 1) (number (w ++ byte ∷ [])) (omega (arith, push, within)) step)))
        (λ ahead. inr (m.k, m.word, ahead, m.word_at, omega (arith, push, within)))
        (cases_lt m.k at)
    one_more (inr (k, v, ahead, found_at, within)) = let push = number_push w byte in inr (k, v, ahead, found_at, omega (arith, push, within))

  met : {w : List ℕ} {state : ℕ} → Leads table w state → IsMet found s.words state (number w) ⊎ IsAhead (number w)
  met {w} {state} (nowhere empty zeroth) =
      let start = s.search.are.start in
      let first = get_at found 0 (let below = slice_get_within s.words 0 [] start in let count = s.search.are.count in omega (arith, below, count)) in
      inl (record { k = 0; word = []; entry = first.0; word_at = start; entry_at = first.1; same = start_state (s.search.lead 0 [] first.0 start first.1) refl ∙ sym zeroth; within = omega arith })
  met (by_byte {w = w} {state = state} {next = next} {byte = byte} leads small here other longer) =
      let step = one_more w state byte small (λ e. other (here ∙ e)) (met leads) in
      subst (λ (u : List ℕ). IsMet found s.words next (number u) ⊎ IsAhead (number u)) (sym longer)
      (subst (λ q. IsMet found s.words q (number (w ++ byte ∷ [])) ⊎ IsAhead (number (w ++ byte ∷ []))) (sym here) step)

  module _ (patterns : List Pattern) (scanner : IsScannerOf table patterns) (is : IsTable table) (rank : ℕ)
      (none : (k : ℕ) (f : Found) → k < at → slice_get found k ≡ Some f → slice_index table.ends f.state ≡ rank → rank ≢ no_rank → ⊥) where
    -- each word of the rank has a place ahead that is no later
    word_ahead : (w : List ℕ) → IsWordOf patterns rank w → IsAhead (number w)
    word_ahead w word =
        let t = word_leads table patterns scanner is rank w word in
        ⊎_elim
        (λ m.
        let ends : slice_index table.ends m.entry.state ≡ rank = ap (λ q. slice_index table.ends q) m.same ∙ t.2 in
        ⊎_elim (λ less. absurd (none m.k m.entry less m.entry_at ends t.3)) (λ ahead. (m.k, m.word, ahead, m.word_at, m.within)) (cases_lt m.k at))
        (λ ahead. ahead)
        (met t.1)

    pub no_word : length found ≤ at → HasNoWord patterns rank
    no_word done w word =
        let a = word_ahead w word in
        let below = slice_get_within s.words a.0 a.1 a.3 in
        let count = s.search.are.count in
        let ahead = a.2 in
        omega (arith, below, count, ahead, done)

    pub shortest : (f : Found) (w : List ℕ) → slice_get found at ≡ Some f → slice_get s.words at ≡ Some w → slice_index table.ends f.state ≡ rank → rank ≢ no_rank → IsShortestWord patterns rank w
    shortest f w here word_here ends other =
        let leads = s.search.lead at w f word_here here in
        record {
          is_word = leads_word table patterns scanner is rank w f.state leads ends other;
          least = λ v word.
              let a = word_ahead v word in
              let ahead = a.2 in
              let within = a.4 in
              let upper : number w ≤ number a.1 = ⊎_elim
              (λ less. let rise = s.search.rising at a.0 w a.1 less word_here a.3 in omega (arith, rise))
              (λ last. let same : at ≡ a.0 = omega (arith, last, ahead) in let words : w ≡ a.1 = some_same (sym word_here ∙ ap (λ k. slice_get s.words k) same ∙ a.3) in let numbers = ap number words in omega (arith, numbers))
              (cases_lt at a.0) in
              word_by_number w v (leads_bytes leads) word.bytes (omega (arith, upper, within));
        }
