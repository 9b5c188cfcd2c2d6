-- It is refuted that a text has no list of tokens.
use Rattle.std.proofs.Common.{◌≡◌, ℕ, zero, suc, ◌+◌, ◌<◌, ◌≤◌, ◌⊎◌, List, [], ◌∷◌, ◌++◌, length, get_or, refl, inl, inr, ⊎_elim, arith}
use Rattle.std.specs.Prelude.{slice_get, Some}
use Rattle.std.proofs.lemmas.Bool.{cases_lt}
use Rattle.std.proofs.lemmas.Option.{slice_get_within, slice_get-get_or}
use Rattle.grammar_data.specs.declared.token.Token.{Token}
use Rattle.pattern_data.specs.declared.pattern.Pattern.{Pattern}
use Rattle.pattern_data.specs.declared.pattern.Meaning.{Meaning}
use Rattle.pattern_data.specs.declared.pattern.Meaning.TheVariants.{Token as token_meaning, Skip as skip_meaning}
use Rattle.scanning_theory.specs.Lines.{IsLineEnd, line_starts}
use Rattle.scanning_theory.specs.Scan.{IsMatch, HasNoMatch, IsLongest, Scanning, bad_byte, token_at, AreTokensFrom, AreTokensOfLines, AreTokens}
use Rattle.scanning_theory.specs.Scan.AreTokensFrom.{at_end, takes_token, skips, takes_bad_byte}
use Rattle.scanning_theory.specs.Scan.AreTokensOfLines.{no_line, first_line}
use Rattle.scanning_theory.proofs.NotRefuted.{NotRefuted, decided, least, greatest}
use Rattle.scanning_theory.proofs.StartLemmas.{line_starts-inside}

-- a longest match at this place
abbrev HasLongest : List Pattern → List ℕ → ℕ → Type 0
HasLongest patterns text at = (len : ℕ) × (rank : ℕ) × IsLongest patterns text at len rank

module _ (patterns : List Pattern) (text : List ℕ) (at : ℕ) where
  -- some pattern has a string of this length there
  abbrev HasLen : ℕ → Type 0
  HasLen len = (rank : ℕ) × IsMatch patterns text at len rank

  some_longest : (len rank : ℕ) → IsMatch patterns text at len rank → ((o : ℕ) → o < length text + 1 → HasLen o → o ≤ len) → NotRefuted (HasLongest patterns text at)
  some_longest len rank matches above refuted =
      least (λ r. IsMatch patterns text at len r) (rank + 1)
      (λ found. ⊎_elim
      (λ none. none rank (omega arith) matches)
      (λ h. refuted (len, h.0, record { matches = h.1; longest = λ other_len other match. let inside : at + other_len ≤ length text = match.inside in above other_len (omega arith) (other, match); least = h.2 }))
      found)

  longest_or_none : NotRefuted (HasNoMatch patterns text at ⊎ HasLongest patterns text at)
  longest_or_none refuted =
      greatest HasLen (length text + 1)
      (λ found. ⊎_elim
      (λ none. refuted (inl (λ len rank match. let inside : at + len ≤ length text = match.inside in none len (omega arith) (rank, match))))
      (λ h. some_longest h.0 h.1.0 h.1.1 h.2 (λ longest. refuted (inr longest)))
      found)

module _ (scanning : Scanning) (text : List ℕ) (same : length scanning.patterns ≡ length scanning.means) where
  -- tokens from this place of the line
  abbrev HasTokens : ℕ → ℕ → Type 0
  HasTokens line at = (tokens : List Token) × AreTokensFrom scanning text line at tokens

  taken : (line at len rank : ℕ) (m : Meaning) → ¬ (IsLineEnd text at) → IsLongest scanning.patterns text at len rank → slice_get scanning.means rank ≡ Some m → HasTokens line (at + len) → HasTokens line at
  taken line at len rank (token_meaning id) not_end longest means (rest, more) = (token_at id line at len ∷ rest, takes_token len not_end longest means more refl)
  taken line at len rank skip_meaning not_end longest means (rest, more) = (rest, skips len not_end longest means more)

  meaning : (rank : ℕ) (pattern : Pattern) → slice_get scanning.patterns rank ≡ Some pattern → slice_get scanning.means rank ≡ Some (get_or scanning.means rank skip_meaning)
  meaning rank pattern ranked =
      let below : rank < length scanning.patterns = slice_get_within scanning.patterns rank pattern ranked in
      slice_get-get_or scanning.means rank skip_meaning (omega arith)

  some_from : (fuel line at : ℕ) → at ≤ length text → length text ≤ at + fuel → NotRefuted (HasTokens line at)
  some_from zero line at inside few refuted = refuted ([], at_end (inl (omega arith)))
  some_from (suc fuel) line at inside few refuted =
      decided (IsLineEnd text at) (λ ends. ⊎_elim
      (λ end. refuted ([], at_end end))
      (λ not_end.
      let more : at < length text = ⊎_elim (λ lower. lower) (λ upper. absurd (not_end (inl (omega arith)))) (cases_lt at (length text)) in
      longest_or_none scanning.patterns text at (λ found. ⊎_elim
      (λ none. some_from fuel line (at + 1) (omega arith) (omega arith) (λ rest. refuted (token_at (bad_byte scanning) line at 1 ∷ rest.0, takes_bad_byte not_end none rest.1 refl)))
      (λ h.
      let reach : at + h.0 ≤ length text = h.2.matches.inside in
      let some : 0 < h.0 = h.2.matches.some in
      some_from fuel line (at + h.0) reach (omega arith)
      (λ rest. refuted (taken line at h.0 h.1 (get_or scanning.means h.1 skip_meaning) not_end h.2 (meaning h.1 h.2.matches.pattern h.2.matches.ranked) rest)))
      found))
      ends)

  abbrev HasLineTokens : ℕ → Type 0
  HasLineTokens from = (tokens : List Token) × AreTokensOfLines scanning text (length (line_starts text)) from tokens

  some_of_lines : (fuel from : ℕ) → from + fuel ≡ length (line_starts text) → NotRefuted (HasLineTokens from)
  some_of_lines zero from all refuted = refuted ([], no_line (omega arith))
  some_of_lines (suc fuel) from all refuted =
      let here : from < length (line_starts text) = omega arith in
      let inside : get_or (line_starts text) from 0 < length text = line_starts-inside text from 0 here in
      some_from (length text) (from + 1) (get_or (line_starts text) from 0) (omega arith) (omega arith)
      (λ first. some_of_lines fuel (from + 1) (omega arith)
      (λ rest. refuted (first.0 ++ rest.0, first_line here (slice_get-get_or (line_starts text) from 0 here) first.1 rest.1 refl)))

pub some_list : (scanning : Scanning) (text : List ℕ) → length scanning.patterns ≡ length scanning.means → ((tokens : List Token) → AreTokens scanning text tokens → ⊥) → ⊥
some_list scanning text same none = some_of_lines scanning text same (length (line_starts text)) 0 (omega arith) (λ found. none found.0 found.1)
