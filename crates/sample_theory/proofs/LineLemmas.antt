-- The lines of words, each on a line of its own, are the words, and the tokens of these lines are the words' tokens.
use Rattle.std.proofs.Common.{◌≡◌, ◌≢◌, ℕ, zero, suc, ◌+◌, ◌-◌, ◌<◌, ◌≤◌, inl, inr, ⊎_elim, Bool, true, false, List, [], ◌∷◌, ◌++◌, length, take, drop, filter, cond, refl, sym, ap, ◌∙◌, subst, arith, append_assoc, length-append, ne_eqb}
use Rattle.std.specs.Prelude.{slice_get, slice_index, Contains, Some, ◌==◌, ◌||◌}
use Rattle.std.specs.List.{range_with_len}
use Rattle.std.proofs.Math.Seq.{drop-append_seam, take-append_seam}
use Rattle.std.proofs.lemmas.Bool.{cases_lt}
use Rattle.std.proofs.lemmas.List.{take_all}
use Rattle.grammar_data.specs.declared.token.Token.{Token as TextToken}
use Rattle.grammar_theory.specs.Trees.{ids_of}
use Rattle.pattern_data.specs.declared.pattern.Pattern.{Pattern}
use Rattle.pattern_data.specs.Language.{Matches}
use Rattle.pattern_data.proofs.LanguageLemmas.{Matches-no_feed}
use Rattle.scanning_theory.specs.Lines.{line_feed, begins_line, line_starts, IsLineEnd}
use Rattle.scanning_theory.specs.Scan.{Scanning, IsMatch, IsLongest, AreTokensFrom, at_end, takes_token, AreTokensOfLines, no_line, first_line, AreTokens, token_at}
use Rattle.sample_theory.specs.Samples.{IsWordFor, AreWordsFor, no_token, word_first, lines_of, TokensLaw, TextLaw}
use Rattle.sample_theory.specs.Choices.{AreChosenTokens}
use Rattle.sample_theory.proofs.ChoiceLemmas.{choice_law}

-- ---- where lines begin
-- in bytes from a place on, which is the beginning of a line or not
abbrev starts_from : ℕ → Bool → List ℕ → List ℕ
starts_from at fresh [] = []
starts_from at fresh (byte ∷ bytes) = cond fresh (at ∷ starts_from (at + 1) (byte == line_feed) bytes) (starts_from (at + 1) (byte == line_feed) bytes)

byte_at : (front : List ℕ) (byte : ℕ) (rest : List ℕ) → slice_index (front ++ byte ∷ rest) (length front) ≡ byte
byte_at [] byte rest = refl
byte_at (x ∷ front) byte rest = byte_at front byte rest

some_at : (front : List ℕ) (byte : ℕ) (rest : List ℕ) → slice_get (front ++ byte ∷ rest) (length front) ≡ Some byte
some_at [] byte rest = refl
some_at (x ∷ front) byte rest = some_at front byte rest

starts_behind : (front : List ℕ) (byte : ℕ) (bytes : List ℕ) → filter (begins_line (front ++ byte ∷ bytes)) (range_with_len (length front + 1) (length bytes)) ≡ starts_from (length front + 1) (byte == line_feed) bytes
starts_behind front byte [] = refl
starts_behind front byte (next ∷ bytes) =
    let text : List ℕ = front ++ byte ∷ next ∷ bytes in
    let longer : List ℕ = front ++ byte ∷ [] in
    let text_is : longer ++ next ∷ bytes ≡ text = append_assoc front (byte ∷ []) (next ∷ bytes) in
    let size : length longer ≡ length front + 1 = length-append front (byte ∷ []) in
    let rest = starts_behind longer next bytes in
    let moved = subst (λ k. filter (begins_line text) (range_with_len (k + 1) (length bytes)) ≡ starts_from (k + 1) (next == line_feed) bytes) size
    (subst (λ (t : List ℕ). filter (begins_line t) (range_with_len (length longer + 1) (length bytes)) ≡ starts_from (length longer + 1) (next == line_feed) bytes) text_is rest) in
    let not_first : (length front + 1 == 0) ≡ false = ne_eqb (length front + 1) 0 (λ e. omega (arith, e)) in
    let before : length front + 1 - 1 ≡ length front = omega arith in
    let here : begins_line text (length front + 1) ≡ (byte == line_feed) =
    ap (λ b. b || (slice_index text (length front + 1 - 1) == line_feed)) not_first ∙ ap (λ k. slice_index text k == line_feed) before ∙ ap (λ x. x == line_feed) (byte_at front byte (next ∷ bytes)) in
    let behind : List ℕ = filter (begins_line text) (range_with_len (length front + 1 + 1) (length bytes)) in
    ap (λ b. cond b ((length front + 1) ∷ behind) behind) here ∙ ap (λ l. cond (byte == line_feed) ((length front + 1) ∷ l) l) moved

line_starts-from : (text : List ℕ) → line_starts text ≡ starts_from 0 true text
unfolding line_starts
line_starts-from [] = refl
line_starts-from (byte ∷ bytes) = ap (λ l. 0 ∷ l) (starts_behind [] byte bytes)

-- ---- the lines of words
-- where words begin, each on a line of its own
abbrev places : ℕ → List (List ℕ) → List ℕ
places at [] = []
places at (word ∷ words) = at ∷ places (at + length word + 1) words

abbrev HasNoFeed : List ℕ → Type 0
HasNoFeed [] = Unit {0}
HasNoFeed (x ∷ xs) = (x ≢ line_feed) × HasNoFeed xs

starts_inside : (at : ℕ) (word rest : List ℕ) → HasNoFeed word → starts_from at false (word ++ line_feed ∷ rest) ≡ starts_from (at + length word + 1) true rest
starts_inside at [] rest none = ap (λ k. starts_from k true rest) (omega arith)
starts_inside at (x ∷ word) rest none =
    ap (λ b. starts_from (at + 1) b (word ++ line_feed ∷ rest)) (ne_eqb x line_feed none.0) ∙ starts_inside (at + 1) word rest none.1 ∙ ap (λ k. starts_from k true rest) (omega arith)

starts_word : (at : ℕ) (word rest : List ℕ) → HasNoFeed word → starts_from at true (word ++ line_feed ∷ rest) ≡ at ∷ starts_from (at + length word + 1) true rest
starts_word at [] rest none = ap (λ k. at ∷ starts_from k true rest) (omega arith)
starts_word at (x ∷ word) rest none =
    ap (λ b. at ∷ starts_from (at + 1) b (word ++ line_feed ∷ rest)) (ne_eqb x line_feed none.0) ∙ ap (λ l. at ∷ l) (starts_inside (at + 1) word rest none.1) ∙ ap (λ k. at ∷ starts_from k true rest) (omega arith)

abbrev NoneHasFeed : List (List ℕ) → Type 0
NoneHasFeed [] = Unit {0}
NoneHasFeed (word ∷ words) = HasNoFeed word × NoneHasFeed words

starts_words : (at : ℕ) (words : List (List ℕ)) → NoneHasFeed words → starts_from at true (lines_of words) ≡ places at words
starts_words at [] none = refl
starts_words at (word ∷ words) none =
    ap (starts_from at true) (append_assoc word (line_feed ∷ []) (lines_of words)) ∙ starts_word at word (lines_of words) none.0 ∙ ap (λ l. at ∷ l) (starts_words (at + length word + 1) words none.1)

length-places : (at : ℕ) (words : List (List ℕ)) → length (places at words) ≡ length words
length-places at [] = refl
length-places at (word ∷ words) = ap suc (length-places (at + length word + 1) words)

-- ---- words have no line feed
no_feed : (word : List ℕ) → ¬ (Contains word line_feed) → HasNoFeed word
no_feed [] none = tt
no_feed (x ∷ word) none = (λ e. none (0, omega arith, e), no_feed word (λ c. none (suc (c.0), (let below = c.1 in omega (arith, below)), c.2)))

has_feed : (word rest : List ℕ) (n : ℕ) → length word < n → Contains (take n (word ++ line_feed ∷ rest)) line_feed
has_feed word rest zero less = absurd (omega (arith, less))
has_feed [] rest (suc n) less = (0, omega arith, refl)
has_feed (x ∷ word) rest (suc n) less = let c = has_feed word rest n (omega (arith, less)) in (suc (c.0), (let below = c.1 in omega (arith, below)), c.2)

word_no_feed : (scanning : Scanning) (a : ℕ) (word : List ℕ) → IsWordFor scanning a word → HasNoFeed word
word_no_feed scanning a word for_a =
    let m = for_a.shortest.is_word.whole.matches in
    no_feed word (Matches-no_feed {p = m.pattern} {w = word} (subst (λ (u : List ℕ). Matches m.pattern u) (take_all (length word) word (omega arith)) m.matched))

words_no_feed : {scanning : Scanning} {tokens : List ℕ} {words : List (List ℕ)} → AreWordsFor scanning tokens words → NoneHasFeed words
words_no_feed no_token = tt
words_no_feed {scanning} (word_first {a = a} {word = word} one more) = (word_no_feed scanning a word one, words_no_feed more)

-- ---- a word on a line of its own
module _ (patterns : List Pattern) (front word rest : List ℕ) where
  abbrev text : List ℕ
  text = front ++ (word ++ line_feed ∷ rest)

  behind_front : drop (length front) text ≡ word ++ line_feed ∷ rest
  behind_front = drop-append_seam front (word ++ line_feed ∷ rest)

  text_length : length text ≡ length front + (length word + (length rest + 1))
  text_length = length-append front (word ++ line_feed ∷ rest) ∙ (let more : length (word ++ line_feed ∷ rest) ≡ length word + length (line_feed ∷ rest) = length-append word (line_feed ∷ rest) in omega (arith, more))

  taken : take (length word) (drop (length front) text) ≡ word
  taken = ap (take (length word)) behind_front ∙ take-append_seam word (line_feed ∷ rest)

  whole_word : take (length word) (drop 0 word) ≡ word
  whole_word = take_all (length word) word (omega arith)

  match_here : (rank : ℕ) → IsMatch patterns word 0 (length word) rank → IsMatch patterns text (length front) (length word) rank
  match_here rank m = record {
    pattern = m.pattern;
    ranked = m.ranked;
    some = m.some;
    inside = omega (arith, text_length);
    matched = subst (λ (u : List ℕ). Matches m.pattern u) (whole_word ∙ sym taken) m.matched;
  }

  match_alone : (rank : ℕ) → IsMatch patterns text (length front) (length word) rank → IsMatch patterns word 0 (length word) rank
  match_alone rank m = record {
    pattern = m.pattern;
    ranked = m.ranked;
    some = m.some;
    inside = omega arith;
    matched = subst (λ (u : List ℕ). Matches m.pattern u) (taken ∙ sym whole_word) m.matched;
  }

  no_longer : (len rank : ℕ) → IsMatch patterns text (length front) len rank → len ≤ length word
  no_longer len rank m = ⊎_elim
      (λ longer. absurd (Matches-no_feed {p = m.pattern} {w = take len (word ++ line_feed ∷ rest)} (subst (λ (u : List ℕ). Matches m.pattern u) (ap (take len) behind_front) m.matched) (has_feed word rest len longer)))
      (λ within. within)
      (cases_lt (length word) len)

  longest_here : (rank : ℕ) → IsLongest patterns word 0 (length word) rank → IsLongest patterns text (length front) (length word) rank
  longest_here rank l = record {
    matches = match_here rank l.matches;
    longest = no_longer;
    least = λ other m. l.least other (match_alone other m);
  }

not_feed_first : (front word rest : List ℕ) → 0 < length word → HasNoFeed word → ¬ (IsLineEnd (front ++ (word ++ line_feed ∷ rest)) (length front))
not_feed_first front [] rest some none end = omega (arith, some)
not_feed_first front (x ∷ word) rest some none (inl e) =
    let size = length-append front (x ∷ (word ++ line_feed ∷ rest)) in
    omega (arith, e, size)
not_feed_first front (x ∷ word) rest some none (inr at) = none.0 (number_same (sym (some_at front x (word ++ line_feed ∷ rest)) ∙ at))
  where
    number_same : {one other : ℕ} → Some one ≡ Some other → one ≡ other
    number_same e = cc

feed_behind : (front word rest : List ℕ) → slice_get (front ++ (word ++ line_feed ∷ rest)) (length front + length word) ≡ Some line_feed
feed_behind front word rest =
    let parts : (front ++ word) ++ line_feed ∷ rest ≡ front ++ (word ++ line_feed ∷ rest) = append_assoc front word (line_feed ∷ rest) in
    let size : length (front ++ word) ≡ length front + length word = length-append front word in
    subst (λ k. slice_get (front ++ (word ++ line_feed ∷ rest)) k ≡ Some line_feed) size (subst (λ (t : List ℕ). slice_get t (length (front ++ word)) ≡ Some line_feed) parts (some_at (front ++ word) line_feed rest))

line_token : (scanning : Scanning) (a line : ℕ) (front word rest : List ℕ) → IsWordFor scanning a word → AreTokensFrom scanning (front ++ (word ++ line_feed ∷ rest)) line (length front) (token_at a line (length front) (length word) ∷ [])
line_token scanning a line front word rest for_a =
    let whole = for_a.shortest.is_word.whole in
    takes_token (length word) (not_feed_first front word rest whole.matches.some (word_no_feed scanning a word for_a)) (longest_here scanning.patterns front word rest for_a.rank whole) for_a.ranked.means_it
    (at_end (inr (feed_behind front word rest))) refl

-- ---- the tokens of the lines
tokens_of : {scanning : Scanning} {tokens : List ℕ} {words : List (List ℕ)} → AreWordsFor scanning tokens words → (front : List ℕ) (k : ℕ) (text : List ℕ) → text ≡ front ++ lines_of words
    → ((i at : ℕ) → slice_get (places (length front) words) i ≡ Some at → slice_get (line_starts text) (k + i) ≡ Some at)
    → (ts : List TextToken) × AreTokensOfLines scanning text (k + length words) k ts × (ids_of ts ≡ tokens)
tokens_of no_token front k text is starts = ([], no_line (omega arith), refl)
tokens_of {scanning} (word_first {a = a} {word = word} {words = words} one more) front k text is starts =
    let longer : List ℕ = front ++ (word ++ line_feed ∷ []) in
    let size : length longer ≡ length front + length word + 1 = length-append front (word ++ line_feed ∷ []) ∙ (let feed : length (word ++ line_feed ∷ []) ≡ length word + 1 = length-append word (line_feed ∷ []) in omega (arith, feed)) in
    let line : (word ++ line_feed ∷ []) ++ lines_of words ≡ word ++ line_feed ∷ lines_of words = append_assoc word (line_feed ∷ []) (lines_of words) in
    let rest_is : text ≡ longer ++ lines_of words = is ∙ sym (append_assoc front (word ++ line_feed ∷ []) (lines_of words)) in
    let this_is : text ≡ front ++ (word ++ line_feed ∷ lines_of words) = is ∙ ap (λ l. front ++ l) line in
    let later = tokens_of more longer (k + 1) text rest_is (λ i at found.
    let moved : slice_get (places (length front + length word + 1) words) i ≡ Some at = ap (λ n. slice_get (places n words) i) (sym size) ∙ found in
    ap (λ n. slice_get (line_starts text) n) (omega arith) ∙ starts (suc i) at moved) in
    let here : slice_get (line_starts text) k ≡ Some (length front) = ap (λ n. slice_get (line_starts text) n) (omega arith) ∙ starts 0 (length front) refl in
    let token : TextToken = token_at a (k + 1) (length front) (length word) in
    let first : AreTokensFrom scanning text (k + 1) (length front) (token ∷ []) =
    subst (λ (t : List ℕ). AreTokensFrom scanning t (k + 1) (length front) (token ∷ [])) (sym this_is) (line_token scanning a (k + 1) front word (lines_of words) one) in
    let to : k + 1 + length words ≡ k + suc (length words) = omega arith in
    (token ∷ later.0, first_line (omega arith) here first (subst (λ n. AreTokensOfLines scanning text n (k + 1) later.0) to later.1) refl, ap (λ l. a ∷ l) later.2)

pub tokens_law : TokensLaw
tokens_law scanning tokens words are =
    let text : List ℕ = lines_of words in
    let starts : line_starts text ≡ places 0 words = line_starts-from text ∙ starts_words 0 words (words_no_feed are) in
    let found = tokens_of are [] 0 text refl (λ i at there. ap (λ n. slice_get (line_starts text) n) (omega arith) ∙ ap (λ l. slice_get l i) starts ∙ there) in
    let count : 0 + length words ≡ length (line_starts text) = (let size = ap length starts in let all = length-places 0 words in omega (arith, size, all)) in
    (found.0, subst (λ n. AreTokensOfLines scanning text n 0 found.0) count found.1, found.2)

pub text_law : TextLaw
text_law scanning g from size text is =
    let found = tokens_law scanning is.tokens is.words is.are in
    let chosen : AreChosenTokens g from size (ids_of found.0) = subst (AreChosenTokens g from size) (sym found.2) is.chosen in
    (found.0, subst (λ (t : List ℕ). AreTokens scanning t found.0) (sym is.is) found.1, chosen, choice_law g from size (ids_of found.0) chosen)
