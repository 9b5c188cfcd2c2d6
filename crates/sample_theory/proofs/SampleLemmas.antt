-- There is one answer for a number and a size, and it is refuted that there is none.
use Rattle.std.proofs.Common.{◌≡◌, ℕ, zero, suc, ◌+◌, ◌<◌, ◌≤◌, inl, inr, ⊎_elim, ◌⊎◌, List, [], ◌∷◌, ◌++◌, length, refl, sym, ap, ◌∙◌, subst, arith, append_assoc, append-nil, length-append}
use Rattle.std.proofs.lemmas.Bool.{cases_lt}
use Rattle.std.proofs.lemmas.List.Concat.{flat_map-append}
use Rattle.grammar_data.specs.declared.rule.Sym.{Sym}
use Rattle.grammar_data.specs.declared.rule.Sym.TheVariants.{Name}
use Rattle.grammar_data.specs.Grammar.{Grammar}
use Rattle.grammar_theory.specs.UsefulNames.{AllProductive}
use Rattle.lr_base.specs.declared.limits.TheConstants.{TEXT_BYTES}
use Rattle.pattern_data.specs.declared.pattern.Meaning.{Meaning}
use Rattle.scanning_theory.specs.Lines.{line_feed}
use Rattle.scanning_theory.specs.Scan.{Scanning}
use Rattle.sample_theory.specs.ClosingRules.{IsClosingRule}
use Rattle.sample_theory.specs.Choices.{AreChosenTokens}
use Rattle.sample_theory.specs.ShortestWords.{IsShortestWord}
use Rattle.sample_theory.specs.Samples.{IsRankOf, IsWordFor, HasNoWordFor, AreWordsFor, no_token, word_first, lines_of, Sample, Text, NoSample, TooLong, IsText, IsWithoutWord, IsTooLong, IsSample, OneSampleLaw, SomeSampleLaw}
use Rattle.sample_theory.proofs.WordLemmas.{one_shortest, some_shortest}
use Rattle.sample_theory.proofs.ClosingLemmas.{same_or, some_closing}
use Rattle.sample_theory.proofs.ChoiceLemmas.{one_choice, some_choice}

-- ---- words of tokens
pub same_rank : {means : List Meaning} {a rank other : ℕ} → IsRankOf means a rank → IsRankOf means a other → rank ≡ other
same_rank {rank = rank} {other = other} one two = same_or rank other (λ less. two.first rank less one.means_it) (λ more. one.first other more two.means_it)

same_word : {scanning : Scanning} {a : ℕ} {word other : List ℕ} → IsWordFor scanning a word → IsWordFor scanning a other → word ≡ other
same_word {scanning} {word = word} {other = other} one two =
    one_shortest scanning.patterns one.rank word other one.shortest (subst (λ k. IsShortestWord scanning.patterns k other) (same_rank two.ranked one.ranked) two.shortest)

pub same_words : {scanning : Scanning} {tokens : List ℕ} {words others : List (List ℕ)} → AreWordsFor scanning tokens words → AreWordsFor scanning tokens others → words ≡ others
same_words no_token no_token = refl
same_words (word_first one more) (word_first two rest) = let e = same_word one two in let f = same_words more rest in cc

pub words_append : {scanning : Scanning} {xs ys : List ℕ} {us vs : List (List ℕ)} → AreWordsFor scanning xs us → AreWordsFor scanning ys vs → AreWordsFor scanning (xs ++ ys) (us ++ vs)
words_append no_token more = more
words_append (word_first one rest) more = word_first one (words_append rest more)

data Parted (scanning : Scanning) (xs ys : List ℕ) (words : List (List ℕ)) : Type 0 where
  parted : {us vs : List (List ℕ)} → AreWordsFor scanning xs us → AreWordsFor scanning ys vs → words ≡ us ++ vs → Parted scanning xs ys words

parted_more : {scanning : Scanning} {a : ℕ} {word : List ℕ} {xs ys : List ℕ} {words : List (List ℕ)} → IsWordFor scanning a word → Parted scanning xs ys words → Parted scanning (a ∷ xs) ys (word ∷ words)
parted_more {word = word} one (parted front back at) = parted (word_first one front) back (ap (λ l. word ∷ l) at)

part_words : {scanning : Scanning} (xs ys : List ℕ) {words : List (List ℕ)} → AreWordsFor scanning (xs ++ ys) words → Parted scanning xs ys words
part_words [] ys are = parted no_token are refl
part_words (a ∷ xs) ys (word_first one rest) = parted_more one (part_words xs ys rest)

has_word : {scanning : Scanning} {a : ℕ} {rest : List ℕ} {words : List (List ℕ)} → AreWordsFor scanning (a ∷ rest) words → HasNoWordFor scanning a → ⊥
has_word (word_first {word = word} one rest) none = none one.rank one.ranked word one.shortest.is_word

-- a token without a word is none of those with words
no_word_in : {scanning : Scanning} {a : ℕ} {before after : List ℕ} {words : List (List ℕ)} → HasNoWordFor scanning a → Parted scanning before (a ∷ after) words → ⊥
no_word_in none (parted front back at) = has_word back none

no_word_among : {scanning : Scanning} (a : ℕ) (before after : List ℕ) {words : List (List ℕ)} → HasNoWordFor scanning a → AreWordsFor scanning (before ++ a ∷ after) words → ⊥
no_word_among a before after none are = no_word_in none (part_words before (a ∷ after) are)

by_parts : {scanning : Scanning} {xs ys : List ℕ} {words fronts : List (List ℕ)} → Parted scanning xs ys words → AreWordsFor scanning xs fronts → length (lines_of fronts) ≤ length (lines_of words)
by_parts {words = words} {fronts = fronts} (parted {us = us} {vs = vs} one two at) front =
    let same : us ≡ fronts = same_words one front in
    let all : lines_of words ≡ lines_of us ++ lines_of vs = ap lines_of at ∙ flat_map-append (λ (word : List ℕ). word ++ line_feed ∷ []) us vs in
    let size : length (lines_of words) ≡ length (lines_of us) + length (lines_of vs) = ap length all ∙ length-append (lines_of us) (lines_of vs) in
    let here : length (lines_of us) ≡ length (lines_of fronts) = ap (λ (l : List (List ℕ)). length (lines_of l)) same in
    omega (arith, size, here)

front_shorter : {scanning : Scanning} (xs ys : List ℕ) {words fronts : List (List ℕ)} → AreWordsFor scanning (xs ++ ys) words → AreWordsFor scanning xs fronts → length (lines_of fronts) ≤ length (lines_of words)
front_shorter xs ys are front = by_parts (part_words xs ys are) front

-- ---- two fronts of one list
abbrev IsBehind : List ℕ → List ℕ → List ℕ → List ℕ → Type 0
IsBehind xs ys us vs = (ws : List ℕ) × (us ≡ xs ++ ws) × (ys ≡ ws ++ vs)

behind_more : (x y : ℕ) (xs ys us vs : List ℕ) → x ≡ y → IsBehind xs ys us vs → IsBehind (x ∷ xs) ys (y ∷ us) vs
behind_more x y xs ys us vs e (ws, one, two) = (ws, cc, two)

fronts : (xs ys us vs : List ℕ) → xs ++ ys ≡ us ++ vs → IsBehind xs ys us vs ⊎ IsBehind us vs xs ys
fronts [] ys us vs e = inl (us, refl, e)
fronts (x ∷ xs) ys [] vs e = inr (x ∷ xs, refl, sym e)
fronts (x ∷ xs) ys (u ∷ us) vs e =
    ⊎_elim (λ b. inl (behind_more x u xs ys us vs (cc) b)) (λ b. inr (behind_more u x us vs xs ys (cc) b)) (fronts xs ys us vs (cc))

-- of a list with words before a token that has none
module _ (scanning : Scanning) (a : ℕ) (none : HasNoWordFor scanning a) where
  -- words for a front reach no further
  front_before : (before after us vs : List ℕ) {words : List (List ℕ)} → before ++ a ∷ after ≡ us ++ vs → AreWordsFor scanning us words → (rest : List ℕ) × (before ≡ us ++ rest)
  front_before before after us vs {words} e are = ⊎_elim (λ b. through b.0 b.1 b.2) (λ b. (b.0, b.1)) (fronts before (a ∷ after) us vs e)
    where
      through : (ws : List ℕ) → us ≡ before ++ ws → a ∷ after ≡ ws ++ vs → (rest : List ℕ) × (before ≡ us ++ rest)
      through [] one two = ([], sym (append-nil us ∙ one ∙ append-nil before))
      through (b ∷ ws) one two =
          let same : b ≡ a = cc in
          let whole : us ≡ before ++ a ∷ ws = one ∙ ap (λ k. before ++ k ∷ ws) same in
          absurd (no_word_among a before ws none (subst (λ l. AreWordsFor scanning l words) whole are))

-- ---- one answer
module _ (scanning : Scanning) (g : Grammar) (from size : ℕ) where
  two_texts : (text other : List ℕ) → IsText scanning g from size text → IsText scanning g from size other → text ≡ other
  two_texts text other one two =
      let e = one_choice g from size one.tokens two.tokens one.chosen two.chosen in
      let same = same_words one.are (subst (λ l. AreWordsFor scanning l two.words) (sym e) two.are) in
      one.is ∙ ap lines_of same ∙ sym two.is

  text_without : (text : List ℕ) (a : ℕ) → IsText scanning g from size text → IsWithoutWord scanning g from size a → ⊥
  text_without text a one two =
      let e = one_choice g from size one.tokens (two.before ++ a ∷ two.after) one.chosen two.chosen in
      no_word_among a two.before two.after two.none (subst (λ l. AreWordsFor scanning l one.words) e one.are)

  text_long : (text : List ℕ) → IsText scanning g from size text → IsTooLong scanning g from size → ⊥
  text_long text one two =
      let e = one_choice g from size one.tokens (two.before ++ two.after) one.chosen two.chosen in
      let less = front_shorter two.before two.after (subst (λ l. AreWordsFor scanning l one.words) e one.are) two.are in
      let same : length text ≡ length (lines_of one.words) = ap length one.is in
      let fits = one.fits in
      let long = two.long in
      omega (arith, less, same, fits, long)

  without_long : (a : ℕ) → IsWithoutWord scanning g from size a → IsTooLong scanning g from size → ⊥
  without_long a one two =
      let e = one_choice g from size (one.before ++ a ∷ one.after) (two.before ++ two.after) one.chosen two.chosen in
      let f = front_before scanning a one.none one.before one.after two.before two.after e two.are in
      let less = front_shorter two.before f.0 (subst (λ l. AreWordsFor scanning l one.words) f.1 one.are) two.are in
      let fits = one.fits in
      let long = two.long in
      omega (arith, less, fits, long)

  same_head : (a b : ℕ) (xs ys before front : List ℕ) → length before ≡ length front → before ++ a ∷ xs ≡ front ++ b ∷ ys → a ≡ b
  same_head a b xs ys [] [] size e = cc
  same_head a b xs ys [] (c ∷ front) size e = absurd (omega (arith, size))
  same_head a b xs ys (c ∷ before) [] size e = absurd (omega (arith, size))
  same_head a b xs ys (c ∷ before) (d ∷ front) size e = same_head a b xs ys before front (omega (arith, size)) (cc)

  two_without : (a b : ℕ) → IsWithoutWord scanning g from size a → IsWithoutWord scanning g from size b → a ≡ b
  two_without a b one two =
      let e = one_choice g from size (one.before ++ a ∷ one.after) (two.before ++ b ∷ two.after) one.chosen two.chosen in
      let f = front_before scanning a one.none one.before one.after two.before (b ∷ two.after) e two.are in
      let h = front_before scanning b two.none two.before two.after one.before (a ∷ one.after) (sym e) one.are in
      let one_size : length one.before ≡ length two.before + length f.0 = ap length f.1 ∙ length-append two.before f.0 in
      let two_size : length two.before ≡ length one.before + length h.0 = ap length h.1 ∙ length-append one.before h.0 in
      same_head a b one.after two.after one.before two.before (omega (arith, one_size, two_size)) e

  one_sample : (one other : Sample) → IsSample scanning g from size one → IsSample scanning g from size other → one ≡ other
  one_sample (Text text) (Text other) one two = ap Text (two_texts text other one two)
  one_sample (Text text) (NoSample a) one two = absurd (text_without text a one two)
  one_sample (Text text) TooLong one two = absurd (text_long text one two)
  one_sample (NoSample a) (Text text) one two = absurd (text_without text a two one)
  one_sample (NoSample a) (NoSample b) one two = ap NoSample (two_without a b one two)
  one_sample (NoSample a) TooLong one two = absurd (without_long a one two)
  one_sample TooLong (Text text) one two = absurd (text_long text two one)
  one_sample TooLong (NoSample a) one two = absurd (without_long a two one)
  one_sample TooLong TooLong one two = refl

pub one_sample_law : OneSampleLaw
one_sample_law scanning g from size one other = one_sample scanning g from size one other

-- ---- some answer
module _ (g : Grammar) (productive : AllProductive g) where
  -- it is refuted that not all of the first names have closing rules
  not_without : (bound : ℕ) → bound ≤ g.names → (((n : ℕ) → n < bound → (r : ℕ) × (right : List Sym) × IsClosingRule g n r right) → ⊥) → ⊥
  not_without zero within none = none (λ n below. absurd (omega (arith, below)))
  not_without (suc bound) within none =
      not_without bound (omega (arith, within)) (λ have. some_closing g bound (productive bound (omega (arith, within)))
      (λ r right closing. none (λ n below. ⊎_elim (λ less. have n less)
      (λ upper. let same : bound ≡ n = omega (arith, upper, below) in (r, right, subst (λ k. IsClosingRule g k r right) same closing))
      (cases_lt n bound))))

module _ (scanning : Scanning) (g : Grammar) (from size : ℕ) (none : (s : Sample) → ¬ (IsSample scanning g from size s)) where
  no_end : (before after : List ℕ) (words : List (List ℕ)) → AreChosenTokens g from size (before ++ after) → AreWordsFor scanning before words → length (lines_of words) ≤ TEXT_BYTES → ⊥
  no_end before [] words chosen are fits = none (Text (lines_of words)) (record {
    tokens = before;
    chosen = subst (AreChosenTokens g from size) (append-nil before) chosen;
    words = words;
    are = are;
    is = refl;
    fits = fits;
  })
  no_end before (a ∷ after) words chosen are fits =
      none (NoSample a) (record {
        before = before;
        after = after;
        chosen = chosen;
        words = words;
        are = are;
        fits = fits;
        none = λ rank ranked word is. some_shortest scanning.patterns rank word is (λ shortest least.
            let for_a : IsWordFor scanning a shortest = record { rank = rank; ranked = ranked; shortest = least } in
            let longer : AreWordsFor scanning (before ++ a ∷ []) (words ++ shortest ∷ []) = words_append are (word_first for_a no_token) in
            let moved : AreChosenTokens g from size ((before ++ a ∷ []) ++ after) = subst (AreChosenTokens g from size) (sym (append_assoc before (a ∷ []) after)) chosen in
            ⊎_elim (λ long. none TooLong (record { before = before ++ a ∷ []; after = after; chosen = moved; words = words ++ shortest ∷ []; are = longer; long = long }))
            (λ within. no_end (before ++ a ∷ []) after (words ++ shortest ∷ []) moved longer within)
            (cases_lt TEXT_BYTES (length (lines_of (words ++ shortest ∷ [])))));
      })

pub some_sample_law : SomeSampleLaw
some_sample_law scanning g from size range productive none =
    not_without g productive g.names (omega arith) (λ have.
    let w = some_choice g from size 0 (Name g.start ∷ []) range have (range.start, tt) in
    no_end scanning g from size none [] w.0 [] w.1 no_token (omega arith))
