-- Lines for the numbers below another, one after the other.
use Rattle.std.proofs.Common.{◌≡◌, ℕ, zero, suc, ◌+◌, List, [], ◌∷◌, ◌++◌, map, Bool, true, false, cond, sym, ap, ◌∙◌, arith, append_assoc, append-nil}
use Rattle.std.specs.Prelude.{filter}
use Rattle.std.specs.List.{flat_map, range_with_len}
use Rattle.std.proofs.lemmas.List.{map-append}
use Rattle.std.proofs.lemmas.List.Elements.{filter-append}
use Rattle.std.proofs.lemmas.Grind.{flat_map-append}

range_more : (a n : ℕ) → range_with_len a (n + 1) ≡ range_with_len a n ++ (a + n) ∷ []
range_more a zero = let e : a ≡ a + 0 = omega arith in ap (λ k. k ∷ []) e
range_more a (suc n) =
    let long : suc n + 1 ≡ suc (n + 1) = omega arith in
    let last : a + 1 + n ≡ a + suc n = omega arith in
    ap (range_with_len a) long ∙ ap (λ l. a ∷ l) (range_more (a + 1) n) ∙ ap (λ k. a ∷ (range_with_len (a + 1) n ++ k ∷ [])) last

range_next : (n : ℕ) → range_with_len 0 (n + 1) ≡ range_with_len 0 n ++ n ∷ []
range_next n = let e : 0 + n ≡ n = omega arith in range_more 0 n ∙ ap (λ k. range_with_len 0 n ++ k ∷ []) e

lines_next : (f : ℕ → List ℕ) (n : ℕ) → flat_map f (range_with_len 0 (n + 1)) ≡ flat_map f (range_with_len 0 n) ++ f n
lines_next f n = ap (flat_map f) (range_next n) ∙ flat_map-append f (range_with_len 0 n) (n ∷ []) ∙ ap (λ l. flat_map f (range_with_len 0 n) ++ l) (append-nil (f n))

-- one line more
pub next_line : (f : ℕ → List ℕ) (old before after : List ℕ) (n : ℕ) → before ≡ old ++ flat_map f (range_with_len 0 n) → after ≡ before ++ f n → after ≡ old ++ flat_map f (range_with_len 0 (n + 1))
next_line f old before after n e grown =
    grown ∙ ap (λ l. l ++ f n) e ∙ append_assoc old (flat_map f (range_with_len 0 n)) (f n) ∙ ap (λ l. old ++ l) (sym (lines_next f n))

-- ---- words for the numbers of which a test holds

filter_next : (p : ℕ → Bool) (n : ℕ) → filter p (range_with_len 0 (n + 1)) ≡ filter p (range_with_len 0 n) ++ cond (p n) (n ∷ []) []
filter_next p n = ap (filter p) (range_next n) ∙ filter-append p (range_with_len 0 n) (n ∷ [])

module _ (g : List ℕ → List ℕ) (f : ℕ → List ℕ) (p : ℕ → Bool) (old before : List ℕ) (n : ℕ) where
  abbrev words_of : List ℕ → List ℕ
  words_of numbers = flat_map g (map f numbers)

  words_next : (more : List ℕ) → words_of (filter p (range_with_len 0 n) ++ more) ≡ words_of (filter p (range_with_len 0 n)) ++ words_of more
  words_next more = ap (flat_map g) (map-append f (filter p (range_with_len 0 n)) more) ∙ flat_map-append g (map f (filter p (range_with_len 0 n))) (map f more)

  -- one word more, where the test holds
  pub next_word : (after : List ℕ) → p n ≡ true → before ≡ old ++ words_of (filter p (range_with_len 0 n)) → after ≡ before ++ g (f n) → after ≡ old ++ words_of (filter p (range_with_len 0 (n + 1)))
  next_word after has e grown =
      let numbers : List ℕ = filter p (range_with_len 0 n) in
      grown ∙ ap (λ l. l ++ g (f n)) e ∙ append_assoc old (words_of numbers) (g (f n))
      ∙ ap (λ l. old ++ (words_of numbers ++ l)) (sym (append-nil (g (f n))))
      ∙ ap (λ l. old ++ l) (sym (words_next (n ∷ [])))
      ∙ ap (λ l. old ++ words_of (numbers ++ l)) (sym (ap (λ b. cond b (n ∷ []) []) has))
      ∙ ap (λ l. old ++ words_of l) (sym (filter_next p n))

  pub same_words : p n ≡ false → before ≡ old ++ words_of (filter p (range_with_len 0 n)) → before ≡ old ++ words_of (filter p (range_with_len 0 (n + 1)))
  same_words lacks e =
      let numbers : List ℕ = filter p (range_with_len 0 n) in
      e ∙ ap (λ l. old ++ words_of l) (sym (append-nil numbers))
      ∙ ap (λ l. old ++ words_of (numbers ++ l)) (sym (ap (λ b. cond b (n ∷ []) []) lacks))
      ∙ ap (λ l. old ++ words_of l) (sym (filter_next p n))

-- ---- parts of a text, one after the other

pub five_parts : (old one two three four five a b c d e : List ℕ) → one ≡ old ++ a → two ≡ one ++ b → three ≡ two ++ c → four ≡ three ++ d → five ≡ four ++ e → five ≡ old ++ (a ++ (b ++ (c ++ (d ++ e))))
five_parts old one two three four five a b c d e p q r s t =
    t ∙ ap (λ l. l ++ e) (s ∙ ap (λ l. l ++ d) (r ∙ ap (λ l. l ++ c) (q ∙ ap (λ l. l ++ b) p)))
    ∙ append_assoc (((old ++ a) ++ b) ++ c) d e ∙ append_assoc ((old ++ a) ++ b) c (d ++ e) ∙ append_assoc (old ++ a) b (c ++ (d ++ e)) ∙ append_assoc old a (b ++ (c ++ (d ++ e)))

-- two parts more behind a text of five
pub seven_parts : (one two three a b c d e x y : List ℕ) → one ≡ a ++ (b ++ (c ++ (d ++ e))) → two ≡ one ++ x → three ≡ two ++ y → three ≡ a ++ (b ++ (c ++ (d ++ (e ++ (x ++ y)))))
seven_parts one two three a b c d e x y p q r =
    r ∙ ap (λ l. l ++ y) (q ∙ ap (λ l. l ++ x) p) ∙ append_assoc (a ++ (b ++ (c ++ (d ++ e)))) x y
    ∙ append_assoc a (b ++ (c ++ (d ++ e))) (x ++ y)
    ∙ ap (λ l. a ++ l) (append_assoc b (c ++ (d ++ e)) (x ++ y) ∙ ap (λ l. b ++ l) (append_assoc c (d ++ e) (x ++ y) ∙ ap (λ l. c ++ l) (append_assoc d e (x ++ y))))
