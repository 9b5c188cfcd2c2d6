-- The line of a place and of the one behind it.
use Rattle.std.proofs.Common.{◌≡◌, ℕ, zero, suc, ◌+◌, ◌-◌, ◌<◌, ◌≤◌, min, max, Bool, true, false, cond, List, [], ◌∷◌, ◌++◌, length, get_or, refl, ap, ◌∙◌, ⊎_elim, arith}
use Rattle.std.specs.Prelude.{filter, ◌==◌, ◌||◌}
use Rattle.std.specs.List.{range_with_len}
use Rattle.std.proofs.lemmas.Bool.{eq-eqb}
use Rattle.std.proofs.lemmas.Bool.Decides.{eqb_tells}
use Rattle.std.proofs.lemmas.List.{length-append}
use Rattle.std.proofs.lemmas.List.Elements.{filter-append}
use Rattle.scanning_theory.specs.Lines.{begins_line, line_starts, line_feed}
use Rattle.lexeme_theory.specs.Lines.{lines_before, line_of}

range_more : (n a : ℕ) → range_with_len a (suc n) ≡ range_with_len a n ++ (a + n) ∷ []
range_more zero a = let same : a ≡ a + 0 = omega arith in ap (λ b. b ∷ []) same
range_more (suc n) a =
    let last : (a + 1) + n ≡ a + suc n = omega arith in
    ap (λ xs. a ∷ xs) (range_more n (a + 1)) ∙ ap (λ b. a ∷ range_with_len (a + 1) n ++ b ∷ []) last

last_counts : (p : ℕ → Bool) (k : ℕ) → length (filter p (k ∷ [])) ≡ cond (p k) 1 0
last_counts p k = by_test (p k) where
  by_test : (b : Bool) → length (cond b (k ∷ []) []) ≡ cond b 1 0
  by_test true = refl
  by_test false = refl

-- one place more
pub lines_before-more : (bytes : List ℕ) (at : ℕ) → lines_before bytes (suc at) ≡ lines_before bytes at + cond (begins_line bytes at) 1 0
unfolding lines_before
lines_before-more bytes at =
    let p : ℕ → Bool = begins_line bytes in
    let same : 0 + at ≡ at = omega arith in
    ap (λ xs. length (filter p xs)) (range_more at 0) ∙ ap length (filter-append p (range_with_len 0 at) ((0 + at) ∷ [])) ∙ length-append (filter p (range_with_len 0 at)) (filter p ((0 + at) ∷ [])) ∙ ap (λ n. length (filter p (range_with_len 0 at)) + n) (last_counts p (0 + at) ∙ ap (λ k. cond (p k) 1 0) same)

-- the first place begins a line
pub lines_before-first : (bytes : List ℕ) (at : ℕ) → 0 < at → 1 ≤ lines_before bytes at
lines_before-first bytes zero h = absurd (omega arith)
lines_before-first bytes (suc zero) h = let e = lines_before-more bytes 0 in omega (arith, e)
lines_before-first bytes (suc (suc at)) h =
    let e = lines_before-more bytes (suc at) in let rest = lines_before-first bytes (suc at) (omega arith) in omega (arith, e, rest)

at_most : (lines more at : ℕ) (b : Bool) → more ≡ lines + cond b 1 0 → lines ≤ at → more ≤ suc at
at_most lines more at true e rest = omega arith
at_most lines more at false e rest = omega arith

-- there are no more lines than places
pub lines_before-most : (bytes : List ℕ) (at : ℕ) → lines_before bytes at ≤ at
unfolding lines_before
lines_before-most bytes zero = omega arith
lines_before-most bytes (suc at) =
    at_most (lines_before bytes at) (lines_before bytes (suc at)) at (begins_line bytes at) (lines_before-more bytes at) (lines_before-most bytes at)

pub end_line : (bytes : List ℕ) → line_of bytes (length bytes) ≡ max 1 (length (line_starts bytes))
unfolding lines_before line_starts
end_line bytes =
    let size : min (length bytes + 1) (length bytes) ≡ length bytes = omega arith in
    ap (λ n. max 1 (length (filter (begins_line bytes) (range_with_len 0 n)))) size

not_zero : (n : ℕ) → (suc n == 0) ≡ false
not_zero n = ⊎_elim (λ t. absurd (omega (arith, t.1))) (λ f. f.0) (eqb_tells (suc n) 0)

begins_next : (bytes : List ℕ) (at : ℕ) → begins_line bytes (suc at) ≡ (get_or bytes at 0 == line_feed)
begins_next bytes at =
    let same : suc at - 1 ≡ at = omega arith in
    ap (λ k. (suc at == 0) || (get_or bytes k 0 == line_feed)) same ∙ ap (λ b. b || (get_or bytes at 0 == line_feed)) (not_zero at)

next_line : (bytes : List ℕ) (at : ℕ) (b : Bool) → at + 1 < length bytes → (get_or bytes at 0 == line_feed) ≡ b → line_of bytes (at + 1) ≡ line_of bytes at + cond b 1 0
next_line bytes at b inside e =
    let here : min (at + 1) (length bytes) ≡ suc at = omega arith in
    let next : min (at + 1 + 1) (length bytes) ≡ suc (suc at) = omega arith in
    let before : lines_before bytes (min (at + 1) (length bytes)) ≡ lines_before bytes (suc at) = ap (lines_before bytes) here in
    let behind : lines_before bytes (min (at + 1 + 1) (length bytes)) ≡ lines_before bytes (suc (suc at)) = ap (lines_before bytes) next in
    let more : lines_before bytes (suc (suc at)) ≡ lines_before bytes (suc at) + cond b 1 0 =
    lines_before-more bytes (suc at) ∙ ap (λ t. lines_before bytes (suc at) + cond t 1 0) (begins_next bytes at ∙ e) in
    let some : 1 ≤ lines_before bytes (suc at) = lines_before-first bytes (suc at) (omega arith) in
    omega (arith, before, behind, more, some)

-- behind a line feed that doesn't end the bytes the next line begins
pub line_feed_next : (bytes : List ℕ) (at : ℕ) → at + 1 < length bytes → get_or bytes at 0 ≡ line_feed → line_of bytes (at + 1) ≡ line_of bytes at + 1
line_feed_next bytes at inside feed = next_line bytes at true inside (eq-eqb (get_or bytes at 0) line_feed feed)

pub line_same_next : (bytes : List ℕ) (at : ℕ) → at + 1 < length bytes → (get_or bytes at 0 == line_feed) ≡ false → line_of bytes (at + 1) ≡ line_of bytes at
line_same_next bytes at inside other =
    let e : line_of bytes (at + 1) ≡ line_of bytes at + 0 = next_line bytes at false inside other in omega (arith, e)

pub line_most : (bytes : List ℕ) (at : ℕ) → line_of bytes at ≤ at + 1
line_most bytes at = let most = lines_before-most bytes (min (at + 1) (length bytes)) in omega (arith, most)

pub line_first : (bytes : List ℕ) → 1 ≡ line_of bytes 0
line_first bytes = let most = lines_before-most bytes (min (0 + 1) (length bytes)) in omega (arith, most)
