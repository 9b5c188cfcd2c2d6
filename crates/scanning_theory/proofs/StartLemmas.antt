-- Where the lines of a text begin.
use Rattle.std.proofs.Common.{◌≡◌, ◌≢◌, ℕ, ◌+◌, ◌<◌, List, [], ◌∷◌, length, get_or, refl, arith}
use Rattle.std.specs.Prelude.{slice_get, Some, All}
use Rattle.std.specs.List.{range_with_len}
use Rattle.std.specs.List.Sorted.{IsStrictlyIncreasing}
use Rattle.std.proofs.lemmas.List.Elements.{All-filter}
use Rattle.std.proofs.lemmas.List.FromFn.{length-range_with_len, get_or-range_with_len}
use Rattle.std.proofs.lemmas.List.Kept.{IsStrictlyIncreasing-filter}
use Rattle.scanning_theory.specs.Lines.{begins_line, line_starts}

pub rising_range : (n : ℕ) → IsStrictlyIncreasing (range_with_len 0 n)
rising_range n k below =
    let size : length (range_with_len 0 n) ≡ n = length-range_with_len 0 n in
    let here : get_or (range_with_len 0 n) k 0 ≡ 0 + k = get_or-range_with_len 0 n k 0 (omega arith) in
    let next : get_or (range_with_len 0 n) (k + 1) 0 ≡ 0 + (k + 1) = get_or-range_with_len 0 n (k + 1) 0 (omega arith) in
    omega (arith, here, next)

below_range : (n : ℕ) → All (λ at. at < n) (range_with_len 0 n)
below_range n k d inside =
    let size : length (range_with_len 0 n) ≡ n = length-range_with_len 0 n in
    let here : get_or (range_with_len 0 n) k d ≡ 0 + k = get_or-range_with_len 0 n k d (omega arith) in
    omega (arith, here)

pub line_starts-rising : (text : List ℕ) → IsStrictlyIncreasing (line_starts text)
unfolding line_starts
line_starts-rising text = IsStrictlyIncreasing-filter (begins_line text) (range_with_len 0 (length text)) (rising_range (length text))

pub line_starts-inside : (text : List ℕ) → All (λ at. at < length text) (line_starts text)
unfolding line_starts
line_starts-inside text = All-filter (begins_line text) (λ at. at < length text) (range_with_len 0 (length text)) (below_range (length text))

pub line_starts-first : (text : List ℕ) → text ≢ [] → slice_get (line_starts text) 0 ≡ Some 0
unfolding line_starts
line_starts-first [] some = absurd (some refl)
line_starts-first (byte ∷ text) some = refl
