-- The order of byte strings, by a number for each: a longer string has a greater one, and of equally long ones the
-- bytewise greater.
use Rattle.std.proofs.Common.{◌≡◌, ℕ, zero, suc, ◌+◌, ◌-◌, ◌*◌, ◌<◌, ◌≤◌, inl, inr, ⊎_elim, ◌⊎◌, List, [], ◌∷◌, ◌++◌, length, take, drop, refl, sym, ap, ◌∙◌, subst, arith, length-drop}
use Rattle.std.proofs.lemmas.Bool.{cases_lt}
use Rattle.std.proofs.lemmas.List.{length-take, take-append-drop}
use Rattle.std.proofs.lemmas.List.Elements.{All-head, All-tail}
use Rattle.position_theory.specs.States.{AreBytes}
use Rattle.pattern_data.specs.declared.pattern.Pattern.{Pattern}
use Rattle.sample_theory.specs.WordNumbers.{number_from, number, NumberLaw}
use Rattle.sample_theory.specs.ShortestWords.{IsWordOf, IsBytewiseLess, IsWordBefore, IsShortestWord, OneShortestLaw, SomeShortestLaw}

pub number_append : (a : ℕ) (u v : List ℕ) → number_from a (u ++ v) ≡ number_from (number_from a u) v
number_append a [] v = refl
number_append a (x ∷ u) v = number_append (256 * a + x + 1) u v

pub number_push : (u : List ℕ) (x : ℕ) → number (u ++ x ∷ []) ≡ 256 * number u + x + 1
number_push u x = number_append 0 u (x ∷ [])

number_more : (a : ℕ) (u : List ℕ) → a ≤ number_from a u
number_more a [] = omega arith
number_more a (x ∷ u) = let more = number_more (256 * a + x + 1) u in omega (arith, more)

head_small : (x : ℕ) (u : List ℕ) → AreBytes (x ∷ u) → x < 256
head_small x u are = All-head (λ byte. byte < 256) x u are

tail_bytes : (x : ℕ) (u : List ℕ) → AreBytes (x ∷ u) → AreBytes u
tail_bytes x u are = All-tail (λ byte. byte < 256) x u are

-- of strings of one length
later_less : (a b : ℕ) (u v : List ℕ) → length u ≡ length v → a < b → AreBytes u → number_from a u < number_from b v
later_less a b [] [] same less are = less
later_less a b [] (y ∷ v) same less are = absurd (omega (arith, same))
later_less a b (x ∷ u) [] same less are = absurd (omega (arith, same))
later_less a b (x ∷ u) (y ∷ v) same less are =
    later_less (256 * a + x + 1) (256 * b + y + 1) u v (omega (arith, same)) (let small = head_small x u are in omega (arith, small, less)) (tail_bytes x u are)

bytes_behind : (front rest : List ℕ) → AreBytes (front ++ rest) → AreBytes rest
bytes_behind [] rest are = are
bytes_behind (x ∷ front) rest are = bytes_behind front rest (tail_bytes x (front ++ rest) are)

length_behind : (front u v : List ℕ) → length (front ++ u) ≡ length (front ++ v) → length u ≡ length v
length_behind [] u v same = same
length_behind (x ∷ front) u v same = length_behind front u v (omega (arith, same))

bytewise_less : (u v : List ℕ) → AreBytes u → length u ≡ length v → IsBytewiseLess u v → number u < number v
bytewise_less u v are same l =
    let lengths : length (l.byte ∷ l.rest) ≡ length (l.other ∷ l.other_rest) =
    length_behind l.front (l.byte ∷ l.rest) (l.other ∷ l.other_rest) (sym (ap length l.is) ∙ same ∙ ap length l.other_is) in
    let rest_bytes : AreBytes l.rest = tail_bytes l.byte l.rest (bytes_behind l.front (l.byte ∷ l.rest) (subst AreBytes l.is are)) in
    let a : ℕ = number l.front in
    let below = l.less in
    let less : number_from (256 * a + l.byte + 1) l.rest < number_from (256 * a + l.other + 1) l.other_rest =
    later_less (256 * a + l.byte + 1) (256 * a + l.other + 1) l.rest l.other_rest (omega (arith, lengths)) (omega (arith, below)) rest_bytes in
    let here : number u ≡ number_from (256 * a + l.byte + 1) l.rest = ap number l.is ∙ number_append 0 l.front (l.byte ∷ l.rest) in
    let there : number v ≡ number_from (256 * a + l.other + 1) l.other_rest = ap number l.other_is ∙ number_append 0 l.front (l.other ∷ l.other_rest) in
    omega (arith, less, here, there)

some_number : (u : List ℕ) → 0 < length u → 0 < number u
some_number [] some = absurd (omega (arith, some))
some_number (x ∷ u) some = let more = number_more (256 * 0 + x + 1) u in omega (arith, more)

longer_less : (u v : List ℕ) → AreBytes u → length u < length v → number u < number v
longer_less u v are less =
    let k : ℕ = length v - length u in
    let front : List ℕ = take k v in
    let back : List ℕ = drop k v in
    let size : length front ≡ k = length-take k v ∙ omega (arith, less) in
    let back_size : length back ≡ length v - k = length-drop k v in
    let some : 0 < number front = some_number front (omega (arith, less, size)) in
    let later : number u < number_from (number front) back = later_less 0 (number front) u back (omega (arith, less, back_size)) some are in
    let whole : number v ≡ number_from (number front) back = ap number (sym (take-append-drop k v)) ∙ number_append 0 front back in
    omega (arith, later, whole)

pub before_less : (u v : List ℕ) → AreBytes u → IsWordBefore u v → number u < number v
before_less u v are (inl less) = longer_less u v are less
before_less u v are (inr (same, less)) = bytewise_less u v are same less

-- the strings are the same, or one is bytewise less
data IsCompared (u v : List ℕ) : Type 0 where
  same_word : u ≡ v → IsCompared u v
  less_word : IsBytewiseLess u v → IsCompared u v
  more_word : IsBytewiseLess v u → IsCompared u v

compared_more : (x y : ℕ) (u v : List ℕ) → x ≡ y → IsCompared u v → IsCompared (x ∷ u) (y ∷ v)
compared_more x y u v e (same_word same) = same_word (cc)
compared_more x y u v e (less_word l) = less_word (record { front = x ∷ l.front; byte = l.byte; other = l.other; rest = l.rest; other_rest = l.other_rest; is = ap (λ w. x ∷ w) l.is; other_is = (let there = l.other_is in cc); less = l.less })
compared_more x y u v e (more_word l) = more_word (record { front = x ∷ l.front; byte = l.byte; other = l.other; rest = l.rest; other_rest = l.other_rest; is = (let here = l.is in cc); other_is = ap (λ w. x ∷ w) l.other_is; less = l.less })

compare : (u v : List ℕ) → length u ≡ length v → IsCompared u v
compare [] [] same = same_word refl
compare [] (y ∷ v) same = absurd (omega (arith, same))
compare (x ∷ u) [] same = absurd (omega (arith, same))
compare (x ∷ u) (y ∷ v) same =
    ⊎_elim (λ less. less_word (record { front = []; byte = x; other = y; rest = u; other_rest = v; is = refl; other_is = refl; less = less }))
    (λ upper. ⊎_elim (λ more. more_word (record { front = []; byte = y; other = x; rest = v; other_rest = u; is = refl; other_is = refl; less = more }))
    (λ lower. compared_more x y u v (omega (arith, upper, lower)) (compare u v (omega (arith, same))))
    (cases_lt y x))
    (cases_lt x y)

pub word_by_number : (u v : List ℕ) → AreBytes u → AreBytes v → number u ≤ number v → (u ≡ v) ⊎ IsWordBefore u v
word_by_number u v are other upper =
    ⊎_elim (λ shorter. inr (inl shorter))
    (λ longer. ⊎_elim (λ less. absurd (let more = longer_less v u other less in omega (arith, more, upper)))
    (λ no_longer. let same : length u ≡ length v = omega (arith, longer, no_longer) in by_compared same (compare u v same))
    (cases_lt (length v) (length u)))
    (cases_lt (length u) (length v))
  where
    by_compared : length u ≡ length v → IsCompared u v → (u ≡ v) ⊎ IsWordBefore u v
    by_compared same (same_word e) = inl e
    by_compared same (less_word l) = inr (inr (same, l))
    by_compared same (more_word l) = absurd (let more = bytewise_less v u other (sym same) l in omega (arith, more, upper))

pub number_law : NumberLaw
number_law u v are other = (
  λ before. before_less u v are before,
  λ less. ⊎_elim (λ same. absurd (let e = ap number same in omega (arith, e, less))) (λ before. before) (word_by_number u v are other (omega (arith, less))),
)

-- ---- shortest words
pub one_shortest : OneShortestLaw
one_shortest patterns rank word other s t =
    ⊎_elim (λ same. same)
    (λ before. ⊎_elim (λ same. sym same)
    (λ after. absurd (let one = before_less word other s.is_word.bytes before in let two = before_less other word t.is_word.bytes after in omega (arith, one, two)))
    (t.least word s.is_word))
    (s.least other t.is_word)

module _ (patterns : List Pattern) (rank : ℕ) (none : (shortest : List ℕ) → ¬ (IsShortestWord patterns rank shortest)) where
  none_below : (bound : ℕ) (word : List ℕ) → number word < bound → IsWordOf patterns rank word → ⊥
  none_below zero word below is = omega (arith, below)
  none_below (suc bound) word below is = none word (record {
    is_word = is;
    least = λ other w. ⊎_elim
        (λ less. absurd (none_below bound other (omega (arith, less, below)) w))
        (λ upper. word_by_number word other is.bytes w.bytes upper)
        (cases_lt (number other) (number word));
  })

pub some_shortest : SomeShortestLaw
some_shortest patterns rank word is none = none_below patterns rank none (suc (number word)) word (omega arith) is
