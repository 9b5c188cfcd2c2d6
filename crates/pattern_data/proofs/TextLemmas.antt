-- The normal text of a set is read as this set.
use Rattle.std.proofs.Common.{◌≡◌, ◌≢◌, ℕ, zero, suc, ◌+◌, ◌*◌, ◌/◌, ◌%◌, ◌^◌, ◌<◌, ◌≤◌, ◌⊎◌, Bool, true, false, cond, not, List, [], ◌∷◌, ◌++◌, length, refl, sym, ap, ◌∙◌, subst, ⊎_elim, inl, inr, arith}
use Rattle.std.specs.Prelude.{◌==◌, ◌&&◌, ◌||◌, nat_le, nat_lt, Option, None, Some}
use Rattle.std.specs.List.{list_any, flat_map}
use Rattle.std.proofs.lemmas.Bool.{cases_eq, cases_Bool, eqb-true, eqb-false, eq-eqb, ne_eqb, le-leb, leb-true, false≢true, true≢false, and_parts, and_from, and_right, or_cases, or_parts, cond_both, cond-true, cond-false}
use Rattle.std.proofs.lemmas.Bool.Decides.{nat_tests}
use Rattle.std.proofs.lemmas.List.{append_assoc, length-set}
use Rattle.std.proofs.lemmas.List.Elements.{All-set}
use Rattle.std.proofs.lemmas.List.Folds.{list_any-append}
use Rattle.std.proofs.lemmas.Option.{none-some, same_Some}
use Rattle.std.proofs.Math.Nat.{div-add-mod}
use Rattle.std.proofs.Math.Pow.{pow-lt}
use Rattle.pattern_data.specs.Bytes.{IsByteSet, only_byte}
use Rattle.pattern_data.specs.Escapes.{Front, hex_digit, is_hex_digit, hex_value, front_by_digits, front_by_escape, front_of}
use Rattle.pattern_data.specs.Sets.{has_bit, IsSetOf, IsAnyByte}
use Rattle.pattern_data.specs.Classes.{without_feed, written_byte, class_byte, member_by, member_from, member_of, range_to, in_range, class_has, is_negated, members_text, AreMembers, IsClass}
use Rattle.pattern_data.specs.Classes.AreMembers.{last_member, one_more}
use Rattle.pattern_data.specs.Texts.{is_special, hex_text, byte_text, is_letter_or_digit, member_text, run_text, has_byte, run_before, runs_from, runs_of, class_text, text_of_runs, is_any, set_text}
use Rattle.pattern_data.specs.declared.classes.ByteRange.{ByteRange}
use Rattle.pattern_data.specs.declared.signs.Sign.{Sign}
use Rattle.pattern_data.specs.declared.signs.Sign.TheVariants.{Set, Open, Close, Bar, Repeat}
use Rattle.pattern_data.specs.declared.signs.Repetition.TheVariants.{Star, Plus, Opt}
use Rattle.pattern_data.specs.declared.signs.Kind.{Kind}
use Rattle.pattern_data.specs.declared.signs.Kind.TheVariants.{Byte, AnyByte, Class, Mark, Nothing}
use Rattle.pattern_data.specs.Signs.{kind_of, IsByteSign, IsSignOf, IsSign, AreSigns}
use Rattle.pattern_data.specs.Signs.AreSigns.{no_sign, sign_and}
use Rattle.pattern_data.specs.Printing.{sign_text, signs_text}
use Rattle.pattern_data.proofs.ByteLemmas.{no_bytes, only_byte-member, only_byte-set}
use Rattle.pattern_data.proofs.SetLemmas.{member_from_bit, bit_from_member, same_words, set_from, four_words, any_words, any_has, no_bytes-bit, no_bytes-small, iff_true, no_feed_bit, same_list}
use Rattle.pattern_data.proofs.RunLemmas.{has_byte-member}
use Rattle.pattern_data.proofs.NormalLemmas.{IsGoodSet, IsGood, AreGood}

-- ---- bytes by their digits
digit_is_hex : (n : ℕ) → n < 16 → is_hex_digit (hex_digit n) ≡ true
digit_is_hex n h = grind (arith, nat_tests)

digit_says : (n : ℕ) → n < 16 → hex_value (hex_digit n) ≡ n
digit_says n h = grind (arith, nat_tests)

hex_read : (byte : ℕ) (rest : List ℕ) → byte < 256 → front_by_digits (hex_digit (byte / 16) ∷ hex_digit (byte % 16) ∷ rest) ≡ Some (byte, rest)
hex_read byte rest below =
    let high : byte / 16 < 16 = omega arith in
    let low : byte % 16 < 16 = omega arith in
    let found : Front = (16 * hex_value (hex_digit (byte / 16)) + hex_value (hex_digit (byte % 16)), rest) in
    let value : 16 * hex_value (hex_digit (byte / 16)) + hex_value (hex_digit (byte % 16)) ≡ byte =
    ap (λ n. 16 * n + hex_value (hex_digit (byte % 16))) (digit_says (byte / 16) high) ∙ ap (λ n. 16 * (byte / 16) + n) (digit_says (byte % 16) low) ∙ div-add-mod byte 16 in
    ap (λ b. cond b (Some found) None) (and_from _ _ (digit_is_hex (byte / 16) high) (digit_is_hex (byte % 16) low)) ∙ ap (λ n. Some (n, rest)) value

no_feed : (byte : ℕ) (rest : List ℕ) → byte ≢ 10 → without_feed (Some (byte, rest)) ≡ Some (byte, rest)
no_feed byte rest other = ap (λ b. cond b None (Some (byte, rest))) (ne_eqb byte 10 other)

written_hex : (byte : ℕ) (rest : List ℕ) → byte < 256 → byte ≢ 10 → written_byte (hex_text byte ++ rest) ≡ Some (byte, rest)
written_hex byte rest below other = ap without_feed (hex_read byte rest below) ∙ no_feed byte rest other

written_plain : (byte : ℕ) (rest : List ℕ) → byte ≢ 92 → byte ≢ 10 → written_byte (byte ∷ rest) ≡ Some (byte, rest)
written_plain byte rest plain other = ap (λ b. without_feed (cond b (front_by_escape rest) (Some (byte, rest)))) (ne_eqb byte 92 plain) ∙ no_feed byte rest other

-- ---- members of classes
isnt : (test : ℕ → Bool) (byte known : ℕ) → test known ≡ false → test byte ≡ true → byte ≢ known
isnt test byte known none some e = false≢true (sym none ∙ ap test (sym e) ∙ some)

class_read : (byte : ℕ) (rest : List ℕ) → byte < 256 → byte ≢ 10 → class_byte (member_text byte ++ rest) ≡ Some (byte, rest)
class_read byte rest below other =
    let P : List ℕ → Type 0 = λ t. class_byte (t ++ rest) ≡ Some (byte, rest) in
    cond_both (is_letter_or_digit byte) (byte ∷ []) (hex_text byte) P
    (λ plain. ap (λ b. cond b None (written_byte (byte ∷ rest))) (ne_eqb byte 93 (isnt is_letter_or_digit byte 93 refl plain)) ∙ written_plain byte rest (isnt is_letter_or_digit byte 92 refl plain) other)
    (λ _. written_hex byte rest below other)

-- the first byte is none of these
abbrev StartsOther : ℕ → List ℕ → Type 0
StartsOther known [] = Unit {0}
StartsOther known (byte ∷ rest) = byte ≢ known

abbrev HasFirst : List ℕ → Type 0
HasFirst [] = ⊥
HasFirst (byte ∷ rest) = Unit {0}

member_starts : (known byte : ℕ) (rest : List ℕ) → is_letter_or_digit known ≡ false → known ≢ 92 → StartsOther known (member_text byte ++ rest)
member_starts known byte rest none other =
    let P : List ℕ → Type 0 = λ t. StartsOther known (t ++ rest) in
    cond_both (is_letter_or_digit byte) (byte ∷ []) (hex_text byte) P (λ plain. isnt is_letter_or_digit byte known none plain) (λ _ e. other (sym e))

member_first : (byte : ℕ) (rest : List ℕ) → HasFirst (member_text byte ++ rest)
member_first byte rest =
    let P : List ℕ → Type 0 = λ t. HasFirst (t ++ rest) in cond_both (is_letter_or_digit byte) (byte ∷ []) (hex_text byte) P (λ _. tt) (λ _. tt)

from_alone : (byte : ℕ) (rest : List ℕ) → StartsOther 45 rest → member_from byte rest ≡ Some (record { low = byte; high = byte }, rest)
from_alone byte [] h = refl
from_alone byte (b ∷ []) h = refl
from_alone byte (b ∷ next ∷ rest) h =
    ap (λ t. cond (t && not (next == 93)) (range_to byte (class_byte (next ∷ rest))) (Some (record { low = byte; high = byte }, b ∷ next ∷ rest))) (ne_eqb b 45 h)

from_dash : (byte : ℕ) (rest : List ℕ) → HasFirst rest → StartsOther 93 rest → member_from byte (45 ∷ rest) ≡ range_to byte (class_byte rest)
from_dash byte [] first h = absurd first
from_dash byte (next ∷ rest) first h =
    ap (λ t. cond (not t) (range_to byte (class_byte (next ∷ rest))) (Some (record { low = byte; high = byte }, 45 ∷ next ∷ rest))) (ne_eqb next 93 h)

member_alone : (byte : ℕ) (rest : List ℕ) → byte < 256 → byte ≢ 10 → StartsOther 45 rest → member_of (member_text byte ++ rest) ≡ Some (record { low = byte; high = byte }, rest)
member_alone byte rest below other h = ap member_by (class_read byte rest below other) ∙ from_alone byte rest h

member_range : (low high : ℕ) (rest : List ℕ) → low ≤ high → high < 256 → low ≢ 10 → high ≢ 10 → member_of (member_text low ++ 45 ∷ (member_text high ++ rest)) ≡ Some (record { low = low; high = high }, rest)
member_range low high rest ordered below low_other high_other =
    ap member_by (class_read low (45 ∷ (member_text high ++ rest)) (omega arith) low_other)
    ∙ from_dash low (member_text high ++ rest) (member_first high rest) (member_starts 93 high rest refl (λ e. absurd (omega arith)))
    ∙ ap (range_to low) (class_read high rest below high_other)
    ∙ ap (λ b. cond b (Some (record { low = low; high = high }, rest)) None) (le-leb low high ordered)

-- ---- runs
record IsRun (run : ByteRange) : Type 0 where
  ordered : run.low ≤ run.high
  below : run.high < 256
  low_other : run.low ≢ 10
  high_other : run.high ≢ 10

abbrev AreRuns : List ByteRange → Type 0
AreRuns [] = Unit {0}
AreRuns (run ∷ runs) = IsRun run × AreRuns runs

abbrev run_members_of : Bool → Bool → ByteRange → List ByteRange
run_members_of true second run = record { low = run.low; high = run.low } ∷ []
run_members_of false true run = record { low = run.low; high = run.low } ∷ record { low = run.high; high = run.high } ∷ []
run_members_of false false run = record { low = run.low; high = run.high } ∷ []

abbrev run_members : ByteRange → List ByteRange
run_members run = run_members_of (run.low == run.high) (run.low + 1 == run.high) run

-- what comes behind a member: the bracket, or more members
abbrev Behind : List ℕ → List ByteRange → List ℕ → Type 0
Behind behind others rest = ((behind ≡ 93 ∷ rest) × (others ≡ [])) ⊎ AreMembers behind others rest

member_then : (text behind rest : List ℕ) (range : ByteRange) (others : List ByteRange) → member_of text ≡ Some (range, behind) → Behind behind others rest → AreMembers text (range ∷ others) rest
member_then text behind rest range others member after =
    ⊎_elim
    (λ (end : (behind ≡ 93 ∷ rest) × (others ≡ [])). last_member member end.0 (ap (λ l. range ∷ l) end.1))
    (λ (more : AreMembers behind others rest). one_more member more refl)
    after

run_read_by : (one two : Bool) (run : ByteRange) (behind rest : List ℕ) (others : List ByteRange) → (run.low == run.high) ≡ one → (run.low + 1 == run.high) ≡ two → IsRun run → StartsOther 45 behind → Behind behind others rest → AreMembers (run_text run ++ behind) (run_members_of one two run ++ others) rest
run_read_by true two run behind rest others one_is two_is good undashed after =
    let text : run_text run ≡ member_text run.low = cond-true (run.low == run.high) _ _ one_is in
    let P : List ℕ → Type 0 = λ t. AreMembers (t ++ behind) (record { low = run.low; high = run.low } ∷ others) rest in
    let ordered = good.ordered in let below = good.below in
    subst P (sym text) (member_then _ behind rest _ others (member_alone run.low behind (omega arith) good.low_other undashed) after)
run_read_by false true run behind rest others one_is two_is good undashed after =
    let text : run_text run ≡ member_text run.low ++ member_text run.high = cond-false (run.low == run.high) _ _ one_is ∙ cond-true (run.low + 1 == run.high) _ _ two_is in
    let P : List ℕ → Type 0 = λ t. AreMembers t (record { low = run.low; high = run.low } ∷ record { low = run.high; high = run.high } ∷ others) rest in
    let ordered = good.ordered in let below = good.below in
    subst P (sym (ap (λ t. t ++ behind) text ∙ append_assoc (member_text run.low) (member_text run.high) behind))
    (member_then _ (member_text run.high ++ behind) rest _ _ (member_alone run.low (member_text run.high ++ behind) (omega arith) good.low_other (member_starts 45 run.high behind refl (λ e. absurd (omega arith))))
    (inr (member_then _ behind rest _ others (member_alone run.high behind below good.high_other undashed) after)))
run_read_by false false run behind rest others one_is two_is good undashed after =
    let text : run_text run ≡ member_text run.low ++ 45 ∷ member_text run.high = cond-false (run.low == run.high) _ _ one_is ∙ cond-false (run.low + 1 == run.high) _ _ two_is in
    let P : List ℕ → Type 0 = λ t. AreMembers t (record { low = run.low; high = run.high } ∷ others) rest in
    subst P (sym (ap (λ t. t ++ behind) text ∙ append_assoc (member_text run.low) (45 ∷ member_text run.high) behind))
    (member_then _ behind rest _ others (member_range run.low run.high behind good.ordered good.below good.low_other good.high_other) after)

run_read : (run : ByteRange) (behind rest : List ℕ) (others : List ByteRange) → IsRun run → StartsOther 45 behind → Behind behind others rest → AreMembers (run_text run ++ behind) (run_members run ++ others) rest
run_read run behind rest others good undashed after = run_read_by (run.low == run.high) (run.low + 1 == run.high) run behind rest others refl refl good undashed after

run_starts : (known : ℕ) (run : ByteRange) (rest : List ℕ) → is_letter_or_digit known ≡ false → known ≢ 92 → StartsOther known (run_text run ++ rest)
run_starts known run rest none other =
    let P : List ℕ → Type 0 = λ t. StartsOther known (t ++ rest) in
    cond_both (run.low == run.high) _ _ P (λ _. member_starts known run.low rest none other)
    (λ _. cond_both (run.low + 1 == run.high) _ _ P
    (λ _. let Q : List ℕ → Type 0 = λ t. StartsOther known t in subst Q (sym (append_assoc (member_text run.low) (member_text run.high) rest)) (member_starts known run.low (member_text run.high ++ rest) none other))
    (λ _. let Q : List ℕ → Type 0 = λ t. StartsOther known t in subst Q (sym (append_assoc (member_text run.low) (45 ∷ member_text run.high) rest)) (member_starts known run.low (45 ∷ (member_text run.high ++ rest)) none other)))

runs_start : (known : ℕ) (runs : List ByteRange) (rest : List ℕ) → is_letter_or_digit known ≡ false → known ≢ 92 → known ≢ 93 → StartsOther known (flat_map run_text runs ++ (93 ∷ rest))
runs_start known [] rest none other bracket = λ e. bracket (sym e)
runs_start known (run ∷ runs) rest none other bracket =
    let Q : List ℕ → Type 0 = λ t. StartsOther known t in
    subst Q (sym (append_assoc (run_text run) (flat_map run_text runs) (93 ∷ rest))) (run_starts known run (flat_map run_text runs ++ (93 ∷ rest)) none other)

runs_read : (run : ByteRange) (runs : List ByteRange) (rest : List ℕ) → AreRuns (run ∷ runs) → AreMembers (flat_map run_text (run ∷ runs) ++ (93 ∷ rest)) (flat_map run_members (run ∷ runs)) rest
runs_read run [] rest good =
    let Q : List ℕ → Type 0 = λ t. AreMembers t (flat_map run_members (run ∷ [])) rest in
    subst Q (sym (append_assoc (run_text run) [] (93 ∷ rest))) (run_read run (93 ∷ rest) rest [] good.0 (λ e. absurd (omega arith)) (inl (refl, refl)))
runs_read run (second ∷ runs) rest good =
    let Q : List ℕ → Type 0 = λ t. AreMembers t (flat_map run_members (run ∷ second ∷ runs)) rest in
    subst Q (sym (append_assoc (run_text run) (flat_map run_text (second ∷ runs)) (93 ∷ rest)))
    (run_read run (flat_map run_text (second ∷ runs) ++ (93 ∷ rest)) rest (flat_map run_members (second ∷ runs)) good.0 (runs_start 45 (second ∷ runs) rest refl (λ e. absurd (omega arith)) (λ e. absurd (omega arith)))
    (inr (runs_read second runs rest good.1)))

-- ---- what runs have
one_has : (byte low high : ℕ) → low ≡ high → (in_range byte (record { low = low; high = low }) || false) ≡ in_range byte (record { low = low; high = high })
one_has byte low high e = grind (arith, nat_tests)

two_have : (byte low high : ℕ) → low + 1 ≡ high → (in_range byte (record { low = low; high = low }) || (in_range byte (record { low = high; high = high }) || false)) ≡ in_range byte (record { low = low; high = high })
two_have byte low high e = grind (arith, nat_tests)

or_false : (b : Bool) → (b || false) ≡ b
or_false true = refl
or_false false = refl

members_have_by : (one two : Bool) (byte : ℕ) (run : ByteRange) → (run.low == run.high) ≡ one → (run.low + 1 == run.high) ≡ two → list_any (in_range byte) (run_members_of one two run) ≡ in_range byte run
members_have_by true two byte run one_is two_is = one_has byte run.low run.high (eqb-true run.low run.high one_is)
members_have_by false true byte run one_is two_is = two_have byte run.low run.high (eqb-true (run.low + 1) run.high two_is)
members_have_by false false byte run one_is two_is = or_false (in_range byte run)

members_have : (byte : ℕ) (runs : List ByteRange) → list_any (in_range byte) (flat_map run_members runs) ≡ list_any (in_range byte) runs
members_have byte [] = refl
members_have byte (run ∷ runs) =
    list_any-append (in_range byte) (run_members run) (flat_map run_members runs) ∙ ap (λ b. b || list_any (in_range byte) (flat_map run_members runs)) (members_have_by (run.low == run.high) (run.low + 1 == run.high) byte run refl refl)
    ∙ ap (λ b. in_range byte run || b) (members_have byte runs)

joins : (byte at low high : ℕ) → low ≡ at + 1 → low ≤ high → in_range byte (record { low = at; high = high }) ≡ ((byte == at) || in_range byte (record { low = low; high = high }))
joins byte at low high e ordered = grind (arith, nat_tests)

stands_alone : (byte at : ℕ) → in_range byte (record { low = at; high = at }) ≡ (byte == at)
stands_alone byte at = grind (arith, nat_tests)

or_or : (a b c : Bool) → ((a || b) || c) ≡ (a || (b || c))
or_or true b c = refl
or_or false b c = refl

before_has : (byte at : ℕ) (runs : List ByteRange) → AreRuns runs → list_any (in_range byte) (run_before at runs) ≡ ((byte == at) || list_any (in_range byte) runs)
before_has byte at [] good = ap (λ b. b || false) (stands_alone byte at)
before_has byte at (run ∷ runs) good =
    let P : List ByteRange → Type 0 = λ l. list_any (in_range byte) l ≡ ((byte == at) || (in_range byte run || list_any (in_range byte) runs)) in
    cond_both (run.low == at + 1) _ _ P
    (λ touches. ap (λ b. b || list_any (in_range byte) runs) (joins byte at run.low run.high (eqb-true run.low (at + 1) touches) good.0.ordered) ∙ or_or (byte == at) (in_range byte run) (list_any (in_range byte) runs))
    (λ _. ap (λ b. b || (in_range byte run || list_any (in_range byte) runs)) (stands_alone byte at))

before_runs : (at : ℕ) (runs : List ByteRange) → at < 256 → at ≢ 10 → AreRuns runs → AreRuns (run_before at runs)
before_runs at [] below other good = (record { ordered = omega arith; below = below; low_other = other; high_other = other }, tt)
before_runs at (run ∷ runs) below other good =
    let P : List ByteRange → Type 0 = λ l. AreRuns l in
    cond_both (run.low == at + 1) _ _ P
    (λ touches. let next : run.low ≡ at + 1 = eqb-true run.low (at + 1) touches in let ordered = good.0.ordered in
    (record { ordered = omega arith; below = good.0.below; low_other = other; high_other = good.0.high_other }, good.1))
    (λ _. (record { ordered = omega arith; below = below; low_other = other; high_other = other }, good))

has_byte_other : (words : List ℕ) (byte : ℕ) → has_byte words byte ≡ true → byte ≢ 10
has_byte_other words byte e = let member = (has_byte-member words byte).0 e in member.0

runs_are : (words : List ℕ) (at count : ℕ) → at + count ≤ 256 → AreRuns (runs_from words at count)
unfolding runs_from
runs_are words at zero below = tt
runs_are words at (suc count) below =
    let P : List ByteRange → Type 0 = λ l. AreRuns l in
    let others = runs_are words (at + 1) count (omega arith) in
    cond_both (has_byte words at) _ _ P (λ has. before_runs at (runs_from words (at + 1) count) (omega arith) (has_byte_other words at has) others) (λ _. others)

nothing_within : (byte at : ℕ) (has : Bool) → false ≡ ((nat_le at byte && nat_lt byte (at + 0)) && has)
nothing_within byte at true = grind (arith, nat_tests)
nothing_within byte at false = grind (arith, nat_tests)

within_here : (byte at count : ℕ) (has : Bool) → byte ≡ at → (nat_le at byte && nat_lt byte (at + suc count)) ≡ true
within_here byte at count has e = grind (arith, nat_tests)

within_more : (byte at count : ℕ) → byte ≢ at → (nat_le (at + 1) byte && nat_lt byte ((at + 1) + count)) ≡ (nat_le at byte && nat_lt byte (at + suc count))
within_more byte at count other = grind (arith, nat_tests)

runs_have : (words : List ℕ) (byte at count : ℕ) → at + count ≤ 256 → list_any (in_range byte) (runs_from words at count) ≡ ((nat_le at byte && nat_lt byte (at + count)) && has_byte words byte)
unfolding runs_from
runs_have words byte at zero below = nothing_within byte at (has_byte words byte)
runs_have words byte at (suc count) below =
    let later = runs_have words byte (at + 1) count (omega arith) in
    let rest : List ByteRange = runs_from words (at + 1) count in
    let P : List ByteRange → Type 0 = λ l. list_any (in_range byte) l ≡ ((nat_le at byte && nat_lt byte (at + suc count)) && has_byte words byte) in
    cond_both (has_byte words at) _ _ P
    (λ has. before_has byte at rest (runs_are words (at + 1) count (omega arith)) ∙
    ⊎_elim
    (λ (same : byte ≡ at). ap (λ b. b || list_any (in_range byte) rest) (eq-eqb byte at same) ∙ sym (and_from _ _ (within_here byte at count true same) (ap (has_byte words) same ∙ has)))
    (λ (other : byte ≡ at → ⊥). ap (λ b. b || list_any (in_range byte) rest) (ne_eqb byte at other) ∙ later ∙ ap (λ b. b && has_byte words byte) (within_more byte at count other))
    (cases_eq byte at))
    (λ hasnt. later ∙
    ⊎_elim
    (λ (same : byte ≡ at). let none : has_byte words byte ≡ false = ap (has_byte words) same ∙ hasnt in
    and_right _ (has_byte words byte) none ∙ sym (and_right _ (has_byte words byte) none))
    (λ (other : byte ≡ at → ⊥). ap (λ b. b && has_byte words byte) (within_more byte at count other))
    (cases_eq byte at))

-- ---- the whole set
all_within : (byte : ℕ) → byte < 256 → (nat_le 0 byte && nat_lt byte (0 + 256)) ≡ true
all_within byte below = grind (arith, nat_tests)

runs_say : (words : List ℕ) (byte : ℕ) → byte < 256 → byte ≢ 10 → has_bit words byte ≡ list_any (in_range byte) (runs_of words)
runs_say words byte below other =
    sym (runs_have words byte 0 256 (omega arith) ∙ ap (λ b. b && has_byte words byte) (all_within byte below) ∙ ap (λ b. not b && has_bit words byte) (ne_eqb byte 10 other))

same_but_feed : (v w : List ℕ) → IsGoodSet v → IsByteSet w → ((byte : ℕ) → byte < 256 → byte ≢ 10 → has_bit v byte ≡ has_bit w byte) → (byte : ℕ) → byte < 256 → has_bit v byte ≡ has_bit w byte
same_but_feed v w hv hw same byte below =
    ⊎_elim
    (λ (feed : byte ≡ 10). ap (has_bit v) feed ∙ no_feed_bit v hv.is_set.1 ∙ sym (ap (has_bit w) feed ∙ no_feed_bit w hw.1))
    (λ (other : byte ≡ 10 → ⊥). same byte below other)
    (cases_eq byte 10)

no_runs : (words : List ℕ) → IsGoodSet words → runs_of words ≡ [] → ⊥
no_runs words good none =
    good.is_set.0
    (same_words words no_bytes good.four refl good.small no_bytes-small
    (λ byte below. ⊎_elim
    (λ (feed : byte ≡ 10). ap (has_bit words) feed ∙ no_feed_bit words good.is_set.1 ∙ sym (no_bytes-bit byte))
    (λ (other : byte ≡ 10 → ⊥). runs_say words byte below other ∙ ap (list_any (in_range byte)) none ∙ sym (no_bytes-bit byte))
    (cases_eq byte 10)))

-- ---- one byte
pub only_good : (byte : ℕ) → byte < 256 → byte ≢ 10 → IsGoodSet (only_byte byte)
unfolding only_byte
only_good byte below other =
    let power : 2 ^ (byte % 64) < 2 ^ 64 = pow-lt {i = byte % 64} {j = 64} (omega arith) in
    record { is_set = only_byte-set byte below other; four = length-set no_bytes (byte / 64) (2 ^ (byte % 64)); small = All-set (λ n. n < 2 ^ 64) no_bytes (byte / 64) (2 ^ (byte % 64)) power no_bytes-small }

only_from_runs : (words : List ℕ) (run : ByteRange) → IsGoodSet words → runs_of words ≡ run ∷ [] → run.low ≡ run.high → run.low < 256 → run.low ≢ 10 → words ≡ only_byte run.low
only_from_runs words run good is alone below other =
    let only = only_good run.low below other in
    same_words words (only_byte run.low) good.four only.four good.small only.small
    (same_but_feed words (only_byte run.low) good only.is_set
    (λ byte under elsewhere. runs_say words byte under elsewhere ∙ ap (list_any (in_range byte)) is ∙ or_false (in_range byte run) ∙
    iff_true (in_range byte run) (has_bit (only_byte run.low) byte)
    (λ inside. bit_from_member (only_byte run.low) byte ((only_byte-member run.low byte below other).1 (same_end byte run.low run.high alone inside)))
    (λ bit. inside_end byte run.low run.high alone ((only_byte-member run.low byte below other).0 (member_from_bit (only_byte run.low) byte elsewhere bit)))))
  where
    same_end : (byte low high : ℕ) → low ≡ high → in_range byte (record { low = low; high = high }) ≡ true → byte ≡ low
    same_end byte low high e inside = let parts = and_parts (nat_le low byte) (nat_le byte high) inside in let a = leb-true low byte parts.0 in let b = leb-true byte high parts.1 in omega arith

    inside_end : (byte low high : ℕ) → low ≡ high → byte ≡ low → in_range byte (record { low = low; high = high }) ≡ true
    inside_end byte low high e is_low = and_from (nat_le low byte) (nat_le byte high) (le-leb low byte (omega arith)) (le-leb byte high (omega arith))

by_written : (front : Option Front) (byte : ℕ) (rest : List ℕ) → byte < 256 → front ≡ Some (byte, rest) → IsByteSign front (Set (only_byte byte)) rest
by_written front byte rest below e = let P : Option Front → Type 0 = λ f. IsByteSign f (Set (only_byte byte)) rest in subst P (sym e) (below, refl, refl)

at_known : (P : ℕ → Type 0) (byte known : ℕ) → (byte == known) ≡ true → P known → P byte
at_known P byte known e h = subst P (sym (eqb-true byte known e)) h

special_read : (byte : ℕ) (rest : List ℕ) → is_special byte ≡ true → written_byte (92 ∷ byte ∷ rest) ≡ Some (byte, rest)
special_read byte rest special =
    let P : ℕ → Type 0 = λ b. written_byte (92 ∷ b ∷ rest) ≡ Some (b, rest) in
    let k : (known : ℕ) → P known → (byte == known) ≡ true → P byte = λ known h e. at_known P byte known e h in
    ⊎_elim (k 46 refl) (λ e1. ⊎_elim (k 91 refl) (λ e2. ⊎_elim (k 93 refl) (λ e3. ⊎_elim (k 40 refl) (λ e4. ⊎_elim (k 41 refl) (λ e5. ⊎_elim (k 42 refl) (λ e6. ⊎_elim (k 43 refl) (λ e7.
    ⊎_elim (k 63 refl) (λ e8. ⊎_elim (k 124 refl) (λ e9. ⊎_elim (k 92 refl) (k 47 refl) (or_cases _ _ e9)) (or_cases _ _ e8)) (or_cases _ _ e7)) (or_cases _ _ e6)) (or_cases _ _ e5)) (or_cases _ _ e4)) (or_cases _ _ e3)) (or_cases _ _ e2)) (or_cases _ _ e1)) (or_cases _ _ special)

-- a byte that is not special stands for itself, if it isn't the backslash
kind_plain : (byte : ℕ) → is_special byte ≡ false → kind_of byte ≡ Byte
kind_plain byte plain =
    let p46 = or_parts _ _ plain in let p91 = or_parts _ _ p46.1 in let p93 = or_parts _ _ p91.1 in let p40 = or_parts _ _ p93.1 in let p41 = or_parts _ _ p40.1 in
    let p42 = or_parts _ _ p41.1 in let p43 = or_parts _ _ p42.1 in let p63 = or_parts _ _ p43.1 in let p124 = or_parts _ _ p63.1 in let p92 = or_parts _ _ p124.1 in
    cond-false (byte == 46) _ _ p46.0 ∙ cond-false (byte == 91) _ _ p91.0 ∙ cond-false (byte == 40) _ _ p40.0 ∙ cond-false (byte == 41) _ _ p41.0 ∙ cond-false (byte == 124) _ _ p124.0
    ∙ cond-false (byte == 42) _ _ p42.0 ∙ cond-false (byte == 43) _ _ p43.0 ∙ cond-false (byte == 63) _ _ p63.0 ∙ cond-false (byte == 93) _ _ p93.0 ∙ cond-false (byte == 47) _ _ p92.1

byte_read : (byte : ℕ) (rest : List ℕ) → byte < 256 → byte ≢ 10 → IsSign (byte_text byte ++ rest) (Set (only_byte byte)) rest
byte_read byte rest below other =
    let P : List ℕ → Type 0 = λ t. IsSign (t ++ rest) (Set (only_byte byte)) rest in
    cond_both (is_special byte) _ _ P
    (λ special. by_written (written_byte (92 ∷ byte ∷ rest)) byte rest below (special_read byte rest special))
    (λ plain. cond_both (nat_le 32 byte && nat_le byte 126) _ _ P
    (λ _. let Q : Kind → Type 0 = λ k. IsSignOf k byte rest (Set (only_byte byte)) rest in
    let itself : Q Byte = by_written (written_byte (byte ∷ rest)) byte rest below (written_plain byte rest (λ e. true≢false (sym (ap is_special e) ∙ plain)) other) in
    subst Q (sym (kind_plain byte plain)) itself)
    (λ _. by_written (written_byte (hex_text byte ++ rest)) byte rest below (written_hex byte rest below other)))

-- ---- classes
not_caret : (text : List ℕ) → StartsOther 94 text → (members_text text ≡ text) × (is_negated text ≡ false)
not_caret [] h = (refl, refl)
not_caret (byte ∷ text) h = (ap (λ b. cond b text (byte ∷ text)) (ne_eqb byte 94 h), ne_eqb byte 94 h)

itself : (b : Bool) → b ≡ cond b true false
itself true = refl
itself false = refl

class_read_whole : (words : List ℕ) (run : ByteRange) (runs : List ByteRange) (rest : List ℕ) → IsGoodSet words → runs_of words ≡ run ∷ runs → IsSign (class_text (run ∷ runs) ++ rest) (Set words) rest
class_read_whole words run runs rest good is =
    let text : List ℕ = flat_map run_text (run ∷ runs) ++ (93 ∷ rest) in
    let same : (flat_map run_text (run ∷ runs) ++ 93 ∷ []) ++ rest ≡ text = append_assoc (flat_map run_text (run ∷ runs)) (93 ∷ []) rest in
    let caret = not_caret text (runs_start 94 (run ∷ runs) rest refl (λ e. absurd (omega arith)) (λ e. absurd (omega arith))) in
    let R : List ByteRange → Type 0 = λ l. AreRuns l in
    let are : AreRuns (run ∷ runs) = subst R is (runs_are words 0 256 (omega arith)) in
    let ranges : List ByteRange = flat_map run_members (run ∷ runs) in
    let P : List ℕ → Type 0 = λ l. AreMembers l ranges rest in
    let Q : Bool → Type 0 = λ b. IsSetOf (class_has b ranges) words in
    let has : IsSetOf (class_has false ranges) words = set_from words (class_has false ranges) good.is_set good.four good.small
    (λ byte below other. runs_say words byte below other ∙ ap (list_any (in_range byte)) is ∙ sym (members_have byte (run ∷ runs)) ∙ itself (list_any (in_range byte) ranges)) in
    let class : IsClass text words rest = record { ranges = ranges; stand = subst P (sym caret.0) (runs_read run runs rest are); has = subst Q (sym caret.1) has } in
    let C : List ℕ → Type 0 = λ l. IsClass l words rest in
    (words, subst C (sym same) class, refl)

-- ---- any set
any_is : (words : List ℕ) → length words ≡ 4 → is_any words ≡ true → words ≡ any_words
any_is words four e =
    let one = and_parts _ _ e in let two = and_parts _ _ one.1 in let three = and_parts _ _ two.1 in
    four_words words four ∙ same_list _ _ _ _ _ _ _ _ (eqb-true _ _ one.0) (eqb-true _ _ two.0) (eqb-true _ _ three.0) (eqb-true _ _ three.1)

by_runs : (words : List ℕ) (runs : List ByteRange) (rest : List ℕ) → IsGoodSet words → runs_of words ≡ runs → IsSign (text_of_runs runs ++ rest) (Set words) rest
by_runs words [] rest good is = absurd (no_runs words good is)
by_runs words (run ∷ []) rest good is =
    let P : List ℕ → Type 0 = λ t. IsSign (t ++ rest) (Set words) rest in
    let R : List ByteRange → Type 0 = λ l. AreRuns l in
    let are : AreRuns (run ∷ []) = subst R is (runs_are words 0 256 (omega arith)) in
    let ordered = are.0.ordered in let below = are.0.below in
    cond_both (run.low == run.high) _ _ P
    (λ alone. let under : run.low < 256 = omega arith in
    let Q : List ℕ → Type 0 = λ ws. IsSign (byte_text run.low ++ rest) (Set ws) rest in
    subst Q (sym (only_from_runs words run good is (eqb-true run.low run.high alone) under are.0.low_other)) (byte_read run.low rest under are.0.low_other))
    (λ _. class_read_whole words run [] rest good is)
by_runs words (run ∷ second ∷ runs) rest good is = class_read_whole words run (second ∷ runs) rest good is

set_read : (words rest : List ℕ) → IsGoodSet words → IsSign (set_text words ++ rest) (Set words) rest
set_read words rest good =
    let P : List ℕ → Type 0 = λ t. IsSign (t ++ rest) (Set words) rest in
    cond_both (is_any words) (46 ∷ []) (text_of_runs (runs_of words)) P
    (λ any. let Q : List ℕ → Type 0 = λ ws. IsAnyByte ws in
    let has : IsAnyByte words = subst Q (sym (any_is words good.four any)) any_has in (words, has, refl, refl))
    (λ _. by_runs words (runs_of words) rest good refl)

sign_read : (sign : Sign) (rest : List ℕ) → IsGood sign → IsSign (sign_text sign ++ rest) sign rest
sign_read (Set words) rest good = set_read words rest good
sign_read Open rest good = (refl, refl)
sign_read Close rest good = (refl, refl)
sign_read Bar rest good = (refl, refl)
sign_read (Repeat Star) rest good = (refl, refl)
sign_read (Repeat Plus) rest good = (refl, refl)
sign_read (Repeat Opt) rest good = (refl, refl)

pub signs_read : (signs : List Sign) → AreGood signs → AreSigns (signs_text signs) signs
signs_read [] good = no_sign refl refl
signs_read (sign ∷ signs) good = sign_and (sign_read sign (signs_text signs) good.0) (signs_read signs good.1) refl

-- ---- what was read is good
written_other : (front : Option Front) (found : Front) → without_feed front ≡ Some found → found.0 ≢ 10
written_other None found e = absurd (none-some found e)
written_other (Some front) found e =
    ⊎_elim
    (λ feed. absurd (none-some found (sym (cond-true (front.0 == 10) None (Some front) feed) ∙ e)))
    (λ other. λ is. eqb-false front.0 10 other (ap (λ (f : Front). f.0) (same_Some front found (sym (cond-false (front.0 == 10) None (Some front) other) ∙ e)) ∙ is))
    (cases_Bool (front.0 == 10))

byte_good : (front : Option Front) (sign : Sign) (rest : List ℕ) → ((found : Front) → front ≡ Some found → found.0 ≢ 10) → IsByteSign front sign rest → IsGood sign
byte_good None sign rest other h = absurd h
byte_good (Some found) sign rest other h = let P : Sign → Type 0 = λ s. IsGood s in subst P (sym h.1) (only_good found.0 h.0 (other found refl))

set_good : (has : ℕ → Bool) (words : List ℕ) → IsSetOf has words → IsGoodSet words
set_good has words h = record { is_set = h.is_set; four = h.four; small = h.small }

sign_of_good : (kind : Kind) (byte : ℕ) (behind : List ℕ) (sign : Sign) (rest : List ℕ) → ((mark : Sign) → kind ≡ Mark mark → IsGood mark) → IsSignOf kind byte behind sign rest → IsGood sign
sign_of_good Byte byte behind sign rest marks h = byte_good (written_byte (byte ∷ behind)) sign rest (λ found e. written_other (front_of (byte ∷ behind)) found e) h
sign_of_good AnyByte byte behind sign rest marks h = let P : Sign → Type 0 = λ s. IsGood s in subst P (sym h.2) (set_good (λ _. true) h.0 h.1)
sign_of_good Class byte behind sign rest marks h = let P : Sign → Type 0 = λ s. IsGood s in subst P (sym h.2) (set_good (class_has (is_negated behind) h.1.ranges) h.0 h.1.has)
sign_of_good (Mark mark) byte behind sign rest marks h = let P : Sign → Type 0 = λ s. IsGood s in subst P (sym h.0) (marks mark refl)
sign_of_good Nothing byte behind sign rest marks h = absurd h

-- no mark is a set
abbrev MarkIsGood : Kind → Type 0
MarkIsGood Byte = Unit {0}
MarkIsGood AnyByte = Unit {0}
MarkIsGood Class = Unit {0}
MarkIsGood (Mark mark) = IsGood mark
MarkIsGood Nothing = Unit {0}

mark_is_good : (byte : ℕ) → MarkIsGood (kind_of byte)
mark_is_good byte =
    let P : Kind → Type 0 = λ k. MarkIsGood k in
    cond_both (byte == 46) _ _ P (λ _. tt) (λ _. cond_both (byte == 91) _ _ P (λ _. tt) (λ _. cond_both (byte == 40) _ _ P (λ _. tt) (λ _. cond_both (byte == 41) _ _ P (λ _. tt) (λ _.
    cond_both (byte == 124) _ _ P (λ _. tt) (λ _. cond_both (byte == 42) _ _ P (λ _. tt) (λ _. cond_both (byte == 43) _ _ P (λ _. tt) (λ _. cond_both (byte == 63) _ _ P (λ _. tt) (λ _.
    cond_both (byte == 93) _ _ P (λ _. tt) (λ _. cond_both (byte == 47) _ _ P (λ _. tt) (λ _. tt))))))))))

sign_good : (text : List ℕ) (sign : Sign) (rest : List ℕ) → IsSign text sign rest → IsGood sign
sign_good [] sign rest h = absurd h
sign_good (byte ∷ behind) sign rest h =
    let P : Kind → Type 0 = λ k. MarkIsGood k in
    sign_of_good (kind_of byte) byte behind sign rest (λ mark e. subst P e (mark_is_good byte)) h

pub signs_good : {text : List ℕ} {signs : List Sign} → AreSigns text signs → AreGood signs
signs_good (no_sign none signs_are) = let P : List Sign → Type 0 = λ l. AreGood l in subst P (sym signs_are) tt
signs_good (sign_and {text = text} {rest = rest} {sign = sign} is more signs_are) =
    let P : List Sign → Type 0 = λ l. AreGood l in subst P (sym signs_are) (sign_good text sign rest is, signs_good more)
