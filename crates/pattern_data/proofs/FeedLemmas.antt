-- No spelling has a line feed.
use Rattle.std.proofs.Common.{◌≡◌, ◌≢◌, ℕ, zero, suc, ◌+◌, ◌*◌, ◌<◌, not, List, [], ◌∷◌, length, get_or, refl, sym, ap, ◌∙◌, subst, ⊎_elim, arith}
use Rattle.std.specs.Prelude.{◌==◌, ◌&&◌, nat_le, Option, None, Some, Contains}
use Rattle.std.proofs.lemmas.Bool.{cases_Bool, false≢true, and_parts, cond-true, cond-false}
use Rattle.std.proofs.lemmas.Option.{none-some, some_pair_parts}
use Rattle.pattern_data.specs.Escapes.{Front, is_hex_digit, hex_value, escape_of, front_by_digits, front_with, front_by_escape, front_of}
use Rattle.pattern_data.specs.Classes.{without_feed, written_byte, class_byte, Member, range_to, member_from, member_by, members_text, AreMembers}
use Rattle.pattern_data.specs.Classes.AreMembers.{last_member, one_more}
use Rattle.pattern_data.specs.declared.classes.ByteRange.{ByteRange}
use Rattle.pattern_data.specs.declared.pattern.Pattern.{Pattern}
use Rattle.pattern_data.specs.declared.signs.Sign.{Sign}
use Rattle.pattern_data.specs.declared.signs.Kind.{Kind}
use Rattle.pattern_data.specs.declared.signs.Kind.TheVariants.{Byte, AnyByte, Class, Mark, Nothing}
use Rattle.pattern_data.specs.Signs.{kind_of, IsByteSign, IsSignOf, IsSign, AreSigns}
use Rattle.pattern_data.specs.Signs.AreSigns.{no_sign, sign_and}
use Rattle.pattern_data.specs.Spellings.{IsSpelling}

abbrev HasNoFeed : List ℕ → Type 0
HasNoFeed [] = Unit {0}
HasNoFeed (byte ∷ bytes) = (byte ≢ 10) × HasNoFeed bytes

rest_is : (one other : List ℕ) → one ≡ other → HasNoFeed other → HasNoFeed one
rest_is one other e h = let P : List ℕ → Type 0 = λ l. HasNoFeed l in subst P (sym e) h

-- ---- bytes and escapes
digits_feed : (text : List ℕ) (byte : ℕ) (rest : List ℕ) → front_by_digits text ≡ Some (byte, rest) → HasNoFeed rest → HasNoFeed text
digits_feed [] byte rest e h = absurd (none-some _ e)
digits_feed (high ∷ []) byte rest e h = absurd (none-some _ e)
digits_feed (high ∷ low ∷ behind) byte rest e h =
    let found : Front = (16 * hex_value high + hex_value low, behind) in
    ⊎_elim
    (λ digits. let both = and_parts (is_hex_digit high) (is_hex_digit low) digits in
    let same = some_pair_parts _ byte behind rest (sym (cond-true (is_hex_digit high && is_hex_digit low) (Some found) None digits) ∙ e) in
    ((λ is. false≢true (ap is_hex_digit (sym is) ∙ both.0)), ((λ is. false≢true (ap is_hex_digit (sym is) ∙ both.1)), rest_is behind rest same.1 h)))
    (λ others. absurd (none-some _ (sym (cond-false (is_hex_digit high && is_hex_digit low) (Some found) None others) ∙ e)))
    (cases_Bool (is_hex_digit high && is_hex_digit low))

with_feed : (byte : ℕ) (o : Option ℕ) (behind : List ℕ) (found : ℕ) (rest : List ℕ) → escape_of byte ≡ o → front_with o behind ≡ Some (found, rest) → HasNoFeed rest → HasNoFeed (byte ∷ behind)
with_feed byte None behind found rest is e h = absurd (none-some _ e)
with_feed byte (Some escaped) behind found rest is e h =
    let same = some_pair_parts escaped found behind rest e in
    (λ feed. none-some escaped (ap escape_of (sym feed) ∙ is), rest_is behind rest same.1 h)

escape_feed : (text : List ℕ) (byte : ℕ) (rest : List ℕ) → front_by_escape text ≡ Some (byte, rest) → HasNoFeed rest → HasNoFeed text
escape_feed [] byte rest e h = absurd (none-some _ e)
escape_feed (first ∷ behind) byte rest e h =
    ⊎_elim
    (λ digits. ((λ is. false≢true (ap (λ n. n == 120) (sym is) ∙ digits)), digits_feed behind byte rest (sym (cond-true (first == 120) (front_by_digits behind) (front_with (escape_of first) behind) digits) ∙ e) h))
    (λ other. with_feed first (escape_of first) behind byte rest refl (sym (cond-false (first == 120) (front_by_digits behind) (front_with (escape_of first) behind) other) ∙ e) h)
    (cases_Bool (first == 120))

front_feed : (text : List ℕ) (byte : ℕ) (rest : List ℕ) → front_of text ≡ Some (byte, rest) → byte ≢ 10 → HasNoFeed rest → HasNoFeed text
front_feed [] byte rest e other h = absurd (none-some _ e)
front_feed (first ∷ behind) byte rest e other h =
    ⊎_elim
    (λ escape. ((λ is. false≢true (ap (λ n. n == 92) (sym is) ∙ escape)), escape_feed behind byte rest (sym (cond-true (first == 92) (front_by_escape behind) (Some (first, behind)) escape) ∙ e) h))
    (λ plain. let same = some_pair_parts first byte behind rest (sym (cond-false (first == 92) (front_by_escape behind) (Some (first, behind)) plain) ∙ e) in
    ((λ is. other (sym same.0 ∙ is)), rest_is behind rest same.1 h))
    (cases_Bool (first == 92))

without : (front : Option Front) (byte : ℕ) (rest : List ℕ) → without_feed front ≡ Some (byte, rest) → (front ≡ Some (byte, rest)) × (byte ≢ 10)
without None byte rest e = absurd (none-some _ e)
without (Some front) byte rest e =
    ⊎_elim
    (λ feed. absurd (none-some _ (sym (cond-true (front.0 == 10) None (Some front) feed) ∙ e)))
    (λ other. let is : Some front ≡ Some (byte, rest) = sym (cond-false (front.0 == 10) None (Some front) other) ∙ e in
    let same = some_pair_parts front.0 byte front.1 rest is in
    (is, λ ten. false≢true (sym other ∙ ap (λ n. n == 10) (same.0 ∙ ten))))
    (cases_Bool (front.0 == 10))

written_no_feed : (text : List ℕ) (byte : ℕ) (rest : List ℕ) → written_byte text ≡ Some (byte, rest) → HasNoFeed rest → HasNoFeed text
written_no_feed text byte rest e h = let found = without (front_of text) byte rest e in front_feed text byte rest found.0 found.1 h

-- ---- classes
class_no_feed : (text : List ℕ) (byte : ℕ) (rest : List ℕ) → class_byte text ≡ Some (byte, rest) → HasNoFeed rest → HasNoFeed text
class_no_feed [] byte rest e h = absurd (none-some _ e)
class_no_feed (first ∷ behind) byte rest e h =
    ⊎_elim
    (λ bracket. absurd (none-some _ (sym (cond-true (first == 93) None (written_byte (first ∷ behind)) bracket) ∙ e)))
    (λ other. written_no_feed (first ∷ behind) byte rest (sym (cond-false (first == 93) None (written_byte (first ∷ behind)) other) ∙ e) h)
    (cases_Bool (first == 93))

range_no_feed : (low : ℕ) (text : List ℕ) (front : Option Front) (range : ByteRange) (behind : List ℕ) → class_byte text ≡ front → range_to low front ≡ Some (range, behind) → HasNoFeed behind → HasNoFeed text
range_no_feed low text None range behind is e h = absurd (none-some _ e)
range_no_feed low text (Some front) range behind is e h =
    ⊎_elim
    (λ ordered. let same = some_pair_parts _ range front.1 behind (sym (cond-true (nat_le low front.0) (Some (record { low = low; high = front.0 }, front.1)) None ordered) ∙ e) in
    class_no_feed text front.0 front.1 is (rest_is front.1 behind same.1 h))
    (λ wrong. absurd (none-some _ (sym (cond-false (nat_le low front.0) (Some (record { low = low; high = front.0 }, front.1)) None wrong) ∙ e)))
    (cases_Bool (nat_le low front.0))

from_no_feed : (low : ℕ) (text : List ℕ) (range : ByteRange) (behind : List ℕ) → member_from low text ≡ Some (range, behind) → HasNoFeed behind → HasNoFeed text
from_no_feed low [] range behind e h = tt
from_no_feed low (byte ∷ []) range behind e h = let same = some_pair_parts _ range (byte ∷ []) behind e in rest_is (byte ∷ []) behind same.1 h
from_no_feed low (dash ∷ next ∷ rest) range behind e h =
    let alone : Option Member = Some (record { low = low; high = low }, dash ∷ next ∷ rest) in
    let ranged : Option Member = range_to low (class_byte (next ∷ rest)) in
    ⊎_elim
    (λ is_range. let both = and_parts (dash == 45) (not (next == 93)) is_range in
    ((λ is. false≢true (ap (λ n. n == 45) (sym is) ∙ both.0)), range_no_feed low (next ∷ rest) (class_byte (next ∷ rest)) range behind refl (sym (cond-true ((dash == 45) && not (next == 93)) ranged alone is_range) ∙ e) h))
    (λ is_alone. let same = some_pair_parts _ range (dash ∷ next ∷ rest) behind (sym (cond-false ((dash == 45) && not (next == 93)) ranged alone is_alone) ∙ e) in rest_is (dash ∷ next ∷ rest) behind same.1 h)
    (cases_Bool ((dash == 45) && not (next == 93)))

by_no_feed : (text : List ℕ) (front : Option Front) (range : ByteRange) (behind : List ℕ) → class_byte text ≡ front → member_by front ≡ Some (range, behind) → HasNoFeed behind → HasNoFeed text
by_no_feed text None range behind is e h = absurd (none-some _ e)
by_no_feed text (Some front) range behind is e h = class_no_feed text front.0 front.1 is (from_no_feed front.0 front.1 range behind e h)

members_no_feed : {text rest : List ℕ} {ranges : List ByteRange} → AreMembers text ranges rest → HasNoFeed rest → HasNoFeed text
members_no_feed (last_member {text = text} {behind = behind} {rest = rest} {range = range} member closed is) h =
    by_no_feed text (class_byte text) range behind refl member (rest_is behind (93 ∷ rest) closed ((λ e. absurd (omega arith)), h))
members_no_feed (one_more {text = text} {behind = behind} {range = range} member more is) h = by_no_feed text (class_byte text) range behind refl member (members_no_feed more h)

caret_no_feed : (text : List ℕ) → HasNoFeed (members_text text) → HasNoFeed text
caret_no_feed [] h = tt
caret_no_feed (byte ∷ text) h =
    let P : List ℕ → Type 0 = λ l. HasNoFeed l in
    ⊎_elim
    (λ caret. ((λ is. false≢true (ap (λ n. n == 94) (sym is) ∙ caret)), subst P (cond-true (byte == 94) text (byte ∷ text) caret) h))
    (λ other. subst P (cond-false (byte == 94) text (byte ∷ text) other) h)
    (cases_Bool (byte == 94))

-- ---- signs
abbrev IsOther : Kind → Type 0
IsOther Byte = ⊥
IsOther AnyByte = Unit {0}
IsOther Class = Unit {0}
IsOther (Mark mark) = Unit {0}
IsOther Nothing = Unit {0}

first_no_feed : (byte : ℕ) (kind : Kind) → kind_of byte ≡ kind → IsOther kind → byte ≢ 10
first_no_feed byte kind is other feed = let P : Kind → Type 0 = λ k. IsOther k in let none : ⊥ = subst P (sym is ∙ ap kind_of feed) other in none

byte_sign_no_feed : (text : List ℕ) (front : Option Front) (sign : Sign) (rest : List ℕ) → written_byte text ≡ front → IsByteSign front sign rest → HasNoFeed rest → HasNoFeed text
byte_sign_no_feed text None sign rest is sign_is h = absurd sign_is
byte_sign_no_feed text (Some front) sign rest is sign_is h = written_no_feed text front.0 front.1 is (rest_is front.1 rest (sym sign_is.2) h)

sign_of_no_feed : (kind : Kind) (byte : ℕ) (behind : List ℕ) (sign : Sign) (rest : List ℕ) → kind_of byte ≡ kind → IsSignOf kind byte behind sign rest → HasNoFeed rest → HasNoFeed (byte ∷ behind)
sign_of_no_feed Byte byte behind sign rest is sign_is h = byte_sign_no_feed (byte ∷ behind) (written_byte (byte ∷ behind)) sign rest refl sign_is h
sign_of_no_feed AnyByte byte behind sign rest is sign_is h = (first_no_feed byte AnyByte is tt, rest_is behind rest (sym sign_is.3) h)
sign_of_no_feed Class byte behind sign rest is sign_is h = (first_no_feed byte Class is tt, caret_no_feed behind (members_no_feed sign_is.1.stand h))
sign_of_no_feed (Mark mark) byte behind sign rest is sign_is h = (first_no_feed byte (Mark mark) is tt, rest_is behind rest (sym sign_is.1) h)
sign_of_no_feed Nothing byte behind sign rest is sign_is h = absurd sign_is

sign_no_feed : (text : List ℕ) (sign : Sign) (rest : List ℕ) → IsSign text sign rest → HasNoFeed rest → HasNoFeed text
sign_no_feed [] sign rest sign_is h = tt
sign_no_feed (byte ∷ behind) sign rest sign_is h = sign_of_no_feed (kind_of byte) byte behind sign rest refl sign_is h

signs_no_feed : {text : List ℕ} {signs : List Sign} → AreSigns text signs → HasNoFeed text
signs_no_feed (no_sign {text = text} none signs_are) = rest_is text [] none tt
signs_no_feed (sign_and {text = text} {rest = rest} {sign = sign} is more signs_are) = sign_no_feed text sign rest is (signs_no_feed more)

nowhere : (text : List ℕ) (k : ℕ) → HasNoFeed text → k < length text → get_or text k 10 ≡ 10 → ⊥
nowhere [] k h below e = omega arith
nowhere (byte ∷ text) zero h below e = h.0 e
nowhere (byte ∷ text) (suc k) h below e = nowhere text k h.1 (omega arith) e

pub spelling_no_feed : (text : List ℕ) (pattern : Pattern) → IsSpelling text pattern → Contains text 10 → ⊥
spelling_no_feed text pattern h here = nowhere text here.0 (signs_no_feed h.read) here.1 here.2
