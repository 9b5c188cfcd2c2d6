-- The normal spelling of a pattern stands between slashes as it is.
use Rattle.std.proofs.Common.{◌≡◌, ℕ, zero, suc, ◌+◌, ◌/◌, ◌%◌, ◌<◌, ◌≤◌, true, false, List, [], ◌∷◌, ◌++◌, refl, sym, ap, subst, ◌∙◌, inr, ⊎_elim, arith}
use Rattle.std.specs.Prelude.{◌&&◌, ◌==◌, nat_le}
use Rattle.std.specs.List.{flat_map}
use Rattle.std.proofs.lemmas.Bool.{false≢true, eqb-true, ne_eqb, or_cases, cond_both}
use Rattle.std.proofs.lemmas.Bool.Decides.{nat_tests}
use Rattle.std.proofs.lemmas.List.Elements.{All-nil, All-cons}
use Rattle.pattern_data.specs.declared.pattern.Pattern.{Pattern}
use Rattle.pattern_data.specs.declared.classes.ByteRange.{ByteRange}
use Rattle.pattern_data.specs.declared.signs.Sign.{Sign}
use Rattle.pattern_data.specs.declared.signs.Sign.TheVariants.{Set, Open, Close, Bar, Repeat}
use Rattle.pattern_data.specs.declared.signs.Repetition.TheVariants.{Star, Plus, Opt}
use Rattle.pattern_data.specs.Signs.{kind_of, IsSignOf, IsSign, AreSigns}
use Rattle.pattern_data.specs.Signs.AreSigns.{no_sign, sign_and}
use Rattle.pattern_data.specs.Spellings.{AreAlternatives, AreInSequence, IsRepetition, IsAtom, IsSpelling}
use Rattle.pattern_data.specs.Spellings.AreAlternatives.{one_alternative, alternative_more}
use Rattle.pattern_data.specs.Spellings.AreInSequence.{one_in_sequence, in_sequence_more}
use Rattle.pattern_data.specs.Spellings.IsRepetition.{atom_alone, atom_repeated}
use Rattle.pattern_data.specs.Spellings.IsAtom.{set_atom, in_brackets}
use Rattle.pattern_data.specs.Texts.{is_special, hex_text, byte_text, is_letter_or_digit, member_text, run_text, has_byte, run_before, runs_from, runs_of, class_text, text_of_runs, is_any, set_text}
use Rattle.pattern_data.specs.Printing.{written, sign_text, signs_text, normal_spelling}
use Rattle.pattern_data.proofs.RoundLemmas.{normal_spells}
use Rattle.lexeme_theory.specs.SheetBytes.{is_bad_in_text}
use Rattle.layout_laws.proofs.TextLemmas.{next_taken, goes, IsSafe, safe_append, good_two, single_good, hex_safe}
use Rattle.layout_laws.proofs.WordLemmas.{IsPatternText}

-- ---- no byte of a normal spelling closes it

abbrev IsSafeText : List ℕ → Type 0
IsSafeText text = IsSafe 47 text

one_safe : (byte : ℕ) → goes 47 byte false ≡ true → next_taken byte false ≡ false → is_bad_in_text byte ≡ false → IsSafeText (byte ∷ [])
one_safe byte on free good = record {
  all = (on, tt);
  free = free;
  good = let P : ℕ → Type 0 = λ b. is_bad_in_text b ≡ false in All-cons P byte [] good (All-nil P);
}

plain_goes : (byte : ℕ) → (byte == 47) ≡ false → (nat_le 32 byte && nat_le byte 126) ≡ true → goes 47 byte false ≡ true
plain_goes byte other shown = grind (arith, nat_tests)

-- a byte from 0x20 to 0x7E other than the slash and the backslash
plain_safe : (byte : ℕ) → (byte == 47) ≡ false → (byte == 92) ≡ false → (nat_le 32 byte && nat_le byte 126) ≡ true → IsSafeText (byte ∷ [])
plain_safe byte no_slash no_backslash shown = one_safe byte (plain_goes byte no_slash shown) (ap (λ b. b && true) no_backslash) (single_good byte shown)

special_at : (byte known : ℕ) → IsSafeText (92 ∷ known ∷ []) → (byte == known) ≡ true → IsSafeText (92 ∷ byte ∷ [])
special_at byte known h e = subst (λ b. IsSafeText (92 ∷ b ∷ [])) (sym (eqb-true byte known e)) h

special_safe : (byte : ℕ) → is_special byte ≡ true → IsSafeText (92 ∷ byte ∷ [])
special_safe byte special =
    let k : (known : ℕ) → IsSafeText (92 ∷ known ∷ []) → (byte == known) ≡ true → IsSafeText (92 ∷ byte ∷ []) = special_at byte in
    ⊎_elim (k 46 (record { all = (refl, (refl, tt)); free = refl; good = good_two 92 46 refl refl })) (λ e1.
    ⊎_elim (k 91 (record { all = (refl, (refl, tt)); free = refl; good = good_two 92 91 refl refl })) (λ e2.
    ⊎_elim (k 93 (record { all = (refl, (refl, tt)); free = refl; good = good_two 92 93 refl refl })) (λ e3.
    ⊎_elim (k 40 (record { all = (refl, (refl, tt)); free = refl; good = good_two 92 40 refl refl })) (λ e4.
    ⊎_elim (k 41 (record { all = (refl, (refl, tt)); free = refl; good = good_two 92 41 refl refl })) (λ e5.
    ⊎_elim (k 42 (record { all = (refl, (refl, tt)); free = refl; good = good_two 92 42 refl refl })) (λ e6.
    ⊎_elim (k 43 (record { all = (refl, (refl, tt)); free = refl; good = good_two 92 43 refl refl })) (λ e7.
    ⊎_elim (k 63 (record { all = (refl, (refl, tt)); free = refl; good = good_two 92 63 refl refl })) (λ e8.
    ⊎_elim (k 124 (record { all = (refl, (refl, tt)); free = refl; good = good_two 92 124 refl refl })) (λ e9.
    ⊎_elim (k 92 (record { all = (refl, (refl, tt)); free = refl; good = good_two 92 92 refl refl }))
    (k 47 (record { all = (refl, (refl, tt)); free = refl; good = good_two 92 47 refl refl }))
    (or_cases _ _ e9)) (or_cases _ _ e8)) (or_cases _ _ e7)) (or_cases _ _ e6)) (or_cases _ _ e5)) (or_cases _ _ e4)) (or_cases _ _ e3)) (or_cases _ _ e2)) (or_cases _ _ e1)) (or_cases _ _ special)

-- a byte that isn't special is no byte that is
not_special : (byte known : ℕ) → is_special known ≡ true → is_special byte ≡ false → (byte == known) ≡ false
not_special byte known special plain = ne_eqb byte known (λ e. false≢true (sym plain ∙ ap is_special e ∙ special))

digits_safe : (byte : ℕ) → byte < 256 → IsSafeText (hex_text byte)
digits_safe byte below = hex_safe 47 (byte / 16) (byte % 16) (inr (inr refl)) (omega arith) (omega arith)

byte_safe : (byte : ℕ) → byte < 256 → IsSafeText (byte_text byte)
byte_safe byte below =
    cond_both (is_special byte) _ _ IsSafeText (special_safe byte)
    (λ plain. cond_both (nat_le 32 byte && nat_le byte 126) _ _ IsSafeText
    (λ shown. plain_safe byte (not_special byte 47 refl plain) (not_special byte 92 refl plain) shown) (λ _. digits_safe byte below))

letter_shown : (byte : ℕ) → is_letter_or_digit byte ≡ true → (nat_le 32 byte && nat_le byte 126) ≡ true
letter_shown byte h = grind (arith, nat_tests)

letter_no_slash : (byte : ℕ) → is_letter_or_digit byte ≡ true → (byte == 47) ≡ false
letter_no_slash byte h = grind (arith, nat_tests)

letter_no_backslash : (byte : ℕ) → is_letter_or_digit byte ≡ true → (byte == 92) ≡ false
letter_no_backslash byte h = grind (arith, nat_tests)

member_safe : (byte : ℕ) → byte < 256 → IsSafeText (member_text byte)
member_safe byte below =
    cond_both (is_letter_or_digit byte) _ _ IsSafeText
    (λ plain. plain_safe byte (letter_no_slash byte plain) (letter_no_backslash byte plain) (letter_shown byte plain))
    (λ _. digits_safe byte below)

-- ---- classes

abbrev IsSmall : ByteRange → Type 0
IsSmall run = (run.low < 256) × (run.high < 256)

abbrev AreSmall : List ByteRange → Type 0
AreSmall [] = Unit {0}
AreSmall (run ∷ runs) = IsSmall run × AreSmall runs

before_small : (byte : ℕ) (runs : List ByteRange) → byte < 256 → AreSmall runs → AreSmall (run_before byte runs)
before_small byte [] below small = ((below, below), tt)
before_small byte (run ∷ runs) below small =
    cond_both (run.low == byte + 1) _ _ AreSmall (λ _. ((below, small.0.1), small.1)) (λ _. ((below, below), small))

runs_small : (words : List ℕ) (from count : ℕ) → from + count ≤ 256 → AreSmall (runs_from words from count)
unfolding runs_from
runs_small words from zero within = tt
runs_small words from (suc count) within =
    let others = runs_small words (from + 1) count (omega arith) in
    cond_both (has_byte words from) _ _ AreSmall (λ _. before_small from (runs_from words (from + 1) count) (omega arith) others) (λ _. others)

run_safe : (run : ByteRange) → IsSmall run → IsSafeText (run_text run)
run_safe run small =
    let low = member_safe run.low small.0 in
    let high = member_safe run.high small.1 in
    let dash : IsSafeText (45 ∷ []) = plain_safe 45 refl refl refl in
    cond_both (run.low == run.high) _ _ IsSafeText (λ _. low)
    (λ _. cond_both (run.low + 1 == run.high) _ _ IsSafeText
    (λ _. safe_append 47 (member_text run.low) (member_text run.high) low high)
    (λ _. safe_append 47 (member_text run.low) (45 ∷ member_text run.high) low (safe_append 47 (45 ∷ []) (member_text run.high) dash high)))

runs_safe : (runs : List ByteRange) → AreSmall runs → IsSafeText (flat_map run_text runs)
runs_safe [] small = record { all = tt; free = refl; good = All-nil (λ byte. is_bad_in_text byte ≡ false) }
runs_safe (run ∷ runs) small = safe_append 47 (run_text run) (flat_map run_text runs) (run_safe run small.0) (runs_safe runs small.1)

class_safe : (runs : List ByteRange) → AreSmall runs → IsSafeText (class_text runs)
class_safe runs small =
    safe_append 47 (91 ∷ []) (flat_map run_text runs ++ 93 ∷ []) (plain_safe 91 refl refl refl)
    (safe_append 47 (flat_map run_text runs) (93 ∷ []) (runs_safe runs small) (plain_safe 93 refl refl refl))

text_safe : (runs : List ByteRange) → AreSmall runs → IsSafeText (text_of_runs runs)
text_safe [] small = class_safe [] small
text_safe (run ∷ []) small = cond_both (run.low == run.high) _ _ IsSafeText (λ _. byte_safe run.low small.0.0) (λ _. class_safe (run ∷ []) small)
text_safe (run ∷ second ∷ runs) small = class_safe (run ∷ second ∷ runs) small

-- ---- signs

set_safe : (words : List ℕ) → IsSafeText (set_text words)
set_safe words = cond_both (is_any words) _ _ IsSafeText (λ _. plain_safe 46 refl refl refl) (λ _. text_safe (runs_of words) (runs_small words 0 256 (omega arith)))

sign_safe : (sign : Sign) → IsSafeText (sign_text sign)
sign_safe (Set words) = set_safe words
sign_safe Open = plain_safe 40 refl refl refl
sign_safe Close = plain_safe 41 refl refl refl
sign_safe Bar = plain_safe 124 refl refl refl
sign_safe (Repeat Star) = plain_safe 42 refl refl refl
sign_safe (Repeat Plus) = plain_safe 43 refl refl refl
sign_safe (Repeat Opt) = plain_safe 63 refl refl refl

signs_safe : (signs : List Sign) → IsSafeText (signs_text signs)
signs_safe [] = record { all = tt; free = refl; good = All-nil (λ byte. is_bad_in_text byte ≡ false) }
signs_safe (sign ∷ signs) = safe_append 47 (sign_text sign) (signs_text signs) (sign_safe sign) (signs_safe signs)

-- ---- how a spelling begins

-- the first sign is a set or a bracket
abbrev BeginsAtom : List Sign → Type 0
BeginsAtom [] = ⊥
BeginsAtom (Set words ∷ signs) = Unit {0}
BeginsAtom (Open ∷ signs) = Unit {0}
BeginsAtom (Close ∷ signs) = ⊥
BeginsAtom (Bar ∷ signs) = ⊥
BeginsAtom (Repeat repetition ∷ signs) = ⊥

atom_begins : {depth : ℕ} {signs left : List Sign} {pattern : Pattern} → IsAtom depth signs pattern left → BeginsAtom signs
atom_begins (set_atom is pattern_is) = subst BeginsAtom (sym is) tt
atom_begins (in_brackets is inside pattern_is depth_is) = subst BeginsAtom (sym is) tt

repetition_begins : {depth : ℕ} {signs left : List Sign} {pattern : Pattern} → IsRepetition depth signs pattern left → BeginsAtom signs
repetition_begins (atom_alone atom) = atom_begins atom
repetition_begins (atom_repeated atom is) = atom_begins atom

sequence_begins : {depth : ℕ} {signs left : List Sign} {members : List Pattern} → AreInSequence depth signs members left → BeginsAtom signs
sequence_begins (one_in_sequence repetition is) = repetition_begins repetition
sequence_begins (in_sequence_more others repetition is) = sequence_begins others

alternatives_begin : {depth : ℕ} {signs left : List Sign} {alternatives : List Pattern} → AreAlternatives depth signs alternatives left → BeginsAtom signs
alternatives_begin (one_alternative sequence is) = sequence_begins sequence
alternatives_begin (alternative_more others sequence is) = alternatives_begin others

record Begins (text : List ℕ) : Type 0 where
  pub first : ℕ
  pub rest : List ℕ
  pub is : text ≡ first ∷ rest
  pub no_star : first ≡ 42 → ⊥
  pub no_slash : first ≡ 47 → ⊥

sign_begins : (text : List ℕ) (sign : Sign) (rest : List ℕ) (others : List Sign) → IsSign text sign rest → BeginsAtom (sign ∷ others) → Begins text
sign_begins [] sign rest others is begins = absurd is
sign_begins (byte ∷ behind) sign rest others is begins = record {
  first = byte;
  rest = behind;
  is = refl;
  no_star = λ e. let mark : IsSignOf (kind_of 42) 42 behind sign rest = subst (λ b. IsSignOf (kind_of b) b behind sign rest) e is in subst (λ s. BeginsAtom (s ∷ others)) mark.0 begins;
  no_slash = λ e. subst (λ b. IsSignOf (kind_of b) b behind sign rest) e is;
}

signs_begin : {text : List ℕ} {signs : List Sign} → AreSigns text signs → BeginsAtom signs → Begins text
signs_begin (no_sign none signs_are) begins = absurd (subst BeginsAtom signs_are begins)
signs_begin (sign_and {text = text} {rest = rest} {sign = sign} {others = others} is read signs_are) begins = sign_begins text sign rest others is (subst BeginsAtom signs_are begins)

-- the normal spelling of a pattern that some text spells
pub normal_text : (text : List ℕ) (pattern : Pattern) → IsSpelling text pattern → IsPatternText (normal_spelling pattern)
normal_text text pattern h =
    let normal = normal_spells text pattern h in
    let begins = signs_begin normal.read (alternatives_begin normal.stands.spelled) in
    record { first = begins.first; rest = begins.rest; is = begins.is; no_star = begins.no_star; no_slash = begins.no_slash; safe = signs_safe (written pattern).1 }
