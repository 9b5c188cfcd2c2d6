-- A pattern has no more positions than each of its spellings has bytes: each position is a set of the spelling, and each
-- set takes a byte of it at least.
use Rattle.std.proofs.Common.{◌≡◌, ℕ, ◌+◌, ◌<◌, ◌≤◌, Bool, true, false, cond, List, [], ◌∷◌, ◌++◌, length, sym, ap, ◌∙◌, subst, arith}
use Rattle.std.specs.Prelude.{◌==◌, ◌&&◌, not, nat_le, Option, None, Some}
use Rattle.pattern_data.specs.Escapes.{Front, front_of}
use Rattle.pattern_data.specs.Classes.{without_feed, written_byte, class_byte, Member, range_to, member_from, member_by, member_of, members_text, AreMembers}
use Rattle.pattern_data.specs.Classes.AreMembers.{last_member, one_more}
use Rattle.pattern_data.specs.declared.pattern.Pattern.{Pattern}
use Rattle.pattern_data.specs.declared.pattern.Pattern.TheVariants.{outs-Set, outs-Seq, outs-Alt, outs-Star, outs-Plus, outs-Opt}
use Rattle.pattern_data.specs.declared.signs.Sign.{Sign}
use Rattle.pattern_data.specs.declared.signs.Sign.TheVariants.{Set, Open, Close, Bar, Repeat}
use Rattle.pattern_data.specs.declared.signs.Repetition.{Repetition}
use Rattle.pattern_data.specs.declared.signs.Repetition.TheVariants.{Star, Plus, Opt}
use Rattle.pattern_data.specs.declared.signs.Kind.{Kind}
use Rattle.pattern_data.specs.declared.signs.Kind.TheVariants.{Byte, AnyByte, Class, Mark, Nothing}
use Rattle.pattern_data.specs.Language.{positions_of}
use Rattle.pattern_data.specs.Signs.{kind_of, IsByteSign, IsSignOf, IsSign, AreSigns}
use Rattle.pattern_data.specs.Signs.AreSigns.{no_sign, sign_and}
use Rattle.pattern_data.specs.Spellings.{seq_of, alt_of, repeated, AreAlternatives, AreInSequence, IsRepetition, IsAtom, IsSpelling}
use Rattle.pattern_data.specs.Spellings.AreAlternatives.{one_alternative, alternative_more}
use Rattle.pattern_data.specs.Spellings.AreInSequence.{one_in_sequence, in_sequence_more}
use Rattle.pattern_data.specs.Spellings.IsRepetition.{atom_alone, atom_repeated}
use Rattle.pattern_data.specs.Spellings.IsAtom.{set_atom, in_brackets}
use Rattle.pattern_data.proofs.EscapeLemmas.{IsShorter, by_cond, front_shorter}
use Rattle.position_theory.specs.Positions.{count_all, IsSet}
use Rattle.position_theory.specs.Positions.IsLoop.{star_loop, plus_loop}
use Rattle.position_theory.specs.Positions.HasMembers.{sequence_members, choice_members}
use Rattle.position_theory.specs.Positions.HasInner.{loop_inner, option_inner}
use Rattle.position_theory.proofs.LayerLemmas.{count_set, count_members, count_inner}

-- ---- what is left behind a front is shorter
longer : {A : Type 0} (size more : ℕ) (front : Option (A × List ℕ)) → size ≤ more → IsShorter size front → IsShorter more front
longer size more None order h = tt
longer size more (Some front) order h = omega (arith, order, h)

without_shorter : (size : ℕ) (front : Option Front) → IsShorter size front → IsShorter size (without_feed front)
without_shorter size None h = tt
without_shorter size (Some front) h = by_cond (IsShorter size) (front.0 == 10) None (Some front) tt h

written_shorter : (text : List ℕ) → IsShorter (length text) (written_byte text)
written_shorter text = without_shorter (length text) (front_of text) (front_shorter text)

-- ---- behind a class, too
class_shorter : (text : List ℕ) → IsShorter (length text) (class_byte text)
class_shorter [] = tt
class_shorter (byte ∷ behind) = by_cond (IsShorter (length (byte ∷ behind))) (byte == 93) None (written_byte (byte ∷ behind)) tt (written_shorter (byte ∷ behind))

range_shorter : (low size : ℕ) (front : Option Front) → IsShorter size front → IsShorter size (range_to low front)
range_shorter low size None h = tt
range_shorter low size (Some front) h = by_cond (IsShorter size) (nat_le low front.0) (Some (record { low = low; high = front.0 }, front.1)) None h tt

from_shorter : (low size : ℕ) (text : List ℕ) → length text < size → IsShorter size (member_from low text)
from_shorter low size [] h = h
from_shorter low size (byte ∷ []) h = h
from_shorter low size (dash ∷ next ∷ behind) h =
    by_cond (IsShorter size) ((dash == 45) && not (next == 93)) (range_to low (class_byte (next ∷ behind))) (Some (record { low = low; high = low }, dash ∷ next ∷ behind))
    (range_shorter low size (class_byte (next ∷ behind)) (longer (length (next ∷ behind)) size (class_byte (next ∷ behind)) (omega (arith, h)) (class_shorter (next ∷ behind)))) h

by_shorter : (size : ℕ) (front : Option Front) → IsShorter size front → IsShorter size (member_by front)
by_shorter size None h = tt
by_shorter size (Some front) h = from_shorter front.0 size front.1 h

member_shorter : (text : List ℕ) (member : Member) → member_of text ≡ Some member → length member.1 < length text
member_shorter text member e = subst (IsShorter (length text)) e (by_shorter (length text) (class_byte text) (class_shorter text))

members_shorter : {text rest : List ℕ} {ranges : _} → AreMembers text ranges rest → length rest < length text
members_shorter (last_member {text = text} {behind = behind} {rest = rest} {range = range} member closed is) =
    let less = member_shorter text (range, behind) member in
    let end : length behind ≡ length (93 ∷ rest) = ap length closed in
    omega (arith, less, end)
members_shorter {rest = rest} (one_more {text = text} {behind = behind} {range = range} member more is) =
    let less = member_shorter text (range, behind) member in
    let later : length rest < length behind = members_shorter more in
    omega (arith, less, later)

either_within : (size : ℕ) (b : Bool) (one other : List ℕ) → length one ≤ size → length other ≤ size → length (cond b one other) ≤ size
either_within size true one other h k = h
either_within size false one other h k = k

caret_within : (text : List ℕ) → length (members_text text) ≤ length text
caret_within [] = omega arith
caret_within (byte ∷ behind) = either_within (length (byte ∷ behind)) (byte == 94) behind (byte ∷ behind) (omega arith) (omega arith)

-- ---- a sign takes a byte at least
byte_sign_shorter : (size : ℕ) (front : Option Front) (sign : Sign) (rest : List ℕ) → IsShorter size front → IsByteSign front sign rest → length rest < size
byte_sign_shorter size None sign rest h is = absurd is
byte_sign_shorter size (Some front) sign rest h is = let same : length rest ≡ length front.1 = ap length is.2 in omega (arith, same, h)

sign_of_shorter : (kind : Kind) (byte : ℕ) (behind : List ℕ) (sign : Sign) (rest : List ℕ) → IsSignOf kind byte behind sign rest → length rest < length (byte ∷ behind)
sign_of_shorter Byte byte behind sign rest is = byte_sign_shorter (length (byte ∷ behind)) (written_byte (byte ∷ behind)) sign rest (written_shorter (byte ∷ behind)) is
sign_of_shorter AnyByte byte behind sign rest is = let same : length rest ≡ length behind = ap length is.3 in omega (arith, same)
sign_of_shorter Class byte behind sign rest is =
    let less : length rest < length (members_text behind) = members_shorter is.1.stand in
    let front = caret_within behind in
    omega (arith, less, front)
sign_of_shorter (Mark mark) byte behind sign rest is = let same : length rest ≡ length behind = ap length is.1 in omega (arith, same)
sign_of_shorter Nothing byte behind sign rest is = absurd is

sign_shorter : (text : List ℕ) (sign : Sign) (rest : List ℕ) → IsSign text sign rest → length rest < length text
sign_shorter [] sign rest is = absurd is
sign_shorter (byte ∷ behind) sign rest is = sign_of_shorter (kind_of byte) byte behind sign rest is

-- ---- the sets of a spelling
abbrev is_set : Sign → ℕ
is_set (Set words) = 1
is_set Open = 0
is_set Close = 0
is_set Bar = 0
is_set (Repeat repetition) = 0

abbrev sets_in : List Sign → ℕ
sets_in [] = 0
sets_in (sign ∷ signs) = is_set sign + sets_in signs

one_at_most : (sign : Sign) → is_set sign ≤ 1
one_at_most (Set words) = omega arith
one_at_most Open = omega arith
one_at_most Close = omega arith
one_at_most Bar = omega arith
one_at_most (Repeat repetition) = omega arith

sets_within : {text : List ℕ} {signs : List Sign} → AreSigns text signs → sets_in signs ≤ length text
sets_within {text = text} {signs = signs} (no_sign none signs_are) = let e : sets_in signs ≡ sets_in [] = ap sets_in signs_are in omega (arith, e)
sets_within {text = text} {signs = signs} (sign_and {rest = rest} {sign = sign} {others = others} is more signs_are) =
    let e : sets_in signs ≡ sets_in (sign ∷ others) = ap sets_in signs_are in
    let less = sign_shorter text sign rest is in
    let later : sets_in others ≤ length rest = sets_within more in
    let one = one_at_most sign in
    omega (arith, e, less, later, one)

-- ---- are the positions of its pattern
seq_count : (members : List Pattern) → positions_of (seq_of members) ≡ count_all members
seq_count [] = count_members (sequence_members (record { opens = outs-Seq [] }))
seq_count (member ∷ []) = omega arith
seq_count (member ∷ second ∷ members) = count_members (sequence_members (record { opens = outs-Seq (member ∷ second ∷ members) }))

alt_count : (members : List Pattern) → positions_of (alt_of members) ≡ count_all members
alt_count [] = count_members (choice_members (record { opens = outs-Alt [] }))
alt_count (member ∷ []) = omega arith
alt_count (member ∷ second ∷ members) = count_members (choice_members (record { opens = outs-Alt (member ∷ second ∷ members) }))

repeated_count : (repetition : Repetition) (inner : Pattern) → positions_of (repeated repetition inner) ≡ positions_of inner
repeated_count Star inner = count_inner (loop_inner (star_loop (outs-Star inner)))
repeated_count Plus inner = count_inner (loop_inner (plus_loop (outs-Plus inner)))
repeated_count Opt inner = count_inner (option_inner (record { opens = outs-Opt inner }))

pushed_count : (before : List Pattern) (member : Pattern) → count_all (before ++ member ∷ []) ≡ count_all before + positions_of member
pushed_count [] member = omega arith
pushed_count (first ∷ before) member = let e = pushed_count before member in omega (arith, e)

mutual
  alternatives_counted : {depth : ℕ} {signs left : List Sign} {alternatives : List Pattern} → AreAlternatives depth signs alternatives left → count_all alternatives + sets_in left ≡ sets_in signs
  alternatives_counted {alternatives = all} (one_alternative {signs = signs} {left = left} {members = members} sequence is) =
      let e : count_all all ≡ count_all (seq_of members ∷ []) = ap count_all is in
      let inner : count_all members + sets_in left ≡ sets_in signs = sequence_counted sequence in
      let same = seq_count members in
      omega (arith, e, inner, same)
  alternatives_counted {alternatives = all} (alternative_more {signs = signs} {behind = behind} {left = left} {alternatives = before} {members = members} others sequence is) =
      let e : count_all all ≡ count_all (before ++ seq_of members ∷ []) = ap count_all is in
      let more = pushed_count before (seq_of members) in
      let first : count_all before + sets_in (Bar ∷ behind) ≡ sets_in signs = alternatives_counted others in
      let inner : count_all members + sets_in left ≡ sets_in behind = sequence_counted sequence in
      let same = seq_count members in
      omega (arith, e, more, first, inner, same)

  sequence_counted : {depth : ℕ} {signs left : List Sign} {members : List Pattern} → AreInSequence depth signs members left → count_all members + sets_in left ≡ sets_in signs
  sequence_counted {members = all} (one_in_sequence {signs = signs} {left = left} {member = member} repetition is) =
      let e : count_all all ≡ count_all (member ∷ []) = ap count_all is in
      let inner : positions_of member + sets_in left ≡ sets_in signs = repetition_counted repetition in
      omega (arith, e, inner)
  sequence_counted {members = all} (in_sequence_more {signs = signs} {behind = behind} {left = left} {members = before} {member = member} others repetition is) =
      let e : count_all all ≡ count_all (before ++ member ∷ []) = ap count_all is in
      let more = pushed_count before member in
      let first : count_all before + sets_in behind ≡ sets_in signs = sequence_counted others in
      let inner : positions_of member + sets_in left ≡ sets_in behind = repetition_counted repetition in
      omega (arith, e, more, first, inner)

  repetition_counted : {depth : ℕ} {signs left : List Sign} {pattern : Pattern} → IsRepetition depth signs pattern left → positions_of pattern + sets_in left ≡ sets_in signs
  repetition_counted (atom_alone atom) = atom_counted atom
  repetition_counted {pattern = pattern} (atom_repeated {signs = signs} {left = left} {inner = inner} {repetition = repetition} atom is) =
      let e : positions_of pattern ≡ positions_of inner = ap positions_of is ∙ repeated_count repetition inner in
      let first : positions_of inner + sets_in (Repeat repetition ∷ left) ≡ sets_in signs = atom_counted atom in
      omega (arith, e, first)

  atom_counted : {depth : ℕ} {signs left : List Sign} {pattern : Pattern} → IsAtom depth signs pattern left → positions_of pattern + sets_in left ≡ sets_in signs
  atom_counted {pattern = pattern} (set_atom {signs = signs} {left = left} {words = words} signs_are is) =
      let opens : IsSet pattern words = subst (λ p. IsSet p words) (sym is) (record { opens = outs-Set words }) in
      let one = count_set opens in
      let e : sets_in signs ≡ sets_in (Set words ∷ left) = ap sets_in signs_are in
      omega (arith, one, e)
  atom_counted {pattern = pattern} (in_brackets {signs = signs} {inside = inside} {left = left} {alternatives = alternatives} signs_are spelled is deeper) =
      let e : positions_of pattern ≡ count_all alternatives = ap positions_of is ∙ alt_count alternatives in
      let inner : count_all alternatives + sets_in (Close ∷ left) ≡ sets_in inside = alternatives_counted spelled in
      let k : sets_in signs ≡ sets_in (Open ∷ inside) = ap sets_in signs_are in
      omega (arith, e, inner, k)

pub spelled_within : (text : List ℕ) (pattern : Pattern) → IsSpelling text pattern → positions_of pattern ≤ length text
spelled_within text pattern h =
    let e : positions_of pattern ≡ count_all h.stands.alternatives = ap positions_of h.stands.joined ∙ alt_count h.stands.alternatives in
    let all : count_all h.stands.alternatives + 0 ≡ sets_in h.signs = alternatives_counted h.stands.spelled in
    let within = sets_within h.read in
    omega (arith, e, all, within)
