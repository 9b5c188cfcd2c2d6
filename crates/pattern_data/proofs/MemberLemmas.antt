-- Members of a class while they are read.
use Rattle.std.proofs.Common.{◌≡◌, ℕ, ◌-◌, ◌<◌, ◌≤◌, Bool, true, false, List, [], ◌∷◌, ◌++◌, refl, sym, ap, ◌∙◌, subst, append_assoc, length, get_or, take, drop, arith}
use Rattle.std.specs.Prelude.{◌||◌, None, Some}
use Rattle.std.specs.List.{list_any}
use Rattle.std.proofs.lemmas.List.{take_all}
use Rattle.std.proofs.lemmas.List.Folds.{list_any-append}
use Rattle.std.proofs.lemmas.Option.{none-some, some_pair_parts}
use Rattle.pattern_data.specs.declared.classes.ByteRange.{ByteRange}
use Rattle.pattern_data.specs.Sets.{has_bit, IsSetOf}
use Rattle.pattern_data.specs.Classes.{member_of, in_range, AreMembers, is_negated, members_text, class_has, IsClass}
use Rattle.pattern_data.specs.Classes.AreMembers.{last_member, one_more}
use Rattle.pattern_data.proofs.ByteLemmas.{no_bytes}
use Rattle.pattern_data.proofs.SetLemmas.{no_bytes-bit, set_once}

-- the text has these members and those of what is left, and no others; the words have the bytes of those that were read
pub record MembersSoFar (text words left : List ℕ) : Type 0 where
  pub ranges : List ByteRange
  pub whole : (others : List ByteRange) (rest : List ℕ) → AreMembers left others rest → AreMembers text (ranges ++ others) rest
  pub back : (all : List ByteRange) (rest : List ℕ) → AreMembers text all rest → (others : List ByteRange) × AreMembers left others rest
  pub bits : (byte : ℕ) → has_bit words byte ≡ list_any (in_range byte) ranges
  pub left_len : length left ≤ length text

pub members_none : (text : List ℕ) → MembersSoFar text no_bytes text
members_none text = record { ranges = []; whole = λ others rest h. h; back = λ all rest h. (all, h); bits = no_bytes-bit; left_len = omega arith }

-- no member at the front
pub no_member : {left rest : List ℕ} {all : List ByteRange} → member_of left ≡ None → AreMembers left all rest → ⊥
no_member none (last_member member is all_is) = none-some _ (sym none ∙ member)
no_member none (one_more member others all_is) = none-some _ (sym none ∙ member)

pub members_fail : (text words left : List ℕ) → MembersSoFar text words left → member_of left ≡ None → (all : List ByteRange) (rest : List ℕ) → AreMembers text all rest → ⊥
members_fail text words left h none all rest d = let behind = h.back all rest d in no_member none behind.1

or_swap : (a b : Bool) → (a || b) ≡ (b || a)
or_swap true true = refl
or_swap true false = refl
or_swap false true = refl
or_swap false false = refl

or_none : (a : Bool) → (a || false) ≡ a
or_none true = refl
or_none false = refl

one_range : (byte : ℕ) (range : ByteRange) → list_any (in_range byte) (range ∷ []) ≡ in_range byte range
one_range byte range = or_none (in_range byte range)

more_bits : (words new : List ℕ) (ranges : List ByteRange) (range : ByteRange) → ((byte : ℕ) → has_bit new byte ≡ (in_range byte range || has_bit words byte)) → ((byte : ℕ) → has_bit words byte ≡ list_any (in_range byte) ranges) → (byte : ℕ) → has_bit new byte ≡ list_any (in_range byte) (ranges ++ range ∷ [])
more_bits words new ranges range h k byte =
    h byte ∙ ap (λ t. in_range byte range || t) (k byte) ∙ or_swap (in_range byte range) (list_any (in_range byte) ranges)
    ∙ ap (λ t. list_any (in_range byte) ranges || t) (sym (one_range byte range)) ∙ sym (list_any-append (in_range byte) ranges (range ∷ []))

-- the last member
pub members_all : (text words new left behind rest : List ℕ) (range : ByteRange) → MembersSoFar text words left → member_of left ≡ Some (range, behind) → behind ≡ 93 ∷ rest → ((byte : ℕ) → has_bit new byte ≡ (in_range byte range || has_bit words byte)) → (ranges : List ByteRange) × AreMembers text ranges rest × ((byte : ℕ) → has_bit new byte ≡ list_any (in_range byte) ranges)
members_all text words new left behind rest range h member closed bits =
    (h.ranges ++ range ∷ [], h.whole (range ∷ []) rest (last_member member closed refl), more_bits words new h.ranges range bits h.bits)

behind_of : (left behind rest : List ℕ) (range : ByteRange) (all : List ByteRange) → member_of left ≡ Some (range, behind) → ((others : List ℕ) → behind ≡ 93 ∷ others → ⊥) → AreMembers left all rest → (others : List ByteRange) × AreMembers behind others rest
behind_of left behind rest range all member open_still (last_member {behind = its_behind} {range = its_range} its_member closed all_is) =
    let same = some_pair_parts range its_range behind its_behind (sym member ∙ its_member) in
    absurd (open_still rest (same.1 ∙ closed))
behind_of left behind rest range all member open_still (one_more {behind = its_behind} {range = its_range} {others = others} its_member more all_is) =
    let same = some_pair_parts range its_range behind its_behind (sym member ∙ its_member) in
    (others, let P : List ℕ → Type 0 = λ l. AreMembers l others rest in subst P (sym same.1) more)

-- and one that others follow
pub members_more : (text words new left behind : List ℕ) (range : ByteRange) → MembersSoFar text words left → member_of left ≡ Some (range, behind) → ((rest : List ℕ) → behind ≡ 93 ∷ rest → ⊥) → ((byte : ℕ) → has_bit new byte ≡ (in_range byte range || has_bit words byte)) → length behind < length left → MembersSoFar text new behind
members_more text words new left behind range h member open_still bits less = record {
  ranges = h.ranges ++ range ∷ [];
  whole = λ others rest more. let P : List ByteRange → Type 0 = λ l. AreMembers text l rest in
      subst P (sym (append_assoc h.ranges (range ∷ []) others)) (h.whole (range ∷ others) rest (one_more member more refl));
  back = λ all rest d. let here = h.back all rest d in behind_of left behind rest range here.0 member open_still here.1;
  bits = more_bits words new h.ranges range bits h.bits;
  left_len = let before = h.left_len in omega arith;
}

-- ---- what is behind the first byte of a text
pub front_rest : (text : List ℕ) → 0 < length text → text ≡ get_or text 0 0 ∷ take (length text - 1) (drop 1 text)
front_rest [] some = absurd (omega arith)
front_rest (byte ∷ rest) some = let e : length (byte ∷ rest) - 1 ≡ length rest = omega arith in ap (λ l. byte ∷ l) (sym (let whole : take (length rest) rest ≡ rest = take_all (length rest) rest (omega arith) in ap (λ n. take n rest) e ∙ whole))

-- ---- members and classes are read in one way
bracket_behind : (behind one other : List ℕ) → behind ≡ 93 ∷ one → behind ≡ 93 ∷ other → one ≡ other
bracket_behind behind one other p q = let e : 93 ∷ one ≡ 93 ∷ other = sym p ∙ q in ap (λ l. drop 1 l) e

no_member_at : (behind rest end : List ℕ) (all : List ByteRange) → behind ≡ 93 ∷ rest → AreMembers behind all end → ⊥
no_member_at behind rest end all closed d = no_member (ap member_of closed) d

pub members_once : {text rest : List ℕ} {one : List ByteRange} → AreMembers text one rest → (end : List ℕ) (other : List ByteRange) → AreMembers text other end → (one ≡ other) × (rest ≡ end)
members_once (last_member {behind = behind} {rest = rest} {range = range} member closed is) end other (last_member {behind = its_behind} {range = its_range} its_member its_closed its_is) =
    let same = some_pair_parts range its_range behind its_behind (sym member ∙ its_member) in
    (is ∙ ap (λ r. r ∷ []) same.0 ∙ sym its_is, bracket_behind behind rest end closed (same.1 ∙ its_closed))
members_once (last_member {behind = behind} {rest = rest} {range = range} member closed is) end other (one_more {behind = its_behind} {range = its_range} {others = others} its_member more its_is) =
    let same = some_pair_parts range its_range behind its_behind (sym member ∙ its_member) in
    absurd (no_member_at its_behind rest end others (sym same.1 ∙ closed) more)
members_once (one_more {behind = behind} {rest = rest} {range = range} {others = others} member more is) end other (last_member {behind = its_behind} {range = its_range} its_member its_closed its_is) =
    let same = some_pair_parts range its_range behind its_behind (sym member ∙ its_member) in
    absurd (no_member_at behind end rest others (same.1 ∙ its_closed) more)
members_once (one_more {behind = behind} {rest = rest} {range = range} {others = others} member more is) end other (one_more {behind = its_behind} {range = its_range} {others = its_others} its_member its_more its_is) =
    let same = some_pair_parts range its_range behind its_behind (sym member ∙ its_member) in
    let P : List ℕ → Type 0 = λ l. AreMembers l its_others end in
    let rests = members_once more end its_others (subst P (sym same.1) its_more) in
    (is ∙ ap (λ r. r ∷ others) same.0 ∙ ap (λ l. its_range ∷ l) rests.0 ∙ sym its_is, rests.1)

pub class_once : (text one other rest end : List ℕ) → IsClass text one rest → IsClass text other end → (one ≡ other) × (rest ≡ end)
class_once text one other rest end h k =
    let same = members_once h.stand end k.ranges k.stand in
    let P : List ByteRange → Type 0 = λ ranges. IsSetOf (class_has (is_negated text) ranges) one in
    (set_once (class_has (is_negated text) k.ranges) one other (subst P same.0 h.has) k.has, same.1)

-- where the members have no set, the text is no class
pub class_none : (text rest : List ℕ) (ranges : List ByteRange) → AreMembers (members_text text) ranges rest → ((set : List ℕ) → IsSetOf (class_has (is_negated text) ranges) set → ⊥) → (words end : List ℕ) → IsClass text words end → ⊥
class_none text rest ranges stand none words end h =
    let same = members_once h.stand rest ranges stand in
    let P : List ByteRange → Type 0 = λ found. IsSetOf (class_has (is_negated text) found) words in
    none words (subst P same.0 h.has)

-- ---- the same by what stands behind a `^`
pub class_found : (text members words rest : List ℕ) (flag : Bool) (ranges : List ByteRange) → flag ≡ is_negated text → members ≡ members_text text → AreMembers members ranges rest → IsSetOf (class_has flag ranges) words → IsClass text words rest
class_found text members words rest flag ranges negated is stand set =
    let P : List ℕ → Type 0 = λ l. AreMembers l ranges rest in
    let Q : Bool → Type 0 = λ b. IsSetOf (class_has b ranges) words in
    record { ranges = ranges; stand = subst P is stand; has = subst Q negated set }

pub class_missing : (text members rest : List ℕ) (flag : Bool) (ranges : List ByteRange) → flag ≡ is_negated text → members ≡ members_text text → AreMembers members ranges rest → ((set : List ℕ) → IsSetOf (class_has flag ranges) set → ⊥) → (words end : List ℕ) → IsClass text words end → ⊥
class_missing text members rest flag ranges negated is stand none =
    let P : List ℕ → Type 0 = λ l. AreMembers l ranges rest in
    let Q : Bool → Type 0 = λ b. (set : List ℕ) → IsSetOf (class_has b ranges) set → ⊥ in
    class_none text rest ranges (subst P is stand) (subst Q negated none)
