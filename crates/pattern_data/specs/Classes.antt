-- Classes: how a set of bytes is written by its members.
use Rattle.std.specs.Prelude.{◌≡◌, ℕ, nat_le, Bool, false, not, ◌&&◌, ◌==◌, if◌then◌else◌, List, [], ◌∷◌, Option, None, Some}
use Rattle.std.specs.List.{list_any}
use Rattle.pattern_data.specs.Escapes.{Front, front_of}
use Rattle.pattern_data.specs.Sets.{IsSetOf}
use Rattle.pattern_data.specs.declared.classes.ByteRange.{ByteRange}

-- the byte that the front of a pattern's text stands for, and what is left behind it; the line feed never stands there
abbrev pub without_feed : Option Front → Option Front
without_feed None = None
without_feed (Some front) = if front.0 == 10 then None else Some front

abbrev pub written_byte : List ℕ → Option Front
written_byte text = without_feed (front_of text)

-- inside a class `]` stands for no byte
abbrev pub class_byte : List ℕ → Option Front
class_byte [] = None
class_byte (byte ∷ behind) = if byte == 93 then None else written_byte (byte ∷ behind)

-- a member, and what is left behind it
abbrev pub Member : Type 0
Member = ByteRange × List ℕ

-- a range up to this byte, none where its ends are in the wrong order
abbrev pub range_to : ℕ → Option Front → Option Member
range_to low None = None
range_to low (Some front) = if nat_le low front.0 then Some (record { low = low; high = front.0 }, front.1) else None

-- the member that begins with this byte: a range where `-` follows and then a byte other than `]`
abbrev pub member_from : ℕ → List ℕ → Option Member
member_from low (dash ∷ next ∷ behind) =
    if (dash == 45) && not (next == 93) then range_to low (class_byte (next ∷ behind))
    else Some (record { low = low; high = low }, dash ∷ next ∷ behind)
member_from low (byte ∷ []) = Some (record { low = low; high = low }, byte ∷ [])
member_from low [] = Some (record { low = low; high = low }, [])

abbrev pub member_by : Option Front → Option Member
member_by None = None
member_by (Some front) = member_from front.0 front.1

-- the member at the front of a text
abbrev pub member_of : List ℕ → Option Member
member_of text = member_by (class_byte text)

-- these members stand in order up to the `]`; `rest` is left behind it
pub data AreMembers : List ℕ → List ByteRange → List ℕ → Type 0 where
  last_member : {text behind rest : List ℕ} {range : ByteRange} {ranges : List ByteRange} → member_of text ≡ Some (range, behind) → behind ≡ 93 ∷ rest → ranges ≡ range ∷ [] → AreMembers text ranges rest
  one_more : {text behind rest : List ℕ} {range : ByteRange} {others ranges : List ByteRange} → member_of text ≡ Some (range, behind) → AreMembers behind others rest → ranges ≡ range ∷ others → AreMembers text ranges rest

abbrev pub in_range : ℕ → ByteRange → Bool
in_range byte range = nat_le range.low byte && nat_le byte range.high

-- the bytes of a class: those in some range, or those in none where it is negated
abbrev pub class_has : Bool → List ByteRange → ℕ → Bool
class_has is_negated ranges byte = if list_any (in_range byte) ranges then not is_negated else is_negated

-- behind `[` a `^` says that the class is negated
abbrev pub is_negated : List ℕ → Bool
is_negated [] = false
is_negated (byte ∷ behind) = byte == 94

abbrev pub members_text : List ℕ → List ℕ
members_text [] = []
members_text (byte ∷ behind) = if byte == 94 then behind else byte ∷ behind

-- the text behind `[` is a class with these words, up to its `]`
pub record IsClass (text words rest : List ℕ) : Type 0 where
  pub ranges : List ByteRange
  pub stand : AreMembers (members_text text) ranges rest
  pub has : IsSetOf (class_has (is_negated text) ranges) words
