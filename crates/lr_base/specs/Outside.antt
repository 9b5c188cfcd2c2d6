-- What the traits of the outside say: what is known of a shelf and of a sink, what their calls do, and when one may fail.
use Rattle.std.specs.Prelude.{◌≡◌, ℕ, ◌+◌, ◌-◌, ◌^◌, ◌<◌, ◌≤◌, min, Bool, IsTrue, List, [], ◌∷◌, ◌++◌, length, take, Option, IfSome, IsSome, Result, IfOk, IsOk, OnOk, OnErr}
use Rattle.std.specs.List.{list_any}
use Rattle.std.specs.Str.{bytes_eq}
use Rattle.std.specs.Io.KnownBytes.{Appends, IsAtEnd, ReadConsumes, WriteAppends}

-- what is known of a shelf: whether it tells its bytes; which of them stand under a name, `None` where nothing does, and
-- which are left of the name that was begun last; the names that were handed to `begin`, in order; how many calls
-- failed; the names of which no call fails; and whether no `read` fails until the next `begin`
pub record ShelfSeen : Type 0 where
  pub tells : Bool
  pub stands : List ℕ → Option (List ℕ)
  pub left : Option (List ℕ)
  pub begun : List (List ℕ)
  pub faults : ℕ
  pub served : List (List ℕ)
  pub serving : Bool

-- what is known of a sink: the bytes that it took so far, where it tells them; how many calls failed; and its sure room
pub record SinkSeen : Type 0 where
  pub taken : Option (List ℕ)
  pub faults : ℕ
  pub room : ℕ

-- the same shelf, later: what it tells of names stays, and its count never falls
pub record IsSameShelf (before after : ShelfSeen) : Type 0 where
  pub tells : after.tells ≡ before.tells
  pub stands : after.stands ≡ before.stands
  pub served : after.served ≡ before.served
  pub later : before.faults ≤ after.faults

-- the same sink, later: its sure room stays, and its count never falls
pub record IsSameSink (before after : SinkSeen) : Type 0 where
  pub room : after.room ≡ before.room
  pub later : before.faults ≤ after.faults

-- a count of faults, kept in 64 bits, rose: it is greater, or stands at its greatest value
abbrev pub Rose : ℕ → ℕ → Type 0
Rose before now = min (before + 1) (2 ^ 64 - 1) ≤ now

-- a count rose where the call failed, and else stands where it stood
pub record HasCause {A E : Type 0} (before now : ℕ) (result : Result A E) : Type 0 where
  pub kept : OnOk result (now ≡ before)
  pub failed : OnErr result (Rose before now)

-- the name is one of the list
abbrev pub is_listed : List (List ℕ) → List ℕ → Bool
is_listed names name = list_any (bytes_eq name) names

-- the call didn't fail, where the test holds
abbrev pub IsSteadyIf : {A E : Type 0} → Bool → Result A E → Type 0
IsSteadyIf test result = IsTrue test → IsOk result

-- a `begin` of the name: what stands under it is left, where the call failed nothing is, and a shelf that tells its
-- bytes tells these; of a listed name no call fails
pub record Begins {A E : Type 0} (before after : ShelfSeen) (name : List ℕ) (result : Result A E) : Type 0 where
  pub same : IsSameShelf before after
  pub begun : after.begun ≡ before.begun ++ name ∷ []
  pub left : OnOk result (after.left ≡ before.stands name)
  pub ended : OnErr result (IsAtEnd after.left)
  pub told : IsTrue before.tells → IsSome after.left
  pub serving : IsTrue (is_listed before.served name) → IsTrue after.serving
  pub steady : IsSteadyIf (is_listed before.served name) result
  pub cause : HasCause before.faults after.faults result

-- a `read` into a buffer, with what the buffer has after it: what it gives is gone from the front of what was left, and
-- where it failed nothing is gone
pub record ReadsOn {E : Type 0} (before after : ShelfSeen) (buffer : List ℕ) (result : Result ℕ E) : Type 0 where
  pub same : IsSameShelf before after
  pub begun : after.begun ≡ before.begun
  pub bytes : ReadConsumes before.left after.left result buffer
  pub serving : after.serving ≡ before.serving
  pub steady : IsSteadyIf before.serving result
  pub cause : HasCause before.faults after.faults result

-- told bytes that are fewer than the sure room say that no call failed
abbrev pub HasSureRoom : SinkSeen → Type 0
HasSureRoom sink = IfSome sink.taken (λ bytes. length bytes < sink.room → sink.faults ≡ 0)

-- a `write` of a piece: the bytes at its front that it counts were taken, at least one of a piece that isn't empty, and
-- where it failed none
pub record Writes {E : Type 0} (before after : SinkSeen) (piece : List ℕ) (result : Result ℕ E) : Type 0 where
  pub same : IsSameSink before after
  pub some : IfOk result (λ n. 0 < length piece → 0 < n)
  pub bytes : WriteAppends before.taken after.taken result piece
  pub sure : HasSureRoom after
  pub cause : HasCause before.faults after.faults result

-- told bytes grew by a part of the text: by none or some of its first bytes, but not by all
pub record AppendsPart (before now : Option (List ℕ)) (text : List ℕ) : Type 0 where
  pub count : ℕ
  pub short : count < length text
  pub grown : Appends before now (take count text)

-- the sink took the whole text, and its count stands where it stood
pub record Takes (before after : SinkSeen) (text : List ℕ) : Type 0 where
  pub grown : Appends before.taken after.taken text
  pub kept : after.faults ≡ before.faults

-- the sink failed within the text: it took a part of it, its count rose, and no sure room is left in it
pub record Fails (before after : SinkSeen) (text : List ℕ) : Type 0 where
  pub part : AppendsPart before.taken after.taken text
  pub rose : Rose before.faults after.faults
  pub full : IfSome after.taken (λ taken. after.room ≤ length taken)
