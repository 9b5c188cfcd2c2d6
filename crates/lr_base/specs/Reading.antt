-- What a text that was read says of the bytes that stood under its name, and of those that are left there.
use Rattle.std.specs.Prelude.{◌≡◌, ℕ, ◌+◌, ◌≤◌, List, length, IfSome, IsSome, IsTrue}
use Rattle.std.specs.Io.KnownBytes.{Consumes, IsAtEnd}
use Rattle.lr_base.specs.Outside.{ShelfSeen}
use Rattle.lr_base.specs.declared.reading.Text.{Text}
use Rattle.lr_base.specs.declared.reading.Text.TheVariants.{Whole, TooLong}

-- a shelf that tells its bytes has some under the name
abbrev pub IsThere : ShelfSeen → List ℕ → Type 0
IsThere shelf name = IsTrue shelf.tells → IsSome (shelf.stands name)

-- these are the bytes under the name, as far as it is told what stands there
pub record StandsUnder (shelf : ShelfSeen) (name bytes : List ℕ) : Type 0 where
  pub there : IsThere shelf name
  pub is : IfSome (shelf.stands name) (λ standing. bytes ≡ standing)

-- these are all the bytes under the name, no more of them than the limit, and none is left
pub record IsWholeText (before after : ShelfSeen) (name : List ℕ) (limit : ℕ) (bytes : List ℕ) : Type 0 where
  pub within : length bytes ≤ limit
  pub whole : StandsUnder before name bytes
  pub ended : IsAtEnd after.left

-- the bytes under the name are more than the limit: one more than it allows was read, and the others are left
pub record IsTooLong (before after : ShelfSeen) (name : List ℕ) (limit : ℕ) : Type 0 where
  pub there : IsThere before name
  pub front : List ℕ
  pub over : length front ≡ limit + 1
  pub consumed : Consumes (before.stands name) after.left front

-- a whole text, or one of more bytes than the limit
abbrev pub MatchText : ShelfSeen → ShelfSeen → List ℕ → ℕ → Text → Type 0
MatchText before after name limit (Whole bytes) = IsWholeText before after name limit bytes.items
MatchText before after name limit TooLong = IsTooLong before after name limit

-- of what stands under the name, some bytes at the front are gone, and the others are left
abbrev pub LosesFront : ShelfSeen → ShelfSeen → List ℕ → Type 0
LosesFront before after name = (front : List ℕ) × Consumes (before.stands name) after.left front
