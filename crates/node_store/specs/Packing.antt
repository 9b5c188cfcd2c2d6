-- How four numbers of 32 bits tell a kid.
use Rattle.std.specs.Prelude.{◌≡◌, ℕ, ◌+◌, ◌*◌, ◌-◌, ◌/◌, ◌%◌, ◌^◌, ◌<◌, ◌==◌, if◌then◌else◌}
use Rattle.node_data.specs.declared.kid.Kid.{Kid}
use Rattle.node_data.specs.declared.kid.Kid.TheVariants.{Token, Node, Hidden}

-- the greatest number tells a node by its chunk and the halves of its place, the number before it a hidden kid, and each
-- other number is that of a token, which stands at the line, the start and the length that follow
abbrev pub kid_of : ℕ → ℕ → ℕ → ℕ → Kid
kid_of tag first second third =
    (if tag == 2 ^ 32 - 1 then Node (first, second * 2 ^ 32 + third)
    else (if tag == 2 ^ 32 - 2 then Hidden
    else Token (record { id = tag; place = record { line = first; start = second; len = third } })))

abbrev pub tag_of : Kid → ℕ
tag_of (Token token) = token.id
tag_of (Node node) = 2 ^ 32 - 1
tag_of Hidden = 2 ^ 32 - 2

abbrev pub first_of : Kid → ℕ
first_of (Token token) = token.place.line
first_of (Node node) = node.0
first_of Hidden = 0

abbrev pub second_of : Kid → ℕ
second_of (Token token) = token.place.start
second_of (Node node) = node.1 / 2 ^ 32
second_of Hidden = 0

abbrev pub third_of : Kid → ℕ
third_of (Token token) = token.place.len
third_of (Node node) = node.1 % 2 ^ 32
third_of Hidden = 0

-- the four numbers are those of the kid that they tell
pub record IsPacking (tag first second third : ℕ) : Type 0 where
  pub same_tag : tag_of (kid_of tag first second third) ≡ tag
  pub same_first : first_of (kid_of tag first second third) ≡ first
  pub same_second : second_of (kid_of tag first second third) ≡ second
  pub same_third : third_of (kid_of tag first second third) ≡ third

-- a token's number is below the two that tell other kids
abbrev pub CanPack : Kid → Type 0
CanPack (Token token) = token.id < 2 ^ 32 - 2
CanPack (Node node) = Unit {0}
CanPack Hidden = Unit {0}
