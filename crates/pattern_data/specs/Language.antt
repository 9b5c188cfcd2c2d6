-- The language of a pattern: the byte strings that it matches.
use Rattle.std.specs.Prelude.{◌≡◌, ◌≢◌, ℕ, ◌<◌, sum, List, [], ◌∷◌, ◌++◌, map, All, Contains}
use Rattle.pattern_data.specs.declared.pattern.Pattern.{Pattern, Pattern-F, out-Pattern, fold-Pattern}
use Rattle.pattern_data.specs.declared.pattern.Pattern.TheOpen.Pattern-F.{Set, Seq, Alt, Star, Plus, Opt}
use Rattle.pattern_data.specs.declared.pattern.Pattern.TheVariants.{Set as set_pattern, Seq as seq_pattern}
use Rattle.pattern_data.specs.Bytes.{IsMember, only_byte}

-- `Matches p w`: the pattern's language has w
mutual
  pub data Matches : Pattern → List ℕ → Type 0 where
    one_byte : {p : Pattern} {words w : List ℕ} {byte : ℕ} → out-Pattern p ≡ Set words → IsMember words byte → w ≡ byte ∷ [] → Matches p w
    in_order : {p : Pattern} {members : List Pattern} {w : List ℕ} → out-Pattern p ≡ Seq members → MatchesInOrder members w → Matches p w
    any_one : {p member : Pattern} {members : List Pattern} {w : List ℕ} → out-Pattern p ≡ Alt members → Contains members member → Matches member w → Matches p w
    repeated : {p inner : Pattern} {w : List ℕ} → out-Pattern p ≡ Star inner → Repeats inner w → Matches p w
    at_least_once : {p inner : Pattern} {u v w : List ℕ} → out-Pattern p ≡ Plus inner → Matches inner u → Repeats inner v → w ≡ u ++ v → Matches p w
    once : {p inner : Pattern} {w : List ℕ} → out-Pattern p ≡ Opt inner → Matches inner w → Matches p w
    left_out : {p inner : Pattern} {w : List ℕ} → out-Pattern p ≡ Opt inner → w ≡ [] → Matches p w

  -- a string of each member, one after another
  pub data MatchesInOrder : List Pattern → List ℕ → Type 0 where
    no_member : {w : List ℕ} → w ≡ [] → MatchesInOrder [] w
    first_member : {p : Pattern} {members : List Pattern} {u v w : List ℕ} → Matches p u → MatchesInOrder members v → w ≡ u ++ v → MatchesInOrder (p ∷ members) w

  -- any number of strings of the pattern, one after another
  pub data Repeats : Pattern → List ℕ → Type 0 where
    no_more : {p : Pattern} {w : List ℕ} → w ≡ [] → Repeats p w
    one_more : {p : Pattern} {u v w : List ℕ} → Matches p u → Repeats p v → w ≡ u ++ v → Repeats p w

-- the positions of a pattern: its sets, each as often as it stands
abbrev pub positions_step : Pattern-F ℕ → ℕ
positions_step (Set words) = 1
positions_step (Seq counts) = sum counts
positions_step (Alt counts) = sum counts
positions_step (Star count) = count
positions_step (Plus count) = count
positions_step (Opt count) = count

unfoldable pub positions_of : Pattern → ℕ
positions_of = fold-Pattern ℕ positions_step

-- the pattern of a literal: the set of its one byte, or else its bytes one after another
abbrev pub byte_pattern : ℕ → Pattern
byte_pattern byte = set_pattern (only_byte byte)

abbrev pub literal_pattern : List ℕ → Pattern
literal_pattern [] = seq_pattern []
literal_pattern (byte ∷ []) = byte_pattern byte
literal_pattern (byte ∷ second ∷ bytes) = seq_pattern (map byte_pattern (byte ∷ second ∷ bytes))

-- a byte of a literal: any but the line feed
abbrev pub IsLiteralByte : ℕ → Type 0
IsLiteralByte byte = (byte < 256) × (byte ≢ 10)

-- the bytes of a literal: there are some
pub record IsLiteral (bytes : List ℕ) : Type 0 where
  pub some : bytes ≢ []
  pub each : All IsLiteralByte bytes
