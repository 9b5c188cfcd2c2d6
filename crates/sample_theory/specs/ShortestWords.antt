-- The shortest word of a rank: of the byte strings that a scan takes whole, as the longest match of this rank, the
-- shortest, and of equally short ones the bytewise least.
use Rattle.std.specs.Prelude.{◌≡◌, ℕ, ◌<◌, ◌⊎◌, List, ◌∷◌, ◌++◌, length}
use Rattle.pattern_data.specs.declared.pattern.Pattern.{Pattern}
use Rattle.position_theory.specs.States.{AreBytes}
use Rattle.scanning_theory.specs.Scan.{IsLongest}

-- a scan takes the whole byte string as a match of this rank
pub record IsWordOf (patterns : List Pattern) (rank : ℕ) (word : List ℕ) : Type 0 where
  pub bytes : AreBytes word
  pub whole : IsLongest patterns word 0 (length word) rank

-- it takes none so
abbrev pub HasNoWord : List Pattern → ℕ → Type 0
HasNoWord patterns rank = (word : List ℕ) → IsWordOf patterns rank word → ⊥

-- the byte is less at the first place where they differ
pub record IsBytewiseLess (u v : List ℕ) : Type 0 where
  pub front : List ℕ
  pub byte : ℕ
  pub other : ℕ
  pub rest : List ℕ
  pub other_rest : List ℕ
  pub is : u ≡ front ++ byte ∷ rest
  pub other_is : v ≡ front ++ other ∷ other_rest
  pub less : byte < other

-- shorter, or as long and bytewise less
abbrev pub IsWordBefore : List ℕ → List ℕ → Type 0
IsWordBefore u v = (length u < length v) ⊎ ((length u ≡ length v) × IsBytewiseLess u v)

-- the shortest word of a rank
pub record IsShortestWord (patterns : List Pattern) (rank : ℕ) (word : List ℕ) : Type 0 where
  pub is_word : IsWordOf patterns rank word
  pub least : (other : List ℕ) → IsWordOf patterns rank other → (word ≡ other) ⊎ IsWordBefore word other

-- a rank has one shortest word at most
abbrev pub OneShortestLaw : Type 0
OneShortestLaw = (patterns : List Pattern) (rank : ℕ) (word other : List ℕ) → IsShortestWord patterns rank word → IsShortestWord patterns rank other → word ≡ other

-- it is refuted that a rank with a word has no shortest one
abbrev pub SomeShortestLaw : Type 0
SomeShortestLaw = (patterns : List Pattern) (rank : ℕ) (word : List ℕ) → IsWordOf patterns rank word → ((shortest : List ℕ) → ¬ (IsShortestWord patterns rank shortest)) → ⊥
