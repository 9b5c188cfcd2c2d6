-- What an analysis of a grammar knows of each name: its first tokens, and its empty size where it is nullable.
use Rattle.std.specs.Prelude.{◌≡◌, ℕ, ◌<◌, ◌≤◌, ◌↔◌, Bool, ◌==◌, if◌then◌else◌, nat_lt, IsTrue, List, [], length, slice_index, slice_index_or, Option, Some, None}
use Rattle.grammar_data.specs.Grammar.{Grammar}
use Rattle.grammar_data.specs.TokenSet.{IsTokenSet, has_token}
use Rattle.grammar_theory.specs.declared.limits.TheConstants.{EMPTY_NODES}
use Rattle.grammar_theory.specs.EmptyNames.{IsNullable, HasEmptySize}
use Rattle.grammar_theory.specs.FirstTokens.{FirstHas}

-- name by name: the set of its first tokens, and its empty size, which is 0 where it isn't nullable
pub record NameFacts : Type 0 where
  pub sets : List (List ℕ)
  pub sizes : List ℕ

-- how many names there are
abbrev pub names_in : NameFacts → ℕ
names_in facts = length facts.sizes

abbrev pub first_set_in : NameFacts → ℕ → List ℕ
first_set_in facts n = slice_index_or facts.sets n []

abbrev pub nullable_in : NameFacts → ℕ → Bool
nullable_in facts n = nat_lt 0 (slice_index facts.sizes n)

-- the number as a size: 0 is none
abbrev pub size_of : ℕ → Option ℕ
size_of k = (if k == 0 then None else Some k)

abbrev pub empty_size_in : NameFacts → ℕ → Option ℕ
empty_size_in facts n = size_of (slice_index facts.sizes n)

-- the sizes are the names' empty sizes, each at most 1,000, and 0 where a name isn't nullable
pub record AreSizes (g : Grammar) (sizes : List ℕ) : Type 0 where
  pub count : length sizes ≡ g.names
  pub nullable : (n : ℕ) → IsTrue (nat_lt 0 (slice_index sizes n)) ↔ IsNullable g n
  pub size : (n k : ℕ) → (size_of (slice_index sizes n) ≡ Some k) ↔ HasEmptySize g n k
  pub small : (n k : ℕ) → size_of (slice_index sizes n) ≡ Some k → k ≤ EMPTY_NODES

-- the facts are those of the grammar's names, and each empty size is at most 1,000
pub record AreFirsts (g : Grammar) (facts : NameFacts) : Type 0 where
  pub names : names_in facts ≡ g.names
  pub nullable : (n : ℕ) → IsTrue (nullable_in facts n) ↔ IsNullable g n
  pub first : (n a : ℕ) → IsTrue (has_token (first_set_in facts n) a) ↔ FirstHas g n a
  pub size : (n k : ℕ) → (empty_size_in facts n ≡ Some k) ↔ HasEmptySize g n k
  pub small : (n k : ℕ) → empty_size_in facts n ≡ Some k → k ≤ EMPTY_NODES
  pub sets : (n : ℕ) → n < g.names → IsTokenSet (first_set_in facts n)
