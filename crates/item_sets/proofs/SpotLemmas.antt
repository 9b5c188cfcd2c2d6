-- What is found in some symbols, as far as a walk over them has come.
use Rattle.std.proofs.Common.{ℕ, ◌⊎◌, IsTrue, List}
use Rattle.grammar_data.specs.declared.rule.Sym.{Sym}
use Rattle.grammar_data.specs.TokenSet.{has_token}
use Rattle.grammar_theory.specs.Rules.{OnlyNames}
use Rattle.grammar_theory.specs.FirstTokens.{IsFirstBy}
use Rattle.first_sets.specs.NameFacts.{NameFacts, first_set_in, nullable_in}

abbrev pub FirstIn : NameFacts → ℕ → ℕ → Type 0
FirstIn facts n a = IsTrue (has_token (first_set_in facts n) a)

abbrev pub NullableIn : NameFacts → ℕ → Type 0
NullableIn facts n = IsTrue (nullable_in facts n)

abbrev pub FoundIn : NameFacts → List Sym → ℕ → Type 0
FoundIn facts xs b = IsFirstBy (FirstIn facts) (NullableIn facts) xs b

-- the symbols before `rest` are nullable names, and the set has the first tokens of these
pub record IsWalkedTo (facts : NameFacts) (xs rest : List Sym) (tokens : List ℕ) : Type 0 where
  pub found : (b : ℕ) → FoundIn facts xs b → IsTrue (has_token tokens b) ⊎ FoundIn facts rest b
  pub has : (b : ℕ) → IsTrue (has_token tokens b) → FoundIn facts xs b
  pub more : (b : ℕ) → FoundIn facts rest b → FoundIn facts xs b
  pub passes : OnlyNames (NullableIn facts) xs → OnlyNames (NullableIn facts) rest
  pub passed : OnlyNames (NullableIn facts) rest → OnlyNames (NullableIn facts) xs
