-- Where a token list goes wrong. The end mark stands behind the last token of a list. The first wrong place is the first
-- place, among those of the tokens and of the end mark, so that the tokens before it don't go on with what stands there.
-- The expected tokens are all with which they go on, in order of number, so that the end mark is the last.
use Rattle.std.specs.Prelude.{◌≡◌, ℕ, ◌<◌, ◌≤◌, ◌↔◌, List, ◌∷◌, ◌++◌, All, Contains, length, take, slice_index_or}
use Rattle.std.specs.List.Sorted.{IsStrictlyIncreasing}
use Rattle.grammar_data.specs.Grammar.{Grammar}
use Rattle.grammar_theory.specs.Rules.{IsInRange, end_mark}
use Rattle.grammar_theory.specs.Derivations.{IsSentence, GoesOn}

-- the token at a place of the list, or behind it the end mark
abbrev pub token_at : Grammar → List ℕ → ℕ → ℕ
token_at g w i = slice_index_or w i (end_mark g)

-- the tokens before the place go on with what stands there
abbrev pub GoesOnAt : Grammar → List ℕ → ℕ → Type 0
GoesOnAt g w i = GoesOn g (take i w) (token_at g w i)

-- the first wrong place of the list
pub record IsWrongAt (g : Grammar) (w : List ℕ) (i : ℕ) : Type 0 where
  pub within : i ≤ length w
  pub earlier : (j : ℕ) → j < i → GoesOnAt g w j
  pub wrong : ¬ (GoesOnAt g w i)

-- the tokens with which the list goes on, in order of number
pub record AreExpected (g : Grammar) (u : List ℕ) (tokens : List ℕ) : Type 0 where
  pub rising : IsStrictlyIncreasing tokens
  pub exact : (a : ℕ) → Contains tokens a ↔ GoesOn g u a

-- what goes on has the grammar's tokens alone, and so goes on with a token of the grammar or with the end mark
abbrev pub GoingRangeLaw : Type 0
GoingRangeLaw = (g : Grammar) → IsInRange g → (u : List ℕ) (a : ℕ) → GoesOn g u a → All (λ b. b < g.tokens) u × (a ≤ end_mark g)

-- each front of what goes on goes on with the token behind it
abbrev pub GoingFrontLaw : Type 0
GoingFrontLaw = (g : Grammar) (front back : List ℕ) (b a : ℕ) → GoesOn g (front ++ b ∷ back) a → GoesOn g front b

-- a list has one first wrong place at most
abbrev pub OneWrongPlaceLaw : Type 0
OneWrongPlaceLaw = (g : Grammar) (w : List ℕ) (i j : ℕ) → IsWrongAt g w i → IsWrongAt g w j → i ≡ j

-- a sentence has none
abbrev pub NoWrongPlaceLaw : Type 0
NoWrongPlaceLaw = (g : Grammar) (w : List ℕ) (i : ℕ) → IsSentence g w → IsWrongAt g w i → ⊥

-- a list has one list of expected tokens at most
abbrev pub OneExpectedLaw : Type 0
OneExpectedLaw = (g : Grammar) (u tokens others : List ℕ) → AreExpected g u tokens → AreExpected g u others → tokens ≡ others
