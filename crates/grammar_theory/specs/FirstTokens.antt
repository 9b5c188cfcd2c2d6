-- First tokens. Symbols begin with a token where they derive some token list that begins with it.
-- Source: Aho and Ullman, The Theory of Parsing, Translation, and Compiling, volume 1, section 5.1 (FIRST).
use Rattle.std.specs.Prelude.{◌≡◌, ℕ, ◌↔◌, ◌⊎◌, Bool, IsTrue, List, [], ◌∷◌, ◌++◌}
use Rattle.grammar_data.specs.declared.rule.Sym.{Sym}
use Rattle.grammar_data.specs.declared.rule.Sym.TheVariants.{Token, Name}
use Rattle.grammar_data.specs.Grammar.{Rule, Grammar}
use Rattle.grammar_theory.specs.Rules.{IsRule, IsInRange, NamesBelow, OnlyNames}
use Rattle.grammar_theory.specs.Derivations.{Derives}
use Rattle.grammar_theory.specs.UsefulNames.{AllProductive}
use Rattle.grammar_theory.specs.EmptyNames.{IsNullable}

abbrev pub BeginsWith : List Rule → List Sym → ℕ → Type 0
BeginsWith rules xs a = (u : List ℕ) × Derives rules xs (a ∷ u)

abbrev pub FirstHas : Grammar → ℕ → ℕ → Type 0
FirstHas g n a = BeginsWith g.rules (Name n ∷ []) a

-- `b` is the first token of some token list that is derived from these symbols, followed by the token `a`
abbrev pub Follows : Grammar → List Sym → ℕ → ℕ → Type 0
Follows g xs a b = BeginsWith g.rules (xs ++ Token a ∷ []) b

-- `b` is found in the symbols, by what is known of the first tokens of names and of nullable names
abbrev pub IsFirstBy : (ℕ → ℕ → Type 0) → (ℕ → Type 0) → List Sym → ℕ → Type 0
IsFirstBy First Null [] b = ⊥
IsFirstBy First Null (Token c ∷ xs) b = b ≡ c
IsFirstBy First Null (Name n ∷ xs) b = First n b ⊎ (Null n × IsFirstBy First Null xs b)

-- the same of the symbols followed by the token `a`
abbrev pub IsFoundBy : (ℕ → ℕ → Type 0) → (ℕ → Type 0) → List Sym → ℕ → ℕ → Type 0
IsFoundBy First Null [] a b = b ≡ a
IsFoundBy First Null (Token c ∷ xs) a b = b ≡ c
IsFoundBy First Null (Name n ∷ xs) a b = First n b ⊎ (Null n × IsFoundBy First Null xs a b)

abbrev pub IsFirst : Grammar → List Sym → ℕ → Type 0
IsFirst g xs b = IsFirstBy (FirstHas g) (IsNullable g) xs b

abbrev pub IsFound : Grammar → List Sym → ℕ → ℕ → Type 0
IsFound g xs a b = IsFoundBy (FirstHas g) (IsNullable g) xs a b

-- symbols begin with tokens alone that are found in them
abbrev pub FirstOnlyLaw : Type 0
FirstOnlyLaw = (g : Grammar) (xs : List Sym) (b : ℕ) → BeginsWith g.rules xs b → IsFirst g xs b

-- where all names are productive, they begin with each such token
abbrev pub FirstLaw : Type 0
FirstLaw = (g : Grammar) → AllProductive g → (xs : List Sym) → NamesBelow g.names xs → (b : ℕ) → BeginsWith g.rules xs b ↔ IsFirst g xs b

-- a token follows only where it is found in the symbols or behind them
abbrev pub FollowsOnlyLaw : Type 0
FollowsOnlyLaw = (g : Grammar) (xs : List Sym) (a b : ℕ) → Follows g xs a b → IsFound g xs a b

-- where all names are productive, each such token follows
abbrev pub FollowsLaw : Type 0
FollowsLaw = (g : Grammar) → AllProductive g → (xs : List Sym) → NamesBelow g.names xs → (a b : ℕ) → Follows g xs a b ↔ IsFound g xs a b

-- found in the symbols or behind them: found in them, or behind them where they are nullable names alone
abbrev pub FoundPartsLaw : Type 0
FoundPartsLaw = (g : Grammar) (xs : List Sym) (a b : ℕ) → IsFound g xs a b ↔ (IsFirst g xs b ⊎ (OnlyNames (IsNullable g) xs × (b ≡ a)))

-- a name begins with tokens alone that are found in the right side of one of its rules
abbrev pub FirstRuleOnlyLaw : Type 0
FirstRuleOnlyLaw = (g : Grammar) (n a : ℕ) → FirstHas g n a → (r : ℕ) × (right : List Sym) × IsRule g.rules r n right × IsFirst g right a

-- where all names are productive, it begins with each such token
abbrev pub FirstRuleLaw : Type 0
FirstRuleLaw = (g : Grammar) → IsInRange g → AllProductive g → (n a : ℕ) → FirstHas g n a ↔ ((r : ℕ) × (right : List Sym) × IsRule g.rules r n right × IsFirst g right a)

-- a table of first tokens alone, which has each token that it finds in a right side of the name
pub record IsFirstTable (g : Grammar) (null : ℕ → Bool) (first : ℕ → ℕ → Bool) : Type 0 where
  pub nullable : (n : ℕ) → IsNullable g n → IsTrue (null n)
  pub sound : (n a : ℕ) → IsTrue (first n a) → FirstHas g n a
  pub closed : (r n a : ℕ) (right : List Sym) → IsRule g.rules r n right → IsFirstBy (λ m b. IsTrue (first m b)) (λ m. IsTrue (null m)) right a → IsTrue (first n a)

-- such a table has exactly the first tokens
abbrev pub FirstTableLaw : Type 0
FirstTableLaw = (g : Grammar) (null : ℕ → Bool) (first : ℕ → ℕ → Bool) → IsFirstTable g null first → (n a : ℕ) → IsTrue (first n a) ↔ FirstHas g n a
