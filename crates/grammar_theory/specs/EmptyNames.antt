-- Names that derive nothing. A name is nullable where it derives the empty token list, that is, where it has an empty
-- tree (one with an empty yield). Its empty size is the least number of inner nodes of such a tree.
-- Source: Aho and Ullman, The Theory of Parsing, Translation, and Compiling, volume 1, section 2.4.2 (nullable).
use Rattle.std.specs.Prelude.{◌≡◌, ℕ, suc, ◌+◌, ◌<◌, ◌≤◌, ◌↔◌, ◌⊎◌, Bool, IsTrue, List, [], ◌∷◌, Option, Some, None}
use Rattle.grammar_data.specs.declared.rule.Sym.{Sym}
use Rattle.grammar_data.specs.declared.rule.Sym.TheVariants.{Token, Name}
use Rattle.grammar_data.specs.Grammar.{Rule, Grammar}
use Rattle.grammar_theory.specs.Rules.{IsRule, OnlyNames}
use Rattle.grammar_theory.specs.Derivations.{Derives}
use Rattle.grammar_theory.specs.Trees.{Tree, IsTree, yield, nodes}

abbrev pub IsNullable : Grammar → ℕ → Type 0
IsNullable g n = Derives g.rules (Name n ∷ []) []

-- the symbols derive nothing, by empty trees that have so many inner nodes in all
pub data Vanishes (rules : List Rule) : List Sym → ℕ → Type 0 where
  no_symbol : Vanishes rules [] 0
  name_gone : {n r i j k : ℕ} {right xs : List Sym} → IsRule rules r n right → Vanishes rules right i → Vanishes rules xs j → k ≡ suc (i + j) → Vanishes rules (Name n ∷ xs) k

-- the name's empty size
pub record HasEmptySize (g : Grammar) (n size : ℕ) : Type 0 where
  pub some : Vanishes g.rules (Name n ∷ []) size
  pub least : (other : ℕ) → Vanishes g.rules (Name n ∷ []) other → size ≤ other

-- so many inner nodes are those of an empty tree of the symbol
abbrev pub EmptyTreeLaw : Type 0
EmptyTreeLaw = (rules : List Rule) (x : Sym) (k : ℕ) → Vanishes rules (x ∷ []) k ↔ ((tree : Tree) × IsTree rules x tree × (yield tree ≡ []) × (nodes tree ≡ k))

-- a name is nullable exactly where it vanishes by some number of inner nodes
abbrev pub NullableSizeLaw : Type 0
NullableSizeLaw = (g : Grammar) (n : ℕ) → IsNullable g n ↔ ((k : ℕ) × Vanishes g.rules (Name n ∷ []) k)

-- a name has one empty size at most
abbrev pub OneSizeLaw : Type 0
OneSizeLaw = (g : Grammar) (n i j : ℕ) → HasEmptySize g n i → HasEmptySize g n j → i ≡ j

-- a name is nullable exactly where the right side of one of its rules has nullable names alone
abbrev pub NullableRuleLaw : Type 0
NullableRuleLaw = (g : Grammar) (n : ℕ) → IsNullable g n ↔ ((r : ℕ) × (right : List Sym) × IsRule g.rules r n right × OnlyNames (IsNullable g) right)

-- symbols derive nothing exactly where they are nullable names alone
abbrev pub NullableListLaw : Type 0
NullableListLaw = (g : Grammar) (xs : List Sym) → Derives g.rules xs [] ↔ OnlyNames (IsNullable g) xs

-- a test that knows nullable names alone, and each name with a rule whose right side has known names alone
pub record IsNullableTest (g : Grammar) (known : ℕ → Bool) : Type 0 where
  pub sound : (n : ℕ) → IsTrue (known n) → IsNullable g n
  pub closed : (r n : ℕ) (right : List Sym) → IsRule g.rules r n right → OnlyNames (λ m. IsTrue (known m)) right → IsTrue (known n)

-- such a test knows exactly the nullable names
abbrev pub NullableTestLaw : Type 0
NullableTestLaw = (g : Grammar) (known : ℕ → Bool) → IsNullableTest g known → (n : ℕ) → IsTrue (known n) ↔ IsNullable g n

-- the symbols are names alone, and their sizes in this table add up to `total`
abbrev pub AddsUp : (ℕ → Option ℕ) → List Sym → ℕ → Type 0
AddsUp size [] total = total ≡ 0
AddsUp size (Token a ∷ xs) total = ⊥
AddsUp size (Name n ∷ xs) total = (here : ℕ) × (rest : ℕ) × (size n ≡ Some here) × AddsUp size xs rest × (total ≡ here + rest)

-- the right side of one of the name's rules has sizes that add up to `total`
abbrev pub HasRightSide : Grammar → (ℕ → Option ℕ) → ℕ → ℕ → Type 0
HasRightSide g size n total = (r : ℕ) × (right : List Sym) × IsRule g.rules r n right × AddsUp size right total

-- the table has exactly the empty sizes below `bound`
pub record IsSizedBelow (g : Grammar) (bound : ℕ) (size : ℕ → Option ℕ) : Type 0 where
  pub sound : (n k : ℕ) → size n ≡ Some k → HasEmptySize g n k
  pub below : (n k : ℕ) → size n ≡ Some k → k < bound
  pub every : (n k : ℕ) → HasEmptySize g n k → k < bound → size n ≡ Some k

-- the table with no size has exactly the empty sizes below 1, since an empty tree has a root
abbrev pub FirstRoundLaw : Type 0
FirstRoundLaw = (g : Grammar) (size : ℕ → Option ℕ) → ((n : ℕ) → size n ≡ None) → IsSizedBelow g 1 size

-- with all sizes below k + 1, those that are k + 1 are those of the unsized names with a right side that adds up to k
abbrev pub RoundLaw : Type 0
RoundLaw = (g : Grammar) (k : ℕ) (size : ℕ → Option ℕ) → IsSizedBelow g (suc k) size → (n : ℕ) → HasEmptySize g n (suc k) ↔ ((size n ≡ None) × HasRightSide g size n k)

-- the table of the next round: what was sized stays, and the unsized names with a right side that adds up to k get k + 1
pub record IsNextRound (g : Grammar) (k : ℕ) (size next : ℕ → Option ℕ) : Type 0 where
  pub kept : (n j : ℕ) → size n ≡ Some j → next n ≡ Some j
  pub added : (n : ℕ) → size n ≡ None → HasRightSide g size n k → next n ≡ Some (suc k)
  pub new : (n j : ℕ) → next n ≡ Some j → (size n ≡ Some j) ⊎ ((j ≡ suc k) × (size n ≡ None) × HasRightSide g size n k)

-- the next round's table has exactly the sizes below k + 2
abbrev pub NextRoundLaw : Type 0
NextRoundLaw = (g : Grammar) (k : ℕ) (size next : ℕ → Option ℕ) → IsSizedBelow g (suc k) size → IsNextRound g k size next → IsSizedBelow g (suc (suc k)) next

-- with all sizes below a bound, no empty tree of an unsized name has fewer inner nodes than the bound
abbrev pub UnsizedLaw : Type 0
UnsizedLaw = (g : Grammar) (bound : ℕ) (size : ℕ → Option ℕ) → IsSizedBelow g bound size → (n k : ℕ) → size n ≡ None → Vanishes g.rules (Name n ∷ []) k → bound ≤ k
