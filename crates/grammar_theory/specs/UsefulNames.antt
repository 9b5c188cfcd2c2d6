-- Useful names. A name is productive where it derives some token list, and reachable where it stands in some list of
-- symbols that steps lead to from the start.
-- Source: Aho and Ullman, The Theory of Parsing, Translation, and Compiling, volume 1, section 2.4.2.
use Rattle.std.specs.Prelude.{◌≡◌, ℕ, ◌<◌, ◌↔◌, Bool, IsTrue, List, [], ◌∷◌, ◌++◌, Contains}
use Rattle.grammar_data.specs.declared.rule.Sym.{Sym}
use Rattle.grammar_data.specs.declared.rule.Sym.TheVariants.{Name}
use Rattle.grammar_data.specs.Grammar.{Grammar}
use Rattle.grammar_theory.specs.Rules.{IsRule, AllNames}
use Rattle.grammar_theory.specs.Derivations.{Derives, Steps}
use Rattle.grammar_theory.specs.Trees.{Tree, IsTree}

abbrev pub IsProductive : Grammar → ℕ → Type 0
IsProductive g n = (w : List ℕ) × Derives g.rules (Name n ∷ []) w

abbrev pub AllProductive : Grammar → Type 0
AllProductive g = (n : ℕ) → n < g.names → IsProductive g n

abbrev pub IsReachable : Grammar → ℕ → Type 0
IsReachable g n = (before : List Sym) × (after : List Sym) × Steps g.rules (Name g.start ∷ []) (before ++ Name n ∷ after)

-- a chain of rules' right sides leads from the start to the name
pub data IsLedTo (g : Grammar) : ℕ → Type 0 where
  at_start : {n : ℕ} → n ≡ g.start → IsLedTo g n
  in_right : {m n r : ℕ} {right : List Sym} → IsLedTo g m → IsRule g.rules r m right → Contains right (Name n) → IsLedTo g n

-- a name is productive exactly where it has a tree
abbrev pub ProductiveTreeLaw : Type 0
ProductiveTreeLaw = (g : Grammar) (n : ℕ) → IsProductive g n ↔ ((tree : Tree) × IsTree g.rules (Name n) tree)

-- a name is productive exactly where all names in the right side of one of its rules are
abbrev pub ProductiveRuleLaw : Type 0
ProductiveRuleLaw = (g : Grammar) (n : ℕ) → IsProductive g n ↔ ((r : ℕ) × (right : List Sym) × IsRule g.rules r n right × AllNames (IsProductive g) right)

-- a test that knows productive names alone, and each name with a rule whose right side it knows
pub record IsProductiveTest (g : Grammar) (known : ℕ → Bool) : Type 0 where
  pub sound : (n : ℕ) → IsTrue (known n) → IsProductive g n
  pub closed : (r n : ℕ) (right : List Sym) → IsRule g.rules r n right → AllNames (λ m. IsTrue (known m)) right → IsTrue (known n)

-- such a test knows exactly the productive names
abbrev pub ProductiveTestLaw : Type 0
ProductiveTestLaw = (g : Grammar) (known : ℕ → Bool) → IsProductiveTest g known → (n : ℕ) → IsTrue (known n) ↔ IsProductive g n

-- a name is reachable exactly where a chain of rules' right sides leads to it from the start
abbrev pub ReachableLaw : Type 0
ReachableLaw = (g : Grammar) (n : ℕ) → IsReachable g n ↔ IsLedTo g n

-- a test that knows reachable names alone, the start, and each name in a right side of a name that it knows
pub record IsReachableTest (g : Grammar) (known : ℕ → Bool) : Type 0 where
  pub sound : (n : ℕ) → IsTrue (known n) → IsReachable g n
  pub start : IsTrue (known g.start)
  pub closed : (r m n : ℕ) (right : List Sym) → IsTrue (known m) → IsRule g.rules r m right → Contains right (Name n) → IsTrue (known n)

-- such a test knows exactly the reachable names
abbrev pub ReachableTestLaw : Type 0
ReachableTestLaw = (g : Grammar) (known : ℕ → Bool) → IsReachableTest g known → (n : ℕ) → IsTrue (known n) ↔ IsReachable g n
