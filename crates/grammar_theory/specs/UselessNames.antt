-- Useless names: those that derive no token list, those that no list derived from the start has, and nullable names all of
-- whose empty trees are large. A grammar without one is useful; and of one that has some, the first is the least of the
-- first kind that is there.
use Rattle.std.specs.Prelude.{◌≡◌, ℕ, ◌<◌, [], ◌∷◌}
use Rattle.grammar_data.specs.declared.rule.Sym.TheVariants.{Name}
use Rattle.grammar_data.specs.Grammar.{Grammar}
use Rattle.grammar_theory.specs.declared.limits.TheConstants.{EMPTY_NODES}
use Rattle.grammar_theory.specs.UsefulNames.{IsProductive, AllProductive, IsReachable}
use Rattle.grammar_theory.specs.EmptyNames.{IsNullable, Vanishes}

abbrev pub AllReachable : Grammar → Type 0
AllReachable g = (n : ℕ) → n < g.names → IsReachable g n

-- the name is nullable, and its least empty tree has more than 1,000 inner nodes
pub record IsEmptyTooLarge (g : Grammar) (n : ℕ) : Type 0 where
  pub nullable : IsNullable g n
  pub large : (k : ℕ) → Vanishes g.rules (Name n ∷ []) k → EMPTY_NODES < k

abbrev pub AllEmptySmall : Grammar → Type 0
AllEmptySmall g = (n : ℕ) → n < g.names → ¬ (IsEmptyTooLarge g n)

-- all names are productive and reachable, and no empty tree has to be large
pub record IsUseful (g : Grammar) : Type 0 where
  pub productive : AllProductive g
  pub reachable : AllReachable g
  pub small : AllEmptySmall g

-- the name is the least that isn't productive
pub record IsLeastUnproductive (g : Grammar) (n : ℕ) : Type 0 where
  pub name : n < g.names
  pub unproductive : ¬ (IsProductive g n)
  pub least : (m : ℕ) → m < n → IsProductive g m

-- all names are productive, and the name is the least that isn't reachable
pub record IsLeastUnreachable (g : Grammar) (n : ℕ) : Type 0 where
  pub productive : AllProductive g
  pub name : n < g.names
  pub unreachable : ¬ (IsReachable g n)
  pub least : (m : ℕ) → m < n → IsReachable g m

-- all names are productive and reachable, and the name is the least whose least empty tree is too large
pub record IsLeastTooLarge (g : Grammar) (n : ℕ) : Type 0 where
  pub productive : AllProductive g
  pub reachable : AllReachable g
  pub name : n < g.names
  pub large : IsEmptyTooLarge g n
  pub least : (m : ℕ) → m < n → ¬ (IsEmptyTooLarge g m)

-- there is one least name of each kind
abbrev pub OneUnproductiveLaw : Type 0
OneUnproductiveLaw = (g : Grammar) (n m : ℕ) → IsLeastUnproductive g n → IsLeastUnproductive g m → n ≡ m

abbrev pub OneUnreachableLaw : Type 0
OneUnreachableLaw = (g : Grammar) (n m : ℕ) → IsLeastUnreachable g n → IsLeastUnreachable g m → n ≡ m

abbrev pub OneTooLargeLaw : Type 0
OneTooLargeLaw = (g : Grammar) (n m : ℕ) → IsLeastTooLarge g n → IsLeastTooLarge g m → n ≡ m
