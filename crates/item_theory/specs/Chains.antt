-- Chains of items. A chain begins with the augmented item with the dot in front and the end mark, for the empty list.
-- Each next item comes from the one before: the dot moves over a symbol, which is added to the list; or a rule of the
-- name after the dot is taken with the dot in front, for the same list, its lookahead being the first token of some
-- token list that is derived from the symbols behind that name followed by the lookahead of the item before.
-- Source: Knuth, On the Translation of Languages from Left to Right, 1965.
use Rattle.std.specs.Prelude.{◌≡◌, ℕ, ◌+◌, ◌↔◌, List, [], ◌∷◌, ◌++◌}
use Rattle.grammar_data.specs.declared.rule.Sym.{Sym}
use Rattle.grammar_data.specs.declared.rule.Sym.TheVariants.{Name}
use Rattle.grammar_data.specs.Grammar.{Grammar}
use Rattle.grammar_theory.specs.Rules.{IsRule, IsInRange}
use Rattle.grammar_theory.specs.UsefulNames.{AllProductive}
use Rattle.grammar_theory.specs.FirstTokens.{Follows, IsFound}
use Rattle.item_theory.specs.Items.{Item, Dotted, IsValid, augmented_item}

-- the augmented item with the dot in front and the end mark
abbrev pub first_item : Grammar → Item
first_item g = augmented_item g 0

-- the dot of `i` moves over `x`, which gives `j`
pub data Moves (g : Grammar) (x : Sym) (i j : Item) : Type 0 where
  moves : (n : ℕ) (before after : List Sym) → Dotted g i n before (x ∷ after) → j ≡ record i { dot = i.dot + 1 } → Moves g x i j

-- `j` is an item of a rule of the name after the dot of `i`, with the dot in front
pub data Opens (g : Grammar) (i j : Item) : Type 0 where
  opens : (n m : ℕ) (before after right : List Sym) → Dotted g i n before (Name m ∷ after) → Dotted g j m [] right → Follows g after i.ahead j.ahead → Opens g i j

-- a chain of items leads to the item, and over these symbols
pub data IsChained (g : Grammar) : List Sym → Item → Type 0 where
  begins : {i : Item} → i ≡ first_item g → IsChained g [] i
  over : {x : Sym} {xs ys : List Sym} {i j : Item} → IsChained g xs i → Moves g x i j → ys ≡ xs ++ x ∷ [] → IsChained g ys j
  into : {xs : List Sym} {i j : Item} → IsChained g xs i → Opens g i j → IsChained g xs j

-- an item is valid for a symbol list exactly where a chain of items leads to it
abbrev pub ChainLaw : Type 0
ChainLaw = (g : Grammar) → IsInRange g → (xs : List Sym) (i : Item) → IsValid g xs i ↔ IsChained g xs i

-- the closure of items: those given, and each that one of the closure opens
pub data Closure (g : Grammar) (given : Item → Type 0) : Item → Type 0 where
  kept : {i : Item} → given i → Closure g given i
  opened : {i j : Item} → Closure g given i → Opens g i j → Closure g given j

abbrev pub IsFirstItem : Grammar → Item → Type 0
IsFirstItem g i = i ≡ first_item g

-- the item comes from one of a set by moving the dot over `x`
abbrev pub IsMoved : Grammar → (Item → Type 0) → Sym → Item → Type 0
IsMoved g set x j = (i : Item) × set i × Moves g x i j

-- the valid items of the empty list are the closure of the augmented item
abbrev pub FirstClosureLaw : Type 0
FirstClosureLaw = (g : Grammar) → IsInRange g → (i : Item) → IsValid g [] i ↔ Closure g (IsFirstItem g) i

-- the valid items of a list with one more symbol are the closure of those of the list, moved over that symbol
abbrev pub MovedClosureLaw : Type 0
MovedClosureLaw = (g : Grammar) → IsInRange g → (xs : List Sym) (x : Sym) (i : Item) → IsValid g (xs ++ x ∷ []) i ↔ Closure g (IsMoved g (IsValid g xs) x) i

-- an item with its dot before a name opens items of that name's rules alone, with the dot in front and a lookahead that is
-- found in the symbols behind the name, or behind them
abbrev pub OpensOnlyLaw : Type 0
OpensOnlyLaw = (g : Grammar) → IsInRange g → (i j : Item) (n m : ℕ) (before after : List Sym) → Dotted g i n before (Name m ∷ after) → Opens g i j → (right : List Sym) × IsRule g.rules j.rule m right × (j.dot ≡ 0) × IsFound g after i.ahead j.ahead

-- where all names are productive, it opens all of these
abbrev pub OpensLaw : Type 0
OpensLaw = (g : Grammar) → IsInRange g → AllProductive g → (i j : Item) (n m : ℕ) (before after : List Sym) → Dotted g i n before (Name m ∷ after) → Opens g i j ↔ ((right : List Sym) × IsRule g.rules j.rule m right × (j.dot ≡ 0) × IsFound g after i.ahead j.ahead)
