-- Leading words. Symbols are ordered tokens before names, each by number; lists of symbols by length, and of equal
-- length symbol by symbol. The leading word of a state, that is, of a set of valid items, is the first of the viable
-- prefixes that have this set. The states are numbered by their leading words in this order.
-- Source: the states are those of Knuth, On the Translation of Languages from Left to Right, 1965; the numbers are
-- those of a search breadth first that tries tokens before names.
use Rattle.std.specs.Prelude.{◌≡◌, ℕ, ◌<◌, ◌≤◌, ◌↔◌, ◌⊎◌, List, [], ◌∷◌, ◌++◌, length, slice_get, Some}
use Rattle.grammar_data.specs.declared.rule.Sym.{Sym}
use Rattle.grammar_data.specs.declared.rule.Sym.TheVariants.{Token, Name}
use Rattle.grammar_data.specs.Grammar.{Grammar}
use Rattle.grammar_theory.specs.Rules.{IsInRange}
use Rattle.item_theory.specs.Items.{Item, IsValid, IsViable, HaveSameItems, IsConflict, HasConflict}
use Rattle.item_theory.specs.Chains.{Moves}

abbrev pub IsSymBefore : Sym → Sym → Type 0
IsSymBefore (Token a) (Token b) = a < b
IsSymBefore (Token a) (Name m) = Unit {0}
IsSymBefore (Name n) (Token b) = ⊥
IsSymBefore (Name n) (Name m) = n < m

-- of lists of one length
abbrev pub IsListBefore : List Sym → List Sym → Type 0
IsListBefore [] [] = ⊥
IsListBefore [] (y ∷ ys) = ⊥
IsListBefore (x ∷ xs) [] = ⊥
IsListBefore (x ∷ xs) (y ∷ ys) = IsSymBefore x y ⊎ ((x ≡ y) × IsListBefore xs ys)

abbrev pub IsWordBefore : List Sym → List Sym → Type 0
IsWordBefore xs ys = (length xs < length ys) ⊎ ((length xs ≡ length ys) × IsListBefore xs ys)

-- the leading word of a state
pub record IsLeading (g : Grammar) (xs : List Sym) : Type 0 where
  pub viable : IsViable g xs
  pub first : (ys : List Sym) → HaveSameItems g xs ys → (xs ≡ ys) ⊎ IsWordBefore xs ys

-- one of these words has the same valid items
abbrev pub HasState : Grammar → List (List Sym) → List Sym → Type 0
HasState g words xs = (q : ℕ) × (ys : List Sym) × (slice_get words q ≡ Some ys) × HaveSameItems g ys xs

-- leading words of some states, in their order
pub record AreLeading (g : Grammar) (words : List (List Sym)) : Type 0 where
  pub rising : (i j : ℕ) (xs ys : List Sym) → i < j → slice_get words i ≡ Some xs → slice_get words j ≡ Some ys → IsWordBefore xs ys
  pub leading : (i : ℕ) (xs : List Sym) → slice_get words i ≡ Some xs → IsLeading g xs

-- the leading words of all states, in their order: the state of word q is state q
pub record AreStates (g : Grammar) (words : List (List Sym)) : Type 0 where
  pub are_leading : AreLeading g words
  pub every : (xs : List Sym) → IsViable g xs → HasState g words xs

-- two words are the same, or one is before the other
abbrev pub TotalLaw : Type 0
TotalLaw = (xs ys : List Sym) → (xs ≡ ys) ⊎ (IsWordBefore xs ys ⊎ IsWordBefore ys xs)

-- what is before a word is before each word that the word is before
abbrev pub TransitiveLaw : Type 0
TransitiveLaw = (xs ys zs : List Sym) → IsWordBefore xs ys → IsWordBefore ys zs → IsWordBefore xs zs

-- no word is before itself
abbrev pub IrreflexiveLaw : Type 0
IrreflexiveLaw = (xs : List Sym) → IsWordBefore xs xs → ⊥

-- words with one more symbol are ordered by the words, and then by the symbols
abbrev pub PushLaw : Type 0
PushLaw = (xs ys : List Sym) (x y : Sym) → IsWordBefore (xs ++ x ∷ []) (ys ++ y ∷ []) ↔ (IsWordBefore xs ys ⊎ ((xs ≡ ys) × IsSymBefore x y))

-- two leading words with the same items are equal
abbrev pub LeadingOnceLaw : Type 0
LeadingOnceLaw = (g : Grammar) (xs ys : List Sym) → IsLeading g xs → IsLeading g ys → HaveSameItems g xs ys → xs ≡ ys

-- a list with one more symbol is viable exactly where the dot of some valid item moves over that symbol
abbrev pub StepLaw : Type 0
StepLaw = (g : Grammar) → IsInRange g → (xs : List Sym) (x : Sym) → IsViable g (xs ++ x ∷ []) ↔ ((i : Item) × (j : Item) × IsValid g xs i × Moves g x i j)

-- lists with the same items have the same items after one more symbol
abbrev pub SameStepLaw : Type 0
SameStepLaw = (g : Grammar) → IsInRange g → (xs ys : List Sym) (x : Sym) → HaveSameItems g xs ys → HaveSameItems g (xs ++ x ∷ []) (ys ++ x ∷ [])

-- a front of a viable prefix is a viable prefix
abbrev pub PrefixLaw : Type 0
PrefixLaw = (g : Grammar) → IsInRange g → (xs ys : List Sym) → IsViable g (xs ++ ys) → IsViable g xs

-- the states have one order: two lists of the leading words of all states are equal
abbrev pub StatesOnceLaw : Type 0
StatesOnceLaw = (g : Grammar) (words others : List (List Sym)) → AreStates g words → AreStates g others → words ≡ others

-- there are as many states at least as there are leading words in a list
abbrev pub StateCountLaw : Type 0
StateCountLaw = (g : Grammar) (words some : List (List Sym)) → AreStates g words → AreLeading g some → length some ≤ length words

-- each leading word is that of a state
abbrev pub LeadingStateLaw : Type 0
LeadingStateLaw = (g : Grammar) (words : List (List Sym)) → AreStates g words → (xs : List Sym) → IsLeading g xs → (q : ℕ) × (slice_get words q ≡ Some xs)

-- there is a conflict exactly where a state has one
abbrev pub ConflictStateLaw : Type 0
ConflictStateLaw = (g : Grammar) (words : List (List Sym)) → AreStates g words → HasConflict g ↔ ((q : ℕ) × (xs : List Sym) × (slice_get words q ≡ Some xs) × (a : ℕ) × (first : Item) × (second : Item) × IsConflict g xs a first second)
