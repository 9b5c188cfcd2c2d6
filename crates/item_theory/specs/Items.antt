-- Valid items. The augmented rule, whose number is the number of rules, derives the start from a name of its own. A
-- rightmost derivation replaces the last name at each step. An item (a rule A to αβ, the dot after α, a token) is valid
-- for the symbol list δα where a rightmost derivation from the augmented name reaches δAw, w being tokens, and then
-- δαβw, and the token is the first of w, or the end mark where w is empty. A viable prefix is a symbol list for which
-- some item is valid.
-- Source: Knuth, On the Translation of Languages from Left to Right, 1965.
use Rattle.std.specs.Prelude.{◌≡◌, ◌≢◌, ℕ, ◌<◌, ◌≤◌, ◌↔◌, ◌⊎◌, List, [], ◌∷◌, ◌++◌, length}
use Rattle.grammar_data.specs.declared.rule.Sym.{Sym}
use Rattle.grammar_data.specs.declared.rule.Sym.TheVariants.{Token, Name}
use Rattle.grammar_data.specs.Grammar.{Rule, Grammar}
use Rattle.grammar_theory.specs.Rules.{IsRule, IsInRange, NamesBelow, TokensBelow, word, end_mark}

-- the augmented rule: the name that no grammar rule has, and the start
abbrev pub augmented_rule : Grammar → Rule
augmented_rule g = (g.names, Name g.start ∷ [])

abbrev pub all_rules : Grammar → List Rule
all_rules g = g.rules ++ augmented_rule g ∷ []

-- steps lead from one list of symbols to another; each replaces the last name, behind which tokens alone stand
pub data Rightmost (rules : List Rule) (from : List Sym) : List Sym → Type 0 where
  unchanged : {xs : List Sym} → xs ≡ from → Rightmost rules from xs
  replaced : {n r : ℕ} {right xs ys : List Sym} (before : List Sym) (w : List ℕ) → Rightmost rules from xs → xs ≡ before ++ Name n ∷ word w → IsRule rules r n right → ys ≡ before ++ (right ++ word w) → Rightmost rules from ys

-- a rightmost derivation from the augmented name reaches these symbols
abbrev pub IsReached : Grammar → List Sym → Type 0
IsReached g xs = Rightmost (all_rules g) (Name g.names ∷ []) xs

-- an item: its rule, how many symbols of the right side stand before the dot, and its lookahead
pub record Item : Type 0 where
  pub rule : ℕ
  pub dot : ℕ
  pub ahead : ℕ

-- the item's rule has this left side; these symbols stand before its dot, and these behind it
pub record Dotted (g : Grammar) (i : Item) (n : ℕ) (before after : List Sym) : Type 0 where
  pub rule : IsRule (all_rules g) i.rule n (before ++ after)
  pub dot : i.dot ≡ length before

-- the first token of a list, or else another
abbrev pub first_or : ℕ → List ℕ → ℕ
first_or other [] = other
first_or other (a ∷ w) = a

pub data IsValid (g : Grammar) (prefix : List Sym) (i : Item) : Type 0 where
  valid : (n : ℕ) (front before after : List Sym) (w : List ℕ) → IsReached g (front ++ Name n ∷ word w) → Dotted g i n before after → i.ahead ≡ first_or (end_mark g) w → prefix ≡ front ++ before → IsValid g prefix i

abbrev pub IsViable : Grammar → List Sym → Type 0
IsViable g prefix = (i : Item) × IsValid g prefix i

-- the same items are valid for both lists; a state is the set of valid items of a viable prefix
abbrev pub HaveSameItems : Grammar → List Sym → List Sym → Type 0
HaveSameItems g xs ys = (i : Item) → IsValid g xs i ↔ IsValid g ys i

-- what an item can do on a token; an item that does none of these on it does nothing
pub data Deed : Type 0 where
  Shift : Deed
  Reduce : ℕ → Deed
  Accept : Deed

-- an item shifts the token behind its dot; with the dot at the end it reduces by its rule on its lookahead, or, with
-- the augmented rule, accepts on the end mark
pub data Does (g : Grammar) (i : Item) (a : ℕ) : Deed → Type 0 where
  shifts : {n : ℕ} {before after : List Sym} → Dotted g i n before (Token a ∷ after) → Does g i a Shift
  reduces : {n : ℕ} {before : List Sym} {deed : Deed} → Dotted g i n before [] → i.rule < length g.rules → i.ahead ≡ a → deed ≡ Reduce i.rule → Does g i a deed
  accepts : {n : ℕ} {before : List Sym} → Dotted g i n before [] → i.rule ≡ length g.rules → a ≡ end_mark g → Does g i a Accept

-- two items that are valid for the prefix do different things on the token
pub record IsConflict (g : Grammar) (prefix : List Sym) (a : ℕ) (first second : Item) : Type 0 where
  pub first_valid : IsValid g prefix first
  pub second_valid : IsValid g prefix second
  pub first_deed : Deed
  pub second_deed : Deed
  pub first_does : Does g first a first_deed
  pub second_does : Does g second a second_deed
  pub differ : first_deed ≢ second_deed

abbrev pub HasConflict : Grammar → Type 0
HasConflict g = (prefix : List Sym) × (a : ℕ) × (first : Item) × (second : Item) × IsConflict g prefix a first second

-- the augmented item with the dot after so many symbols, and the end mark
abbrev pub augmented_item : Grammar → ℕ → Item
augmented_item g dot = record { rule = length g.rules; dot = dot; ahead = end_mark g }

-- an item of the augmented rule is valid exactly with the dot in front for the empty list, and with the dot at its end for
-- the start, each with the end mark alone
abbrev pub AugmentedItemsLaw : Type 0
AugmentedItemsLaw = (g : Grammar) → IsInRange g → (xs : List Sym) (i : Item) → i.rule ≡ length g.rules → IsValid g xs i ↔ (((xs ≡ []) × (i ≡ augmented_item g 0)) ⊎ ((xs ≡ Name g.start ∷ []) × (i ≡ augmented_item g 1)))

-- an item has one left side, and its dot parts its right side in one way
abbrev pub DottedOnceLaw : Type 0
DottedOnceLaw = (g : Grammar) (i : Item) (n m : ℕ) (before after front back : List Sym) → Dotted g i n before after → Dotted g i m front back → (n ≡ m) × (before ≡ front) × (after ≡ back)

-- an item does one thing at most on a token
abbrev pub OneDeedLaw : Type 0
OneDeedLaw = (g : Grammar) (i : Item) (a : ℕ) (first second : Deed) → Does g i a first → Does g i a second → first ≡ second

-- the item has a rule of the grammar or the augmented one, its dot in front of, between or behind the symbols of the right
-- side, and a token or the end mark as its lookahead
pub record IsItemOf (g : Grammar) (i : Item) : Type 0 where
  pub name : ℕ
  pub before : List Sym
  pub after : List Sym
  pub dotted : Dotted g i name before after
  pub rule : i.rule ≤ length g.rules
  pub ahead : i.ahead ≤ end_mark g

-- a valid item is one of the grammar
abbrev pub ItemRangeLaw : Type 0
ItemRangeLaw = (g : Grammar) → IsInRange g → (xs : List Sym) (i : Item) → IsValid g xs i → IsItemOf g i

-- a viable prefix has the grammar's tokens and names alone
abbrev pub PrefixRangeLaw : Type 0
PrefixRangeLaw = (g : Grammar) → IsInRange g → (xs : List Sym) → IsViable g xs → NamesBelow g.names xs × TokensBelow g.tokens xs
