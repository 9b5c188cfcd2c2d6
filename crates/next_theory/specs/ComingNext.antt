-- What may come next. A token comes next behind a symbol list where some item is valid for the list, and the token is
-- the first of what stands behind the item's dot followed by its lookahead.
-- Source: Knuth, On the Translation of Languages from Left to Right, 1965.
use Rattle.std.specs.Prelude.{ℕ, ◌↔◌, List, [], ◌∷◌, ◌++◌, length}
use Rattle.grammar_data.specs.declared.rule.Sym.{Sym}
use Rattle.grammar_data.specs.declared.rule.Sym.TheVariants.{Name}
use Rattle.grammar_data.specs.Grammar.{Grammar}
use Rattle.grammar_theory.specs.Rules.{IsRule, IsInRange}
use Rattle.grammar_theory.specs.Derivations.{Derives, GoesOn}
use Rattle.grammar_theory.specs.UsefulNames.{AllProductive}
use Rattle.grammar_theory.specs.FirstTokens.{Follows}
use Rattle.item_theory.specs.Items.{Item, Dotted, IsValid, Deed, Does}

-- the token comes next behind the list
pub record ComesNext (g : Grammar) (xs : List Sym) (a : ℕ) : Type 0 where
  pub item : Item
  pub name : ℕ
  pub before : List Sym
  pub after : List Sym
  pub is_valid : IsValid g xs item
  pub dotted : Dotted g item name before after
  pub follows : Follows g after item.ahead a

-- the symbol may stand behind the list, and the token comes next behind it: some item that is valid for the list has its
-- dot before the symbol, and the token is the first of what stands behind that symbol
pub record ComesBehind (g : Grammar) (xs : List Sym) (x : Sym) (a : ℕ) : Type 0 where
  pub item : Item
  pub name : ℕ
  pub before : List Sym
  pub after : List Sym
  pub is_valid : IsValid g xs item
  pub dotted : Dotted g item name before (x ∷ after)
  pub follows : Follows g after item.ahead a

-- what comes next behind a list with one more symbol comes behind that symbol
abbrev pub NextBackLaw : Type 0
NextBackLaw = (g : Grammar) → IsInRange g → (xs : List Sym) (x : Sym) (a : ℕ) → ComesNext g (xs ++ x ∷ []) a → ComesBehind g xs x a

-- where all names are productive, a token comes next exactly where some valid item does something on it
abbrev pub NextDeedLaw : Type 0
NextDeedLaw = (g : Grammar) → IsInRange g → AllProductive g → (xs : List Sym) (a : ℕ) → ComesNext g xs a ↔ ((i : Item) × (deed : Deed) × IsValid g xs i × Does g i a deed)

-- where a token comes next behind a name, each rule of the name may be read before the token
abbrev pub NextOpenLaw : Type 0
NextOpenLaw = (g : Grammar) → IsInRange g → (xs read more : List Sym) (n r a : ℕ) → IsRule g.rules r n (read ++ more) → ComesNext g (xs ++ Name n ∷ []) a → IsValid g (xs ++ read) (record { rule = r; dot = length read; ahead = a })

-- where a rule has been read and the token is the lookahead, it comes next behind the rule's name
abbrev pub NextCloseLaw : Type 0
NextCloseLaw = (g : Grammar) → IsInRange g → (xs right : List Sym) (n r a : ℕ) → IsRule g.rules r n right → IsValid g (xs ++ right) (record { rule = r; dot = length right; ahead = a }) → ComesNext g (xs ++ Name n ∷ []) a

-- a token list that a symbol list derives goes on with what comes next behind the symbols
abbrev pub NextSentenceLaw : Type 0
NextSentenceLaw = (g : Grammar) → IsInRange g → (xs : List Sym) (u : List ℕ) (a : ℕ) → Derives g.rules xs u → ComesNext g xs a → GoesOn g u a
