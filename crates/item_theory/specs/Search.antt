-- The states by a search breadth first: from each word found so far, in order, each symbol is tried, tokens before
-- names, and a viable prefix with new items is put last. So the words found are the leading words in their order.
-- Source: Knuth, On the Translation of Languages from Left to Right, 1965; Aho and Ullman, The Theory of Parsing,
-- Translation, and Compiling, volume 1, section 5.2.
use Rattle.std.specs.Prelude.{◌≡◌, ℕ, ◌+◌, ◌<◌, ◌⊎◌, List, [], ◌∷◌, ◌++◌, length, slice_get, Option, Some, None}
use Rattle.grammar_data.specs.declared.rule.Sym.{Sym}
use Rattle.grammar_data.specs.declared.rule.Sym.TheVariants.{Token, Name}
use Rattle.grammar_data.specs.Grammar.{Grammar}
use Rattle.grammar_theory.specs.Rules.{IsInRange}
use Rattle.item_theory.specs.Items.{IsViable}
use Rattle.item_theory.specs.LeadingWords.{IsSymBefore, IsWordBefore, IsLeading, HasState, AreLeading, AreStates}

-- the search stands at word `p`, which is `top`, and at the symbol `x`: the words found are leading ones in their order,
-- all before the next to be tried, and what was tried (each symbol from the words before, and each before `x` from this
-- one) has a state among them where it is viable
pub record IsSearchedTo (g : Grammar) (words : List (List Sym)) (p : ℕ) (top : List Sym) (x : Sym) : Type 0 where
  pub are_leading : AreLeading g words
  pub first : slice_get words 0 ≡ Some []
  pub here : slice_get words p ≡ Some top
  pub earlier : (i : ℕ) (xs : List Sym) → slice_get words i ≡ Some xs → IsWordBefore xs (top ++ x ∷ [])
  pub tried : (q : ℕ) (xs : List Sym) (y : Sym) → slice_get words q ≡ Some xs → (q < p) ⊎ ((q ≡ p) × IsSymBefore y x) → IsViable g (xs ++ y ∷ []) → HasState g words (xs ++ y ∷ [])

-- the next token, or the next name
abbrev pub next_symbol : Sym → Sym
next_symbol (Token a) = Token (a + 1)
next_symbol (Name n) = Name (n + 1)

-- a new word is a leading one: of what isn't viable or has a state, nothing is put last
abbrev pub NewWordLaw : Type 0
NewWordLaw = (g : Grammar) → IsInRange g → (words : List (List Sym)) (p : ℕ) (top : List Sym) (x : Sym) → IsSearchedTo g words p top x → IsViable g (top ++ x ∷ []) → ¬ (HasState g words (top ++ x ∷ [])) → IsLeading g (top ++ x ∷ [])

-- the search begins with the empty word and the first token
abbrev pub SearchBeginLaw : Type 0
SearchBeginLaw = (g : Grammar) → IsSearchedTo g ([] ∷ []) 0 [] (Token 0)

-- it goes on to the next symbol where this one isn't viable or has a state
abbrev pub SearchOldLaw : Type 0
SearchOldLaw = (g : Grammar) (words : List (List Sym)) (p : ℕ) (top : List Sym) (x : Sym) → IsSearchedTo g words p top x → (IsViable g (top ++ x ∷ []) → HasState g words (top ++ x ∷ [])) → IsSearchedTo g words p top (next_symbol x)

-- to the next symbol with a new word put last where this one is viable and has no state
abbrev pub SearchNewLaw : Type 0
SearchNewLaw = (g : Grammar) → IsInRange g → (words : List (List Sym)) (p : ℕ) (top : List Sym) (x : Sym) → IsSearchedTo g words p top x → IsViable g (top ++ x ∷ []) → ¬ (HasState g words (top ++ x ∷ [])) → IsSearchedTo g (words ++ (top ++ x ∷ []) ∷ []) p top (next_symbol x)

-- from the last token to the first name
abbrev pub SearchNamesLaw : Type 0
SearchNamesLaw = (g : Grammar) → IsInRange g → (words : List (List Sym)) (p : ℕ) (top : List Sym) → IsSearchedTo g words p top (Token g.tokens) → IsSearchedTo g words p top (Name 0)

-- from the last name to the next word
abbrev pub SearchNextLaw : Type 0
SearchNextLaw = (g : Grammar) → IsInRange g → (words : List (List Sym)) (p : ℕ) (top next : List Sym) → IsSearchedTo g words p top (Name g.names) → slice_get words (p + 1) ≡ Some next → IsSearchedTo g words (p + 1) next (Token 0)

-- after the last name of the last word the words are those of all states
abbrev pub SearchEndLaw : Type 0
SearchEndLaw = (g : Grammar) → IsInRange g → (words : List (List Sym)) (p : ℕ) (top : List Sym) → IsSearchedTo g words p top (Name g.names) → p + 1 ≡ length words → AreStates g words

-- a walk by a table of steps
abbrev pub walk : (ℕ → Sym → Option ℕ) → Option ℕ → List Sym → Option ℕ
walk step None xs = None
walk step (Some q) [] = Some q
walk step (Some q) (x ∷ xs) = walk step (step q x) xs
