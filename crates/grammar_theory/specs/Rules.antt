-- Rules of a context-free grammar, cited by their numbers, and what their right sides are made of.
-- Source: Aho and Ullman, The Theory of Parsing, Translation, and Compiling, volume 1, section 2.4.
use Rattle.std.specs.Prelude.{◌≡◌, ℕ, ◌<◌, List, [], ◌∷◌, map, slice_get, Some}
use Rattle.grammar_data.specs.declared.rule.Sym.{Sym}
use Rattle.grammar_data.specs.declared.rule.Sym.TheVariants.{Token, Name}
use Rattle.grammar_data.specs.Grammar.{Rule, Grammar}

-- the word of a token list: the symbols of its tokens
abbrev pub word : List ℕ → List Sym
word w = map Token w

-- rule `r` of the list has this left side and this right side
pub record IsRule (rules : List Rule) (r n : ℕ) (right : List Sym) : Type 0 where
  pub found : slice_get rules r ≡ Some (n, right)

-- what holds of each name among the symbols; tokens don't matter
abbrev pub AllNames : (ℕ → Type 0) → List Sym → Type 0
AllNames P [] = Unit {0}
AllNames P (Token a ∷ xs) = AllNames P xs
AllNames P (Name n ∷ xs) = P n × AllNames P xs

-- the symbols are names alone, and it holds of each
abbrev pub OnlyNames : (ℕ → Type 0) → List Sym → Type 0
OnlyNames P [] = Unit {0}
OnlyNames P (Token a ∷ xs) = ⊥
OnlyNames P (Name n ∷ xs) = P n × OnlyNames P xs

-- what holds of each token among the symbols; names don't matter
abbrev pub AllTokens : (ℕ → Type 0) → List Sym → Type 0
AllTokens P [] = Unit {0}
AllTokens P (Token a ∷ xs) = P a × AllTokens P xs
AllTokens P (Name n ∷ xs) = AllTokens P xs

abbrev pub NamesBelow : ℕ → List Sym → Type 0
NamesBelow bound xs = AllNames (λ n. n < bound) xs

abbrev pub TokensBelow : ℕ → List Sym → Type 0
TokensBelow bound xs = AllTokens (λ a. a < bound) xs

-- each name and each token of the rules, and the start, is one that the grammar has
pub record IsInRange (g : Grammar) : Type 0 where
  pub lefts : (r n : ℕ) (right : List Sym) → IsRule g.rules r n right → n < g.names
  pub names : (r n : ℕ) (right : List Sym) → IsRule g.rules r n right → NamesBelow g.names right
  pub tokens : (r n : ℕ) (right : List Sym) → IsRule g.rules r n right → TokensBelow g.tokens right
  pub start : g.start < g.names

-- the number of the end mark, which is none of the tokens
abbrev pub end_mark : Grammar → ℕ
end_mark g = g.tokens
