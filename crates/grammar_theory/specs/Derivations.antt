-- Derivations. A step replaces one name by the right side of one of its rules. Symbols derive a token list where steps
-- lead from them to its word; the relation `Derives` says it by the symbols from left to right, and a law shows that
-- both say the same. A sentence is a token list that the start derives. A token list goes on with a token where some
-- sentence begins with the list followed by that token, and with the end mark where it is a sentence.
-- Source: Aho and Ullman, The Theory of Parsing, Translation, and Compiling, volume 1, section 2.4.
use Rattle.std.specs.Prelude.{◌≡◌, ℕ, ◌<◌, ◌↔◌, List, [], ◌∷◌, ◌++◌, All}
use Rattle.grammar_data.specs.declared.rule.Sym.{Sym}
use Rattle.grammar_data.specs.declared.rule.Sym.TheVariants.{Token, Name}
use Rattle.grammar_data.specs.Grammar.{Rule, Grammar}
use Rattle.grammar_theory.specs.Rules.{IsRule, IsInRange, TokensBelow, word, end_mark}

-- the symbols derive the token list
pub data Derives (rules : List Rule) : List Sym → List ℕ → Type 0 where
  done : Derives rules [] []
  token_first : {a : ℕ} {xs : List Sym} {u : List ℕ} → Derives rules xs u → Derives rules (Token a ∷ xs) (a ∷ u)
  name_first : {n r : ℕ} {right xs : List Sym} {u v w : List ℕ} → IsRule rules r n right → Derives rules right u → Derives rules xs v → w ≡ u ++ v → Derives rules (Name n ∷ xs) w

-- steps lead from one list of symbols to another; a step replaces any one name
pub data Steps (rules : List Rule) (from : List Sym) : List Sym → Type 0 where
  unchanged : {xs : List Sym} → xs ≡ from → Steps rules from xs
  replaced : {n r : ℕ} {right xs ys : List Sym} (before after : List Sym) → Steps rules from xs → xs ≡ before ++ Name n ∷ after → IsRule rules r n right → ys ≡ before ++ (right ++ after) → Steps rules from ys

-- the token list is a sentence
abbrev pub IsSentence : Grammar → List ℕ → Type 0
IsSentence g w = Derives g.rules (Name g.start ∷ []) w

-- the token list goes on with this token, or with the end mark
pub data GoesOn (g : Grammar) (u : List ℕ) (a : ℕ) : Type 0 where
  goes_on : (v : List ℕ) → IsSentence g (u ++ a ∷ v) → GoesOn g u a
  ends : a ≡ end_mark g → IsSentence g u → GoesOn g u a

-- derivations of two lists are one of both lists, one after the other
abbrev pub AppendLaw : Type 0
AppendLaw = (rules : List Rule) (xs ys : List Sym) (u v : List ℕ) → Derives rules xs u → Derives rules ys v → Derives rules (xs ++ ys) (u ++ v)

-- what two lists derive, one after the other, is made of what each derives
abbrev pub SplitLaw : Type 0
SplitLaw = (rules : List Rule) (xs ys : List Sym) (w : List ℕ) → Derives rules (xs ++ ys) w → (u : List ℕ) × (v : List ℕ) × Derives rules xs u × Derives rules ys v × (w ≡ u ++ v)

-- what is derived after a step was derived before it
abbrev pub FoldLaw : Type 0
FoldLaw = (rules : List Rule) (r n : ℕ) (right before after : List Sym) (w : List ℕ) → IsRule rules r n right → Derives rules (before ++ (right ++ after)) w → Derives rules (before ++ Name n ∷ after) w

-- more rules derive more
abbrev pub MoreRulesLaw : Type 0
MoreRulesLaw = (rules more : List Rule) (xs : List Sym) (w : List ℕ) → Derives rules xs w → Derives (rules ++ more) xs w

-- a word derives its own tokens, and nothing else
abbrev pub WordLaw : Type 0
WordLaw = (rules : List Rule) (w v : List ℕ) → Derives rules (word w) v ↔ (v ≡ w)

-- the symbols derive a token list exactly where steps lead to its word
abbrev pub StepsLaw : Type 0
StepsLaw = (rules : List Rule) (xs : List Sym) (w : List ℕ) → Derives rules xs w ↔ Steps rules xs (word w)

-- what is derived has the grammar's tokens alone
abbrev pub TokensLaw : Type 0
TokensLaw = (g : Grammar) → IsInRange g → (xs : List Sym) (w : List ℕ) → TokensBelow g.tokens xs → Derives g.rules xs w → All (λ a. a < g.tokens) w

-- a token list goes on with the end mark exactly where it is a sentence
abbrev pub EndLaw : Type 0
EndLaw = (g : Grammar) → IsInRange g → (u : List ℕ) → GoesOn g u (end_mark g) ↔ IsSentence g u
