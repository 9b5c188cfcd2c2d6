-- The tokens that are chosen by numbers: those of a leftmost derivation from the start. The first so many of its steps
-- go by numbers of a linear congruential sequence, each number picking one of the name's rules; the later steps go by
-- closing rules, so that each derivation ends.
-- Source: Aho and Ullman, The Theory of Parsing, Translation, and Compiling, volume 1, section 2.4 (leftmost
-- derivations); Knuth, The Art of Computer Programming, volume 2, section 3.2.1 (linear congruential sequences).
use Rattle.std.specs.Prelude.{◌≡◌, ℕ, zero, suc, ◌+◌, ◌*◌, ◌/◌, ◌%◌, ◌^◌, ◌<◌, ◌≤◌, Bool, false, ◌==◌, List, [], ◌∷◌, ◌++◌, length, filter, slice_get, Option, Some, None}
use Rattle.std.specs.List.{range_with_len}
use Rattle.grammar_data.specs.declared.rule.Sym.{Sym}
use Rattle.grammar_data.specs.declared.rule.Sym.TheVariants.{Token, Name}
use Rattle.grammar_data.specs.Grammar.{Rule, Grammar}
use Rattle.grammar_theory.specs.Derivations.{IsSentence}
use Rattle.grammar_theory.specs.Rules.{IsRule, IsInRange, NamesBelow}
use Rattle.sample_theory.specs.ClosingRules.{IsClosingRule}

-- the number behind a number of the sequence
abbrev pub next_number : ℕ → ℕ
next_number x = (x * 6364136223846793005 + 1442695040888963407) % 2 ^ 64

-- the number of the sequence at a place, the number at place 0 being given
unfoldable pub number_at : ℕ → ℕ → ℕ
number_at from zero = from
number_at from (suc k) = next_number (number_at from k)

-- which of so many a number picks: by its upper 31 bits
abbrev pub picked : ℕ → ℕ → ℕ
picked x count = (x / 8589934592) % count

-- whether this is a rule of the name
abbrev pub has_left : ℕ → Option Rule → Bool
has_left n None = false
has_left n (Some rule) = rule.0 == n

-- the numbers of a name's rules, rising
unfoldable pub rules_of : List Rule → ℕ → List ℕ
rules_of rules n = filter (λ r. has_left n (slice_get rules r)) (range_with_len 0 (length rules))

-- the rule is the one that the number at the place behind this one picks among the name's rules
pub record IsDrawn (g : Grammar) (from drawn n r : ℕ) (right : List Sym) : Type 0 where
  pub rule : IsRule g.rules r n right
  pub here : slice_get (rules_of g.rules n) (picked (number_at from (suc drawn)) (length (rules_of g.rules n))) ≡ Some r

-- the tokens that are chosen for the symbols, where so many choices were drawn before
pub data AreChosen (g : Grammar) (from size : ℕ) : ℕ → List Sym → List ℕ → Type 0 where
  no_symbol : {drawn : ℕ} → AreChosen g from size drawn [] []
  takes_token : {drawn a : ℕ} {xs : List Sym} {w : List ℕ} → AreChosen g from size drawn xs w → AreChosen g from size drawn (Token a ∷ xs) (a ∷ w)
  draws_rule : {drawn n r : ℕ} {right xs : List Sym} {w : List ℕ} → drawn < size → IsDrawn g from drawn n r right → AreChosen g from size (suc drawn) (right ++ xs) w → AreChosen g from size drawn (Name n ∷ xs) w
  closes_name : {drawn n r : ℕ} {right xs : List Sym} {w : List ℕ} → size ≤ drawn → IsClosingRule g n r right → AreChosen g from size drawn (right ++ xs) w → AreChosen g from size drawn (Name n ∷ xs) w

-- the tokens that are chosen for the start
abbrev pub AreChosenTokens : Grammar → ℕ → ℕ → List ℕ → Type 0
AreChosenTokens g from size w = AreChosen g from size 0 (Name g.start ∷ []) w

-- there is one list of them at most
abbrev pub OneChoiceLaw : Type 0
OneChoiceLaw = (g : Grammar) (from size : ℕ) (w other : List ℕ) → AreChosenTokens g from size w → AreChosenTokens g from size other → w ≡ other

-- it is a sentence
abbrev pub ChoiceLaw : Type 0
ChoiceLaw = (g : Grammar) (from size : ℕ) (w : List ℕ) → AreChosenTokens g from size w → IsSentence g w

-- there is one where each name has a rule and a closing rule
abbrev pub HaveClosingRules : Grammar → Type 0
HaveClosingRules g = (n : ℕ) → n < g.names → (r : ℕ) × (right : List Sym) × IsClosingRule g n r right

abbrev pub SomeChoiceLaw : Type 0
SomeChoiceLaw = (g : Grammar) (from size drawn : ℕ) (xs : List Sym) → IsInRange g → HaveClosingRules g → NamesBelow g.names xs → (w : List ℕ) × AreChosen g from size drawn xs w
