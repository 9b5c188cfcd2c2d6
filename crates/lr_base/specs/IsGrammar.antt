-- What makes four parts a grammar: identifiers in range, a rule for each name, and the limits.
use Rattle.std.specs.Prelude.{ℕ, ◌<◌, ◌≤◌, List, length, All, Contains, sum_by}
use Rattle.lr_base.specs.declared.limits.TheConstants.{TOKENS, NAMES, RULES, SIDE_SYMBOLS, SYMBOLS}
use Rattle.grammar_data.specs.Grammar.{Grammar, Rule}
use Rattle.grammar_data.specs.declared.rule.Sym.{Sym}
use Rattle.grammar_data.specs.declared.rule.Sym.TheVariants.{Token, Name}

-- the symbol is one of so many tokens and names
abbrev pub IsSymbolOf : ℕ → ℕ → Sym → Type 0
IsSymbolOf tokens names (Token a) = a < tokens
IsSymbolOf tokens names (Name n) = n < names

-- the rule's identifiers are in range, and its right side has at most 20 symbols
pub record IsRuleOf (tokens names : ℕ) (rule : Rule) : Type 0 where
  pub left : rule.0 < names
  pub right : All (IsSymbolOf tokens names) rule.1
  pub short : length rule.1 ≤ SIDE_SYMBOLS

-- how many symbols all right sides have together
abbrev pub symbols_of : List Rule → ℕ
symbols_of rules = sum_by (λ rule. length rule.1) rules

-- each name is the left side of a rule
abbrev pub HasRuleForEach : ℕ → List Rule → Type 0
HasRuleForEach names rules = (n : ℕ) → n < names → (right : List Sym) × Contains rules (n, right)

-- the four parts are a grammar within the limits: at most 250 tokens, 500 names, 1,000 rules and 4,000 symbols
pub record IsGrammar (g : Grammar) : Type 0 where
  pub few_tokens : g.tokens ≤ TOKENS
  pub few_names : g.names ≤ NAMES
  pub some_rule : 0 < length g.rules
  pub few_rules : length g.rules ≤ RULES
  pub few_symbols : symbols_of g.rules ≤ SYMBOLS
  pub start : g.start < g.names
  pub rules : All (IsRuleOf g.tokens g.names) g.rules
  pub ruled : HasRuleForEach g.names g.rules
