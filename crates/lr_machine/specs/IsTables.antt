-- What makes parts tables: the limits, rows of one width, and identifiers in range; and tables that say nothing yet.
use Rattle.std.specs.Prelude.{◌≡◌, ℕ, ◌+◌, ◌*◌, ◌≤◌, length, All, None}
use Rattle.lr_base.specs.declared.limits.TheConstants.{TOKENS, NAMES, RULES}
use Rattle.table_data.specs.declared.limits.TheConstants.{MOST_STATES}
use Rattle.grammar_data.specs.Grammar.{Grammar}
use Rattle.lr_base.specs.IsGrammar.{IsRuleOf}
use Rattle.table_data.specs.declared.act.Act.TheVariants.{Error}
use Rattle.table_data.specs.Tables.{Tables, IsActOf, IsGotoOf, act_in, goto_in}

-- at most 250 tokens, 500 names, 1,000 rules and 10,000 states; a row has an action for each token and for the end mark,
-- and a goto for each name; states, rules and symbols are in range
pub record IsTables (t : Tables) : Type 0 where
  pub few_tokens : t.tokens ≤ TOKENS
  pub few_names : t.names ≤ NAMES
  pub few_rules : length t.rules ≤ RULES
  pub few_states : t.states ≤ MOST_STATES
  pub acts_size : length t.acts ≡ t.states * (t.tokens + 1)
  pub gotos_size : length t.gotos ≡ t.states * t.names
  pub rules : All (IsRuleOf t.tokens t.names) t.rules
  pub acts : All (IsActOf t.states (length t.rules)) t.acts
  pub gotos : All (IsGotoOf t.states) t.gotos

-- the tables have the grammar's rules and so many states; each action is an error, and there is no goto
pub record AreBlank (g : Grammar) (count : ℕ) (t : Tables) : Type 0 where
  pub tokens : t.tokens ≡ g.tokens
  pub names : t.names ≡ g.names
  pub states : t.states ≡ count
  pub rules : t.rules ≡ g.rules
  pub acts : (q a : ℕ) → act_in t q a ≡ Error
  pub gotos : (q n : ℕ) → goto_in t q n ≡ None
