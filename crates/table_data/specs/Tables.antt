-- What contracts see of LR tables: an action for each state and each token or the end mark, and for each state and each
-- name the state to go to, if any.
-- Source: Knuth, On the Translation of Languages from Left to Right, 1965; Aho and Ullman, The Theory of Parsing,
-- Translation, and Compiling, volume 1, section 5.2.
use Rattle.std.specs.Prelude.{ℕ, ◌+◌, ◌*◌, ◌<◌, nat_lt, if◌then◌else◌, List, slice_index_or, Option, Some, None}
use Rattle.grammar_data.specs.declared.rule.Sym.{Sym}
use Rattle.grammar_data.specs.declared.rule.Sym.TheVariants.{Token, Name}
use Rattle.grammar_data.specs.Grammar.{Rule}
use Rattle.table_data.specs.declared.act.Act.{Act}
use Rattle.table_data.specs.declared.act.Act.TheVariants.{Shift, Reduce, Accept, Error}

-- how many tokens, names and states there are; the rules; the actions, one state's after the other's, each with those
-- on the tokens and then the one on the end mark; and the gotos, one state's after the other's, each along the names
pub record Tables : Type 0 where
  pub tokens : ℕ
  pub names : ℕ
  pub states : ℕ
  pub rules : List Rule
  pub acts : List Act
  pub gotos : List (Option ℕ)

-- the action of a state on a token or the end mark; on the bad byte, and on what is no token, it is an error
abbrev pub act_in : Tables → ℕ → ℕ → Act
act_in t q a = (if nat_lt t.tokens a then Error else slice_index_or t.acts (q * (t.tokens + 1) + a) Error)

-- the state that a state goes to along a name, if there is one; there is none along what is no name
abbrev pub goto_in : Tables → ℕ → ℕ → Option ℕ
goto_in t q n = (if nat_lt n t.names then slice_index_or t.gotos (q * t.names + n) None else None)

-- the state that an action shifts to, if it shifts
abbrev pub shift_of : Act → Option ℕ
shift_of (Shift p) = Some p
shift_of (Reduce r) = None
shift_of Accept = None
shift_of Error = None

-- the state that tables lead to from a state along a symbol, if any: by a shift of a token, by the goto of a name
abbrev pub step_by : Tables → ℕ → Sym → Option ℕ
step_by t q (Token a) = shift_of (act_in t q a)
step_by t q (Name n) = goto_in t q n

-- the state that an action shifts to is one of so many, and the rule that it reduces by too
abbrev pub IsActOf : ℕ → ℕ → Act → Type 0
IsActOf states rules (Shift p) = p < states
IsActOf states rules (Reduce r) = r < rules
IsActOf states rules Accept = Unit {0}
IsActOf states rules Error = Unit {0}

-- the state to go to, if any, is one of so many
abbrev pub IsGotoOf : ℕ → Option ℕ → Type 0
IsGotoOf states None = Unit {0}
IsGotoOf states (Some p) = p < states
