-- Words in a plain form: a command's word, and the names of what it reads, none of which begins with `-`. What the crate that
-- reads words makes of any others is its own function; these ask for what they say.
use Rattle.std.specs.Prelude.{◌≢◌, ℕ, List, [], ◌∷◌, codes}
use Rattle.run_theory.specs.declared.emit.Emit.TheVariants.{Output}
use Rattle.tally_theory.specs.declared.asked.Asked.TheVariants.{Text}
use Rattle.answer_theory.specs.declared.task.Task.{Task}
use Rattle.answer_theory.specs.declared.task.Task.TheVariants.{Tokens, Check, Tables, Run}
use Rattle.word_theory.specs.Words.{HasForm}

-- a name that doesn't begin with `-`
abbrev pub IsName : List ℕ → Type 0
IsName word = (rest : List ℕ) → word ≢ 45 ∷ rest

pub data IsPlainForm : List (List ℕ) → Task → List (List ℕ) → Type 0 where
  plain_tokens : {sheet text : List ℕ} → IsName sheet → IsName text → IsPlainForm (codes "tokens" ∷ sheet ∷ text ∷ []) Tokens (sheet ∷ text ∷ [])
  plain_check : {sheet : List ℕ} → IsName sheet → IsPlainForm (codes "check" ∷ sheet ∷ []) Check (sheet ∷ [])
  plain_tables : {sheet : List ℕ} → IsName sheet → IsPlainForm (codes "tables" ∷ sheet ∷ []) Tables (sheet ∷ [])
  plain_run : {sheet text : List ℕ} → IsName sheet → IsName text → IsPlainForm (codes "run" ∷ sheet ∷ text ∷ []) (Run (Text Output)) (sheet ∷ text ∷ [])

-- such words are of the form that they show
abbrev pub PlainFormLaw : Type 0
PlainFormLaw = (words names : List (List ℕ)) (task : Task) → IsPlainForm words task names → HasForm words task names
