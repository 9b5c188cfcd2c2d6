-- Each command takes words in a plain form, and they tell the names of what it reads.
use Rattle.std.proofs.Common.{◌≡◌, ℕ, ◌==◌, true, false, Bool, List, [], ◌∷◌, Option, Some, None, refl, ap, sym, subst}
use Rattle.std.proofs.lemmas.Bool.{eqb-true}
use Rattle.std.specs.Str.{bytes_eq}
use Rattle.clap.specs.Lexer.{strip_byte}
use Rattle.clap.specs.Walk.{walked}
use Rattle.clap.specs.Faults.{defaults_fault, walk_fault}
use Rattle.tally_theory.specs.declared.cut.Cut.TheVariants.{Even}
use Rattle.answer_theory.specs.declared.task.Task.{Task}
use Rattle.word_theory.specs.declared.limits.TheConstants.{USUAL_SEGMENTS, USUAL_WORKERS}
use Rattle.word_theory.specs.declared.command_name.CommandName.{CommandName}
use Rattle.word_theory.specs.declared.command_name.CommandName.TheVariants.{Tokens, Check, Tables, Run}
use Rattle.word_theory.specs.Arguments.{word_of, faults_in, told_in, IsTaken, Told}
use Rattle.word_theory.specs.Words.{AsksFor, asks_tokens, asks_check, asks_tables, asks_run, HasForm}
use Rattle.word_laws.specs.PlainForms.{IsName, plain_tokens, plain_check, plain_tables, plain_run, PlainFormLaw}

-- the first byte of a name is no dash
no_dash : (x : ℕ) (xs : List ℕ) → IsName (x ∷ xs) → (x == 45) ≡ false
no_dash x xs name = decide (x == 45) refl
  where
    decide : (b : Bool) → (x == 45) ≡ b → (x == 45) ≡ false
    decide true e = absurd (name xs (ap (λ n. n ∷ xs) (eqb-true x 45 e)))
    decide false e = e

-- so a name has nothing behind a dash, and is no end of options
no_option : (word : List ℕ) → IsName word → strip_byte 45 word ≡ None
no_option [] name = refl
no_option (x ∷ xs) name = rw (no_dash x xs name) refl

no_end : (word : List ℕ) → IsName word → bytes_eq word (45 ∷ 45 ∷ []) ≡ false
no_end [] name = refl
no_end (x ∷ xs) name = rw (no_dash x xs name) refl

-- what names tell, where no option is told
abbrev told_by : Option (List ℕ) → Option (List ℕ) → Told
told_by sheet text = record { sheet = sheet; text = text; emit = None; workers = None; cut = None; at = None; from = None; size = None }

-- a command takes these words, and they tell this
record IsRead (name : CommandName) (words : List (List ℕ)) (told : Told) : Type 0 where
  taken : IsTaken name words
  tells : told_in name words ≡ told

-- so the command asks for a task by what they tell
formed : (name : CommandName) (words names : List (List ℕ)) (told : Told) (task : Task) → IsRead name words told → AsksFor told name task names → HasForm (word_of name ∷ words) task names
formed name words names told task read asks = record {
  command = name;
  rest = words;
  are = refl;
  taken = read.taken;
  ask = subst (λ t. AsksFor t name task names) (sym read.tells) asks;
}

check_read : (sheet : List ℕ) → IsName sheet → IsRead Check (sheet ∷ []) (told_by (Some sheet) None)
unfolding faults_in told_in walked walk_fault defaults_fault
check_read sheet s_name =
    let s_no : strip_byte 45 sheet ≡ None = no_option sheet s_name in
    let s_end : bytes_eq sheet (45 ∷ 45 ∷ []) ≡ false = no_end sheet s_name in
    record { taken = simp (s_no, s_end); tells = simp (s_no, s_end) }

tables_read : (sheet : List ℕ) → IsName sheet → IsRead Tables (sheet ∷ []) (told_by (Some sheet) None)
unfolding faults_in told_in walked walk_fault defaults_fault
tables_read sheet s_name =
    let s_no : strip_byte 45 sheet ≡ None = no_option sheet s_name in
    let s_end : bytes_eq sheet (45 ∷ 45 ∷ []) ≡ false = no_end sheet s_name in
    record { taken = simp (s_no, s_end); tells = simp (s_no, s_end) }

tokens_read : (sheet text : List ℕ) → IsName sheet → IsName text → IsRead Tokens (sheet ∷ text ∷ []) (told_by (Some sheet) (Some text))
unfolding faults_in told_in walked walk_fault defaults_fault
tokens_read sheet text s_name t_name =
    let s_no : strip_byte 45 sheet ≡ None = no_option sheet s_name in
    let s_end : bytes_eq sheet (45 ∷ 45 ∷ []) ≡ false = no_end sheet s_name in
    let t_no : strip_byte 45 text ≡ None = no_option text t_name in
    let t_end : bytes_eq text (45 ∷ 45 ∷ []) ≡ false = no_end text t_name in
    record { taken = simp (s_no, s_end, t_no, t_end); tells = simp (s_no, s_end, t_no, t_end) }

run_read : (sheet text : List ℕ) → IsName sheet → IsName text → IsRead Run (sheet ∷ text ∷ []) (told_by (Some sheet) (Some text))
unfolding faults_in told_in walked walk_fault defaults_fault
run_read sheet text s_name t_name =
    let s_no : strip_byte 45 sheet ≡ None = no_option sheet s_name in
    let s_end : bytes_eq sheet (45 ∷ 45 ∷ []) ≡ false = no_end sheet s_name in
    let t_no : strip_byte 45 text ≡ None = no_option text t_name in
    let t_end : bytes_eq text (45 ∷ 45 ∷ []) ≡ false = no_end text t_name in
    record { taken = simp (s_no, s_end, t_no, t_end); tells = simp (s_no, s_end, t_no, t_end) }

-- so each plain form is a form
pub plain_form : PlainFormLaw
plain_form words names task (plain_tokens {sheet = sheet} {text = text} s_name t_name) = formed Tokens _ _ _ _ (tokens_read sheet text s_name t_name) (asks_tokens refl refl)
plain_form words names task (plain_check {sheet = sheet} s_name) = formed Check _ _ _ _ (check_read sheet s_name) (asks_check refl)
plain_form words names task (plain_tables {sheet = sheet} s_name) = formed Tables _ _ _ _ (tables_read sheet s_name) (asks_tables refl)
plain_form words names task (plain_run {sheet = sheet} {text = text} s_name t_name) = formed Run _ _ _ _ (run_read sheet text s_name t_name) (asks_run refl refl (record { cut = Even USUAL_SEGMENTS; workers = USUAL_WORKERS; parsed_told = record { cut_told = refl; workers_told = refl }; asked_told = refl }))
