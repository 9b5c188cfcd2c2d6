-- What a task answers where its sheet is accepted and no input is too long: one case a task.
use Rattle.std.specs.Prelude.{◌≡◌, ℕ, List, [], ◌∷◌}
use Rattle.grammar_data.specs.declared.token.Token.{Token}
use Rattle.scanning_theory.specs.Scan.{AreTokens}
use Rattle.sheet_data.specs.Sheet.{Sheet}
use Rattle.sheet_theory.specs.ScanOrder.{scanning_of}
use Rattle.sheet_theory.specs.TokenList.{token_list}
use Rattle.outline_theory.specs.Layout.{layout}
use Rattle.collection_data.specs.Collection.{CollectionParts}
use Rattle.table_data.specs.Tables.{Tables as TableParts}
use Rattle.grammar_faults.specs.Building.{AreBuiltOf}
use Rattle.report_theory.specs.TableTexts.{tables_text}
use Rattle.sample_theory.specs.Samples.{Text}
use Rattle.run_theory.specs.RunAnswers.{Given, Refused}
use Rattle.tally_theory.specs.declared.asked.Asked.{Asked}
use Rattle.tally_theory.specs.Asked.{IsAnswerTo}
use Rattle.answer_theory.specs.declared.status.Status.{Status}
use Rattle.answer_theory.specs.declared.status.Status.TheVariants.{Done, TextRefused}
use Rattle.answer_theory.specs.declared.task.Seed.{Seed}
use Rattle.answer_theory.specs.declared.task.Task.{Task}
use Rattle.answer_theory.specs.declared.task.Task.TheVariants.{Tokens, Check, Tables, Run, Gen, Load}
use Rattle.answer_theory.specs.SampleTexts.{IsSampleOf, HasNoSample}

-- the list of the text's tokens
pub record IsListOf (sheet : Sheet) (text listed : List ℕ) : Type 0 where
  pub tokens : List Token
  pub are : AreTokens (scanning_of sheet) text tokens
  pub is : listed ≡ token_list sheet text tokens

-- the text of the canonical collection and tables of the sheet's grammar
pub record IsTablesText (sheet : Sheet) (printed : List ℕ) : Type 0 where
  pub collection : CollectionParts
  pub tables : TableParts
  pub built : AreBuiltOf sheet.grammar collection tables
  pub is : printed ≡ tables_text sheet collection tables

-- the status, and what is due to the output and to the error output
pub data IsWork (sheet : Sheet) : Task → List (List ℕ) → Status → List ℕ → List ℕ → Type 0 where
  tokens_listed : {text listed : List ℕ} → IsListOf sheet text listed → IsWork sheet Tokens (text ∷ []) Done listed []
  layout_printed : {printed : List ℕ} → printed ≡ layout sheet → IsWork sheet Check [] Done printed []
  tables_printed : {printed : List ℕ} → IsTablesText sheet printed → IsWork sheet Tables [] Done printed []
  run_given : {text given : List ℕ} {asked : Asked} → IsAnswerTo sheet text asked (Given given) → IsWork sheet (Run asked) (text ∷ []) Done given []
  run_refused : {text said : List ℕ} {asked : Asked} → IsAnswerTo sheet text asked (Refused said) → IsWork sheet (Run asked) (text ∷ []) TextRefused [] said
  sample_given : {text : List ℕ} {seed : Seed} → IsSampleOf sheet seed (Text text) → IsWork sheet (Gen seed) [] Done text []
  none_given : {said : List ℕ} {status : Status} {seed : Seed} → HasNoSample sheet seed status said → IsWork sheet (Gen seed) [] status [] said
  -- the sample is run as a text that was read
  sample_loaded : {text out err : List ℕ} {status : Status} {seed : Seed} {asked : Asked} → IsSampleOf sheet seed (Text text) → IsWork sheet (Run asked) (text ∷ []) status out err → IsWork sheet (Load seed asked) [] status out err
  none_loaded : {said : List ℕ} {status : Status} {seed : Seed} {asked : Asked} → HasNoSample sheet seed status said → IsWork sheet (Load seed asked) [] status [] said
