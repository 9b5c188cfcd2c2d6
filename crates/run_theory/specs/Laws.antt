-- Laws of runs: a text has one answer at most, and not none; it is refused exactly where its tokens are no sentence.
use Rattle.std.specs.Prelude.{◌≡◌, ℕ, List}
use Rattle.grammar_data.specs.declared.token.Token.{Token as TextToken}
use Rattle.grammar_theory.specs.Derivations.{IsSentence}
use Rattle.grammar_theory.specs.Trees.{Tree, ids_of}
use Rattle.lr_base.specs.IsGrammar.{IsGrammar}
use Rattle.scanning_theory.specs.Scan.{AreTokens}
use Rattle.sheet_data.specs.Sheet.{Sheet}
use Rattle.sheet_theory.specs.ScanOrder.{scanning_of}
use Rattle.table_data.specs.Tables.{Tables}
use Rattle.grammar_faults.specs.Building.{IsBuildable}
use Rattle.lawful_theory.specs.Lawful.{IsLawfulFor}
use Rattle.run_theory.specs.declared.emit.Emit.{Emit}
use Rattle.run_theory.specs.SheetTokens.{CountsTokens}
use Rattle.run_theory.specs.RunAnswers.{Outcome, Given, Refused, IsTreeOf, IsRunAnswer}

-- by lawful tables a text has one tree at most
abbrev pub OneTreeLaw : Type 0
OneTreeLaw = (sheet : Sheet) (t : Tables) → IsLawfulFor sheet.grammar t → (text : List ℕ) (tree other : Tree) → IsTreeOf sheet text tree → IsTreeOf sheet text other → tree ≡ other

-- and one answer at most
abbrev pub OneRunLaw : Type 0
OneRunLaw = (sheet : Sheet) (t : Tables) → IsLawfulFor sheet.grammar t → (text : List ℕ) (emit : Emit) (outcome other : Outcome) → IsRunAnswer sheet text emit outcome → IsRunAnswer sheet text emit other → outcome ≡ other

-- and it is refuted that it has none
abbrev pub SomeRunLaw : Type 0
SomeRunLaw = (sheet : Sheet) (t : Tables) → IsLawfulFor sheet.grammar t → CountsTokens sheet → (text : List ℕ) (emit : Emit) → ((outcome : Outcome) → ¬ (IsRunAnswer sheet text emit outcome)) → ⊥

-- the same of a sheet whose grammar has tables, which need not be given
abbrev pub OneAnswerLaw : Type 0
OneAnswerLaw = (sheet : Sheet) → IsGrammar sheet.grammar → IsBuildable sheet.grammar → (text : List ℕ) (emit : Emit) (outcome other : Outcome) → IsRunAnswer sheet text emit outcome → IsRunAnswer sheet text emit other → outcome ≡ other

abbrev pub SomeAnswerLaw : Type 0
SomeAnswerLaw = (sheet : Sheet) → IsGrammar sheet.grammar → IsBuildable sheet.grammar → CountsTokens sheet → (text : List ℕ) (emit : Emit) → ((outcome : Outcome) → ¬ (IsRunAnswer sheet text emit outcome)) → ⊥

-- what is given is given of a sentence, and what is refused is none
abbrev pub GivenLaw : Type 0
GivenLaw = (sheet : Sheet) (text : List ℕ) (emit : Emit) (tokens : List TextToken) (out : List ℕ) → AreTokens (scanning_of sheet) text tokens → IsRunAnswer sheet text emit (Given out) → IsSentence sheet.grammar (ids_of tokens)

abbrev pub RefusedLaw : Type 0
RefusedLaw = (sheet : Sheet) (text : List ℕ) (emit : Emit) (tokens : List TextToken) (said : List ℕ) → AreTokens (scanning_of sheet) text tokens → IsRunAnswer sheet text emit (Refused said) → ¬ (IsSentence sheet.grammar (ids_of tokens))
