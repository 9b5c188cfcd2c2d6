-- What a run over a text answers: for a sentence, what is due of its tree; for any other text, the diagnostic of its first
-- wrong token. Nothing else is read than the sheet, the text, and what is asked for.
use Rattle.std.specs.Prelude.{◌≡◌, ℕ, List}
use Rattle.grammar_data.specs.declared.rule.Sym.TheVariants.{Name}
use Rattle.grammar_data.specs.declared.token.Token.{Token as TextToken}
use Rattle.grammar_theory.specs.Trees.{Tree, IsTree, yield}
use Rattle.scanning_theory.specs.Scan.{AreTokens}
use Rattle.sheet_data.specs.Sheet.{Sheet}
use Rattle.sheet_theory.specs.ScanOrder.{scanning_of}
use Rattle.translation_theory.specs.DeclaredNames.{names_text}
use Rattle.translation_theory.specs.Translations.{translation_of}
use Rattle.translation_theory.specs.Diagnostics.{IsDiagnostic}
use Rattle.run_theory.specs.declared.emit.Emit.{Emit}
use Rattle.run_theory.specs.declared.emit.Emit.TheVariants.{Output, Names}

-- how a run may come out: bytes are given, or a text is refused and this is said of it
pub data Outcome : Type 0 where
  Given : List ℕ → Outcome
  Refused : List ℕ → Outcome

-- the tree is one of the text: its root has a rule of the start, and its yield is the text's tokens, each at its place
pub record IsTreeOf (sheet : Sheet) (text : List ℕ) (tree : Tree) : Type 0 where
  pub of_start : IsTree sheet.grammar.rules (Name sheet.grammar.start) tree
  pub tokens : AreTokens (scanning_of sheet) text (yield tree)

-- what is due of a tree: its translation, or its printed names
abbrev pub due_of : Emit → Sheet → List ℕ → Tree → List ℕ
due_of Output sheet text tree = translation_of sheet text tree
due_of Names sheet text tree = names_text sheet text tree

pub data IsRunAnswer (sheet : Sheet) (text : List ℕ) (emit : Emit) : Outcome → Type 0 where
  tree_given : {tree : Tree} {out : List ℕ} → IsTreeOf sheet text tree → out ≡ due_of emit sheet text tree → IsRunAnswer sheet text emit (Given out)
  text_refused : {tokens : List TextToken} {said : List ℕ} → AreTokens (scanning_of sheet) text tokens → IsDiagnostic sheet text tokens said → IsRunAnswer sheet text emit (Refused said)
