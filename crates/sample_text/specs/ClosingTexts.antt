-- The lines of the tokens that closing rules choose.
use Rattle.std.specs.Prelude.{◌≡◌, ℕ, ◌<◌, List, [], ◌∷◌, ◌++◌, length, reverse, slice_index_or, Option, Some, None}
use Rattle.std.specs.Global.{Vec}
use Rattle.grammar_data.specs.declared.rule.Sym.{Sym}
use Rattle.grammar_data.specs.declared.rule.Sym.TheVariants.{Token, Name}
use Rattle.grammar_data.specs.Grammar.{Grammar}
use Rattle.lr_base.specs.declared.limits.TheConstants.{TEXT_BYTES}
use Rattle.scanning_theory.specs.Scan.{Scanning}
use Rattle.sample_theory.specs.Choices.{AreChosen}
use Rattle.sample_theory.specs.ClosingRules.{IsClosingRule}
use Rattle.sample_theory.specs.Samples.{AreWordsFor, lines_of}
use Rattle.sample_text.specs.declared.fault.SampleFault.{SampleFault}
use Rattle.sample_text.specs.declared.fault.SampleFault.TheVariants.{NoSample, TooLong, NoMemory}
use Rattle.sample_text.specs.Wording.{IsLineFor}

-- the lines that were found are those of their tokens
abbrev pub AreLinesOf : Scanning → List (Option (Vec ℕ)) → Type 0
AreLinesOf scanning found = (a : ℕ) (line : Vec ℕ) → slice_index_or found a None ≡ Some line → IsLineFor scanning a line.items

-- the tokens that closing rules choose for symbols: those that are chosen where no choice is drawn
abbrev pub AreClosingTokens : Grammar → List Sym → List ℕ → Type 0
AreClosingTokens g xs w = AreChosen g 0 0 0 xs w

-- the lines of the name's closing tokens
pub record IsClosingText (scanning : Scanning) (g : Grammar) (n : ℕ) (text : List ℕ) : Type 0 where
  pub tokens : List ℕ
  pub chosen : AreClosingTokens g (Name n ∷ []) tokens
  pub words : List (List ℕ)
  pub are : AreWordsFor scanning tokens words
  pub is : text ≡ lines_of words

-- what is kept for names are the lines of their closing tokens
abbrev pub HaveClosingTexts : Scanning → Grammar → List (Option (Vec ℕ)) → Type 0
HaveClosingTexts scanning g texts = (n : ℕ) (text : Vec ℕ) → slice_index_or texts n None ≡ Some text → IsClosingText scanning g n text.items

-- the line of a token stands behind the text, or the right side of a name's closing rule before the symbols that are left, which are
-- told from the last one to the first
pub data IsSymbolClosedOn (g : Grammar) (found : List (Option (Vec ℕ))) (x : Sym) (todo : List Sym) (text : List ℕ) (todo_new : List Sym) (text_new : List ℕ) : Type 0 where
  by_line : {a : ℕ} {line : Vec ℕ} → x ≡ Token a → slice_index_or found a None ≡ Some line → text_new ≡ text ++ line.items → todo_new ≡ todo → IsSymbolClosedOn g found x todo text todo_new text_new
  by_side : {n rule : ℕ} {right : List Sym} → x ≡ Name n → IsClosingRule g n rule right → text_new ≡ text → todo_new ≡ todo ++ reverse right → IsSymbolClosedOn g found x todo text todo_new text_new

-- the lines that are kept of the name stand behind the text, or the right side of its closing rule before the symbols that are left
pub data IsClosedOn (g : Grammar) (texts : List (Option (Vec ℕ))) (n : ℕ) (todo : List Sym) (text : List ℕ) (todo_new : List Sym) (text_new : List ℕ) : Type 0 where
  by_text : {lines : Vec ℕ} → slice_index_or texts n None ≡ Some lines → text_new ≡ text ++ lines.items → todo_new ≡ todo → IsClosedOn g texts n todo text todo_new text_new
  by_rule : {rule : ℕ} {right : List Sym} → IsClosingRule g n rule right → text_new ≡ text → todo_new ≡ todo ++ reverse right → IsClosedOn g texts n todo text todo_new text_new

-- the text passes its limit with the lines that are kept of the name; no token is named
abbrev pub IsPast : List (Option (Vec ℕ)) → ℕ → List ℕ → SampleFault → Type 0
IsPast texts n text (NoSample a) = ⊥
IsPast texts n text TooLong = (lines : Vec ℕ) × (slice_index_or texts n None ≡ Some lines) × (TEXT_BYTES < length (text ++ lines.items))
IsPast texts n text NoMemory = Unit {0}
