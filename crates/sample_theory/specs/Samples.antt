-- The sample text of a sheet, by a number and a size: the chosen tokens, each by its shortest word on a line of its own.
-- There is none where a token has no word, or where the text is too long; the first of these that is met decides.
use Rattle.std.specs.Prelude.{◌≡◌, ◌≢◌, ℕ, ◌<◌, ◌≤◌, List, [], ◌∷◌, ◌++◌, length, slice_get, Some}
use Rattle.std.specs.List.{flat_map}
use Rattle.grammar_data.specs.declared.token.Token.{Token as TextToken}
use Rattle.grammar_data.specs.Grammar.{Grammar}
use Rattle.grammar_theory.specs.Derivations.{IsSentence}
use Rattle.grammar_theory.specs.Rules.{IsInRange}
use Rattle.grammar_theory.specs.Trees.{ids_of}
use Rattle.grammar_theory.specs.UsefulNames.{AllProductive}
use Rattle.lr_base.specs.declared.limits.TheConstants.{TEXT_BYTES}
use Rattle.pattern_data.specs.declared.pattern.Meaning.{Meaning}
use Rattle.pattern_data.specs.declared.pattern.Meaning.TheVariants.{Token as token_meaning}
use Rattle.scanning_theory.specs.Lines.{line_feed}
use Rattle.scanning_theory.specs.Scan.{Scanning, AreTokens}
use Rattle.sample_theory.specs.Choices.{AreChosenTokens}
use Rattle.sample_theory.specs.ShortestWords.{HasNoWord, IsShortestWord}

-- the rank of a token is the first that means it
pub record IsRankOf (means : List Meaning) (a rank : ℕ) : Type 0 where
  pub means_it : slice_get means rank ≡ Some (token_meaning a)
  pub first : (other : ℕ) → other < rank → slice_get means other ≢ Some (token_meaning a)

-- the shortest word of a token
pub record IsWordFor (scanning : Scanning) (a : ℕ) (word : List ℕ) : Type 0 where
  pub rank : ℕ
  pub ranked : IsRankOf scanning.means a rank
  pub shortest : IsShortestWord scanning.patterns rank word

-- the token has no word
abbrev pub HasNoWordFor : Scanning → ℕ → Type 0
HasNoWordFor scanning a = (rank : ℕ) → IsRankOf scanning.means a rank → HasNoWord scanning.patterns rank

-- the shortest words of tokens
pub data AreWordsFor (scanning : Scanning) : List ℕ → List (List ℕ) → Type 0 where
  no_token : AreWordsFor scanning [] []
  word_first : {a : ℕ} {word : List ℕ} {tokens : List ℕ} {words : List (List ℕ)} → IsWordFor scanning a word → AreWordsFor scanning tokens words → AreWordsFor scanning (a ∷ tokens) (word ∷ words)

-- words, each on a line of its own
abbrev pub lines_of : List (List ℕ) → List ℕ
lines_of words = flat_map (λ word. word ++ line_feed ∷ []) words

-- what is answered for a number and a size
pub data Sample : Type 0 where
  Text : List ℕ → Sample
  NoSample : ℕ → Sample
  TooLong : Sample

-- all chosen tokens have words, and the text of these is within the limit
pub record IsText (scanning : Scanning) (g : Grammar) (from size : ℕ) (text : List ℕ) : Type 0 where
  pub tokens : List ℕ
  pub chosen : AreChosenTokens g from size tokens
  pub words : List (List ℕ)
  pub are : AreWordsFor scanning tokens words
  pub is : text ≡ lines_of words
  pub fits : length text ≤ TEXT_BYTES

-- this chosen token has no word; those before it have, and their text is within the limit
pub record IsWithoutWord (scanning : Scanning) (g : Grammar) (from size a : ℕ) : Type 0 where
  pub before : List ℕ
  pub after : List ℕ
  pub chosen : AreChosenTokens g from size (before ++ a ∷ after)
  pub words : List (List ℕ)
  pub are : AreWordsFor scanning before words
  pub fits : length (lines_of words) ≤ TEXT_BYTES
  pub none : HasNoWordFor scanning a

-- the first of the chosen tokens have words whose text passes the limit
pub record IsTooLong (scanning : Scanning) (g : Grammar) (from size : ℕ) : Type 0 where
  pub before : List ℕ
  pub after : List ℕ
  pub chosen : AreChosenTokens g from size (before ++ after)
  pub words : List (List ℕ)
  pub are : AreWordsFor scanning before words
  pub long : TEXT_BYTES < length (lines_of words)

abbrev pub IsSample : Scanning → Grammar → ℕ → ℕ → Sample → Type 0
IsSample scanning g from size (Text text) = IsText scanning g from size text
IsSample scanning g from size (NoSample a) = IsWithoutWord scanning g from size a
IsSample scanning g from size TooLong = IsTooLong scanning g from size

-- there is one answer at most
abbrev pub OneSampleLaw : Type 0
OneSampleLaw = (scanning : Scanning) (g : Grammar) (from size : ℕ) (one other : Sample) → IsSample scanning g from size one → IsSample scanning g from size other → one ≡ other

-- it is refuted that there is none where all names are productive
abbrev pub SomeSampleLaw : Type 0
SomeSampleLaw = (scanning : Scanning) (g : Grammar) (from size : ℕ) → IsInRange g → AllProductive g → ((s : Sample) → ¬ (IsSample scanning g from size s)) → ⊥

-- the tokens of a text of words are the tokens of these words
abbrev pub TokensLaw : Type 0
TokensLaw = (scanning : Scanning) (tokens : List ℕ) (words : List (List ℕ)) → AreWordsFor scanning tokens words → (text_tokens : List TextToken) × AreTokens scanning (lines_of words) text_tokens × (ids_of text_tokens ≡ tokens)

-- the tokens of a sample text are the chosen ones, and a sentence
abbrev pub TextLaw : Type 0
TextLaw = (scanning : Scanning) (g : Grammar) (from size : ℕ) (text : List ℕ) → IsText scanning g from size text → (tokens : List TextToken) × AreTokens scanning text tokens × AreChosenTokens g from size (ids_of tokens) × IsSentence g (ids_of tokens)
