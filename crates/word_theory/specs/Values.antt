-- What the value of an option says.
use Rattle.std.specs.Prelude.{◌≡◌, ℕ, ◌==◌, if◌then◌else◌, ◌<◌, ◌≤◌, true, List, [], ◌∷◌, length, map, All, Option, Some, None, codes}
use Rattle.std.specs.Char.{is_ascii_digit}
use Rattle.std.specs.List.{list_all}
use Rattle.std.specs.Str.Parse.{digits_value}
use Rattle.run_theory.specs.declared.emit.Emit.{Emit}
use Rattle.run_theory.specs.declared.emit.Emit.TheVariants.{Output, Names}
use Rattle.tally_theory.specs.declared.asked.Asked.{Asked}
use Rattle.tally_theory.specs.declared.asked.Asked.TheVariants.{Text, Report}
use Rattle.tally_theory.specs.declared.cut.Cut.{Cut}
use Rattle.tally_theory.specs.declared.cut.Cut.TheVariants.{Even, At}
use Rattle.tally_theory.specs.Cuts.{CanBeCut}
use Rattle.answer_theory.specs.declared.task.Seed.{Seed}
use Rattle.word_theory.specs.declared.limits.TheConstants.{NUMBER_DIGITS, SAMPLE_SIZE, USUAL_SEGMENTS, USUAL_WORKERS, WORKERS_LIMIT}

-- the word that asks for what is given of a text
abbrev pub emit_word : Emit → List ℕ
emit_word Output = codes "output"
emit_word Names = codes "names"

-- what is asked of a text that is cut so: the translation where nothing is said
abbrev pub IsAskedBy : Option (List ℕ) → Cut → Asked → Type 0
IsAskedBy None cut asked = asked ≡ Text Output
IsAskedBy (Some word) cut (Text emit) = word ≡ emit_word emit
IsAskedBy (Some word) cut (Report by) = (word ≡ codes "report") × (by ≡ cut)

-- one to nine decimal digits
pub record IsNumberWord (word : List ℕ) : Type 0 where
  pub some : 0 < length word
  pub few : length word ≤ NUMBER_DIGITS
  pub digits : list_all is_ascii_digit word ≡ true

-- a number is told
abbrev pub IsNumberBy : Option (List ℕ) → ℕ → Type 0
IsNumberBy None n = ⊥
IsNumberBy (Some word) n = IsNumberWord word × (n ≡ digits_value 10 word)

-- this many workers can be told
abbrev pub CanWork : ℕ → Type 0
CanWork workers = (1 ≤ workers) × (workers ≤ WORKERS_LIMIT)

-- how many workers parse a text: 4 where nothing is said
abbrev pub IsWorkersBy : Option (List ℕ) → ℕ → Type 0
IsWorkersBy None workers = workers ≡ USUAL_WORKERS
IsWorkersBy (Some word) workers = IsNumberBy (Some word) workers × CanWork workers

-- the seed of a sample text, by the values of its two options
pub record IsSeedBy (from size : Option (List ℕ)) (seed : Seed) : Type 0 where
  pub from_told : IsNumberBy from seed.from
  pub size_told : IsNumberBy size seed.size
  pub some : 0 < seed.size
  pub few : seed.size ≤ SAMPLE_SIZE

-- a byte is put before the first of some words
abbrev pub onto_first : ℕ → List (List ℕ) → List (List ℕ)
onto_first byte [] = (byte ∷ []) ∷ []
onto_first byte (word ∷ words) = (byte ∷ word) ∷ words

-- the words between the commas of a word, before the first and behind the last
abbrev pub between_commas : List ℕ → List (List ℕ)
between_commas [] = [] ∷ []
between_commas (byte ∷ bytes) = if byte == 44 then [] ∷ between_commas bytes else onto_first byte (between_commas bytes)

-- lines at which segments begin: numbers with commas between, and nothing else
abbrev pub IsLinesWord : List ℕ → Type 0
IsLinesWord word = All IsNumberWord (between_commas word)

abbrev pub lines_in : List ℕ → List ℕ
lines_in word = map (digits_value 10) (between_commas word)

-- how a text is cut, by the values of two options: into 16 segments where nothing is said, into so many, or at lines; not in
-- both ways
abbrev pub IsCutBy : Option (List ℕ) → Option (List ℕ) → Cut → Type 0
IsCutBy None None cut = cut ≡ Even USUAL_SEGMENTS
IsCutBy (Some word) None cut = IsNumberWord word × (cut ≡ Even (digits_value 10 word)) × CanBeCut cut
IsCutBy None (Some word) cut = IsLinesWord word × (cut ≡ At (lines_in word)) × CanBeCut cut
IsCutBy (Some count) (Some word) cut = ⊥
