-- What each task answers is one thing, and it is refuted that it is nothing.
use Rattle.std.proofs.Common.{◌≡◌, ◌≢◌, ℕ, List, [], ◌∷◌, length, refl, sym, ap, subst, ◌∙◌, arith}
use Rattle.std.proofs.lemmas.List.{length-map}
use Rattle.scanning_theory.proofs.ScanLemmas.{lines_once}
use Rattle.scanning_theory.proofs.SomeList.{some_list}
use Rattle.grammar_data.specs.declared.token.Token.{Token as TextToken}
use Rattle.grammar_theory.specs.Derivations.{IsSentence}
use Rattle.grammar_theory.specs.Trees.{ids_of}
use Rattle.scanning_theory.specs.Scan.{AreTokens}
use Rattle.sheet_data.specs.Sheet.{Sheet}
use Rattle.sheet_theory.specs.ScanOrder.{Ranked, scan_order, scanning_of}
use Rattle.sheet_theory.specs.TokenList.{token_list}
use Rattle.outline_theory.specs.Layout.{layout}
use Rattle.lr_base.specs.IsGrammar.{IsGrammar}
use Rattle.grammar_laws.proofs.RangeLemmas.{in_range}
use Rattle.grammar_faults.specs.Building.{IsBuildable}
use Rattle.grammar_faults.proofs.FaultLemmas.{buildable}
use Rattle.collection_laws.proofs.BuiltLemmas.{some_grammar}
use Rattle.report_theory.specs.TableTexts.{tables_text}
use Rattle.report_theory.proofs.SameTexts.{one_text}
use Rattle.run_theory.specs.SheetTokens.{CountsTokens}
use Rattle.run_theory.specs.RunAnswers.{Outcome, Given, Refused}
use Rattle.run_theory.specs.declared.emit.Emit.TheVariants.{Output}
use Rattle.run_theory.proofs.RunLemmas.{refused as run_refused_law}
use Rattle.tally_theory.specs.declared.asked.Asked.{Asked}
use Rattle.tally_theory.specs.declared.asked.Asked.TheVariants.{Text as text_asked, Report as report_asked}
use Rattle.tally_theory.specs.Asked.{CanBeAsked, IsAnswerTo}
use Rattle.tally_theory.proofs.AskedLemmas.{one_asked, some_asked}
use Rattle.tally_theory.proofs.ReportLemmas.{refused as report_refused_law}
use Rattle.sample_theory.specs.Samples.{Sample, Text, NoSample as no_sample, TooLong as too_long}
use Rattle.sample_theory.proofs.SampleLemmas.{one_sample_law, some_sample_law}
use Rattle.sample_theory.proofs.LineLemmas.{text_law}
use Rattle.answer_theory.specs.declared.status.Status.{Status}
use Rattle.answer_theory.specs.declared.status.Status.TheVariants.{Done, TextRefused, NoSample, TextTooLong}
use Rattle.answer_theory.specs.declared.task.Seed.{Seed}
use Rattle.answer_theory.specs.declared.task.Task.{Task}
use Rattle.answer_theory.specs.declared.task.Task.TheVariants.{Tokens, Check, Tables, Run, Gen, Load}
use Rattle.answer_theory.specs.Tasks.{looking, inputs_of, CanBeDone}
use Rattle.answer_theory.specs.Tasks.{long_text_text}
use Rattle.answer_theory.specs.Sheets.{Suits}
use Rattle.answer_theory.specs.SampleTexts.{IsSampleOf, HasNoSample, no_sample_text, without_word, too_many_bytes}
use Rattle.answer_theory.specs.Work.{IsListOf, IsTablesText, IsWork, tokens_listed, layout_printed, tables_printed, run_given, run_refused, sample_given, none_given, sample_loaded, none_loaded}
use Rattle.answer_theory.specs.Answers.{AreWithin, none_left, one_within}

list_once : (sheet : Sheet) (text listed other : List ℕ) → IsListOf sheet text listed → IsListOf sheet text other → listed ≡ other
list_once sheet text listed other one two = one.is ∙ ap (token_list sheet text) (lines_once (scanning_of sheet) text one.are two.tokens two.are) ∙ sym two.is

tables_once : (sheet : Sheet) (printed other : List ℕ) → IsTablesText sheet printed → IsTablesText sheet other → printed ≡ other
tables_once sheet printed other one two =
    one.is ∙ one_text sheet one.collection two.collection one.tables two.tables one.built.collection two.built.collection one.built.tables two.built.tables ∙ sym two.is

-- a seed gives one sample
sample_once : (sheet : Sheet) (seed : Seed) {one other : Sample} → IsSampleOf sheet seed one → IsSampleOf sheet seed other → one ≡ other
sample_once sheet seed {one} {other} is also = one_sample_law (scanning_of sheet) sheet.grammar seed.from seed.size one other is also

text_once : (sheet : Sheet) (seed : Seed) {text other : List ℕ} → IsSampleOf sheet seed (Text text) → IsSampleOf sheet seed (Text other) → text ≡ other
text_once sheet seed {text} {other} is also = let same : Text text ≡ Text other = sample_once sheet seed is also in cc

-- a text and none, or none for two reasons
no_text : (sheet : Sheet) (seed : Seed) {text said : List ℕ} {status : Status} → IsSampleOf sheet seed (Text text) → ¬ (HasNoSample sheet seed status said)
no_text sheet seed {text = text} is (without_word {token = token} none) = let same : Text text ≡ no_sample token = sample_once sheet seed is none in cc
no_text sheet seed {text = text} is (too_many_bytes long) = let same : Text text ≡ too_long = sample_once sheet seed is long in cc

none_once : (sheet : Sheet) (seed : Seed) {said other_said : List ℕ} {status other_status : Status} → HasNoSample sheet seed status said → HasNoSample sheet seed other_status other_said → (status ≡ other_status) × (said ≡ other_said)
none_once sheet seed (without_word {token = token} one) (without_word {token = other} two) =
    let same : no_sample token ≡ no_sample other = sample_once sheet seed one two in
    let tokens : token ≡ other = cc in
    (refl, ap (no_sample_text sheet) tokens)
none_once sheet seed (without_word {token = token} one) (too_many_bytes two) = let same : no_sample token ≡ too_long = sample_once sheet seed one two in absurd (cc)
none_once sheet seed (too_many_bytes one) (without_word {token = token} two) = let same : too_long ≡ no_sample token = sample_once sheet seed one two in absurd (cc)
none_once sheet seed (too_many_bytes one) (too_many_bytes two) = (refl, refl)

-- the bytes of two outcomes that are given, or that are refused
abbrev given_in : Outcome → List ℕ
given_in (Given out) = out
given_in (Refused said) = []

abbrev said_in : Outcome → List ℕ
said_in (Given out) = []
said_in (Refused said) = said

-- whether an outcome is given
abbrev status_in : Outcome → Status
status_in (Given out) = Done
status_in (Refused said) = TextRefused

module _ (sheet : Sheet) (grammar : IsGrammar sheet.grammar) where
  runs_once : (text : List ℕ) (asked : Asked) (outcome other : Outcome) → IsBuildable sheet.grammar → IsAnswerTo sheet text asked outcome → IsAnswerTo sheet text asked other → (status_in outcome ≡ status_in other) × (given_in outcome ≡ given_in other) × (said_in outcome ≡ said_in other)
  runs_once text asked outcome other is one two =
      let same : outcome ≡ other = one_asked sheet grammar is text asked outcome other one two in
      (ap status_in same, ap given_in same, ap said_in same)

  pub work_once : {task : Task} {inputs : List (List ℕ)} {status other_status : Status} {out other_out err other_err : List ℕ} → Suits (looking task) sheet → IsWork sheet task inputs status out err → IsWork sheet task inputs other_status other_out other_err → (status ≡ other_status) × (out ≡ other_out) × (err ≡ other_err)
  work_once suits (tokens_listed {text = text} {listed = listed} list) (tokens_listed {listed = other} other_list) = (refl, list_once sheet text listed other list other_list, refl)
  work_once suits (layout_printed is) (layout_printed other_is) = (refl, is ∙ sym other_is, refl)
  work_once suits (tables_printed {printed = printed} is) (tables_printed {printed = other} other_is) = (refl, tables_once sheet printed other is other_is, refl)
  work_once suits (run_given {text = text} {given = given} {asked = asked} one) (run_given {given = other} two) = runs_once text asked (Given given) (Given other) suits one two
  work_once suits (run_given {text = text} {given = given} {asked = asked} one) (run_refused {said = other} two) = runs_once text asked (Given given) (Refused other) suits one two
  work_once suits (run_refused {text = text} {said = said} {asked = asked} one) (run_given {given = other} two) = runs_once text asked (Refused said) (Given other) suits one two
  work_once suits (run_refused {text = text} {said = said} {asked = asked} one) (run_refused {said = other} two) = runs_once text asked (Refused said) (Refused other) suits one two
  work_once suits (sample_given {text = text} {seed = seed} is) (sample_given {text = other} also) = (refl, text_once sheet seed is also, refl)
  work_once suits (sample_given {seed = seed} is) (none_given none) = absurd (no_text sheet seed is none)
  work_once suits (none_given {seed = seed} none) (sample_given is) = absurd (no_text sheet seed is none)
  work_once suits (none_given {seed = seed} one) (none_given two) =
      let (statuses, said) = none_once sheet seed one two in
      (statuses, refl, said)
  work_once {other_status = other_status} {other_out = other_out} {other_err = other_err} suits (sample_loaded {text = text} {seed = seed} {asked = asked} is work) (sample_loaded {text = other} also other_work) =
      work_once suits work (subst (λ t. IsWork sheet (Run asked) (t ∷ []) other_status other_out other_err) (sym (text_once sheet seed is also)) other_work)
  work_once suits (sample_loaded {seed = seed} is work) (none_loaded none) = absurd (no_text sheet seed is none)
  work_once suits (none_loaded {seed = seed} none) (sample_loaded is work) = absurd (no_text sheet seed is none)
  work_once suits (none_loaded {seed = seed} one) (none_loaded two) =
      let (statuses, said) = none_once sheet seed one two in
      (statuses, refl, said)

-- each rank of a sheet has a meaning
ranks_have_meanings : (sheet : Sheet) → length (scanning_of sheet).patterns ≡ length (scanning_of sheet).means
ranks_have_meanings sheet =
    length-map (scan_order sheet) (λ (r : Ranked). r.0) ∙ sym (length-map (scan_order sheet) (λ (r : Ranked). r.1))

module _ (sheet : Sheet) (grammar : IsGrammar sheet.grammar) where
  -- no work is done
  abbrev HasNoWork : Task → List (List ℕ) → Type 0
  HasNoWork task inputs = (status : Status) (out err : List ℕ) → ¬ (IsWork sheet task inputs status out err)

  some_tokens : (text : List ℕ) → HasNoWork Tokens (text ∷ []) → ⊥
  some_tokens text none =
      some_list (scanning_of sheet) text (ranks_have_meanings sheet) (λ tokens are. none Done (token_list sheet text tokens) [] (tokens_listed (record { tokens = tokens; are = are; is = refl })))

  some_tables : IsBuildable sheet.grammar → HasNoWork Tables [] → ⊥
  some_tables is none =
      some_grammar sheet.grammar (in_range sheet.grammar grammar) (let few = grammar.few_tokens in omega (arith, few)) (λ fault kept of. kept (buildable sheet.grammar fault is of)) (λ c t buildable_too built. none Done (tables_text sheet c t) [] (tables_printed (record { collection = c; tables = t; built = built; is = refl })))

  some_run : (asked : Asked) → CanBeAsked asked → (text : List ℕ) → CountsTokens sheet → IsBuildable sheet.grammar → HasNoWork (Run asked) (text ∷ []) → ⊥
  some_run asked can text counts is none = some_asked sheet grammar is counts text asked can (no_outcome none)
    where
      no_outcome : HasNoWork (Run asked) (text ∷ []) → (outcome : Outcome) → ¬ (IsAnswerTo sheet text asked outcome)
      no_outcome none (Given out) answer = none Done out [] (run_given answer)
      no_outcome none (Refused said) answer = none TextRefused [] said (run_refused answer)

  some_sample : (seed : Seed) → IsBuildable sheet.grammar → ((sample : Sample) → ¬ (IsSampleOf sheet seed sample)) → ⊥
  some_sample seed is none = some_sample_law (scanning_of sheet) sheet.grammar seed.from seed.size (in_range sheet.grammar grammar) is.small.useful.productive none

  some_gen : (seed : Seed) → IsBuildable sheet.grammar → HasNoWork (Gen seed) [] → ⊥
  some_gen seed is none = some_sample seed is no_sample_of
    where
      no_sample_of : (sample : Sample) → ¬ (IsSampleOf sheet seed sample)
      no_sample_of (Text text) of = none Done text [] (sample_given of)
      no_sample_of (no_sample token) of = none NoSample [] (no_sample_text sheet token) (none_given (without_word of))
      no_sample_of too_long of = none TextTooLong [] long_text_text (none_given (too_many_bytes of))

  some_load : (seed : Seed) (asked : Asked) → CanBeAsked asked → CountsTokens sheet → IsBuildable sheet.grammar → HasNoWork (Load seed asked) [] → ⊥
  some_load seed asked can counts is none = some_sample seed is no_sample_of
    where
      no_sample_of : (sample : Sample) → ¬ (IsSampleOf sheet seed sample)
      no_sample_of (Text text) of = some_run asked can text counts is (λ status out err work. none status out err (sample_loaded of work))
      no_sample_of (no_sample token) of = none NoSample [] (no_sample_text sheet token) (none_loaded (without_word of))
      no_sample_of too_long of = none TextTooLong [] long_text_text (none_loaded (too_many_bytes of))

  -- it is refuted that no work is done
  pub some_work : CountsTokens sheet → (task : Task) {inputs : List (List ℕ)} → CanBeDone task → Suits (looking task) sheet → AreWithin (inputs_of task) inputs → HasNoWork task inputs → ⊥
  some_work counts Tokens can suits (one_within {bytes = text} short none_left) none = some_tokens text none
  some_work counts Check can suits none_left none = none Done (layout sheet) [] (layout_printed refl)
  some_work counts Tables can suits none_left none = some_tables suits none
  some_work counts (Run asked) can suits (one_within {bytes = text} short none_left) none = some_run asked can text counts suits none
  some_work counts (Gen seed) can suits none_left none = some_gen seed suits none
  some_work counts (Load seed asked) can suits none_left none = some_load seed asked can counts suits none

-- whatever is asked of a text, it is refused only where its tokens are no sentence
no_sentence : (sheet : Sheet) (text : List ℕ) (asked : Asked) (tokens : List TextToken) (said : List ℕ) → AreTokens (scanning_of sheet) text tokens → IsAnswerTo sheet text asked (Refused said) → ¬ (IsSentence sheet.grammar (ids_of tokens))
no_sentence sheet text (text_asked emit) tokens said are answer = run_refused_law sheet text emit tokens said are answer
no_sentence sheet text (report_asked cut) tokens said are answer = run_refused_law sheet text Output tokens said are ((report_refused_law sheet text cut Output said).0 answer)

-- what is asked of a sample text is not refused
sample_not_refused : (sheet : Sheet) (seed : Seed) (asked : Asked) (text out err : List ℕ) (status : Status) → IsSampleOf sheet seed (Text text) → IsWork sheet (Run asked) (text ∷ []) status out err → status ≢ TextRefused
sample_not_refused sheet seed asked text out err status is (run_given answer) e = cc
sample_not_refused sheet seed asked text out err status is (run_refused {said = said} answer) e =
    let (tokens, are, chosen, sentence) = text_law (scanning_of sheet) sheet.grammar seed.from seed.size text is in
    no_sentence sheet text asked tokens said are answer sentence

none_not_refused : {sheet : Sheet} {seed : Seed} {said : List ℕ} {status : Status} → HasNoSample sheet seed status said → status ≢ TextRefused
none_not_refused (without_word none) e = cc
none_not_refused (too_many_bytes long) e = cc

pub load_not_refused : (sheet : Sheet) (seed : Seed) (asked : Asked) {inputs : List (List ℕ)} {status : Status} {out err : List ℕ} → IsWork sheet (Load seed asked) inputs status out err → status ≢ TextRefused
load_not_refused sheet seed asked {status = status} {out = out} {err = err} (sample_loaded {text = text} is work) = sample_not_refused sheet seed asked text out err status is work
load_not_refused sheet seed asked (none_loaded none) = none_not_refused none
