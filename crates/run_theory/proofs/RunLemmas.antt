-- A text has one answer, and is refused exactly where its tokens are no sentence.
use Rattle.std.proofs.Common.{◌≡◌, ◌≢◌, ℕ, List, Bool, true, false, refl, sym, ap, subst, ◌∙◌, ⊎_elim, arith}
use Rattle.std.specs.Prelude.{All}
use Rattle.std.specs.Str.{bytes_eq}
use Rattle.std.proofs.lemmas.Bool.{false≢true}
use Rattle.std.proofs.lemmas.List.Elements.{All-weaker}
use Rattle.std.proofs.lemmas.Slice.Eq.{bytes_eq-Decides}
use Rattle.grammar_data.specs.declared.token.Token.{Token as TextToken}
use Rattle.grammar_data.specs.Grammar.{Grammar}
use Rattle.grammar_theory.specs.Derivations.{IsSentence}
use Rattle.grammar_theory.specs.Trees.{Tree, yield, ids_of}
use Rattle.grammar_theory.proofs.DerivationLaws.{sentence_law}
use Rattle.grammar_laws.proofs.RangeLemmas.{in_range}
use Rattle.lr_base.specs.IsGrammar.{IsGrammar}
use Rattle.next_theory.proofs.GoingLemmas.{no_wrong_place_law}
use Rattle.scanning_theory.specs.Scan.{AreTokens}
use Rattle.scanning_theory.proofs.ScanLemmas.{lines_once}
use Rattle.scanning_theory.proofs.SomeList.{some_list}
use Rattle.sheet_data.specs.Sheet.{Sheet}
use Rattle.sheet_theory.specs.ScanOrder.{scanning_of}
use Rattle.table_data.specs.Tables.{Tables}
use Rattle.collection_data.specs.Collection.{state_count, has_item, step_in}
use Rattle.collection_laws.proofs.BuiltLemmas.{some_built}
use Rattle.grammar_faults.specs.Building.{IsBuildable}
use Rattle.lawful_theory.specs.Lawful.{IsLawfulFor}
use Rattle.lawful_theory.proofs.CanonicalLemmas.{canonical_lawful_law}
use Rattle.machine_theory.specs.Machine.{Accepts, Rejects}
use Rattle.parse_theory.proofs.ReadLemmas.{sound_law, one_tree_law}
use Rattle.parse_theory.proofs.ErrorLemmas.{reject_law}
use Rattle.parse_theory.proofs.WholeLemmas.{whole_law}
use Rattle.translation_theory.specs.Diagnostics.{IsDiagnostic}
use Rattle.translation_theory.proofs.DiagnosticLemmas.{one_diagnostic}
use Rattle.run_theory.specs.declared.emit.Emit.{Emit}
use Rattle.run_theory.specs.SheetTokens.{IsTokenOf}
use Rattle.run_theory.specs.RunAnswers.{Outcome, Given, Refused, IsTreeOf, due_of, IsRunAnswer, tree_given, text_refused}
use Rattle.run_theory.specs.Laws.{OneTreeLaw, OneRunLaw, SomeRunLaw, OneAnswerLaw, SomeAnswerLaw, GivenLaw, RefusedLaw}
use Rattle.run_theory.proofs.TokenLemmas.{sheet_tokens, ranks_have_meanings}
use Rattle.run_theory.proofs.ExpectedLemmas.{expected_are}

-- ---- sentences

tokens_once : (sheet : Sheet) (text : List ℕ) (tokens others : List TextToken) → AreTokens (scanning_of sheet) text tokens → AreTokens (scanning_of sheet) text others → tokens ≡ others
tokens_once sheet text tokens others are too = lines_once (scanning_of sheet) text are others too

sentence_of : (sheet : Sheet) (text : List ℕ) (tree : Tree) → IsTreeOf sheet text tree → IsSentence sheet.grammar (ids_of (yield tree))
sentence_of sheet text tree of = (sentence_law sheet.grammar (yield tree)).1 (tree, of.of_start, refl)

no_diagnostic : (sheet : Sheet) (text : List ℕ) (tokens : List TextToken) (said : List ℕ) → IsSentence sheet.grammar (ids_of tokens) → IsDiagnostic sheet text tokens said → ⊥
no_diagnostic sheet text tokens said sentence diagnostic = no_wrong_place_law sheet.grammar (ids_of tokens) diagnostic.index sentence diagnostic.wrong

given_sentence : (sheet : Sheet) (text : List ℕ) (tokens : List TextToken) (tree : Tree) → AreTokens (scanning_of sheet) text tokens → IsTreeOf sheet text tree → IsSentence sheet.grammar (ids_of tokens)
given_sentence sheet text tokens tree are of =
    subst (λ l. IsSentence sheet.grammar (ids_of l)) (tokens_once sheet text (yield tree) tokens of.tokens are) (sentence_of sheet text tree of)

refused_none : (sheet : Sheet) (text : List ℕ) (tokens others : List TextToken) (said : List ℕ) → AreTokens (scanning_of sheet) text tokens → AreTokens (scanning_of sheet) text others → IsDiagnostic sheet text others said → ¬ (IsSentence sheet.grammar (ids_of tokens))
refused_none sheet text tokens others said are too diagnostic sentence =
    no_diagnostic sheet text others said (subst (λ l. IsSentence sheet.grammar (ids_of l)) (tokens_once sheet text tokens others are too) sentence) diagnostic

given_by : (sheet : Sheet) (text : List ℕ) (emit : Emit) (tokens : List TextToken) (out : List ℕ) (outcome : Outcome) → outcome ≡ Given out → AreTokens (scanning_of sheet) text tokens → IsRunAnswer sheet text emit outcome → IsSentence sheet.grammar (ids_of tokens)
given_by sheet text emit tokens out outcome e are (tree_given {tree = tree} of is) = given_sentence sheet text tokens tree are of
given_by sheet text emit tokens out outcome e are (text_refused too diagnostic) = absurd (cc)

pub given : GivenLaw
given sheet text emit tokens out are answer = given_by sheet text emit tokens out (Given out) refl are answer

refused_by : (sheet : Sheet) (text : List ℕ) (emit : Emit) (tokens : List TextToken) (said : List ℕ) (outcome : Outcome) → outcome ≡ Refused said → AreTokens (scanning_of sheet) text tokens → IsRunAnswer sheet text emit outcome → ¬ (IsSentence sheet.grammar (ids_of tokens))
refused_by sheet text emit tokens said outcome e are (tree_given of is) = absurd (cc)
refused_by sheet text emit tokens said outcome e are (text_refused {tokens = others} {said = other} too diagnostic) = refused_none sheet text tokens others other are too diagnostic

pub refused : RefusedLaw
refused sheet text emit tokens said are answer = refused_by sheet text emit tokens said (Refused said) refl are answer

-- ---- one answer

pub one_tree : OneTreeLaw
one_tree sheet t lawful text tree other one two =
    one_tree_law sheet.grammar t lawful tree other one.of_start two.of_start (tokens_once sheet text (yield tree) (yield other) one.tokens two.tokens)

module _ (sheet : Sheet) (t : Tables) (lawful : IsLawfulFor sheet.grammar t) (text : List ℕ) (emit : Emit) where
  after_given : {tree : Tree} {out : List ℕ} {other : Outcome} → IsTreeOf sheet text tree → out ≡ due_of emit sheet text tree → IsRunAnswer sheet text emit other → Given out ≡ other
  after_given {tree = tree} of is (tree_given {tree = second} {out = other} too other_is) =
      ap Given (is ∙ ap (due_of emit sheet text) (one_tree sheet t lawful text tree second of too) ∙ sym other_is)
  after_given {tree = tree} of is (text_refused {tokens = tokens} {said = said} are diagnostic) =
      absurd (no_diagnostic sheet text tokens said (given_sentence sheet text tokens tree are of) diagnostic)

  after_refused : {tokens : List TextToken} {said : List ℕ} {other : Outcome} → AreTokens (scanning_of sheet) text tokens → IsDiagnostic sheet text tokens said → IsRunAnswer sheet text emit other → Refused said ≡ other
  after_refused {tokens = tokens} {said = said} are diagnostic (tree_given {tree = tree} of is) =
      absurd (no_diagnostic sheet text tokens said (given_sentence sheet text tokens tree are of) diagnostic)
  after_refused {tokens = tokens} {said = said} are diagnostic (text_refused {tokens = others} {said = other} too other_diagnostic) =
      let same : others ≡ tokens = tokens_once sheet text others tokens too are in
      ap Refused (one_diagnostic sheet text tokens said other diagnostic (subst (λ l. IsDiagnostic sheet text l other) same other_diagnostic))

  run_once : {outcome other : Outcome} → IsRunAnswer sheet text emit outcome → IsRunAnswer sheet text emit other → outcome ≡ other
  run_once (tree_given of is) second = after_given of is second
  run_once (text_refused are diagnostic) second = after_refused are diagnostic second

pub one_run : OneRunLaw
one_run sheet t lawful text emit outcome other first second = run_once sheet t lawful text emit first second

-- ---- some answer

end_token : ℕ → TextToken
end_token id = record { id = id; place = record { line = 0; start = 0; len = 0 } }

module _ (sheet : Sheet) (t : Tables) (lawful : IsLawfulFor sheet.grammar t) (text : List ℕ) (emit : Emit) (none : (outcome : Outcome) → ¬ (IsRunAnswer sheet text emit outcome)) (tokens : List TextToken) (are : AreTokens (scanning_of sheet) text tokens) where
  none_accepted : (end : TextToken) (tree : Tree) → Accepts t tokens end tree → ⊥
  none_accepted end tree accepts =
      let sound = sound_law sheet.grammar t lawful tokens end tree accepts in
      none (Given (due_of emit sheet text tree)) (tree_given (record { of_start = sound.0; tokens = subst (AreTokens (scanning_of sheet) text) (sym sound.1) are }) refl)

  none_rejected : (end : TextToken) → end.id ≡ t.tokens → (index : ℕ) (token : TextToken) (state : ℕ) → Rejects t tokens end index token state → ⊥
  none_rejected end is_end index token state rejects =
      let wrong = reject_law sheet.grammar t lawful tokens end index token state is_end rejects in
      none (Refused _) (text_refused are (record {
        index = index;
        wrong = wrong.place;
        expected = _;
        are = expected_are sheet.grammar lawful.range t state _ wrong.expected;
        is = refl;
      }))

pub some_run : SomeRunLaw
unfolding end_token
some_run sheet t lawful counts text emit none =
    some_list (scanning_of sheet) text (ranks_have_meanings sheet) (λ tokens are.
    let apart : All (λ (token : TextToken). token.id ≢ t.tokens) tokens = All-weaker (IsTokenOf sheet) (λ (token : TextToken). token.id ≢ t.tokens) (λ token is same. is.not_end (same ∙ lawful.tokens)) tokens (sheet_tokens sheet counts text tokens are) in
    ⊎_elim
    (λ (tree, accepts). none_accepted sheet t lawful text emit none tokens are (end_token t.tokens) tree accepts)
    (λ (index, token, state, rejects). none_rejected sheet t lawful text emit none tokens are (end_token t.tokens) refl index token state rejects)
    (whole_law sheet.grammar t lawful tokens (end_token t.tokens) apart refl))

-- ---- where no tables are given

pub without_tables : (g : Grammar) → IsGrammar g → IsBuildable g → ((t : Tables) → IsLawfulFor g t → ⊥) → ⊥
without_tables g grammar buildable none =
    let range = in_range g grammar in
    some_built g range (let few = grammar.few_tokens in omega (arith, few)) buildable (λ c t built.
    none t (canonical_lawful_law g range buildable.small.useful.productive buildable.small.useful.reachable (state_count c) (has_item c) (step_in c) t built.collection.collection built.tables))

same_by : (one other : List ℕ) (b : Bool) → bytes_eq one other ≡ b → ((one ≡ other → ⊥) → ⊥) → one ≡ other
same_by one other true e not_not = (bytes_eq-Decides one other).0 e
same_by one other false e not_not = absurd (not_not (λ same. false≢true (sym e ∙ (bytes_eq-Decides one other).1 same)))

given_bytes : Outcome → List ℕ → List ℕ
given_bytes (Given bytes) other = bytes
given_bytes (Refused bytes) other = other

refused_bytes : Outcome → List ℕ → List ℕ
refused_bytes (Given bytes) other = other
refused_bytes (Refused bytes) other = bytes

same_outcome : (one other : Outcome) → ((one ≡ other → ⊥) → ⊥) → one ≡ other
unfolding given_bytes refused_bytes
same_outcome (Given one) (Given other) not_not =
    ap Given (same_by one other (bytes_eq one other) refl (λ apart. not_not (λ same. apart (ap (λ o. given_bytes o one) same))))
same_outcome (Given one) (Refused other) not_not = absurd (not_not (λ same. cc))
same_outcome (Refused one) (Given other) not_not = absurd (not_not (λ same. cc))
same_outcome (Refused one) (Refused other) not_not =
    ap Refused (same_by one other (bytes_eq one other) refl (λ apart. not_not (λ same. apart (ap (λ o. refused_bytes o one) same))))

pub one_answer : OneAnswerLaw
one_answer sheet grammar buildable text emit outcome other first second =
    same_outcome outcome other (λ apart. without_tables sheet.grammar grammar buildable (λ t lawful. apart (one_run sheet t lawful text emit outcome other first second)))

pub some_answer : SomeAnswerLaw
some_answer sheet grammar buildable counts text emit none =
    without_tables sheet.grammar grammar buildable (λ t lawful. some_run sheet t lawful counts text emit none)
