-- What a parse says of a text.
use Rattle.std.proofs.Common.{◌≡◌, ℕ, zero, suc, inl, inr, List, [], ◌∷◌, slice_get, slice_index_or, Option, Some, None, refl, sym, ap, subst, ◌∙◌, arith}
use Rattle.grammar_data.specs.declared.token.Token.{Token as TextToken}
use Rattle.grammar_theory.specs.Trees.{ids_of}
use Rattle.next_theory.specs.GoingOn.{token_at}
use Rattle.scanning_theory.specs.Lines.{line_starts}
use Rattle.scanning_theory.specs.Scan.{AreTokens}
use Rattle.sheet_data.specs.Sheet.{Sheet}
use Rattle.sheet_theory.specs.ScanOrder.{scanning_of}
use Rattle.table_data.specs.Tables.{Tables}
use Rattle.lawful_theory.specs.Lawful.{IsLawfulFor}
use Rattle.lr_machine.specs.Expected.{AreExpectedIn}
use Rattle.plain_parse.specs.Parses.{AreTextTokens, IsWrongOf}
use Rattle.segment_runs.specs.Runs.{IsTreeIn}
use Rattle.node_store.specs.Chunks.{store_of}
use Rattle.finished_theory.specs.FinishedTrees.{IsFinished}
use Rattle.finished_theory.proofs.FinishedLemmas.{finished}
use Rattle.translation_theory.specs.DeclaredNames.{Row, names_of, rows_text}
use Rattle.translation_theory.specs.Translations.{translation_by}
use Rattle.translation_theory.specs.Diagnostics.{line_of, unexpected_text}
use Rattle.run_theory.specs.declared.emit.Emit.{Emit}
use Rattle.run_theory.specs.declared.emit.Emit.TheVariants.{Output, Names}
use Rattle.run_theory.specs.RunAnswers.{Given, Refused, IsRunAnswer, tree_given, text_refused}
use Rattle.run_theory.specs.SheetTokens.{CountsTokens}
use Rattle.run_theory.proofs.TokenLemmas.{sheet_tokens}
use Rattle.tally_theory.specs.declared.asked.Asked.{Asked}
use Rattle.tally_theory.specs.declared.asked.Asked.TheVariants.{Text, Report}
use Rattle.tally_theory.specs.Asked.{IsAnswerTo}
use Rattle.tally_theory.proofs.ReportLemmas.{refused as report_refused}
use Rattle.answer_theory.specs.declared.status.Status.TheVariants.{TextRefused}
use Rattle.lrpar_cli.specs.declared.stop.Stop.{Stop}
use Rattle.lrpar_cli.specs.Stops.{IsDueStop}
use Rattle.lrpar_cli.specs.Translating.{HasTextTree, IsTextStop, line_in, id_in}
use Rattle.lrpar_cli.specs.declared.translating.TextTree.{TextTree}

-- the tokens of a text are tokens of the tables and bad bytes
pub text_tokens : (sheet : Sheet) (t : Tables) (text : List ℕ) (tokens : List TextToken) → t.tokens ≡ sheet.grammar.tokens → CountsTokens sheet → AreTokens (scanning_of sheet) text tokens → AreTextTokens t tokens
text_tokens sheet t text tokens same counts are =
    λ k d within.
    let token = sheet_tokens sheet counts text tokens are k d within in
    (omega (arith, same, token.below), λ e. token.not_end (e ∙ same))

-- the number of the token at a place
abbrev id_or : ℕ → Option TextToken → ℕ
id_or end None = end
id_or end (Some token) = token.id

id_there : (end : ℕ) (tokens : List TextToken) (i : ℕ) → slice_index_or (ids_of tokens) i end ≡ id_or end (slice_get tokens i)
id_there end [] i = refl
id_there end (token ∷ tokens) zero = refl
id_there end (token ∷ tokens) (suc i) = id_there end tokens i

id_is : (t : Tables) (token : Option TextToken) → id_in t token ≡ id_or t.tokens token
id_is t None = refl
id_is t (Some token) = refl

line_is : (text : List ℕ) (token : Option TextToken) → line_in (line_starts text) token ≡ line_of text token
line_is text None = refl
line_is text (Some token) = refl

-- what is said of the first wrong token of a text is its diagnostic
pub refused_by : (sheet : Sheet) (t : Tables) (text : List ℕ) (tokens : List TextToken) (index state line id : ℕ) (token : Option TextToken) (expected : List ℕ) → IsLawfulFor sheet.grammar t → AreTokens (scanning_of sheet) text tokens → IsWrongOf sheet.grammar t tokens index token state → AreExpectedIn t state expected → line ≡ line_in (line_starts text) token → id ≡ id_in t token
    → (emit : Emit) → IsRunAnswer sheet text emit (Refused (unexpected_text sheet line id expected))
refused_by sheet t text tokens index state line id token expected lawful are wrong list lines ids emit =
    let there : token ≡ slice_get tokens index = wrong.token_there in
    let number : id ≡ token_at sheet.grammar (ids_of tokens) index = ids ∙ id_is t token ∙ ap (id_or t.tokens) there ∙ ap (λ end. id_or end (slice_get tokens index)) lawful.tokens ∙ sym (id_there sheet.grammar.tokens tokens index) in
    let place : line ≡ line_of text (slice_get tokens index) = lines ∙ line_is text token ∙ ap (line_of text) there in
    text_refused are (record {
      index = index;
      wrong = wrong.wrong.place;
      expected = expected;
      are = record { rising = list.rising; exact = λ a. (λ has. (wrong.wrong.expected a).0 ((list.exact a).0 has), λ goes. (list.exact a).1 ((wrong.wrong.expected a).1 goes)) };
      is = ap (λ l. unexpected_text sheet l id expected) place ∙ ap (λ n. unexpected_text sheet (line_of text (slice_get tokens index)) n expected) number;
    })

-- whatever is asked of it
refused_so : (sheet : Sheet) (text said : List ℕ) → ((emit : Emit) → IsRunAnswer sheet text emit (Refused said)) → (asked : Asked) → IsAnswerTo sheet text asked (Refused said)
refused_so sheet text said refused (Text emit) = refused emit
refused_so sheet text said refused (Report cut) = (report_refused sheet text cut Output said).1 (refused Output)

-- so a stop at which this is due is one of the text
pub stop_of : (sheet : Sheet) (text said : List ℕ) (stop : Stop) → IsDueStop TextRefused said stop → ((emit : Emit) → IsRunAnswer sheet text emit (Refused said)) → IsTextStop sheet text stop
stop_of sheet text said stop (inl e) refused = subst (IsTextStop sheet text) (sym e) (refl, λ asked. refused_so sheet text said refused asked)
stop_of sheet text said stop (inr e) refused = subst (IsTextStop sheet text) (sym e) tt

-- the tree of an accepted text
pub tree_of : (sheet : Sheet) (text : List ℕ) (tokens : List TextToken) (found : TextTree) → AreTokens (scanning_of sheet) text tokens → IsTreeIn sheet.grammar tokens found.root found.store → HasTextTree sheet text found
tree_of sheet text tokens found are is = record {
  tree = is.tree;
  of_text = record { of_start = is.is_tree; tokens = subst (AreTokens (scanning_of sheet) text) (sym is.yields) are };
  shown = is.shown;
}

-- a tree of the text is a finished one under its root
pub finished_tree : (sheet : Sheet) (text : List ℕ) (found : TextTree) (h : HasTextTree sheet text found) → IsFinished sheet text (store_of found.store) found.root h.tree
finished_tree sheet text found h = finished sheet (scanning_of sheet) text (store_of found.store) found.root h.tree (h.shown found.root 0) h.of_text.of_start h.of_text.tokens

-- what is asked for of the tree was given
pub output_given : (sheet : Sheet) (text bytes : List ℕ) (emit : Emit) (found : TextTree) (h : HasTextTree sheet text found) (names : List Row) → emit ≡ Output → names ≡ names_of sheet text h.tree → bytes ≡ translation_by sheet text names h.tree → IsRunAnswer sheet text emit (Given bytes)
output_given sheet text bytes emit found h names e same is =
    subst (λ x. IsRunAnswer sheet text x (Given bytes)) (sym e) (tree_given {tree = h.tree} h.of_text (is ∙ ap (λ rows. translation_by sheet text rows h.tree) same))

pub names_given : (sheet : Sheet) (text bytes : List ℕ) (emit : Emit) (found : TextTree) (h : HasTextTree sheet text found) (names : List Row) → emit ≡ Names → names ≡ names_of sheet text h.tree → bytes ≡ rows_text 1 names → IsRunAnswer sheet text emit (Given bytes)
names_given sheet text bytes emit found h names e same is =
    subst (λ x. IsRunAnswer sheet text x (Given bytes)) (sym e) (tree_given {tree = h.tree} h.of_text (is ∙ ap (rows_text 1) same))
