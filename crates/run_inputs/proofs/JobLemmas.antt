-- A text that was read can be parsed in segments.
use Rattle.std.proofs.Common.{◌≡◌, ℕ, ◌≤◌, List, length, sym, ap, ◌∙◌, subst}
use Rattle.lr_base.specs.declared.limits.TheConstants.{TEXT_BYTES}
use Rattle.grammar_data.specs.declared.token.Token.{Token as TextToken}
use Rattle.pattern_data.specs.declared.pattern.Pattern.{Pattern}
use Rattle.pattern_data.specs.declared.pattern.Meaning.{Meaning}
use Rattle.scanning_theory.specs.declared.limits.TheConstants.{PATTERNS}
use Rattle.scanning_theory.specs.Lines.{line_starts}
use Rattle.scanning_theory.specs.Scan.{AreTokens, AreTokensOfLines}
use Rattle.scanning_theory.proofs.ScanLemmas.{lines_once}
use Rattle.token_patterns.specs.Scanner.{IsScannerOf, ranks_of}
use Rattle.line_lexer.specs.Means.{scanning_of}
use Rattle.lawful_theory.specs.Lawful.{IsLawful}
use Rattle.lawful_theory.proofs.CanonicalLemmas.{lawful_law}
use Rattle.cutting_theory.specs.Cuttings.{IsCutting}
use Rattle.plain_parse.specs.Parses.{AreTextTokens}
use Rattle.segment_counts.specs.declared.job.Job.{Job}
use Rattle.segment_counts.specs.Ranges.{CanRun}
use Rattle.run_inputs.specs.declared.language.Language.{Language}
use Rattle.run_inputs.specs.declared.source.Source.{Source}
use Rattle.run_inputs.specs.Inputs.{HasTokens, IsLanguage, IsSource}

-- the tokens of all lines are the text's
pub has_tokens : (language : Language) (text : List ℕ) (means : List Meaning) (lines : List ℕ) (count : ℕ) (tokens : List TextToken) → means ≡ language.means.items → count ≡ length lines → lines ≡ line_starts text → ((patterns : List Pattern) → IsScannerOf language.scanner patterns → AreTokensOfLines (scanning_of patterns means) text count 0 tokens) → HasTokens language text tokens
has_tokens language text means lines count tokens same counted starts are patterns scanner =
    subst (λ n. AreTokensOfLines (scanning_of patterns language.means.items) text n 0 tokens) (counted ∙ ap length starts)
    (subst (λ m. AreTokensOfLines (scanning_of patterns m) text count 0 tokens) same (are patterns scanner))

-- whatever the tokens of the text are, they are those that were read
same_tokens : (language : Language) (is : IsLanguage language) (source : Source) → IsSource language source → (tokens : List TextToken) → AreTokens (scanning_of is.patterns language.means.items) source.text.items tokens → source.tokens.items ≡ tokens
same_tokens language is source of tokens are = lines_once (scanning_of is.patterns language.means.items) source.text.items (of.tokens is.patterns is.scanner) tokens are

module _ (language : Language) (is : IsLanguage language) (source : Source) (of : IsSource language source) (job : Job) (tables : job.tables.now ≡ language.built.tables) (scanner : job.scanner.now ≡ language.scanner) (means : job.means.now ≡ language.means.items) (text : job.text.now ≡ source.text.items) (lines : job.lines.now ≡ source.lines) where
  same : (tokens : List TextToken) → AreTokens (scanning_of is.patterns job.means.now) job.text.now tokens → source.tokens.items ≡ tokens
  same tokens are = same_tokens language is source of tokens
      (subst (λ m. AreTokens (scanning_of is.patterns m) source.text.items tokens) means
      (subst (λ t. AreTokens (scanning_of is.patterns job.means.now) t tokens) text are))

  pub can_run : IsCutting (length source.lines) job.cutting.now → CanRun job
  can_run cuts = record {
    lawful = subst IsLawful (sym tables) (lawful_law language.sheet.grammar language.built.tables is.built.lawful);
    short = subst (λ t. length t ≤ TEXT_BYTES) (sym text) of.short;
    lines = lines ∙ of.lines ∙ ap line_starts (sym text);
    ranks = ap ranks_of scanner ∙ is.ranks ∙ ap length (sym means);
    means = subst (λ m. length m ≤ PATTERNS) (sym means) is.few;
    cutting = subst (λ l. IsCutting (length l) job.cutting.now) (sym lines) cuts;
    patterns = is.patterns;
    scanner = subst (λ s. IsScannerOf s is.patterns) (sym scanner) is.scanner;
    tokens = λ tokens are. subst (AreTextTokens job.tables.now) (same tokens are) (subst (λ t. AreTextTokens t source.tokens.items) (sym tables) of.of_tables);
    few = λ tokens are. subst (λ l. length l ≤ TEXT_BYTES) (same tokens are) of.few;
  }
