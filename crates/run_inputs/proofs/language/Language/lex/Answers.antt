use Rattle.std.proofs.Common.{List}
use Rattle.std.proofs.lemmas.Result.{IfOk-weaker}
use Rattle.pattern_data.specs.declared.pattern.Pattern.{Pattern}
use Rattle.scanning_theory.specs.Scan.{AreTokensOfLines}
use Rattle.token_patterns.specs.Scanner.{IsScannerOf}
use Rattle.line_lexer.specs.Means.{scanning_of}
use Rattle.run_inputs.specs.Inputs.{HasTokens}
use Rattle.run_inputs.proofs.JobLemmas.{has_tokens}
use Rattle.run_inputs.proofs.language.Language.lex.Goals as goal

pub returns : goal.returns
returns c =
    let language = c.args.self.now in
    let text = c.args.text.now in
    IfOk-weaker c.lex_lines.result
    (λ tokens. (patterns : List Pattern) → IsScannerOf language.scanner patterns → AreTokensOfLines (scanning_of patterns c.deref.result.now) text c.count-count.result 0 tokens.items)
    (λ tokens. HasTokens language text tokens.items)
    (λ tokens are. has_tokens language text c.deref.result.now c.args.lines.now c.count-count.result tokens.items c.deref.ensures.value c.count-count.ensures c.requires.lines are)
    c.lex_lines.ensures
