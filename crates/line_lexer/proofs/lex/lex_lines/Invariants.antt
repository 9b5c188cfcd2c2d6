use Rattle.std.proofs.Common.{List}
use Rattle.pattern_data.specs.declared.pattern.Pattern.{Pattern}
use Rattle.scanning_theory.specs.Scan.{AreTokensOfLines}
use Rattle.token_patterns.specs.Scanner.{IsScannerOf}
use Rattle.line_lexer.specs.Means.{scanning_of}
use Rattle.line_lexer.proofs.lex.lex_lines.Given as goal

abbrev pub invariant-loop-line : goal.invariant-loop-line
invariant-loop-line l = (patterns : List Pattern) → IsScannerOf l.scanner patterns → AreTokensOfLines (scanning_of patterns l.means) l.text l.line l.from l.tokens.items
