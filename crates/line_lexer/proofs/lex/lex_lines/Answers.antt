use Rattle.std.proofs.Common.{◌+◌, ◌<◌, length, refl, sym, ap, ◌∙◌, subst, arith}
use Rattle.std.specs.Prelude.{slice_get}
use Rattle.scanning_theory.specs.Scan.AreTokensOfLines.{no_line}
use Rattle.token_patterns.specs.Scanner.{IsScannerOf, Table}
use Rattle.line_lexer.specs.Means.{scanning_of}
use Rattle.line_lexer.proofs.LinesLemmas.{start-inside}
use Rattle.line_lexer.proofs.LexLemmas.{line-more}
use Rattle.line_lexer.proofs.lex.lex_lines.Goals as goal

pub loop-line-init : goal.loop-line-init
loop-line-init c = λ patterns of. rw c.new-tokens.ensures.items (no_line refl)

pub take_line-requires-clause-start : goal.take_line-requires-clause-start
take_line-requires-clause-start c =
    let inside : c.start-start.result < length c.args.text.now = start-inside c.args.text.now c.args.lines.now c.loop-line.line c.start-start.result c.requires.lines c.start-start.ensures in
    let same = ap length c.new-lexing.ensures.text in
    omega (arith, inside, same)

pub take_line-requires-clause-dead : goal.take_line-requires-clause-dead
take_line-requires-clause-dead c = λ place state keeps. absurd (c.start_line.ensures.none place state keeps)

pub loop-line-preserved : goal.loop-line-preserved
loop-line-preserved c = λ patterns of.
    let scanner = subst (λ (table : Table). IsScannerOf table patterns) (sym c.new-lexing.ensures.scanner) of in
    let line = c.in_ok-take_line.ensures patterns scanner in
    line-more (scanning_of patterns c.args.means.now) c.args.text.now c.args.from c.loop-line.line (c.loop-line.line + 1) c.start-start.result c.loop-line.tokens.items line.0 c.take_line.new.tokens.items
    refl (c.loop-line.invariant patterns of) (ap (λ xs. slice_get xs c.loop-line.line) (sym c.requires.lines) ∙ c.start-start.ensures) (rw (c.new-lexing.ensures.means, c.new-lexing.ensures.text) at line.2) line.1
