use Rattle.plain_parse.specs.Parses.{AreTextTokens}
use Rattle.join_rows.proofs.texts.tokens_of.Given as goal

abbrev pub invariant-loop-letter : goal.invariant-loop-letter
invariant-loop-letter l = AreTextTokens l.tables l.tokens.items
