use Rattle.std.proofs.Common.{◌-◌, ◌<◌}
use Rattle.std.specs.Prelude.{◌^◌, All}
use Rattle.grammar_data.specs.declared.token.Token.{Token as TextToken}
use Rattle.plain_parse.specs.Parses.{AreTextTokens}
use Rattle.segment_bench.proofs.input.text_tokens.Given as goal

abbrev pub invariant-loop-token : goal.invariant-loop-token
invariant-loop-token l = AreTextTokens l.tables l.tokens.items × All {X = TextToken} (λ token. token.id < 2 ^ 32 - 2) l.tokens.items
