use Rattle.std.proofs.Common.{◌-◌, ◌<◌, ◌^◌, All}
use Rattle.grammar_data.specs.declared.token.Token.{Token as TextToken}
use Rattle.segment_rows.proofs.pieces.tokens_of.Given as goal

abbrev pub invariant-loop-letter : goal.invariant-loop-letter
invariant-loop-letter l = All (λ (token : TextToken). token.id < 2 ^ 32 - 2) l.tokens.items
