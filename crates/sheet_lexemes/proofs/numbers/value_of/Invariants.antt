use Rattle.std.proofs.Common.{◌≡◌, ◌<◌, ◌^◌, take}
use Rattle.lexeme_theory.specs.Decimals.{decimal_value}
use Rattle.sheet_lexemes.proofs.numbers.value_of.Given as goal

abbrev pub invariant-loop-digit : goal.invariant-loop-digit
invariant-loop-digit l = record {
  so_far : l.value ≡ decimal_value (take l.digit-index l.digits);
  small : l.value < 10 ^ l.digit-index;
}
