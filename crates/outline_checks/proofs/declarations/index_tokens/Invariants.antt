use Rattle.std.proofs.Common.{take}
use Rattle.std.specs.List.{flat_map}
use Rattle.outline_theory.specs.Words.{texts, token_in}
use Rattle.outline_checks.specs.Noted.{Noted}
use Rattle.outline_checks.specs.WordSets.{IsSetOf}
use Rattle.outline_checks.specs.Kinds.{RepeatFault}
use Rattle.outline_checks.proofs.declarations.index_tokens.Given as goal

abbrev pub invariant-loop-declaration : goal.invariant-loop-declaration
invariant-loop-declaration l = record {
  tokens : IsSetOf l.tokens (texts (flat_map token_in (take l.declaration-index l.declarations)));
  noted : Noted l.initial.first.fault l.first.fault (RepeatFault (flat_map token_in (take l.declaration-index l.declarations)));
}
