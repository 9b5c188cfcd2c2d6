use Rattle.std.proofs.Common.{take}
use Rattle.std.specs.List.{flat_map}
use Rattle.outline_theory.specs.Words.{texts, literal_in}
use Rattle.outline_checks.specs.Noted.{Noted}
use Rattle.outline_checks.specs.WordSets.{IsSetOf}
use Rattle.outline_checks.specs.Kinds.{NamedLiteralFault}
use Rattle.outline_checks.proofs.declarations.note_named_literals.Given as goal

abbrev pub invariant-loop-declaration : goal.invariant-loop-declaration
invariant-loop-declaration l = record {
  literals : IsSetOf l.literals (texts (flat_map literal_in (take l.declaration-index l.declarations)));
  noted : Noted l.initial.first.fault l.first.fault (NamedLiteralFault (flat_map literal_in (take l.declaration-index l.declarations)));
}
