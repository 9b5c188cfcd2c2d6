use Rattle.std.proofs.Common.{take}
use Rattle.outline_theory.specs.Numbering.{AreDecls}
use Rattle.sheet_reader.proofs.parts.decls_of.Given as goal

abbrev pub invariant-loop-declaration : goal.invariant-loop-declaration
invariant-loop-declaration l = AreDecls (take l.declaration-index l.declarations) l.decls.items
