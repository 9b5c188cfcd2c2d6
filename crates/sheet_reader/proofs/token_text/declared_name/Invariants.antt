use Rattle.std.proofs.Common.{◌≡◌, ◌<◌, length, drop}
use Rattle.std.specs.Prelude.{slice_get}
use Rattle.sheet_theory.specs.Names.{declared_names}
use Rattle.sheet_reader.proofs.token_text.declared_name.Given as goal

abbrev pub invariant-loop-decl : goal.invariant-loop-decl
invariant-loop-decl l = record {
  inside : l.left < length (declared_names (drop l.decl-index l.decls));
  same : slice_get (declared_names l.decls) l.number ≡ slice_get (declared_names (drop l.decl-index l.decls)) l.left;
}
