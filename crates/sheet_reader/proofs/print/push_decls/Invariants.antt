use Rattle.std.proofs.Common.{◌≡◌, ◌++◌, map, take}
use Rattle.std.specs.List.{flat_map}
use Rattle.outline_theory.specs.Layout.{line_text, decl_words}
use Rattle.sheet_reader.proofs.print.push_decls.Given as goal

abbrev pub invariant-loop-decl : goal.invariant-loop-decl
invariant-loop-decl l = l.text.items ≡ l.fn.text.items ++ flat_map line_text (map decl_words (take l.decl-index l.decls))
