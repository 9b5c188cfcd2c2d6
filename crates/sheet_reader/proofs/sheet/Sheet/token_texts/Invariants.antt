use Rattle.std.proofs.Common.{◌≡◌, take}
use Rattle.sheet_theory.specs.Names.{token_names}
use Rattle.sheet_reader.proofs.sheet.Sheet.token_texts.Given as goal

abbrev pub invariant-loop-number : goal.invariant-loop-number
invariant-loop-number l = l.texts.items ≡ take l.number (token_names l.self)
