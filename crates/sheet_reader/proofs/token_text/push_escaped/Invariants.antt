use Rattle.std.proofs.Common.{◌≡◌, ◌∷◌, ◌++◌, take}
use Rattle.std.specs.List.{flat_map}
use Rattle.sheet_theory.specs.Names.{escaped_byte}
use Rattle.sheet_reader.proofs.token_text.push_escaped.Given as goal

abbrev pub invariant-loop-byte : goal.invariant-loop-byte
invariant-loop-byte l = l.text.items ≡ l.fn.text.items ++ l.closing ∷ flat_map (escaped_byte l.closing) (take l.byte-index l.bytes)
