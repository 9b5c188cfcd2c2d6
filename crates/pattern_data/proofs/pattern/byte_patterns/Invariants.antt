use Rattle.std.proofs.Common.{◌≡◌, map, take}
use Rattle.pattern_data.specs.Language.{byte_pattern}
use Rattle.pattern_data.proofs.pattern.byte_patterns.Given as goal

abbrev pub invariant-loop-byte : goal.invariant-loop-byte
invariant-loop-byte l = l.members.items ≡ map byte_pattern (take l.byte-index l.bytes)
