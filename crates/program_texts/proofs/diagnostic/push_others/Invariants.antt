use Rattle.std.proofs.Common.{◌≡◌, ◌++◌, take}
use Rattle.program_texts.specs.Diagnostics.{listed_behind}
use Rattle.program_texts.proofs.diagnostic.push_others.Given as goal

abbrev pub invariant-loop-token : goal.invariant-loop-token
invariant-loop-token l = l.text.items ≡ l.fn.text.items ++ listed_behind l.names (take l.token-index l.tokens)
