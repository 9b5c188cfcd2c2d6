use Rattle.std.proofs.Common.{◌≡◌, ℕ, ◌<◌, false}
use Rattle.grammar_data.specs.TokenSet.{IsTokenSet, has_token}
use Rattle.lr_tables.proofs.clashes.least.Given as goal

abbrev pub invariant-loop-token : goal.invariant-loop-token
invariant-loop-token l = record {
  none : (b : ℕ) → b < l.token → has_token l.tokens b ≡ false;
  set : 0 < l.token → IsTokenSet l.tokens;
}
