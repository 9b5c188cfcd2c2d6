use Rattle.std.proofs.Common.{◌≡◌, ◌-◌, ◌<◌, ◌≤◌, length}
use Rattle.std.specs.Prelude.{◌^◌, All}
use Rattle.grammar_data.specs.declared.token.Token.{Token as TextToken}
use Rattle.lr_base.specs.declared.limits.TheConstants.{TEXT_BYTES}
use Rattle.segment_bench.proofs.turns.parse_segments.Given as goal

abbrev pub invariant-loop-place : goal.invariant-loop-place
invariant-loop-place l = (l.arrows.0 ≡ l.initial.arrows.0) × (length l.rest ≤ TEXT_BYTES) × All {X = TextToken} (λ token. token.id < 2 ^ 32 - 2) l.rest
