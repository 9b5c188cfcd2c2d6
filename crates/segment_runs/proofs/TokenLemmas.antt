-- The tokens of the lines of a job are of its tables, or bad bytes, and no more than a text may have bytes.
use Rattle.std.proofs.Common.{ℕ, ◌^◌, ◌-◌, ◌<◌, ◌≤◌, List, length, sym, ◌∙◌, arith}
use Rattle.std.specs.Prelude.{All}
use Rattle.grammar_data.specs.declared.token.Token.{Token as TextToken}
use Rattle.lr_base.specs.declared.limits.TheConstants.{TEXT_BYTES}
use Rattle.scanning_theory.specs.Lines.{line_starts}
use Rattle.scanning_theory.specs.Scan.{AreTokensOfLines}
use Rattle.range_theory.proofs.TokenLemmas.{few_in, small_in}
use Rattle.segment_counts.specs.declared.job.Job.{Job}
use Rattle.segment_counts.specs.Ranges.{CanRun, scanning_in}

module _ (job : Job) (can : CanRun job) (from to : ℕ) (tokens : List TextToken) (within : to ≤ length (line_starts job.text.now)) (are : AreTokensOfLines (scanning_in job can.patterns) job.text.now to from tokens) where
  pub few_tokens : length tokens ≤ TEXT_BYTES
  few_tokens = few_in (scanning_in job can.patterns) (sym can.scanner.ranks_are ∙ can.ranks) job.text.now from to tokens within are TEXT_BYTES can.few

  pub small_tokens : job.tables.now.tokens < 2 ^ 31 → All (λ (token : TextToken). token.id < 2 ^ 32 - 2) tokens
  small_tokens small = small_in (scanning_in job can.patterns) (sym can.scanner.ranks_are ∙ can.ranks) job.text.now from to tokens within are (2 ^ 32 - 2) (λ all are_all k d less. let token = can.tokens all are_all k d less in let most = token.0 in omega (arith, most, small))
