use Rattle.std.proofs.Common.{rules, ◌≤◌, length, ap, ◌∙◌, subst}
use Rattle.lr_base.specs.declared.limits.TheConstants.{TEXT_BYTES}
use Rattle.scanning_theory.specs.Lines.{line_starts}
use Rattle.run_inputs.specs.Inputs.{HasTokens}
use Rattle.run_inputs.proofs.source.Source.read.Goals as goal

pub returns-clause-source : goal.returns-clause-source
returns-clause-source c =
    let inside : length c.args.text.items ≤ TEXT_BYTES = search rules in
    record {
      short = inside;
      lines = c.in_ok-lines.ensures ∙ ap line_starts c.deref.ensures.value;
      tokens = subst (λ t. HasTokens c.args.language.now t c.in_ok-tokens.tokens.items) c.deref-2.ensures.value c.in_ok-tokens.ensures.tokens;
      of_tables = c.in_ok-tokens.ensures.of_tables;
      small = c.in_ok-tokens.ensures.small;
      few = c.in_ok-tokens.ensures.few;
    }
