use Rattle.std.proofs.Common.{map, string_bytes, Ok, Err, ◌∙◌}
use Rattle.clap.specs.Words.{app_of}
use Rattle.command_words.proofs.ClapLemmas.{fails_by, not_taken}
use Rattle.command_words.proofs.arguments.matches.Goals as goal

pub returns-in-Ok-clause-taken : goal.returns-in-Ok-clause-taken
returns-in-Ok-clause-taken c = fails_by c.args.name (map string_bytes c.args.words.now) (app_of c.in_ok-command.command) (Ok c.in-Ok.matches) c.in_ok-command.ensures c.in-Ok.ensures.kinds

pub returns : goal.returns
returns c = record {
  taken = tt;
  rows = tt;
  fault = λ _ taken. not_taken c.args.name (map string_bytes c.args.words.now) c.in-Err.error
      (fails_by c.args.name (map string_bytes c.args.words.now) (app_of c.in_ok-command.command) (Err c.in-Err.error) c.in_ok-command.ensures c.in-Err.ensures.kinds)
      (λ e. c.in_default.not-OutOfMemory (c.kind.ensures ∙ e)) taken;
}
