use Rattle.std.proofs.Common.{subst}
use Rattle.command_words.specs.Commands.{CanBeRun}
use Rattle.lrpar_cli.proofs.commands.run.Goals as goal

pub translate_text-requires : goal.translate_text-requires
translate_text-requires g c = (c.type_bounds.sync-R, subst CanBeRun c.in-Run.is c.requires)

pub translate_sample-requires : goal.translate_sample-requires
translate_sample-requires g c = (c.type_bounds.sync-R, subst CanBeRun c.in-Load.is c.requires)
