use Rattle.std.proofs.Common.{sym}
use Rattle.state_sets.proofs.ClassLemmas.{put_known}
use Rattle.state_sets.proofs.building.class_of.Goals as goal

pub returns-in-Some-clause-keys : goal.returns-in-Some-clause-keys
returns-in-Some-clause-keys c = sym (put_known c.args.targets.now.keys c.args.target c.in-Some.class (c.requires.known c.in-Some.class c.in-Some.is))
