use Rattle.std.proofs.Common.{sym, ◌∙◌}
use Rattle.lr_base.proofs.FileLemmas.{place_none, place_some}
use Rattle.lr_base.proofs.files.find_file.Goals as goal

pub returns-in_err-file-clause-found : goal.returns-in_err-file-clause-found
returns-in_err-file-clause-found c =
    rw c.from_residual.ensures (sym (place_none c.args.files.now c.args.name.now (sym c.place_of.ensures ∙ c.in_err-file.was)))

pub returns-clause-found : goal.returns-clause-found
returns-clause-found c = (place_some c.args.files.now c.args.name.now c.in_ok-file.file (sym c.place_of.ensures ∙ c.in_ok-file.was)).0

pub returns-clause-within : goal.returns-clause-within
returns-clause-within c = (place_some c.args.files.now c.args.name.now c.in_ok-file.file (sym c.place_of.ensures ∙ c.in_ok-file.was)).1
