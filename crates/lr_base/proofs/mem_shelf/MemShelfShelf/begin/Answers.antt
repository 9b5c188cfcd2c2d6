use Rattle.std.proofs.Common.{◌≡◌, false, true, is_some, ◌∙◌, rules}
use Rattle.lr_base.proofs.FileLemmas.{served_found}
use Rattle.lr_base.specs.MemShelf.{found}
use Rattle.lr_base.proofs.mem_shelf.MemShelfShelf.begin.Goals as goal

pub returns-then-is_none-clause-begins : goal.returns-then-is_none-clause-begins
returns-then-is_none-clause-begins c =
    let missing : false ≡ is_some (found c.args.self.now c.args.name.now) = search rules in
    record {
      same = search rules;
      begun = search rules;
      left = search rules;
      ended = search rules;
      told = search rules;
      serving = λ listed. let never : false ≡ true = missing ∙ served_found c.args.self.now c.args.name.now listed in cc;
      steady = λ listed. missing ∙ served_found c.args.self.now c.args.name.now listed;
      cause = search rules;
    }
