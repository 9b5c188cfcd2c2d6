use Rattle.lrpar_cli.proofs.OutputLemmas.{not_written, written_as}
use Rattle.lrpar_cli.proofs.TranslatingLemmas.{finished_tree, output_given, names_given}
use Rattle.lrpar_cli.proofs.translating.write_tree.Goals as goal

pub declared-requires-clause-tree : goal.declared-requires-clause-tree
declared-requires-clause-tree g c =
    let found = c.requires.tree in
    (found.tree, finished_tree c.args.parsing.now.scanned.sheet c.args.text.now c.args.tree.now found)

pub returns-in_err-names-clause-written : goal.returns-in_err-names-clause-written
returns-in_err-names-clause-written g c = not_written _ _ c.from_residual.result c.from_residual.ensures.1

pub emit-requires : goal.emit-requires
emit-requires g c =
    let found = c.requires.tree in
    record {
      tree = found.tree;
      shown = found.shown c.args.tree.now.root 0;
      rules = c.rule_law.ensures c.args.parsing.now.scanned.sheet _ found.tree found.of_text.of_start;
    }

pub returns-in-Output-clause-written : goal.returns-in-Output-clause-written
returns-in-Output-clause-written g c =
    let found = c.requires.tree in
    let sheet = c.args.parsing.now.scanned.sheet in
    written_as _ _ _ _ (λ bytes is. output_given sheet c.args.text.now bytes c.args.emit c.args.tree.now found c.in_ok-names.names c.in-Output.is (c.in_ok-names.ensures found.tree (finished_tree sheet c.args.text.now c.args.tree.now found)) is) (c.emit.ensures.written found.tree (found.shown c.args.tree.now.root 0))

pub returns-clause-written : goal.returns-clause-written
returns-clause-written g c =
    let found = c.requires.tree in
    let sheet = c.args.parsing.now.scanned.sheet in
    written_as _ _ _ _ (λ bytes is. names_given sheet c.args.text.now bytes c.args.emit c.args.tree.now found c.in_ok-names.names c.in-Names.is (c.in_ok-names.ensures found.tree (finished_tree sheet c.args.text.now c.args.tree.now found)) is) c.write_names.ensures.written
