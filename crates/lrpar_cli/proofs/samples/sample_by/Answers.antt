use Rattle.std.proofs.Common.{rules}
use Rattle.lrpar_cli.proofs.SampleLemmas.{text_by, fault_by}
use Rattle.lrpar_cli.proofs.samples.sample_by.Goals as goal

pub generate-requires-clause-productive : goal.generate-requires-clause-productive
generate-requires-clause-productive c = rw c.grammar-grammar.ensures c.requires.productive

pub returns-clause-text : goal.returns-clause-text
returns-clause-text c = text_by c.args.scanned.now c.args.seed _ _ _ c.requires.ready c.deref.ensures.value c.grammar-grammar.ensures (search rules) c.generate.result c.generate.ensures.text

pub returns-clause-fault : goal.returns-clause-fault
returns-clause-fault c = fault_by c.args.scanned.now c.args.seed _ _ _ c.requires.ready c.deref.ensures.value c.grammar-grammar.ensures (search rules) c.generate.result c.generate.ensures.fault
