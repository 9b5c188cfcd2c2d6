use Rattle.std.proofs.Common.{rules}
use Rattle.lrpar_cli.proofs.InputLemmas.{fault_stop, scan_refused, scans_so}
use Rattle.lrpar_cli.proofs.inputs.scan.Goals as goal

pub returns-in-Ok-clause-scanned : goal.returns-in-Ok-clause-scanned
returns-in-Ok-clause-scanned c = scans_so c.args.bytes.now c.in-Ok.sheet c.with_scanner.result c.in-Ok.ensures.read c.with_scanner.ensures.sheet c.with_scanner.ensures.few

pub returns-in-Ok-clause-refused : goal.returns-in-Ok-clause-refused
returns-in-Ok-clause-refused c = scan_refused c.args.bytes.now c.in-Ok.sheet c.with_scanner.result c.in-Ok.ensures.read c.with_scanner.ensures.refused

pub returns-in-Err : goal.returns-in-Err
returns-in-Err c = record {
  scanned = tt;
  ready = tt;
  refused = fault_stop c.args.bytes.now c.in-Err.fault c.refusal.result (search rules) c.in-Err.ensures.fault c.refusal.ensures;
}
