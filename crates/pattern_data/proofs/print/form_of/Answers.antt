use Rattle.std.proofs.Common.{ap, sym}
use Rattle.pattern_data.specs.Printing.{Written}
use Rattle.pattern_data.proofs.PrintLemmas.{written-set, written-seq, written-alt, written-star, written-plus, written-opt}
use Rattle.pattern_data.proofs.print.form_of.Goals as goal

pub returns-in-Set : goal.returns-in-Set
returns-in-Set c = sym (ap (λ (w : Written). w.0) (written-set c.args.pattern.now _ c.in-Set.is))

pub returns-in-Seq : goal.returns-in-Seq
returns-in-Seq c = sym (ap (λ (w : Written). w.0) (written-seq c.args.pattern.now _ c.in-Seq.is))

pub returns-in-Alt : goal.returns-in-Alt
returns-in-Alt c = sym (ap (λ (w : Written). w.0) (written-alt c.args.pattern.now _ c.in-Alt.is))

pub returns-in-Star : goal.returns-in-Star
returns-in-Star c = sym (ap (λ (w : Written). w.0) (written-star c.args.pattern.now _ c.in-Star.is))

pub returns-in-Plus : goal.returns-in-Plus
returns-in-Plus c = sym (ap (λ (w : Written). w.0) (written-plus c.args.pattern.now _ c.in-Plus.is))

pub returns-in-Opt : goal.returns-in-Opt
returns-in-Opt c = sym (ap (λ (w : Written). w.0) (written-opt c.args.pattern.now _ c.in-Opt.is))
