use Rattle.std.proofs.Common.{◌++◌, take}
use Rattle.std.proofs.KnownBytes.{Consumes-trans}
use Rattle.lr_base.proofs.ReadingLemmas.{all_lost}
use Rattle.lr_base.proofs.reading.read_all.Goals as goal

pub returns-in_err-begin-clause-lost : goal.returns-in_err-begin-clause-lost
returns-in_err-begin-clause-lost g c = λ failed told.
    all_lost _ _ (c.in_err-begin.ensures.begins.told told) c.in_err-begin.ensures.begins.ended

pub returns-in_err-extend_from_slice-clause-lost : goal.returns-in_err-extend_from_slice-clause-lost
returns-in_err-extend_from_slice-clause-lost g c = λ failed told. (
  c.loop-buffer.bytes.items ++ take c.in_ok-count.count c.read.new.buffer,
  Consumes-trans _ _ _ _ _ c.loop-buffer.invariant.consumed c.in_ok-count.ensures.reads.bytes.0,
)
