use Rattle.std.proofs.Common.{◌-◌, length}
use Rattle.sheet_lexemes.specs.Cursors.{IsCursor}
use Rattle.outline_reader.specs.Progress.{draft_of}
use Rattle.stage_theory.proofs.ReadLemmas.{IsReadSoFar}
use Rattle.outline_reader.proofs.read.read_outline.Given as goal

abbrev pub invariant-loop-alloc : goal.invariant-loop-alloc
invariant-loop-alloc l = record {
  stands : IsCursor l.bytes l.place;
  read : IsReadSoFar l.bytes l.place.at (draft_of l.progress);
}

abbrev pub decreases-loop-alloc : goal.decreases-loop-alloc
decreases-loop-alloc l = length l.bytes - l.place.at
