use Rattle.sheet_rows.proofs.far_scans.scanned.Goals as goal

pub build-requires : goal.build-requires
build-requires c = rw c.deref.ensures.value c.in_ok-order.ensures.scannable
