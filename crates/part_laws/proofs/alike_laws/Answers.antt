use Rattle.part_laws.proofs.AlikeLemmas.{canonical_alike_law, alike_parts_law, canonical_parts_law}
use Rattle.part_laws.proofs.alike_laws.Goals as goal

pub returns : goal.returns
returns c = record {
  canonical = canonical_alike_law;
  parts = alike_parts_law;
  both = canonical_parts_law;
}
