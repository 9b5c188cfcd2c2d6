-- The laws.
use Rattle.std.proofs.Common.{refl}
use Rattle.range_theory.specs.Laws.{BoundLaw, FewPartsLaw, FewTokensLaw, PartsBothLaw, RangeLinesLaw, RangesJoinLaw, SmallTokensLaw, WholeRangeLaw}
use Rattle.cutting_theory.specs.Cuttings.{segments_of}
use Rattle.range_theory.proofs.RangeLemmas.{bound_within, ranges_join, range_lines, whole_range, in_all_few, in_all_both}
use Rattle.range_theory.proofs.TokenLemmas.{few_in, small_in}

pub bound_law : BoundLaw
bound_law lines bounds i bound cutting at = bound_within lines bounds i bound cutting at

pub join_law : RangesJoinLaw
join_law scanning text bounds first middle last lists others one two = ranges_join scanning text bounds last others one two

pub lines_law : RangeLinesLaw
lines_law scanning text bounds first last from to lists are low high = range_lines scanning text bounds from to are low high

pub whole_law : WholeRangeLaw
whole_law scanning text bounds lists are = whole_range scanning text bounds (segments_of bounds) lists refl are

pub few_parts_law : FewPartsLaw
few_parts_law t lists count have = in_all_few have

pub parts_both_law : PartsBothLaw
parts_both_law t lists others count other one two = in_all_both one two refl

pub few_tokens_law : FewTokensLaw
few_tokens_law scanning meanings text most few from to tokens within are = few_in scanning meanings text from to tokens within are most few

pub small_tokens_law : SmallTokensLaw
small_tokens_law scanning meanings text over small from to tokens within are = small_in scanning meanings text from to tokens within are over small
