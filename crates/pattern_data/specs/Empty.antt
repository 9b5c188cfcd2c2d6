-- Whether a pattern matches the empty string, computed.
use Rattle.std.specs.Prelude.{Bool, true, false}
use Rattle.std.specs.List.{list_any, list_all}
use Rattle.pattern_data.specs.declared.pattern.Pattern.{Pattern, Pattern-F, fold-Pattern}
use Rattle.pattern_data.specs.declared.pattern.Pattern.TheOpen.Pattern-F.{Set, Seq, Alt, Star, Plus, Opt}

abbrev pub empty_step : Pattern-F Bool → Bool
empty_step (Set words) = false
empty_step (Seq known) = list_all (λ b. b) known
empty_step (Alt known) = list_any (λ b. b) known
empty_step (Star known) = true
empty_step (Plus known) = known
empty_step (Opt known) = true

unfoldable pub has_empty : Pattern → Bool
has_empty = fold-Pattern Bool empty_step
