use Rattle.std.proofs.Common.{◌≡◌, ◌+◌, ◌<◌, ◌≤◌, length, List, ℕ, Bool, true, false}
use Rattle.sheet_data.specs.Sheet.{Sheet}
use Rattle.name_table.specs.Markings.{IsSettled, unmarking}
use Rattle.name_table.proofs.markings.note_rules.Given as goal

-- the rules from a number on were gone over
pub record AreNoted (sheet : Sheet) (before now : List Bool) (noted : Bool) (left : ℕ) : Type 0 where
  pub within : left ≤ length sheet.grammar.rules
  pub count : length now ≡ length before
  pub fewer : noted ≡ true → unmarking now < unmarking before
  pub same : noted ≡ false → now ≡ before
  pub settled : noted ≡ false → (k : ℕ) → left + k < length sheet.grammar.rules → IsSettled sheet now (left + k)

abbrev pub invariant-loop-left : goal.invariant-loop-left
invariant-loop-left l = AreNoted l.sheet l.initial.marking.items l.marking.items l.noted l.left

abbrev pub decreases-loop-left : goal.decreases-loop-left
decreases-loop-left l = l.left
