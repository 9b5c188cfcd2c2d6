use Rattle.std.proofs.Common.{◌≡◌, ℕ, ◌-◌, ◌≤◌, length, get_or, None}
use Rattle.arrow_table.proofs.memo.Memo.fill.Given as goal

abbrev pub invariant-loop-self : goal.invariant-loop-self
invariant-loop-self l = record {
  places : length l.self-inside.questions.items ≤ length l.self-inside.answers.items;
  questions : (i : ℕ) → get_or l.self-inside.questions.items i None ≡ get_or l.initial.self-inside.questions.items i None;
  answers : (i : ℕ) → get_or l.self-inside.answers.items i 0 ≡ get_or l.initial.self-inside.answers.items i 0;
}

abbrev pub decreases-loop-self : goal.decreases-loop-self
decreases-loop-self l = 8192 - length l.self-inside.questions.items
