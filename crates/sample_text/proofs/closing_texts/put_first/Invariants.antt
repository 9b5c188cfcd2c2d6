use Rattle.std.proofs.Common.{◌≡◌, ◌-◌, ◌++◌, drop, length, reverse}
use Rattle.sample_text.proofs.closing_texts.put_first.Given as goal

abbrev pub invariant-loop-place : goal.invariant-loop-place
invariant-loop-place l = l.todo.items ≡ l.fn.todo.items ++ reverse (drop (length l.right - l.place) l.right)
