use Rattle.std.proofs.Common.{◌≡◌, ◌++◌}
use Rattle.std.specs.List.{flat_map, range_with_len}
use Rattle.report_theory.specs.TableTexts.{states_line, state_text}
use Rattle.conflict_report.proofs.tables.tables_text.Given as goal

abbrev pub invariant-loop-state : goal.invariant-loop-state
invariant-loop-state l = l.text.items ≡ states_line l.tables ++ flat_map (state_text l.sheet l.collection l.tables) (range_with_len 0 l.state)
