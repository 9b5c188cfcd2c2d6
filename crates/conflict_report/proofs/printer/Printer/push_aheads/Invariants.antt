use Rattle.std.proofs.Common.{◌≡◌, ◌++◌, map}
use Rattle.std.specs.Prelude.{filter}
use Rattle.std.specs.List.{flat_map, range_with_len}
use Rattle.grammar_data.specs.TokenSet.{has_token}
use Rattle.report_theory.specs.ItemTexts.{behind_space, token_text}
use Rattle.conflict_report.proofs.printer.Printer.push_aheads.Given as goal

abbrev pub invariant-loop-token : goal.invariant-loop-token
invariant-loop-token l = l.text.items ≡ l.fn.text.items ++ flat_map behind_space (map (token_text l.self) (filter (has_token l.aheads) (range_with_len 0 l.token)))
