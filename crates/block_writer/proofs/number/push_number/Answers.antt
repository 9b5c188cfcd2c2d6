use Rattle.std.proofs.Common.{ℕ, ◌++◌, List, sym, ap, ◌∙◌, arith}
use Rattle.std.proofs.lemmas.Fmt.{decimal_digit}
use Rattle.block_writer.proofs.number.push_number.Goals as goal

-- src/number.rt:12:9
pub returns-then-number-lt10 : goal.returns-then-number-lt10
returns-then-number-lt10 c = c.in_ok-push.ensures.items ∙ ap (λ (digits : List ℕ). c.args.text.now.items ++ digits) (sym (decimal_digit c.args.number (omega (arith, c.if-number-lt10.true))))
