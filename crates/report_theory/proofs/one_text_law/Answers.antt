use Rattle.report_theory.proofs.SameTexts.{one_text}
use Rattle.report_theory.proofs.one_text_law.Goals as goal

pub returns : goal.returns
returns c = one_text
