use Rattle.std.proofs.Common.{sym, ◌∙◌}
use Rattle.std.proofs.lemmas.Bool.{false≢true}
use Rattle.outline_checks.proofs.NotedLemmas.{noted_first}
use Rattle.outline_checks.proofs.first_fault.FirstFault.note_if.Goals as goal

pub returns-then-not-is_covering : goal.returns-then-not-is_covering
returns-then-not-is_covering c =
    noted_first c.args.self.now.fault c.args.is_fault c.args.fault c.if-is_fault.true (λ h. false≢true (sym c.if-not-is_covering.true ∙ c.is_covering.ensures.1 h))
