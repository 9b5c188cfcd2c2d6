use Rattle.std.proofs.Common.{◌∙◌, sym}
use Rattle.pattern_data.proofs.EmptyLemmas.{has_empty-matches}
use Rattle.pattern_data.proofs.pattern.Pattern.matches_empty.Goals as goal

pub returns : goal.returns
returns c =
    let both = has_empty-matches c.args.self.now in
    (λ e. both.0 (sym c.allows_nothing.ensures ∙ e), λ string. c.allows_nothing.ensures ∙ both.1 string)
