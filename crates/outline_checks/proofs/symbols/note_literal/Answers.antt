use Rattle.std.proofs.Common.{◌≡◌, true, [], subst, arith}
use Rattle.std.specs.Prelude.{◌↔◌, Contains}
use Rattle.std.proofs.lemmas.Grind.{common_steps}
use Rattle.outline_checks.proofs.KindLemmas.{literal_noted}
use Rattle.outline_checks.proofs.symbols.note_literal.Goals as goal

pub returns : goal.returns
returns c =
    let feed : (c.has_line_feed.result ≡ true) ↔ Contains c.args.word.now.bytes 10 = subst (λ bs. (c.has_line_feed.result ≡ true) ↔ Contains bs 10) c.as_slice-bytes.ensures c.has_line_feed.ensures in
    literal_noted c.args.word.now c.has_line_feed.result c.is_empty.result feed (subst (λ bs. (c.is_empty.result ≡ true) ↔ (bs ≡ [])) c.as_slice-bytes.ensures (grind (arith, common_steps))) c.note_if.ensures c.note_if-2.ensures
