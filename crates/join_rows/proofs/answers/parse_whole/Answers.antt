use Rattle.join_rows.proofs.RowLemmas.{walkable}
use Rattle.join_rows.proofs.answers.parse_whole.Goals as goal

pub returns : goal.returns
returns c =
    let g = c.args.sheet.now.grammar in
    walkable g c.args.built.now.tables c.args.tokens.now c.in_ok-parsed.parsed (c.in_ok-parsed.ensures.parsed g c.requires.built.lawful)
