use Rattle.std.proofs.Common.{subst}
use Rattle.plain_parse.specs.Parses.{IsParsed}
use Rattle.run_rows.proofs.runs.parse_plain.Goals as goal

pub returns : goal.returns
returns c =
    let language = c.args.language.now in
    let grammar = language.sheet.grammar in
    subst (λ l. IsParsed grammar language.built.tables l c.in_ok-parsed.parsed) c.deref.ensures.value (c.in_ok-parsed.ensures.parsed grammar c.requires.language.built.lawful)
