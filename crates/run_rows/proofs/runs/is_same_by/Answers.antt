use Rattle.std.proofs.Common.{sym, subst}
use Rattle.lawful_theory.specs.Lawful.{IsLawfulFor}
use Rattle.range_theory.specs.Ranges.{all_of}
use Rattle.segment_runs.specs.Runs.{IsParsedIn}
use Rattle.run_rows.proofs.runs.is_same_by.Goals as goal

pub are_same-requires : goal.are_same-requires
are_same-requires g c =
    let language = c.args.language.now in
    let grammar = language.sheet.grammar in
    let run = c.in_ok-run.ensures in
    let lawful : IsLawfulFor grammar c.args.job.now.tables.now = subst (IsLawfulFor grammar) (sym c.requires.tables) c.requires.language.built.lawful in (
      grammar,
      language.built.tables,
      c.args.source.now.tokens.items,
      all_of run.lists,
      c.requires.plain,
      subst (λ t. IsParsedIn grammar t (all_of run.lists) c.in_ok-run.run'.parsed) c.requires.tables (run.parsed grammar lawful),
    )
