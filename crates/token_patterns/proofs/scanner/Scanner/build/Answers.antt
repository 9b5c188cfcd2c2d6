use Rattle.std.proofs.Common.{◌*◌, length, sym, ap, ◌∙◌}
use Rattle.token_patterns.proofs.TableLemmas.{scanner_of, table_of, not_more_states}
use Rattle.token_patterns.specs.Scanner.{Table}
use Rattle.token_patterns.proofs.scanner.Scanner.build.Goals as goal

pub invariant_of-result : goal.invariant_of-result
invariant_of-result c =
    let patterns = c.args.patterns.now in
    let found = c.in_ok-search.search in
    let done = c.in_ok-search.ensures.search in
    let table : Table = record { cells = found.cells.items; ends = found.ends.items; ranks = length patterns } in
    table_of patterns table (scanner_of patterns done.0 found.sets.keys found.cells.items found.ends.items done.1) (done.1.cells_are ∙ ap (λ n. 256 * n) (sym done.1.ends_count)) c.requires.count

pub returns-clause-scanner : goal.returns-clause-scanner
returns-clause-scanner c =
    let patterns = c.args.patterns.now in
    let found = c.in_ok-search.search in
    let done = c.in_ok-search.ensures.search in
    scanner_of patterns done.0 found.sets.keys found.cells.items found.ends.items done.1

pub returns-clause-few : goal.returns-clause-few
returns-clause-few c =
    let patterns = c.args.patterns.now in
    let found = c.in_ok-search.search in
    let done = c.in_ok-search.ensures.search in
    not_more_states patterns done.0 found.sets.keys found.cells.items found.ends.items done.1
