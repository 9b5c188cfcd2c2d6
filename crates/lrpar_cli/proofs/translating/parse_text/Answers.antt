use Rattle.std.proofs.Common.{ap, subst, ◌∙◌}
use Rattle.translation_theory.specs.Diagnostics.{unexpected_text}
use Rattle.segment_runs.specs.Runs.{IsParsedIn}
use Rattle.lrpar_cli.specs.Translating.{line_in}
use Rattle.lrpar_cli.proofs.TranslatingLemmas.{tree_of, refused_by, stop_of}
use Rattle.lrpar_cli.proofs.translating.parse_text.Goals as goal

pub returns-in-Tree-clause-tree : goal.returns-in-Tree-clause-tree
returns-in-Tree-clause-tree g c =
    let sheet = c.args.parsing.now.scanned.sheet in
    let tables = c.args.parsing.now.built.tables in
    let tokens = c.in_ok-parsed.ensures.tokens in
    tree_of sheet c.args.text.now tokens (record { root = c.in-Tree.root; store = c.in-Tree.store; counts = c.in_ok-parsed.field-0.counts }) c.in_ok-parsed.ensures.are
    (subst (IsParsedIn sheet.grammar tables tokens) c.in-Tree.is c.in_ok-parsed.ensures.parsed)

pub expected-requires : goal.expected-requires
expected-requires g c =
    let sheet = c.args.parsing.now.scanned.sheet in
    let wrong = subst (IsParsedIn sheet.grammar c.args.parsing.now.built.tables c.in_ok-parsed.ensures.tokens) c.in-Wrong.is c.in_ok-parsed.ensures.parsed in
    wrong.is_state

pub returns-clause-stopped : goal.returns-clause-stopped
returns-clause-stopped g c =
    let sheet = c.args.parsing.now.scanned.sheet in
    let tables = c.args.parsing.now.built.tables in
    let text = c.args.text.now in
    let tokens = c.in_ok-parsed.ensures.tokens in
    let wrong = subst (IsParsedIn sheet.grammar tables tokens) c.in-Wrong.is c.in_ok-parsed.ensures.parsed in
    let expected = c.in_ok-expected-in-Wrong.expected.items in
    let line = c.line_of-line.result in
    let id = c.id_of-id.result in
    stop_of sheet text (unexpected_text sheet line id expected) c.unexpected.result (rw c.deref.ensures.value at c.unexpected.ensures)
    (refused_by sheet tables text tokens c.in-Wrong.index c.in-Wrong.state line id c.in-Wrong.token expected c.requires.built.lawful c.in_ok-parsed.ensures.are wrong c.in_ok-expected-in-Wrong.ensures (c.line_of-line.ensures ∙ ap (λ starts. line_in starts c.in-Wrong.token) c.in_ok-lines.ensures) c.id_of-id.ensures)
