use Rattle.std.proofs.Common.{◌≡◌, ◌<◌, length, sym, ◌∙◌, subst, arith}
use Rattle.std.proofs.lemmas.Option.{slice_get_within}
use Rattle.sample_text.specs.Closings.{IsClosedBy}
use Rattle.sample_text.proofs.ClosingLemmas.{found_at, none_some, some_closing_same}
use Rattle.sample_text.proofs.choices.Chooser.closing_rule.Goals as goal

pub unreachable-requires : goal.unreachable-requires
unreachable-requires c =
    let s = c.args.self.now in
    let n = c.args.name in
    let closing = c.requires.can.closings_are n c.requires.name in
    let below : n < length s.closings.items = omega (arith, c.requires.name, c.requires.can.closing_count) in
    none_some (found_at s.closings.items c.name.inside.0 n c.index.result.now c.index.ensures c.name.view_is below ∙ c.in-None.is) closing.1

-- what is kept of the name
closed : (c : goal.In-Some) → IsClosedBy c.args.self.now.grammar.now c.args.name c.in-Some.closing
closed c =
    let s = c.args.self.now in
    let n = c.args.name in
    let closing = c.requires.can.closings_are n c.requires.name in
    let below : n < length s.closings.items = omega (arith, c.requires.name, c.requires.can.closing_count) in
    let same : closing.0 ≡ c.in-Some.closing = some_closing_same (sym closing.1 ∙ found_at s.closings.items c.name.inside.0 n c.index.result.now c.index.ensures c.name.view_is below ∙ c.in-Some.is) in
    subst (IsClosedBy s.grammar.now n) same closing.2

pub returns-clause-closing : goal.returns-clause-closing
returns-clause-closing c = let is = closed c in (is.right, is.closing)

pub returns-clause-rule : goal.returns-clause-rule
returns-clause-rule c = let is = closed c in slice_get_within c.args.self.now.grammar.now.rules c.in-Some.closing.rule (c.args.name, is.right) is.closing.rule.found
