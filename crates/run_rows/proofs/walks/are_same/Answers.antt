use Rattle.std.proofs.Common.{subst}
use Rattle.plain_parse.specs.Parses.{IsParsed, IsTreeOf}
use Rattle.segment_runs.specs.Runs.{IsParsedIn, IsTreeIn}
use Rattle.run_rows.proofs.walks.are_same.Goals as goal

pub have_same_walk-requires-clause-one : goal.have_same_walk-requires-clause-one
have_same_walk-requires-clause-one c =
    let (g, t, tokens, others, one, other) = c.requires in
    let found : IsTreeOf g tokens c.in-Tree-Tree.root c.in-Tree-Tree.store = subst (IsParsed g t tokens) c.in-Tree-Tree.is-0 one in
    ((0, 0), 0, found.tree, found.shown (0, 0) 0)

pub have_same_walk-requires-clause-other : goal.have_same_walk-requires-clause-other
have_same_walk-requires-clause-other c =
    let (g, t, tokens, others, one, other) = c.requires in
    let found : IsTreeIn g others c.in-Tree-Tree.other_root c.in-Tree-Tree.other_store = subst (IsParsedIn g t others) c.in-Tree-Tree.is-1 other in
    ((0, 0), 0, found.tree, found.shown (0, 0) 0)
