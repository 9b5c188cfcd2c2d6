use Rattle.std.proofs.Common.{◌∙◌, Bool, false, Some, subst}
use Rattle.node_store.specs.Chunks.{store_of}
use Rattle.segment_parser.specs.Settling.{IsStepped}
use Rattle.segment_parser.proofs.ReadLemmas.{closes_between, has_opened_as}
use Rattle.segment_parser.proofs.leaf.Leaf.read.Goals as goal

pub returns-then-branch-clause-at : goal.returns-then-branch-clause-at
returns-then-branch-clause-at c tokens index looking =
    subst (λ (b : Bool). IsStepped c.args.arrows.now.0 (store_of c.settle.new.store) c.settle.new.arrows.1 c.settle.new.self tokens index c.args.token.now (Some b)) c.if-branch.true (c.in_ok-settle.ensures.at tokens index looking)

pub close-requires-clause-starts : goal.close-requires-clause-starts
close-requires-clause-starts c =
    let at = c.requires.at in
    let stepped = c.in_ok-settle.ensures.at at.0 at.1 at.3 in
    let stuck = subst (λ (b : Bool). IsStepped c.args.arrows.now.0 (store_of c.settle.new.store) c.settle.new.arrows.1 c.settle.new.self at.0 at.1 c.args.token.now (Some b)) c.if-branch.false stepped in
    stuck.0.at.has.starts

pub returns-clause-at : goal.returns-clause-at
returns-clause-at c tokens index looking =
    let t = c.args.arrows.now.0 in
    let store = store_of c.settle.new.store in
    let maps = c.settle.new.arrows.1 in
    let s = c.settle.new.self in
    let after = c.open.new.self in
    let token = c.args.token.now in
    let stepped = c.in_ok-settle.ensures.at tokens index looking in
    let stuck : IsStepped t store maps s tokens index token (Some false) = subst (λ (b : Bool). IsStepped t store maps s tokens index token (Some b)) c.if-branch.false stepped in
    let opened = c.in_ok-open.ensures in
    closes_between t c.requires.lawful c.requires.lead store maps c.open.new.arrows.1 s after tokens index token (opened.closed ∙ c.in_ok-close.ensures.closed)
    (has_opened_as t c.settle.new.arrows.0 c.settle.ensures.tables c.open.new.arrows.1 token after opened.floors opened.kids opened.ids opened.own opened.faults opened.opened opened.first.0 opened.first.1 opened.first.2)
    stuck
