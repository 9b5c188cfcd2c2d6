use Rattle.std.proofs.Common.{◌∙◌, ◌++◌, ◌∷◌, [], List, sym, ap, subst}
use Rattle.bare_theory.specs.Bare.{Bare}
use Rattle.node_store.specs.Chunks.{store_of}
use Rattle.segment_parser.specs.Standing.{last_in}
use Rattle.stack_join.specs.Joining.{IsAtSeam}
use Rattle.stack_join.specs.Putting.{AreAllPut}
use Rattle.stack_join.proofs.SeamLemmas.{reopened_seam}
use Rattle.stack_join.proofs.AbsorbLemmas.{absorbed}
use Rattle.stack_join.proofs.absorbing.absorb.Goals as goal

pub reopen-requires-clause-last : goal.reopen-requires-clause-last
reopen-requires-clause-last c =
    let seam = c.requires.at.8 in
    record { others = c.requires.at.3; last = c.requires.at.1; parts = c.requires.at.6; tokens = seam.tokens; steps = seam.steps; made = seam.made }

pub absorb_all-requires-clause-at : goal.absorb_all-requires-clause-at
absorb_all-requires-clause-at c =
    let front = c.requires.at.0 in
    let last = c.requires.at.1 in
    let rest = c.requires.at.2 in
    let others = c.requires.at.3 in
    let w = c.requires.at.4 in
    let is = c.requires.at.6 in
    let same = c.requires.at.7 in
    let seam = c.requires.at.8 in
    let t = c.args.arrows.now.0 in
    let store = store_of c.args.store.now in
    let maps = c.reopen.new.arrows.1 in
    let leaf = c.in_ok-leaf.leaf in
    let opened = c.in_ok-leaf.ensures.opened (record { others = others; last = last; parts = is; tokens = seam.tokens; steps = seam.steps; made = seam.made }) in
    let at : IsAtSeam t store maps leaf front rest w = reopened_seam t store maps leaf front last rest w seam c.in_ok-leaf.ensures.has opened.1 c.in_ok-leaf.ensures.stale in
    let before : IsAtSeam c.reopen.new.arrows.0 store maps leaf front rest w = subst (λ x. IsAtSeam x store maps leaf front rest w) (sym c.reopen.ensures.tables) at in
    (front, rest, w, c.requires.at.5, same, before)

pub close-requires-clause-starts : goal.close-requires-clause-starts
close-requires-clause-starts c =
    let front = c.requires.at.0 in
    let last = c.requires.at.1 in
    let rest = c.requires.at.2 in
    let others = c.requires.at.3 in
    let w = c.requires.at.4 in
    let is = c.requires.at.6 in
    let same = c.requires.at.7 in
    let seam = c.requires.at.8 in
    let t = c.args.arrows.now.0 in
    let store = store_of c.args.store.now in
    let maps = c.reopen.new.arrows.1 in
    let leaf = c.in_ok-leaf.leaf in
    let opened = c.in_ok-leaf.ensures.opened (record { others = others; last = last; parts = is; tokens = seam.tokens; steps = seam.steps; made = seam.made }) in
    let at : IsAtSeam t store maps leaf front rest w = reopened_seam t store maps leaf front last rest w seam c.in_ok-leaf.ensures.has opened.1 c.in_ok-leaf.ensures.stale in
    let before : IsAtSeam c.reopen.new.arrows.0 store maps leaf front rest w = subst (λ x. IsAtSeam x store maps leaf front rest w) (sym c.reopen.ensures.tables) at in
    let put : AreAllPut t (store_of c.absorb_all.new.store) c.absorb_all.new.arrows.1 c.absorb_all.new.leaf front c.absorb_all.new.parts w = subst (λ x. AreAllPut x (store_of c.absorb_all.new.store) c.absorb_all.new.arrows.1 c.absorb_all.new.leaf front c.absorb_all.new.parts w) c.reopen.ensures.tables (c.in_ok-absorb_all.ensures.at front rest w same before) in
    put.at.kept_as.has.starts

pub returns-clause-pieces : goal.returns-clause-pieces
returns-clause-pieces c front last rest others w is same seam =
    let t = c.args.arrows.now.0 in
    let store = store_of c.args.store.now in
    let maps = c.reopen.new.arrows.1 in
    let leaf = c.in_ok-leaf.leaf in
    let opened = c.in_ok-leaf.ensures.opened (record { others = others; last = last; parts = is; tokens = seam.tokens; steps = seam.steps; made = seam.made }) in
    let at : IsAtSeam t store maps leaf front rest w = reopened_seam t store maps leaf front last rest w seam c.in_ok-leaf.ensures.has opened.1 c.in_ok-leaf.ensures.stale in
    let before : IsAtSeam c.reopen.new.arrows.0 store maps leaf front rest w = subst (λ x. IsAtSeam x store maps leaf front rest w) (sym c.reopen.ensures.tables) at in
    let put : AreAllPut t (store_of c.absorb_all.new.store) c.absorb_all.new.arrows.1 c.absorb_all.new.leaf front c.absorb_all.new.parts w = subst (λ x. AreAllPut x (store_of c.absorb_all.new.store) c.absorb_all.new.arrows.1 c.absorb_all.new.leaf front c.absorb_all.new.parts w) c.reopen.ensures.tables (c.in_ok-absorb_all.ensures.at front rest w same before) in
    let s = c.absorb_all.new.leaf in
    let closed = c.in_ok-close.ensures.closed ∙ ap (λ (l : List Bare). l ++ record { first = s.first; count = s.count; floors = s.block.floors ++ last_in c.absorb_all.new.arrows.1 s ∷ []; kids = s.block.kids } ∷ []) (c.in_ok-absorb_all.ensures.closed ∙ opened.0) in
    absorbed t (store_of c.absorb_all.new.store) c.absorb_all.new.arrows.1 s front others c.close.new.self.block.closed c.absorb_all.new.parts w put closed
