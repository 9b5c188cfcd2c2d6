use Rattle.std.proofs.Common.{◌-◌, ◌∷◌, [], ◌++◌, ◌∙◌, ap}
use Rattle.node_store.specs.Kids.{kids_seen}
use Rattle.node_store.specs.Walking.{Frame}
use Rattle.node_store.proofs.FrameLemmas.{last_place, entered_next}
use Rattle.node_store.proofs.frames.enter.Goals as goal

pub returns-clause-ok : goal.returns-clause-ok
returns-clause-ok c n kid rest below same =
    entered_next c.args.frames.now.items c.push.new.self.items (c.len-last.result - 1) c.index_mut.result.now c.skip.new.self (c.args.node, (kids_seen c.args.kids)) n kid rest below
    (c.in_ok-push.ensures.items ∙ ap (λ (f : Frame). c.args.frames.now.items ++ f ∷ []) c.new.ensures) same
    (last_place c.args.frames.now.items (n, kid ∷ rest) below c.len-last.result same (c.len-last.ensures ∙ c.args.frames.now.ok.0)) c.index_mut.ensures.value c.skip.ensures
