use Rattle.std.proofs.Common.{◌-◌, ◌∷◌, ◌∙◌}
use Rattle.node_store.proofs.FrameLemmas.{last_place, skipped}
use Rattle.node_store.proofs.frames.skip.Goals as goal

pub returns : goal.returns
returns c n kid rest below same =
    skipped c.args.frames.now.items (c.len-last.result - 1) c.index_mut.result.now c.skip.new.self n kid rest below same
    (last_place c.args.frames.now.items (n, kid ∷ rest) below c.len-last.result same (c.len-last.ensures ∙ c.args.frames.now.ok.0)) c.index_mut.ensures.value c.skip.ensures
