use Rattle.std.proofs.Common.{◌<◌, ◌≤◌, ap, arith}
use Rattle.table_data.specs.Tables.{Tables}
use Rattle.lr_machine.specs.Parts.{parts_of}
use Rattle.lr_machine.proofs.CellLemmas.{act_set}
use Rattle.lr_machine.proofs.tables.Tables.set_act.Goals as goal

pub returns-clause-act : goal.returns-clause-act
returns-clause-act c q a =
    let t : Tables = parts_of c.self.inside in
    let state : c.state.inside.0 < t.states = omega (arith, c.state.view_is, c.requires.state, ap (λ (s : Tables). s.states) c.self.view_is) in
    let token : c.token.inside.0 ≤ t.tokens = omega (arith, c.token.view_is, c.requires.token, ap (λ (s : Tables). s.tokens) c.self.view_is) in
    rw (← c.self.view_is, ← c.state.view_is, ← c.token.view_is, ← c.of.ensures)
    (act_set t c.state.inside.0 q c.token.inside.0 a c.of.result state token c.self.invariant.acts_size)
