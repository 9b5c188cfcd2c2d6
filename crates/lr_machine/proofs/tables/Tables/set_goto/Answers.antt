use Rattle.std.proofs.Common.{◌<◌, ap, arith}
use Rattle.table_data.specs.Tables.{Tables}
use Rattle.lr_machine.specs.Parts.{parts_of}
use Rattle.lr_machine.proofs.CellLemmas.{goto_set}
use Rattle.lr_machine.proofs.tables.Tables.set_goto.Goals as goal

pub returns-clause-goto : goal.returns-clause-goto
returns-clause-goto c q n =
    let t : Tables = parts_of c.self.inside in
    let state : c.state.inside.0 < t.states = omega (arith, c.state.view_is, c.requires.state, ap (λ (s : Tables). s.states) c.self.view_is) in
    let name : c.name.inside.0 < t.names = omega (arith, c.name.view_is, c.requires.name, ap (λ (s : Tables). s.names) c.self.view_is) in
    rw (← c.self.view_is, ← c.state.view_is, ← c.name.view_is, ← c.of.ensures)
    (goto_set t c.state.inside.0 q c.name.inside.0 n c.of.result state name c.self.invariant.gotos_size)
