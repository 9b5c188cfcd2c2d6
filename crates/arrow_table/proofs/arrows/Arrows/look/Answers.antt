use Rattle.arrow_table.proofs.CellLemmas.{look_stands}
use Rattle.arrow_table.proofs.arrows.Arrows.look.Goals as goal

pub note_look-requires-clause-look : goal.note_look-requires-clause-look
note_look-requires-clause-look c =
    look_stands c.args.self.now.0 c.find_look.new.self.0 c.args.token c.args.self.now.1 c.find_look.new.self.1 c.args.id c.in_ok-look.look c.find_look.ensures.tables c.find_look.ensures.grows c.requires.id c.in_ok-look.ensures.look
