use Rattle.std.proofs.Common.{sym, ap, ◌∙◌}
use Rattle.translation_theory.specs.DeclaredNames.{number_in}
use Rattle.name_table.proofs.EntryLemmas.{number_found, number_missing}
use Rattle.name_table.proofs.names.Names.number.Goals as goal

pub returns-in-Some : goal.returns-in-Some
returns-in-Some c =
    sym (number_found c.self.inside.entries.entries c.args.text.now c.in-Some.index (sym c.get_index_of.ensures.index ∙ c.in-Some.is)) ∙ ap (λ rows. number_in rows c.args.text.now) c.self.view_is

pub returns-in-None : goal.returns-in-None
returns-in-None c =
    sym (number_missing c.self.inside.entries.entries c.args.text.now (sym c.get_index_of.ensures.index ∙ c.in-None.is)) ∙ ap (λ rows. number_in rows c.args.text.now) c.self.view_is
