use Rattle.std.proofs.Common.{◌≡◌, length, ap, sym, ◌∙◌, arith}
use Rattle.std.proofs.lemmas.List.{length-map}
use Rattle.name_table.specs.Tallies.{row_of_entry}
use Rattle.name_table.proofs.EntryLemmas.{few_after}
use Rattle.name_table.proofs.names.Names.note.Goals as goal

pub invariant_of-self : goal.invariant_of-self
invariant_of-self c =
    let count : length c.args.self.now ≡ length c.self.inside.entries.entries = ap length (sym c.self.view_is) ∙ length-map c.self.inside.entries.entries row_of_entry in
    let few = c.requires.few in
    few_after c.self.inside.entries.entries c.note.new.entries.entries _ c.args.text.now c.args.line c.note.result c.note.ensures.noted c.note.ensures.err (omega (arith, count, few))
