use Rattle.std.proofs.Common.{◌∙◌, codes, map}
use Rattle.std.specs.Fmt.{decimal}
use Rattle.translation_theory.specs.Diagnostics.{listed}
use Rattle.program_texts.specs.Diagnostics.{name_by}
use Rattle.program_texts.proofs.DiagnosticLemmas.{seven_parts, said_of_sheet}
use Rattle.program_texts.proofs.diagnostic.unexpected_text.Goals as goal

pub returns : goal.returns
returns c =
    let names = c.in_ok-names.names.items in
    seven_parts c.in_ok-text.text.items c.push_number.new.text.items c.extend_from_slice.new.self.items c.push_name.new.list.items c.extend_from_slice-2.new.self.items c.push_listed.new.text.items c.extend_from_slice-3.new.self.items
    (codes "line ") (decimal c.args.line) (codes ": unexpected ") (name_by names c.args.token) (codes "; expected ") (listed (map (name_by names) c.args.expected.now)) (codes "\n")
    (c.in_ok-text.ensures.items ∙ c.as_slice.ensures) (rw c.from.ensures at c.in_ok-push_number.ensures) c.in_ok-extend_from_slice.ensures.items (rw c.deref.ensures.value at c.in_ok-push_name.ensures) c.in_ok-extend_from_slice-2.ensures.items (rw c.deref-2.ensures.value at c.in_ok-push_listed.ensures) c.in_ok-extend_from_slice-3.ensures.items
    ∙ said_of_sheet c.args.sheet.now names c.args.line c.args.token c.args.expected.now c.in_ok-names.ensures
