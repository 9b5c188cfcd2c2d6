use Rattle.std.proofs.Common.{◌≡◌, sym, ap, subst, ◌∙◌, arith}
use Rattle.std.specs.Prelude.{Option, Some, MatchOption}
use Rattle.outline_data.specs.declared.fault.SheetFault.{SheetFault}
use Rattle.outline_theory.specs.LineFaults.{HasLineFault, IsFirstLineFault}
use Rattle.outline_data.specs.Parts.{OutlineParts}
use Rattle.sheet_reader.specs.Faults.{IsOutlineRefused}
use Rattle.sheet_reader.proofs.ReadLemmas.{empty_list, filled_list}
use Rattle.sheet_reader.proofs.read.check_outline.Goals as goal

pub returns-then-is_empty : goal.returns-then-is_empty
returns-then-is_empty c =
    IsOutlineRefused.no_rules (sym (ap (λ (o : OutlineParts). o.groups) c.outline.view_is) ∙ empty_list c.outline.inside.groups.items _ (omega (arith, c.outline.inside.groups.ok)) c.if-is_empty.ensures)

first : (found : Option SheetFault) (fault : SheetFault) (o : OutlineParts) → found ≡ Some fault → MatchOption found ((f : SheetFault) → ¬ (HasLineFault o f)) (λ f. IsFirstLineFault o f) → IsFirstLineFault o fault
first found fault o is h = subst (λ x. MatchOption x ((f : SheetFault) → ¬ (HasLineFault o f)) (λ f. IsFirstLineFault o f)) is h

pub returns-in-Ok-Some : goal.returns-in-Ok-Some
returns-in-Ok-Some c =
    IsOutlineRefused.on_line (λ none. filled_list c.outline.inside.groups.items _ (omega (arith, c.outline.inside.groups.ok)) c.if-is_empty.ensures (ap (λ (o : OutlineParts). o.groups) c.outline.view_is ∙ none)) (first c.in-Ok-Some.field-0 c.in-Ok-Some.fault c.args.outline.now c.in-Ok-Some.field-0-is c.in-Ok-Some.ensures)

pub returns-in-Err : goal.returns-in-Err
returns-in-Err c = IsOutlineRefused.no_memory
