-- What the code has read so far, as a draft.
use Rattle.std.specs.Prelude.{◌≡◌, ◌≢◌, ℕ, if◌then◌else◌}
use Rattle.outline_data.specs.declared.fault.SheetFault.{SheetFault}
use Rattle.outline_data.specs.declared.fault.SheetFault.TheVariants.{Syntax as syntax}
use Rattle.outline_data.specs.Parts.{OutlineParts}
use Rattle.stage_theory.specs.Stages.Stage.{rules, ended}
use Rattle.stage_theory.specs.Drafts.{DeclarationDraft, RuleDraft, Draft, stage_of}
use Rattle.stage_theory.specs.Drafts.DeclarationDraft.{no_declaration, token_begun, token_named, skip_begun, start_begun}
use Rattle.stage_theory.specs.Drafts.RuleDraft.{no_rule, left_read, side_open, template_open, side_behind, mark_begun, rules_ended}
use Rattle.stage_theory.specs.Drafts.Draft.{declaring, ruling}
use Rattle.outline_reader.specs.declared.progress.OpenDeclaration.{OpenDeclaration}
use Rattle.outline_reader.specs.declared.progress.OpenDeclaration.TheVariants.{Nothing as no_open_declaration, TokenBegun, TokenNamed, SkipBegun, StartBegun}
use Rattle.outline_reader.specs.declared.progress.OpenRule.{OpenRule}
use Rattle.outline_reader.specs.declared.progress.OpenRule.TheVariants.{Nothing as no_open_rule, LeftRead, SideOpen, TemplateOpen, SideBehind, MarkBegun, Ended}
use Rattle.outline_reader.specs.declared.progress.Progress.{Progress}
use Rattle.outline_reader.specs.declared.progress.Progress.TheVariants.{Declaring, Ruling}

abbrev pub open_declaration_of : OpenDeclaration → DeclarationDraft
open_declaration_of no_open_declaration = no_declaration
open_declaration_of TokenBegun = token_begun
open_declaration_of (TokenNamed name) = token_named name
open_declaration_of SkipBegun = skip_begun
open_declaration_of (StartBegun line) = start_begun line

abbrev pub open_rule_of : OpenRule → RuleDraft
open_rule_of no_open_rule = no_rule
open_rule_of (LeftRead left) = left_read left
open_rule_of (SideOpen group right) = side_open group right.items
open_rule_of (TemplateOpen group right parts) = template_open group right.items parts.items
open_rule_of (SideBehind group alternative) = side_behind group alternative
open_rule_of (MarkBegun group alternative) = mark_begun group alternative
open_rule_of Ended = rules_ended

abbrev pub draft_of : Progress → Draft
draft_of (Declaring declarations part) = declaring declarations.items (open_declaration_of part)
draft_of (Ruling finished part) = ruling finished.declarations.items finished.groups.items (open_rule_of part)

-- the draft is that of the whole outline
abbrev pub IsFinished : Draft → OutlineParts → Type 0
IsFinished draft o = draft ≡ ruling o.declarations o.groups (if o.has_rest then rules_ended else no_rule)

-- the draft is that of no whole outline, and the fault is on the line
pub record IsUnfinished (draft : Draft) (line : ℕ) (fault : SheetFault) : Type 0 where
  pub fault_is : fault ≡ syntax line
  pub open_rules : stage_of draft ≢ rules
  pub open_sheet : stage_of draft ≢ ended
