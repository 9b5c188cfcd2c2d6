use Rattle.std.proofs.Common.{◌≡◌, map}
use Rattle.std.specs.List.{flat_map}
use Rattle.outline_data.specs.GroupParts.{GroupParts}
use Rattle.outline_theory.specs.Numbering.{template_of, declares_of}
use Rattle.sheet_reader.specs.RuleTexts.{templates_in, declares_in}
use Rattle.sheet_reader.proofs.parts.rule_texts.Given as goal

abbrev pub invariant-loop-group : goal.invariant-loop-group
invariant-loop-group l = record {
  templates : templates_in l.texts ≡ map template_of (flat_map (λ (g : GroupParts). g.alternatives) l.yielded);
  declares : declares_in l.texts ≡ map declares_of (flat_map (λ (g : GroupParts). g.alternatives) l.yielded);
}
