use Rattle.std.proofs.Common.{◌≡◌, ◌++◌, map}
use Rattle.outline_theory.specs.Numbering.{template_of, declares_of}
use Rattle.sheet_reader.specs.RuleTexts.{templates_in, declares_in}
use Rattle.sheet_reader.proofs.parts.RuleTexts.push_group.Given as goal

abbrev pub invariant-loop-alternative : goal.invariant-loop-alternative
invariant-loop-alternative l = record {
  templates : templates_in l.self ≡ templates_in l.fn.self ++ map template_of l.yielded;
  declares : declares_in l.self ≡ declares_in l.fn.self ++ map declares_of l.yielded;
}
