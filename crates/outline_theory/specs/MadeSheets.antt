-- The sheet that is made of an outline and the declarations that are kept of it.
use Rattle.std.specs.Prelude.{◌+◌, List, length, map}
use Rattle.sheet_data.specs.Sheet.{Sheet}
use Rattle.sheet_data.specs.declared.parts.Decl.{Decl}
use Rattle.outline_data.specs.Parts.{OutlineParts}
use Rattle.outline_theory.specs.Words.{token_words, starts, alternatives_of}
use Rattle.outline_theory.specs.Numbering.{unnamed_literals, grammar_names, rules_of, start_by, template_of, declares_of}

abbrev pub sheet_with : OutlineParts → List Decl → Sheet
sheet_with o decls = record {
  decls = decls;
  literals = unnamed_literals o;
  names = grammar_names o;
  grammar = record {
    tokens = length (token_words o) + length (unnamed_literals o);
    names = length (grammar_names o);
    rules = rules_of o;
    start = start_by (grammar_names o) (starts o);
  };
  templates = map template_of (alternatives_of o);
  declares = map declares_of (alternatives_of o);
}
