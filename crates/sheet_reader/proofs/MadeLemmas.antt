-- The sheet that is made of an outline.
use Rattle.std.proofs.Common.{◌≡◌, suc, ◌+◌, ◌≤◌, List, [], ◌∷◌, length, map, refl, sym, ap, subst, ◌∙◌, arith}
use Rattle.std.specs.Prelude.{All, sum_by}
use Rattle.std.specs.List.{flat_map}
use Rattle.std.proofs.lemmas.List.{length-map, length-append}
use Rattle.scanning_theory.specs.declared.limits.TheConstants.{POSITIONS}
use Rattle.sheet_data.specs.Sheet.{Sheet}
use Rattle.sheet_data.specs.declared.parts.Decl.{Decl}
use Rattle.sheet_theory.specs.Names.{declared_names}
use Rattle.outline_data.specs.declared.outline.Declaration.{Declaration}
use Rattle.outline_data.specs.GroupParts.{GroupParts}
use Rattle.outline_data.specs.Parts.{OutlineParts}
use Rattle.outline_theory.specs.Words.{token_in, token_words, starts, alternatives_of}
use Rattle.outline_theory.specs.Numbering.{AreDecls, no_decl, literal_first, matched_first, skip_first, start_first, IsSheetOf, unnamed_literals, grammar_names, WordLists, lists_of, rule_by, rules_by, rules_of, index_of, template_of, declares_of, start_by}
use Rattle.outline_numbers.specs.declared.numbering.Numbered.{Numbered}
use Rattle.numbering_theory.specs.KeptSheets.{IsLiteralText, IsOrdinary}
use Rattle.outline_numbers.specs.Numbered.{IsNumbered}
use Rattle.outline_theory.specs.Limits.{positions_in}
use Rattle.sheet_reader.specs.WellFormed.{IsWellFormed}

-- the names of the declarations that are kept
kept_names : (declarations : List Declaration) (decls : List Decl) → AreDecls declarations decls → length (declared_names decls) ≡ length (flat_map token_in declarations)
kept_names [] decls no_decl = refl
kept_names (d ∷ declarations) all (literal_first {name = name} {literal = literal} {decls = decls} are e) =
    ap (λ ds. length (declared_names ds)) e ∙ ap suc (kept_names declarations decls are)
kept_names (d ∷ declarations) all (matched_first {name = name} {pattern = pattern} {decls = decls} spelled are e) =
    ap (λ ds. length (declared_names ds)) e ∙ ap suc (kept_names declarations decls are)
kept_names (d ∷ declarations) all (skip_first {pattern = pattern} {decls = decls} spelled are e) =
    ap (λ ds. length (declared_names ds)) e ∙ kept_names declarations decls are
kept_names (d ∷ declarations) decls (start_first are) = kept_names declarations decls are

-- one rule for each alternative
count_rules : (lists : WordLists) (groups : List GroupParts) → length (flat_map (rules_by lists) groups) ≡ length (flat_map (λ (g : GroupParts). g.alternatives) groups)
count_rules lists [] = refl
count_rules lists (g ∷ groups) =
    omega (arith, length-append (rules_by lists g) (flat_map (rules_by lists) groups), length-append g.alternatives (flat_map (λ (h : GroupParts). h.alternatives) groups), length-map g.alternatives (rule_by lists (index_of lists.names g.left.bytes)), count_rules lists groups)

-- the parts of the sheet of an outline
pub record AreParts (o : OutlineParts) (sheet : Sheet) : Type 0 where
  pub decls : AreDecls o.declarations sheet.decls
  pub literals : sheet.literals ≡ unnamed_literals o
  pub names : sheet.names ≡ grammar_names o
  pub grammar : sheet.grammar ≡ record { tokens = length (token_words o) + length (unnamed_literals o); names = length (grammar_names o); rules = rules_of o; start = start_by (grammar_names o) (starts o) }
  pub templates : sheet.templates ≡ map template_of (alternatives_of o)
  pub declares : sheet.declares ≡ map declares_of (alternatives_of o)

pub sheet_parts : (o view : OutlineParts) (sheet : Sheet) (numbered : Numbered) → view ≡ o → AreDecls o.declarations sheet.decls → IsNumbered o numbered → sheet.literals ≡ numbered.literals.items → sheet.names ≡ numbered.names.items → sheet.grammar ≡ numbered.grammar → sheet.templates ≡ map template_of (alternatives_of view) → sheet.declares ≡ map declares_of (alternatives_of view) → AreParts o sheet
sheet_parts o view sheet numbered is decls numbers literals names grammar templates declares = record {
  decls = decls;
  literals = literals ∙ numbers.literals;
  names = names ∙ numbers.names;
  grammar = grammar ∙ numbers.grammar;
  templates = templates ∙ ap (λ (p : OutlineParts). map template_of (alternatives_of p)) is;
  declares = declares ∙ ap (λ (p : OutlineParts). map declares_of (alternatives_of p)) is;
}

pub sheet_made : (o : OutlineParts) (sheet : Sheet) → AreParts o sheet → IsSheetOf o sheet
sheet_made o sheet parts = record {
  decls = parts.decls;
  literals = parts.literals;
  names = parts.names;
  tokens = ap (λ g. g.tokens) parts.grammar ∙ ap (λ l. length (token_words o) + length l) (sym parts.literals);
  count = ap (λ g. g.names) parts.grammar ∙ ap length (sym parts.names);
  rules = ap (λ g. g.rules) parts.grammar;
  start = ap (λ g. g.start) parts.grammar;
  templates = parts.templates;
  declares = parts.declares;
}

pub well_made : (o : OutlineParts) (sheet : Sheet) → AreParts o sheet → IsOrdinary o sheet.decls → IsWellFormed sheet
well_made o sheet parts ordinary =
    let names = kept_names o.declarations sheet.decls parts.decls in
    let rules : length sheet.grammar.rules ≡ length (alternatives_of o) = ap (λ g. length g.rules) parts.grammar ∙ count_rules (lists_of o) o.groups in
    record {
      tokens = omega (arith, ap (λ g. g.tokens) parts.grammar, ap length parts.literals, names);
      count = omega (arith, ordinary.tokens, ap length parts.literals, names);
      skips = ordinary.skips;
      positions = subst (λ l. sum_by positions_in sheet.decls + sum_by length l ≤ POSITIONS) (sym parts.literals) ordinary.positions;
      decls = ordinary.kept;
      literals = subst (All IsLiteralText) (sym parts.literals) ordinary.literals;
      names = ap (λ g. g.names) parts.grammar ∙ ap length (sym parts.names);
      templates = omega (arith, rules, ap length parts.templates, length-map (alternatives_of o) template_of);
      declares = omega (arith, rules, ap length parts.declares, length-map (alternatives_of o) declares_of);
    }
