-- The outline of a layout says the same sheet.
use Rattle.std.proofs.Common.{◌≡◌, ℕ, suc, ◌+◌, List, [], ◌∷◌, ◌++◌, length, map, false, refl, sym, ap, ◌∙◌}
use Rattle.std.specs.Prelude.{not, filter, if◌then◌else◌}
use Rattle.std.specs.List.{flat_map}
use Rattle.std.proofs.lemmas.List.{map-append, length-map}
use Rattle.std.proofs.lemmas.List.Elements.{filter-append}
use Rattle.std.proofs.lemmas.Grind.{flat_map-append}
use Rattle.grammar_data.specs.declared.rule.Sym.TheVariants.{Token as token_symbol, Name as name_symbol}
use Rattle.sheet_data.specs.Sheet.{Sheet}
use Rattle.sheet_data.specs.declared.parts.Decl.{Decl}
use Rattle.sheet_data.specs.declared.parts.Part.{Part}
use Rattle.outline_data.specs.declared.outline.Word.{Word}
use Rattle.outline_data.specs.declared.outline.Declaration.{Declaration}
use Rattle.outline_data.specs.declared.outline.Declaration.TheVariants.{Start}
use Rattle.outline_data.specs.declared.rules.Symbol.{Symbol}
use Rattle.outline_data.specs.declared.rules.Symbol.TheVariants.{Name}
use Rattle.outline_data.specs.AlternativeParts.{AlternativeParts}
use Rattle.outline_data.specs.Parts.{OutlineParts}
use Rattle.outline_theory.specs.Spelling.{IsShaped}
use Rattle.outline_theory.specs.Words.{texts, token_words, literal_words, start_in, starts, left_words, alternatives_of, quoted_in, side_literals}
use Rattle.outline_theory.specs.Numbering.{is_one_of, index_of, distinct, unnamed_literals, literal_of_token, token_literals, grammar_names, WordLists, lists_of, symbol_by, rules_by, rules_of, start_by, template_by, template_of, declares_of, AreDecls, IsSheetOf}
use Rattle.outline_theory.specs.Numbering.AreDecls.{no_decl, literal_first, matched_first, skip_first, start_first}
use Rattle.layout_laws.proofs.IndexLemmas.{Test, filter_by}
use Rattle.layout_laws.proofs.SideLemmas.{Side, left_of, sides_in, rule_at, sides_alternatives, sides_rules, sides_lefts, map_twice, groups_of, groups_alternatives, groups_lefts, groups_rules}
use Rattle.layout_laws.proofs.FactLemmas.{decls_names, decls_literals, decls_token_literals}
use Rattle.layout_laws.proofs.SymbolLemmas.{IsSound, IsPrinted, ArePrinted}
use Rattle.layout_laws.proofs.SymbolLemmas.IsPrinted.{same_name, same_literal, named_literal}
use Rattle.layout_laws.proofs.SymbolLemmas.ArePrinted.{none_printed, next_printed}
use Rattle.layout_laws.proofs.RuleLemmas.{ArePrintedSides}
use Rattle.layout_laws.proofs.RuleLemmas.ArePrintedSides.{none_sides, next_side}
use Rattle.layout_laws.proofs.LayoutLemmas.{layout_outline, LayoutRead}

pub texts_append : (words others : List Word) → texts (words ++ others) ≡ texts words ++ texts others
texts_append words others = map-append (λ (w : Word). w.bytes) words others

-- ---- symbols

name_by : (lists : WordLists) (word printed : Word) → printed.bytes ≡ word.bytes → symbol_by lists (Name printed) ≡ symbol_by lists (Name word)
name_by lists word printed e = ap (λ b. if is_one_of lists.tokens b then token_symbol (index_of lists.tokens b) else name_symbol (index_of lists.names b)) e

printed_symbol : {o : OutlineParts} {s printed : Symbol} → IsPrinted o s printed → symbol_by (lists_of o) printed ≡ symbol_by (lists_of o) s
printed_symbol {o = o} (same_name {word = word} {printed = printed} e) = name_by (lists_of o) word printed e
printed_symbol {o = o} (same_literal e none) = ap (λ b. token_symbol (index_of (token_literals o) b)) e
printed_symbol (named_literal one token e) = e

printed_symbols : {o : OutlineParts} {ss printed : List Symbol} → ArePrinted o ss printed → map (symbol_by (lists_of o)) printed ≡ map (symbol_by (lists_of o)) ss
printed_symbols none_printed = refl
printed_symbols {o = o} (next_printed {s = s} {others = others} is are) = ap (λ x. x ∷ map (symbol_by (lists_of o)) others) (printed_symbol is) ∙ ap (λ l. symbol_by (lists_of o) s ∷ l) (printed_symbols are)

pub printed_length : {o : OutlineParts} {ss printed : List Symbol} → ArePrinted o ss printed → length printed ≡ length ss
printed_length none_printed = refl
printed_length (next_printed is are) = ap suc (printed_length are)

-- the literals that no declaration names
abbrev unnamed : OutlineParts → Test
unnamed o word = not (is_one_of (texts (literal_words o)) word)

printed_quoted : {o : OutlineParts} {s printed : Symbol} → IsPrinted o s printed → filter (unnamed o) (texts (quoted_in printed)) ≡ filter (unnamed o) (texts (quoted_in s))
printed_quoted (same_name e) = refl
printed_quoted {o = o} (same_literal e none) = ap (λ b. filter (unnamed o) (b ∷ [])) e
printed_quoted {o = o} (named_literal {word = word} one token e) = sym (filter_by (unnamed o) word.bytes [] false (ap not one))

filter_texts : (p : Test) (words others : List Word) → filter p (texts (words ++ others)) ≡ filter p (texts words) ++ filter p (texts others)
filter_texts p words others = ap (filter p) (texts_append words others) ∙ filter-append p (texts words) (texts others)

filter_joined : (p : Test) (a b c d : List Word) → filter p (texts a) ≡ filter p (texts b) → filter p (texts c) ≡ filter p (texts d) → filter p (texts (a ++ c)) ≡ filter p (texts (b ++ d))
filter_joined p a b c d e f = filter_texts p a c ∙ ap (λ l. l ++ filter p (texts c)) e ∙ ap (λ l. filter p (texts b) ++ l) f ∙ sym (filter_texts p b d)

right_quoted : {o : OutlineParts} {ss printed : List Symbol} → ArePrinted o ss printed → filter (unnamed o) (texts (flat_map quoted_in printed)) ≡ filter (unnamed o) (texts (flat_map quoted_in ss))
right_quoted none_printed = refl
right_quoted {o = o} (next_printed {s = s} {printed = printed} {ss = ss} {others = others} is are) =
    filter_joined (unnamed o) (quoted_in printed) (quoted_in s) (flat_map quoted_in others) (flat_map quoted_in ss) (printed_quoted is) (right_quoted are)

abbrev quoted_of : Side → List Word
quoted_of side = flat_map quoted_in side.1.right

sides_quoted : {o : OutlineParts} {sides printed : List Side} → ArePrintedSides o sides printed → filter (unnamed o) (texts (flat_map quoted_of printed)) ≡ filter (unnamed o) (texts (flat_map quoted_of sides))
sides_quoted none_sides = refl
sides_quoted {o = o} (next_side {side = side} {printed = printed} {sides = sides} {others = others} is are) =
    filter_joined (unnamed o) (quoted_of printed) (quoted_of side) (flat_map quoted_of others) (flat_map quoted_of sides) (right_quoted is.right) (sides_quoted are)

quoted_alternatives : (sides : List Side) → flat_map (λ (a : AlternativeParts). flat_map quoted_in a.right) (map (λ (side : Side). side.1) sides) ≡ flat_map quoted_of sides
quoted_alternatives [] = refl
quoted_alternatives (side ∷ sides) = ap (λ l. quoted_of side ++ l) (quoted_alternatives sides)

-- ---- rules

printed_rules : {o : OutlineParts} {sides printed : List Side} → ArePrintedSides o sides printed → map (rule_at (lists_of o)) printed ≡ map (rule_at (lists_of o)) sides
printed_rules none_sides = refl
printed_rules {o = o} (next_side {side = side} {printed = printed} {others = others} is are) =
    ap (λ b. (index_of (grammar_names o) b, map (symbol_by (lists_of o)) printed.1.right) ∷ map (rule_at (lists_of o)) others) is.left
    ∙ ap (λ l. (index_of (grammar_names o) side.0.bytes, l) ∷ map (rule_at (lists_of o)) others) (printed_symbols is.right)
    ∙ ap (λ l. rule_at (lists_of o) side ∷ l) (printed_rules are)

printed_lefts : {o : OutlineParts} {sides printed : List Side} → ArePrintedSides o sides printed → map left_of printed ≡ map left_of sides
printed_lefts none_sides = refl
printed_lefts (next_side {side = side} {others = others} is are) = ap (λ b. b ∷ map left_of others) is.left ∙ ap (λ l. left_of side ∷ l) (printed_lefts are)

abbrev template_at : Side → List Part
template_at side = template_of side.1

abbrev declares_at : Side → List ℕ
declares_at side = declares_of side.1

printed_templates : {o : OutlineParts} {sides printed : List Side} → ArePrintedSides o sides printed → map template_at printed ≡ map template_at sides
printed_templates none_sides = refl
printed_templates (next_side {side = side} {printed = printed} {others = others} is are) =
    ap (λ t. template_by t (length printed.1.right) ∷ map template_at others) is.template ∙ ap (λ p. p ∷ map template_at others) is.says ∙ ap (λ l. template_at side ∷ l) (printed_templates are)

printed_declares : {o : OutlineParts} {sides printed : List Side} → ArePrintedSides o sides printed → map declares_at printed ≡ map declares_at sides
printed_declares none_sides = refl
printed_declares (next_side {side = side} {others = others} is are) = ap (λ p. p ∷ map declares_at others) is.marks ∙ ap (λ l. declares_at side ∷ l) (printed_declares are)

-- ---- declarations

with_start : {ds : List Declaration} {decls : List Decl} (line : ℕ) (start : Word) → AreDecls ds decls → AreDecls (ds ++ Start line start ∷ []) decls
with_start line start no_decl = start_first no_decl
with_start line start (literal_first are is) = literal_first (with_start line start are) is
with_start line start (matched_first spelled are is) = matched_first spelled (with_start line start are) is
with_start line start (skip_first spelled are is) = skip_first spelled (with_start line start are) is
with_start line start (start_first are) = start_first (with_start line start are)

same_lists : (one other : WordLists) → one.tokens ≡ other.tokens → one.literals ≡ other.literals → one.names ≡ other.names → one ≡ other
same_lists one other tokens literals names =
    ap (λ l. record { tokens = l; literals = one.literals; names = one.names }) tokens
    ∙ ap (λ l. record { tokens = other.tokens; literals = l; names = one.names }) literals
    ∙ ap (λ l. record { tokens = other.tokens; literals = other.literals; names = l }) names

module _ (o : OutlineParts) (shaped : IsShaped o) (sheet : Sheet) (sound : IsSound o sheet) (r : LayoutRead o sheet) where
  abbrev pub printed : OutlineParts
  printed = layout_outline r.declared r.line r.start r.sides

  pub decls : AreDecls printed.declarations sheet.decls
  decls = with_start r.line r.start r.are

  pub tokens_same : texts (token_words printed) ≡ texts (token_words o)
  tokens_same = sym (decls_names decls) ∙ decls_names sound.says.decls

  pub literals_same : texts (literal_words printed) ≡ texts (literal_words o)
  literals_same = sym (decls_literals decls) ∙ decls_literals sound.says.decls

  token_literals_same : flat_map literal_of_token printed.declarations ≡ flat_map literal_of_token o.declarations
  token_literals_same = sym (decls_token_literals decls) ∙ decls_token_literals sound.says.decls

  pub starts_are : starts printed ≡ record { line = r.line; name = r.start } ∷ []
  starts_are = flat_map-append start_in r.declared (Start r.line r.start ∷ []) ∙ ap (λ l. l ++ record { line = r.line; name = r.start } ∷ []) r.no_start

  pub alternatives_are : alternatives_of printed ≡ map (λ (side : Side). side.1) r.sides
  alternatives_are = groups_alternatives r.sides

  pub lefts_are : texts (left_words printed) ≡ map left_of (sides_in o.groups)
  lefts_are = groups_lefts r.sides ∙ printed_lefts r.printed

  pub names_same : grammar_names printed ≡ grammar_names o
  unfolding grammar_names
  names_same = ap distinct lefts_are ∙ sides_lefts o.groups shaped

  unnamed_same : unnamed_literals printed ≡ unnamed_literals o
  unfolding unnamed_literals
  unnamed_same =
      let here : texts (side_literals printed) ≡ texts (flat_map quoted_of r.sides) = ap (λ l. texts (flat_map (λ (a : AlternativeParts). flat_map quoted_in a.right) l)) alternatives_are ∙ ap texts (quoted_alternatives r.sides) in
      let there : texts (side_literals o) ≡ texts (flat_map quoted_of (sides_in o.groups)) = ap (λ l. texts (flat_map (λ (a : AlternativeParts). flat_map quoted_in a.right) l)) (sym (sides_alternatives o.groups)) ∙ ap texts (quoted_alternatives (sides_in o.groups)) in
      ap (λ l. distinct (filter (λ word. not (is_one_of l word)) (texts (side_literals printed)))) literals_same
      ∙ ap (λ l. distinct (filter (unnamed o) l)) here
      ∙ ap distinct (sides_quoted r.printed)
      ∙ ap (λ l. distinct (filter (unnamed o) l)) (sym there)

  lists_same : lists_of printed ≡ lists_of o
  lists_same =
      same_lists (lists_of printed) (lists_of o) tokens_same
      (ap (λ l. l ++ unnamed_literals printed) token_literals_same ∙ ap (λ l. flat_map literal_of_token o.declarations ++ l) unnamed_same)
      names_same

  rules_same : rules_of printed ≡ rules_of o
  rules_same =
      ap (λ l. flat_map (rules_by l) (groups_of r.sides)) lists_same
      ∙ groups_rules (lists_of o) r.sides ∙ printed_rules r.printed ∙ sides_rules (lists_of o) o.groups

  templates_same : map template_of (alternatives_of printed) ≡ map template_of (alternatives_of o)
  templates_same =
      ap (map template_of) alternatives_are ∙ map_twice template_of (λ (side : Side). side.1) r.sides ∙ printed_templates r.printed
      ∙ sym (ap (map template_of) (sym (sides_alternatives o.groups)) ∙ map_twice template_of (λ (side : Side). side.1) (sides_in o.groups))

  declares_same : map declares_of (alternatives_of printed) ≡ map declares_of (alternatives_of o)
  declares_same =
      ap (map declares_of) alternatives_are ∙ map_twice declares_of (λ (side : Side). side.1) r.sides ∙ printed_declares r.printed
      ∙ sym (ap (map declares_of) (sym (sides_alternatives o.groups)) ∙ map_twice declares_of (λ (side : Side). side.1) (sides_in o.groups))

  sizes_same : length (token_words printed) ≡ length (token_words o)
  sizes_same = sym (length-map (token_words printed) (λ (w : Word). w.bytes)) ∙ ap length tokens_same ∙ length-map (token_words o) (λ (w : Word). w.bytes)

  start_same : start_by (grammar_names printed) (starts printed) ≡ sheet.grammar.start
  start_same =
      ap (start_by (grammar_names printed)) starts_are ∙ ap (λ l. index_of l r.start.bytes) names_same ∙ ap (index_of (grammar_names o)) r.starts ∙ r.start_of.place

  pub same_sheet : IsSheetOf printed sheet
  same_sheet = record {
    decls = decls;
    literals = sound.says.literals ∙ sym unnamed_same;
    names = sound.says.names ∙ sym names_same;
    tokens = sound.says.tokens ∙ ap (λ n. n + length sheet.literals) (sym sizes_same);
    count = sound.says.count;
    rules = sound.says.rules ∙ sym rules_same;
    start = sym start_same;
    templates = sound.says.templates ∙ sym templates_same;
    declares = sound.says.declares ∙ sym declares_same;
  }
