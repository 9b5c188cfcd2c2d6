-- The layout of a sheet is read as an outline.
use Rattle.std.proofs.Common.{◌≡◌, ℕ, ◌+◌, List, [], ◌∷◌, ◌++◌, length, map, true, false, refl, sym, ap, subst, ◌∙◌, ⊎_elim, arith, append_assoc, append-nil}
use Rattle.std.specs.Prelude.{All, Contains, codes, filter, not}
use Rattle.std.specs.List.{flat_map}
use Rattle.std.specs.Str.{bytes_eq}
use Rattle.std.proofs.lemmas.Bool.{false≢true}
use Rattle.std.proofs.lemmas.Grind.{flat_map-append}
use Rattle.grammar_data.specs.declared.rule.Sym.TheVariants.{Name as name_symbol}
use Rattle.sheet_data.specs.Sheet.{Sheet}
use Rattle.lexeme_theory.specs.declared.lexeme.Lexeme.TheVariants.{Name as name_lexeme, Mark, Directive as directive_lexeme}
use Rattle.lexeme_theory.specs.declared.lexeme.Directive.TheVariants.{Start as start_directive}
use Rattle.outline_data.specs.declared.outline.Word.{Word}
use Rattle.outline_data.specs.declared.outline.Declaration.{Declaration}
use Rattle.outline_data.specs.declared.outline.Declaration.TheVariants.{Start}
use Rattle.outline_data.specs.GroupParts.{GroupParts}
use Rattle.outline_data.specs.Parts.{OutlineParts}
use Rattle.outline_theory.specs.Spelling.{Kept, bare, named, spelled_declaration, spelled_group, spelled_outline}
use Rattle.outline_theory.specs.Words.{texts, StartUse, starts, start_in}
use Rattle.outline_theory.specs.LineFaults.HasLineFault.{unknown_start}
use Rattle.outline_theory.specs.Numbering.{is_one_of, index_of, distinct, grammar_names, lists_of, start_by, template_of, declares_of, AreDecls}
use Rattle.outline_theory.specs.Layout.{line_text, symbol_text, decl_words, rule_words, rule_lines, layout_lines, layout}
use Rattle.outline_theory.specs.Reading.{IsFaultless}
use Rattle.layout_laws.proofs.StandLemmas.{Stands}
use Rattle.layout_laws.proofs.WordLemmas.Prints.{name_printed, directive_printed, mark_printed}
use Rattle.layout_laws.proofs.GoodLemmas.{AreGood}
use Rattle.layout_laws.proofs.LaidLemmas.{Laid, IsRead, lines_laid, read_join, first_read}
use Rattle.layout_laws.proofs.MemberLemmas.{first_member}
use Rattle.layout_laws.proofs.IndexLemmas.{Words, one_or_not, index_first}
use Rattle.layout_laws.proofs.SideLemmas.{Side, sides_in, rule_at, sides_alternatives, sides_rules, rule_lines_at, map_twice, flat_mapped, groups_of}
use Rattle.layout_laws.proofs.FactLemmas.{IsFine, rule_known, known_rule, declarations_good, lefts_named}
use Rattle.layout_laws.proofs.SymbolLemmas.{IsSound, name_text}
use Rattle.layout_laws.proofs.RuleLemmas.{ArePrintedSides, sides_read, decls_read}

-- the outline of a layout: the declarations, the start, and a group for each rule
abbrev pub layout_outline : List Declaration → ℕ → Word → List Side → OutlineParts
layout_outline declared line start sides = record { declarations = declared ++ Start line start ∷ []; groups = groups_of sides; has_rest = false }

-- the start's name
pub record StartOf (o : OutlineParts) (sheet : Sheet) : Type 0 where
  pub word : List ℕ
  pub one : is_one_of (grammar_names o) word ≡ true
  pub place : index_of (grammar_names o) word ≡ sheet.grammar.start

pub record LayoutRead (o : OutlineParts) (sheet : Sheet) : Type 0 where
  pub start_of : StartOf o sheet
  pub declared : List Declaration
  pub line : ℕ
  pub start : Word
  pub sides : List Side
  pub are : AreDecls declared sheet.decls
  pub no_start : flat_map start_in declared ≡ []
  pub starts : start.bytes ≡ start_of.word
  pub printed : ArePrintedSides o (sides_in o.groups) sides
  pub read : IsRead (layout sheet) 0 (spelled_outline (layout_outline declared line start sides)) (length (layout sheet))

spelled_layout : (declared : List Declaration) (line : ℕ) (start : Word) (sides : List Side)
    → flat_map spelled_declaration declared ++ ((directive_lexeme start_directive, line) ∷ named start ∷ bare Mark ∷ flat_map spelled_group (groups_of sides)) ≡ spelled_outline (layout_outline declared line start sides)
unfolding spelled_outline
spelled_layout declared line start sides =
    let groups : List Kept = flat_map spelled_group (groups_of sides) in
    let started : List Kept = (directive_lexeme start_directive, line) ∷ named start ∷ [] in
    ap (λ l. flat_map spelled_declaration declared ++ ((directive_lexeme start_directive, line) ∷ named start ∷ bare Mark ∷ l)) (sym (append-nil groups))
    ∙ sym (append_assoc (flat_map spelled_declaration declared) started (bare Mark ∷ (groups ++ [])))
    ∙ ap (λ l. l ++ (bare Mark ∷ (groups ++ []))) (sym (flat_map-append spelled_declaration declared (Start line start ∷ [])))

module _ (o : OutlineParts) (faultless : IsFaultless o) (sheet : Sheet) (sound : IsSound o sheet) where
  first_group : (groups : List GroupParts) → o.groups ≡ groups → (word : List ℕ) × (is_one_of (grammar_names o) word ≡ true) × (index_of (grammar_names o) word ≡ 0)
  unfolding grammar_names
  first_group [] e = absurd (faultless.rules e)
  first_group (g ∷ groups) e =
      let names : Words = texts (map (λ (h : GroupParts). h.left) (g ∷ groups)) in
      let same : grammar_names o ≡ distinct names = ap (λ gs. distinct (texts (map (λ (h : GroupParts). h.left) gs))) e in (
        g.left.bytes,
        rule_known o g.left.bytes (subst (λ gs. Contains (texts (map (λ (h : GroupParts). h.left) gs)) g.left.bytes) (sym e) (first_member g.left.bytes _)),
        ap (λ l. index_of l g.left.bytes) same ∙ index_first g.left.bytes (filter (λ other. not (bytes_eq g.left.bytes other)) (distinct (texts (map (λ (h : GroupParts). h.left) groups)))),
      )

  start_known : (start : StartUse) → Contains (starts o) start → is_one_of (grammar_names o) start.name.bytes ≡ true
  start_known start h = ⊎_elim
      (λ one. one)
      (λ none. absurd (faultless.none _ (unknown_start h (λ rule. false≢true (sym none ∙ rule_known o start.name.bytes rule)))))
      (one_or_not (grammar_names o) start.name.bytes)

  start_by_uses : (uses : List StartUse) → starts o ≡ uses → StartOf o sheet
  start_by_uses [] e =
      let first = first_group o.groups refl in
      record { word = first.0; one = first.1; place = first.2 ∙ sym (sound.says.start ∙ ap (start_by (grammar_names o)) e) }
  start_by_uses (start ∷ uses) e = record {
    word = start.name.bytes;
    one = start_known start (subst (λ l. Contains l start) (sym e) (first_member start uses));
    place = sym (sound.says.start ∙ ap (start_by (grammar_names o)) e);
  }

  start_of : StartOf o sheet
  start_of = start_by_uses (starts o) refl

  start_text : symbol_text sheet (name_symbol sheet.grammar.start) ≡ start_of.word
  start_text = ap (λ n. symbol_text sheet (name_symbol n)) (sym start_of.place) ∙ name_text o sheet sound start_of.word start_of.one

  abbrev words_of : Side → Words
  words_of side = rule_words sheet (rule_at (lists_of o) side) (template_of side.1) (declares_of side.1)

  -- the words of the rules
  rules_laid : rule_lines sheet sheet.grammar.rules sheet.templates sheet.declares ≡ map words_of (sides_in o.groups)
  rules_laid =
      let sides : List Side = sides_in o.groups in
      let rules : sheet.grammar.rules ≡ map (rule_at (lists_of o)) sides = sound.says.rules ∙ sym (sides_rules (lists_of o) o.groups) in
      let templates : sheet.templates ≡ map (λ (side : Side). template_of side.1) sides = sound.says.templates ∙ ap (map template_of) (sym (sides_alternatives o.groups)) ∙ map_twice template_of (λ (side : Side). side.1) sides in
      let declares : sheet.declares ≡ map (λ (side : Side). declares_of side.1) sides = sound.says.declares ∙ ap (map declares_of) (sym (sides_alternatives o.groups)) ∙ map_twice declares_of (λ (side : Side). side.1) sides in
      ap (λ l. rule_lines sheet l sheet.templates sheet.declares) rules
      ∙ ap (λ l. rule_lines sheet (map (rule_at (lists_of o)) sides) l sheet.declares) templates
      ∙ ap (λ l. rule_lines sheet (map (rule_at (lists_of o)) sides) (map (λ (side : Side). template_of side.1) sides) l) declares
      ∙ rule_lines_at sheet (rule_at (lists_of o)) (λ (side : Side). template_of side.1) (λ (side : Side). declares_of side.1) sides

  abbrev behind_decls : Words
  behind_decls = codes "%start" ∷ start_of.word ∷ codes "%%" ∷ flat_map words_of (sides_in o.groups)

  words_are : flat_map (λ l. l) (layout_lines sheet) ≡ flat_map (λ l. l) (map decl_words sheet.decls) ++ behind_decls
  words_are =
      flat_map-append (λ l. l) (map decl_words sheet.decls) ((codes "%start" ∷ symbol_text sheet (name_symbol sheet.grammar.start) ∷ []) ∷ (codes "%%" ∷ []) ∷ rule_lines sheet sheet.grammar.rules sheet.templates sheet.declares)
      ∙ ap (λ l. flat_map (λ m. m) (map decl_words sheet.decls) ++ (codes "%start" ∷ symbol_text sheet (name_symbol sheet.grammar.start) ∷ codes "%%" ∷ flat_map (λ m. m) l)) rules_laid
      ∙ ap (λ l. flat_map (λ m. m) (map decl_words sheet.decls) ++ (codes "%start" ∷ symbol_text sheet (name_symbol sheet.grammar.start) ∷ codes "%%" ∷ l)) (flat_mapped words_of (sides_in o.groups))
      ∙ ap (λ w. flat_map (λ m. m) (map decl_words sheet.decls) ++ (codes "%start" ∷ w ∷ codes "%%" ∷ flat_map words_of (sides_in o.groups))) start_text

  layout_laid : Laid (layout sheet) 0 (flat_map (λ l. l) (map decl_words sheet.decls) ++ behind_decls) (length (layout sheet))
  unfolding layout
  layout_laid =
      let bytes : List ℕ = flat_map line_text (layout_lines sheet) in
      let stands : Stands bytes 0 bytes = record { rest = []; is = sym (append-nil bytes) } in
      let same : 0 + length bytes ≡ length bytes = omega arith in
      subst (λ l. Laid bytes 0 l (length bytes)) words_are (subst (Laid bytes 0 (flat_map (λ l. l) (layout_lines sheet))) same (lines_laid bytes 0 (layout_lines sheet) stands))

  pub layout_read : AreGood (spelled_outline o) → All (IsFine o) (sides_in o.groups) → LayoutRead o sheet
  layout_read good fine =
      let bytes : List ℕ = layout sheet in
      let to : ℕ = length bytes in
      let rules : Words = flat_map words_of (sides_in o.groups) in
      let decls = decls_read bytes to 0 behind_decls sound.says.decls (declarations_good o faultless good) layout_laid in
      let one = first_read bytes decls.before.next to (directive_lexeme start_directive) (codes "%start") (start_of.word ∷ codes "%%" ∷ rules) directive_printed decls.before.laid in
      let two = first_read bytes one.next to (name_lexeme start_of.word) start_of.word (codes "%%" ∷ rules) (name_printed (lefts_named o faultless good start_of.word (known_rule o start_of.word start_of.one))) one.laid in
      let three = first_read bytes two.next to Mark (codes "%%") rules mark_printed two.laid in
      let sides = sides_read o sheet sound bytes three.next to (sides_in o.groups) fine three.laid in
      let start : Word = record { bytes = start_of.word; line = two.line } in
      record {
        start_of = start_of;
        declared = decls.printed;
        line = one.line;
        start = start;
        sides = sides.printed;
        are = decls.are;
        no_start = decls.no_start;
        starts = refl;
        printed = sides.are;
        read = subst (λ l. IsRead bytes 0 l to) (spelled_layout decls.printed one.line start sides.printed) (read_join bytes decls.before.read (read_join bytes one.read (read_join bytes two.read (read_join bytes three.read sides.read))));
      }
