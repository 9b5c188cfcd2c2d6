-- The lines of a layout are read: the declarations and the rules.
use Rattle.std.proofs.Common.{◌≡◌, ℕ, zero, suc, ◌+◌, ◌<◌, ◌≤◌, List, [], ◌∷◌, ◌++◌, length, map, refl, sym, ap, subst, ◌∙◌, arith, append_assoc, append-nil}
use Rattle.std.specs.Prelude.{All, Option, Some, None, codes}
use Rattle.std.specs.List.{flat_map, range_with_len}
use Rattle.std.specs.Fmt.{decimal}
use Rattle.std.proofs.lemmas.List.Elements.{All-head, All-tail}
use Rattle.grammar_data.specs.declared.rule.Sym.TheVariants.{Name as name_symbol}
use Rattle.pattern_data.specs.Printing.{normal_spelling}
use Rattle.pattern_data.proofs.RoundLemmas.{normal_spells}
use Rattle.sheet_data.specs.Sheet.{Sheet}
use Rattle.sheet_data.specs.declared.parts.Decl.{Decl}
use Rattle.sheet_data.specs.declared.parts.Part.{Part}
use Rattle.sheet_data.specs.declared.parts.Part.TheVariants.{Text as text_of, Fold as fold_of, Number as number_of}
use Rattle.sheet_theory.specs.Names.{quote, double_quote, escaped}
use Rattle.lexeme_theory.specs.declared.lexeme.Lexeme.TheVariants.{Name as name_lexeme, Number as number_lexeme, Fold as fold_lexeme, NumberOf as number_of_lexeme, Quoted as quoted_lexeme, Text as text_lexeme, Pattern as pattern_lexeme, Directive as directive_lexeme, Single as single_lexeme}
use Rattle.lexeme_theory.specs.declared.lexeme.Directive.TheVariants.{Token, Skip as skip_directive, Declares}
use Rattle.lexeme_theory.specs.declared.lexeme.Single.TheVariants.{Colon, Semicolon, LeftBrace, RightBrace}
use Rattle.outline_data.specs.declared.outline.Word.{Word}
use Rattle.outline_data.specs.declared.outline.PlaceUse.{PlaceUse}
use Rattle.outline_data.specs.declared.outline.Declaration.{Declaration}
use Rattle.outline_data.specs.declared.outline.Declaration.TheVariants.{Literal, Matched, Skip}
use Rattle.outline_data.specs.declared.rules.TemplatePart.{TemplatePart}
use Rattle.outline_data.specs.declared.rules.TemplatePart.TheVariants.{Text, Fold, Number}
use Rattle.outline_data.specs.AlternativeParts.{AlternativeParts}
use Rattle.outline_data.specs.Parts.{OutlineParts}
use Rattle.outline_theory.specs.Spelling.{Kept, single, named, spelled_declaration, spelled_symbol, spelled_part, spelled_template, spelled_mark, spelled_group}
use Rattle.outline_theory.specs.Words.{start_in, places}
use Rattle.outline_theory.specs.Numbering.{index_of, grammar_names, lists_of, symbol_by, part_of, template_by, template_of, declares_of, AreDecls}
use Rattle.outline_theory.specs.Numbering.AreDecls.{no_decl, literal_first, matched_first, skip_first, start_first}
use Rattle.outline_theory.specs.Layout.{symbol_text, part_text, mark_words, rule_words, pattern_text, decl_words}
use Rattle.layout_laws.proofs.WordLemmas.{AreBytes}
use Rattle.layout_laws.proofs.WordLemmas.Prints.{name_printed, number_printed, fold_printed, number_of_printed, quoted_printed, text_printed, pattern_printed, directive_printed, single_printed}
use Rattle.layout_laws.proofs.PatternLemmas.{normal_text}
use Rattle.layout_laws.proofs.GoodLemmas.{AreGood, good_left, good_right}
use Rattle.layout_laws.proofs.LaidLemmas.{Laid, IsRead, laid_split, read_none, read_join, first_read}
use Rattle.layout_laws.proofs.LaidLemmas.Laid.{no_word}
use Rattle.layout_laws.proofs.IndexLemmas.{Words}
use Rattle.layout_laws.proofs.SideLemmas.{Side, rule_at, group_of, groups_of}
use Rattle.layout_laws.proofs.FactLemmas.{IsFine}
use Rattle.layout_laws.proofs.SymbolLemmas.{IsReadBefore, before_none, before_join, IsSound, ArePrinted, symbols_read, name_text}

-- ---- what may be printed

abbrev IsGoodPart : Part → Type 0
IsGoodPart (text_of bytes) = AreBytes bytes
IsGoodPart (fold_of place) = place < 1_000_000_000
IsGoodPart (number_of place) = place < 1_000_000_000

abbrev GoodParts : List Part → Type 0
GoodParts [] = Unit {0}
GoodParts (part ∷ parts) = IsGoodPart part × GoodParts parts

abbrev GoodPlaces : List ℕ → Type 0
GoodPlaces [] = Unit {0}
GoodPlaces (place ∷ places) = (place < 1_000_000_000) × GoodPlaces places

good_range : (from count : ℕ) → from + count ≤ 30 → GoodParts (map fold_of (range_with_len from count))
good_range from zero h = tt
good_range from (suc count) h = (omega (arith, h), good_range (from + 1) count (omega (arith, h)))

good_parts : (parts : List TemplatePart) (more : List Kept) → AreGood (map spelled_part parts ++ more) → GoodParts (map part_of parts)
good_parts [] more h = tt
good_parts (Text bytes ∷ parts) more h = (h.0, good_parts parts more h.1)
good_parts (Fold used ∷ parts) more h = (h.0, good_parts parts more h.1)
good_parts (Number used ∷ parts) more h = (h.0, good_parts parts more h.1)

good_template : (template : Option (List TemplatePart)) (count : ℕ) → count ≤ 20 → AreGood (spelled_template template) → GoodParts (template_by template count)
good_template None count short h = good_range 1 count (omega (arith, short))
good_template (Some parts) count short h = good_parts parts (single RightBrace ∷ []) h.1

good_marks : (marks : List PlaceUse) → AreGood (flat_map spelled_mark marks) → GoodPlaces (places marks)
good_marks [] h = tt
good_marks (used ∷ marks) h = (h.1.0, good_marks marks h.1.1)

-- ---- parts and marks

record PartsRead (bytes : List ℕ) (from : ℕ) (parts : List Part) (words : Words) (to : ℕ) : Type 0 where
  pub printed : List TemplatePart
  pub are : map part_of printed ≡ parts
  pub before : IsReadBefore bytes from (map spelled_part printed) words to

record MarksRead (bytes : List ℕ) (from : ℕ) (marks : List ℕ) (words : Words) (to : ℕ) : Type 0 where
  pub printed : List PlaceUse
  pub are : places printed ≡ marks
  pub before : IsReadBefore bytes from (flat_map spelled_mark printed) words to

abbrev used_at : ℕ → ℕ → PlaceUse
used_at place line = record { place = place; line = line }

module _ (bytes : List ℕ) (to : ℕ) where
  with_part : (from : ℕ) (part : Part) (parts : List Part) (words : Words) (printed : TemplatePart) → part_of printed ≡ part → (one : IsReadBefore bytes from (spelled_part printed ∷ []) (map part_text parts ++ words) to) → PartsRead bytes one.next parts words to → PartsRead bytes from (part ∷ parts) words to
  with_part from part parts words printed e one rest = record {
    printed = printed ∷ rest.printed;
    are = ap (λ p. p ∷ map part_of rest.printed) e ∙ ap (λ l. part ∷ l) rest.are;
    before = before_join bytes from (spelled_part printed ∷ []) (map spelled_part rest.printed) words (map part_text parts ++ words) to one rest.before;
  }

  parts_read : (from : ℕ) (parts : List Part) (words : Words) → GoodParts parts → Laid bytes from (map part_text parts ++ words) to → PartsRead bytes from parts words to
  parts_read from [] words good h = record { printed = []; are = refl; before = before_none bytes from words to h }
  parts_read from (text_of text ∷ parts) words good h =
      let read = first_read bytes from to (text_lexeme text) (escaped double_quote text) (map part_text parts ++ words) (text_printed good.0) h in
      with_part from (text_of text) parts words (Text text) refl (record { next = read.next; read = read.read; laid = read.laid }) (parts_read read.next parts words good.1 read.laid)
  parts_read from (fold_of place ∷ parts) words good h =
      let read = first_read bytes from to (fold_lexeme place) (36 ∷ decimal place) (map part_text parts ++ words) (fold_printed good.0) h in
      with_part from (fold_of place) parts words (Fold (used_at place read.line)) refl (record { next = read.next; read = read.read; laid = read.laid }) (parts_read read.next parts words good.1 read.laid)
  parts_read from (number_of place ∷ parts) words good h =
      let read = first_read bytes from to (number_of_lexeme place) (35 ∷ decimal place) (map part_text parts ++ words) (number_of_printed good.0) h in
      with_part from (number_of place) parts words (Number (used_at place read.line)) refl (record { next = read.next; read = read.read; laid = read.laid }) (parts_read read.next parts words good.1 read.laid)

  marks_read : (from : ℕ) (marks : List ℕ) (words : Words) → GoodPlaces marks → Laid bytes from (flat_map mark_words marks ++ words) to → MarksRead bytes from marks words to
  marks_read from [] words good h = record { printed = []; are = refl; before = before_none bytes from words to h }
  marks_read from (place ∷ marks) words good h =
      let one = first_read bytes from to (directive_lexeme Declares) (codes "%declares") (decimal place ∷ (flat_map mark_words marks ++ words)) directive_printed h in
      let two = first_read bytes one.next to (number_lexeme place) (decimal place) (flat_map mark_words marks ++ words) (number_printed good.0) one.laid in
      let rest = marks_read two.next marks words good.1 two.laid in
      record {
        printed = used_at place two.line ∷ rest.printed;
        are = ap (λ l. place ∷ l) rest.are;
        before = record { next = rest.before.next; read = read_join bytes one.read (read_join bytes two.read rest.before.read); laid = rest.before.laid };
      }

-- ---- rules

pub record IsPrintedSide (o : OutlineParts) (side printed : Side) : Type 0 where
  pub left : printed.0.bytes ≡ side.0.bytes
  pub right : ArePrinted o side.1.right printed.1.right
  pub parts : List TemplatePart
  pub template : printed.1.template ≡ Some parts
  pub says : map part_of parts ≡ template_of side.1
  pub marks : places printed.1.marks ≡ places side.1.marks

pub data ArePrintedSides (o : OutlineParts) : List Side → List Side → Type 0 where
  none_sides : ArePrintedSides o [] []
  next_side : {side printed : Side} {sides others : List Side} → IsPrintedSide o side printed → ArePrintedSides o sides others → ArePrintedSides o (side ∷ sides) (printed ∷ others)

record SideRead (o : OutlineParts) (bytes : List ℕ) (from : ℕ) (side : Side) (to : ℕ) : Type 0 where
  pub printed : Side
  pub is : IsPrintedSide o side printed
  pub read : IsRead bytes from (spelled_group (group_of printed)) to

pub record SidesRead (o : OutlineParts) (bytes : List ℕ) (from : ℕ) (sides : List Side) (to : ℕ) : Type 0 where
  pub printed : List Side
  pub are : ArePrintedSides o sides printed
  pub read : IsRead bytes from (flat_map spelled_group (groups_of printed)) to

joined : (symbols parts marks : List Kept) (left right last : Kept)
    → symbols ++ (left ∷ (parts ++ (right ∷ (marks ++ last ∷ [])))) ≡ ((symbols ++ ((left ∷ (parts ++ right ∷ [])) ++ marks)) ++ []) ++ last ∷ []
joined symbols parts marks left right last =
    sym (ap (λ l. l ++ last ∷ []) (append-nil (symbols ++ ((left ∷ (parts ++ right ∷ [])) ++ marks)))
    ∙ append_assoc symbols ((left ∷ (parts ++ right ∷ [])) ++ marks) (last ∷ [])
    ∙ ap (λ l. symbols ++ (left ∷ l)) (append_assoc (parts ++ right ∷ []) marks (last ∷ []) ∙ append_assoc parts (right ∷ []) (marks ++ last ∷ [])))

read_to : (bytes : List ℕ) (from next to : ℕ) (lexemes : List Kept) → Laid bytes next [] to → IsRead bytes from lexemes next → IsRead bytes from lexemes to
read_to bytes from next to lexemes (no_word e) h = subst (IsRead bytes from lexemes) e h

module _ (o : OutlineParts) (sheet : Sheet) (sound : IsSound o sheet) (bytes : List ℕ) where
  abbrev words_of : Side → Words
  words_of side = rule_words sheet (rule_at (lists_of o) side) (template_of side.1) (declares_of side.1)

  side_read : (from to : ℕ) (side : Side) → IsFine o side → Laid bytes from (words_of side) to → SideRead o bytes from side to
  side_read from to side fine h =
      let marks : Words = flat_map mark_words (declares_of side.1) ++ codes ";" ∷ [] in
      let parts : Words = map part_text (template_of side.1) ++ (codes "}" ∷ marks) in
      let symbols : Words = map (symbol_text sheet) (map (symbol_by (lists_of o)) side.1.right) ++ (codes "{" ∷ parts) in
      let left_text : symbol_text sheet (name_symbol (index_of (grammar_names o) side.0.bytes)) ≡ side.0.bytes = name_text o sheet sound side.0.bytes fine.left_known in
      let laid : Laid bytes from (side.0.bytes ∷ codes ":" ∷ symbols) to = subst (λ w. Laid bytes from (w ∷ codes ":" ∷ symbols) to) left_text h in
      let good_symbols = good_left (map spelled_symbol side.1.right) (spelled_template side.1.template ++ flat_map spelled_mark side.1.marks) fine.good in
      let good_rest = good_right (map spelled_symbol side.1.right) (spelled_template side.1.template ++ flat_map spelled_mark side.1.marks) fine.good in
      let good_template_parts = good_template side.1.template (length side.1.right) fine.short (good_left (spelled_template side.1.template) (flat_map spelled_mark side.1.marks) good_rest) in
      let good_mark_places = good_marks side.1.marks (good_right (spelled_template side.1.template) (flat_map spelled_mark side.1.marks) good_rest) in
      let left = first_read bytes from to (name_lexeme side.0.bytes) side.0.bytes (codes ":" ∷ symbols) (name_printed fine.left_name) laid in
      let colon = first_read bytes left.next to (single_lexeme Colon) (codes ":") symbols single_printed left.laid in
      let right = symbols_read o sheet sound bytes to colon.next side.1.right (codes "{" ∷ parts) fine.known good_symbols colon.laid in
      let opening = first_read bytes right.before.next to (single_lexeme LeftBrace) (codes "{") parts single_printed right.before.laid in
      let template = parts_read bytes to opening.next (template_of side.1) (codes "}" ∷ marks) good_template_parts opening.laid in
      let closing = first_read bytes template.before.next to (single_lexeme RightBrace) (codes "}") marks single_printed template.before.laid in
      let declares = marks_read bytes to closing.next (declares_of side.1) (codes ";" ∷ []) good_mark_places closing.laid in
      let end = first_read bytes declares.before.next to (single_lexeme Semicolon) (codes ";") [] single_printed declares.before.laid in
      let name : Word = record { bytes = side.0.bytes; line = left.line } in
      let alternative : AlternativeParts = record { right = right.printed; template = Some template.printed; marks = declares.printed } in
      let lexemes : List Kept = map spelled_symbol right.printed ++ (single LeftBrace ∷ (map spelled_part template.printed ++ (single RightBrace ∷ (flat_map spelled_mark declares.printed ++ single Semicolon ∷ [])))) in
      let read : IsRead bytes from (named name ∷ single Colon ∷ lexemes) end.next =
      read_join bytes left.read (read_join bytes colon.read (read_join bytes right.before.read (read_join bytes opening.read (read_join bytes template.before.read (read_join bytes closing.read (read_join bytes declares.before.read end.read)))))) in
      let spelled : lexemes ≡ ((map spelled_symbol right.printed ++ ((single LeftBrace ∷ (map spelled_part template.printed ++ single RightBrace ∷ [])) ++ flat_map spelled_mark declares.printed)) ++ []) ++ single Semicolon ∷ [] =
      joined (map spelled_symbol right.printed) (map spelled_part template.printed) (flat_map spelled_mark declares.printed) (single LeftBrace) (single RightBrace) (single Semicolon) in
      record {
        printed = (name, alternative);
        is = record { left = refl; right = right.are; parts = template.printed; template = refl; says = template.are; marks = declares.are };
        read = subst (λ l. IsRead bytes from (named name ∷ single Colon ∷ l) to) spelled (read_to bytes from end.next to (named name ∷ single Colon ∷ lexemes) end.laid read);
      }

  pub sides_read : (from to : ℕ) (sides : List Side) → All (IsFine o) sides → Laid bytes from (flat_map words_of sides) to → SidesRead o bytes from sides to
  sides_read from to [] fine (no_word e) = record { printed = []; are = none_sides; read = read_none bytes from to e }
  sides_read from to (side ∷ sides) fine h =
      let split = laid_split bytes from to (words_of side) (flat_map words_of sides) h in
      let first = side_read from split.0 side (All-head (IsFine o) side sides fine) split.1 in
      let rest = sides_read split.0 to sides (All-tail (IsFine o) side sides fine) split.2 in
      record {
        printed = first.printed ∷ rest.printed;
        are = next_side first.is rest.are;
        read = read_join bytes first.read rest.read;
      }

-- ---- declarations

pub record DeclsRead (bytes : List ℕ) (from : ℕ) (decls : List Decl) (words : Words) (to : ℕ) : Type 0 where
  pub printed : List Declaration
  pub are : AreDecls printed decls
  pub no_start : flat_map start_in printed ≡ []
  pub before : IsReadBefore bytes from (flat_map spelled_declaration printed) words to

module _ (bytes : List ℕ) (to : ℕ) where
  pub decls_read : {ds : List Declaration} {decls : List Decl} (from : ℕ) (words : Words) → AreDecls ds decls → AreGood (flat_map spelled_declaration ds) → Laid bytes from (flat_map (λ l. l) (map decl_words decls) ++ words) to → DeclsRead bytes from decls words to
  decls_read from words no_decl good h = record { printed = []; are = no_decl; no_start = refl; before = before_none bytes from words to h }
  decls_read from words (start_first are) good h = decls_read from words are good.1.1 h
  decls_read from words (literal_first {name = name} {literal = literal} {decls = decls} are is) good h =
      let more : Words = flat_map (λ l. l) (map decl_words decls) ++ words in
      let laid : Laid bytes from (codes "%token" ∷ name.bytes ∷ escaped quote literal.bytes ∷ more) to = subst (λ l. Laid bytes from (flat_map (λ m. m) (map decl_words l) ++ words) to) is h in
      let one = first_read bytes from to (directive_lexeme Token) (codes "%token") (name.bytes ∷ escaped quote literal.bytes ∷ more) directive_printed laid in
      let two = first_read bytes one.next to (name_lexeme name.bytes) name.bytes (escaped quote literal.bytes ∷ more) (name_printed good.1.0) one.laid in
      let three = first_read bytes two.next to (quoted_lexeme literal.bytes) (escaped quote literal.bytes) more (quoted_printed good.1.1.0) two.laid in
      let rest = decls_read three.next words are good.1.1.1 three.laid in
      let declared : Declaration = Literal (record { bytes = name.bytes; line = two.line }) (record { bytes = literal.bytes; line = three.line }) in
      record {
        printed = declared ∷ rest.printed;
        are = literal_first rest.are is;
        no_start = rest.no_start;
        before = record { next = rest.before.next; read = read_join bytes one.read (read_join bytes two.read (read_join bytes three.read rest.before.read)); laid = rest.before.laid };
      }
  decls_read from words (matched_first {name = name} {word = word} {pattern = pattern} {decls = decls} spelled are is) good h =
      let more : Words = flat_map (λ l. l) (map decl_words decls) ++ words in
      let laid : Laid bytes from (codes "%token" ∷ name.bytes ∷ pattern_text pattern ∷ more) to = subst (λ l. Laid bytes from (flat_map (λ m. m) (map decl_words l) ++ words) to) is h in
      let one = first_read bytes from to (directive_lexeme Token) (codes "%token") (name.bytes ∷ pattern_text pattern ∷ more) directive_printed laid in
      let two = first_read bytes one.next to (name_lexeme name.bytes) name.bytes (pattern_text pattern ∷ more) (name_printed good.1.0) one.laid in
      let three = first_read bytes two.next to (pattern_lexeme (normal_spelling pattern)) (pattern_text pattern) more (pattern_printed (normal_text word.bytes pattern spelled)) two.laid in
      let rest = decls_read three.next words are good.1.1.1 three.laid in
      let declared : Declaration = Matched (record { bytes = name.bytes; line = two.line }) (record { bytes = normal_spelling pattern; line = three.line }) in
      record {
        printed = declared ∷ rest.printed;
        are = matched_first (normal_spells word.bytes pattern spelled) rest.are is;
        no_start = rest.no_start;
        before = record { next = rest.before.next; read = read_join bytes one.read (read_join bytes two.read (read_join bytes three.read rest.before.read)); laid = rest.before.laid };
      }
  decls_read from words (skip_first {word = word} {pattern = pattern} {decls = decls} spelled are is) good h =
      let more : Words = flat_map (λ l. l) (map decl_words decls) ++ words in
      let laid : Laid bytes from (codes "%skip" ∷ pattern_text pattern ∷ more) to = subst (λ l. Laid bytes from (flat_map (λ m. m) (map decl_words l) ++ words) to) is h in
      let one = first_read bytes from to (directive_lexeme skip_directive) (codes "%skip") (pattern_text pattern ∷ more) directive_printed laid in
      let two = first_read bytes one.next to (pattern_lexeme (normal_spelling pattern)) (pattern_text pattern) more (pattern_printed (normal_text word.bytes pattern spelled)) one.laid in
      let rest = decls_read two.next words are good.1.1 two.laid in
      let declared : Declaration = Skip (record { bytes = normal_spelling pattern; line = two.line }) in
      record {
        printed = declared ∷ rest.printed;
        are = skip_first (normal_spells word.bytes pattern spelled) rest.are is;
        no_start = rest.no_start;
        before = record { next = rest.before.next; read = read_join bytes one.read (read_join bytes two.read rest.before.read); laid = rest.before.laid };
      }
