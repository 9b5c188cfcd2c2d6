-- The symbols of a right side, as a layout has them.
use Rattle.std.proofs.Common.{◌≡◌, ◌≢◌, ℕ, ◌+◌, ◌<◌, List, [], ◌∷◌, ◌++◌, length, map, get_or, true, false, cond, refl, sym, ap, subst, ◌∙◌, inl, inr, arith}
use Rattle.std.specs.Prelude.{All, Contains, Some, slice_get, unwrap_or}
use Rattle.std.specs.List.{flat_map}
use Rattle.std.proofs.lemmas.List.Elements.{All-head, All-tail}
use Rattle.std.proofs.lemmas.Option.{slice_get-get_or}
use Rattle.grammar_data.specs.declared.rule.Sym.TheVariants.{Token as token_symbol, Name as name_symbol}
use Rattle.sheet_data.specs.Sheet.{Sheet}
use Rattle.sheet_theory.specs.Names.{quote, escaped, declared_names, token_names}
use Rattle.sheet_theory.proofs.NameLemmas.{token_names-declared, token_names-literal}
use Rattle.lexeme_theory.specs.declared.lexeme.Lexeme.TheVariants.{Name as name_lexeme, Quoted as quoted_lexeme}
use Rattle.outline_data.specs.declared.outline.Word.{Word}
use Rattle.outline_data.specs.declared.rules.Symbol.{Symbol}
use Rattle.outline_data.specs.declared.rules.Symbol.TheVariants.{Name, Quoted}
use Rattle.outline_data.specs.Parts.{OutlineParts}
use Rattle.outline_theory.specs.Spelling.{Kept, spelled_symbol}
use Rattle.outline_theory.specs.Words.{texts, token_words, literal_words}
use Rattle.outline_theory.specs.Numbering.{is_one_of, index_of, unnamed_literals, literal_of_token, token_literals, grammar_names, WordLists, lists_of, symbol_by, IsSheetOf}
use Rattle.outline_theory.specs.Layout.{symbol_text}
use Rattle.layout_laws.proofs.WordLemmas.{IsName, AreBytes}
use Rattle.layout_laws.proofs.WordLemmas.Prints.{name_printed, quoted_printed}
use Rattle.layout_laws.proofs.GoodLemmas.{AreGood, IsGoodKept}
use Rattle.layout_laws.proofs.LaidLemmas.{Laid, IsRead, read_none, read_join, first_read}
use Rattle.layout_laws.proofs.MemberLemmas.{IsRepeated}
use Rattle.layout_laws.proofs.IndexLemmas.{Words, at_first, index_within, one_at, contains, index_append_left, index_append_right, index_once}
use Rattle.layout_laws.proofs.FactLemmas.{IsKnown}

-- these lexemes are read, and the other words stand behind them
pub record IsReadBefore (bytes : List ℕ) (from : ℕ) (lexemes : List Kept) (words : Words) (to : ℕ) : Type 0 where
  pub next : ℕ
  pub read : IsRead bytes from lexemes next
  pub laid : Laid bytes next words to

pub before_none : (bytes : List ℕ) (from : ℕ) (words : Words) (to : ℕ) → Laid bytes from words to → IsReadBefore bytes from [] words to
before_none bytes from words to h = record { next = from; read = read_none bytes from from refl; laid = h }

pub before_join : (bytes : List ℕ) (from : ℕ) (lexemes others : List Kept) (words more : Words) (to : ℕ) (one : IsReadBefore bytes from lexemes more to) → IsReadBefore bytes one.next others words to → IsReadBefore bytes from (lexemes ++ others) words to
before_join bytes from lexemes others words more to one other = record { next = other.next; read = read_join bytes one.read other.read; laid = other.laid }

-- the literals of the declared tokens, by their numbers
abbrev pub declared_literals : OutlineParts → Words
declared_literals o = flat_map literal_of_token o.declarations

-- what holds of an outline and its sheet
pub record IsSound (o : OutlineParts) (sheet : Sheet) : Type 0 where
  pub says : IsSheetOf o sheet
  pub tokens : declared_names sheet.decls ≡ texts (token_words o)
  pub size : length (declared_literals o) ≡ length (texts (token_words o))
  pub declared : (word : List ℕ) → word ≢ [] → is_one_of (declared_literals o) word ≡ is_one_of (texts (literal_words o)) word
  pub once : (word : List ℕ) → IsRepeated (texts (token_words o)) word → ⊥
  pub named : (word : List ℕ) → Contains (texts (token_words o)) word → IsName word

-- the symbol as the layout has it: a literal that a token is named for stands as this token's name
pub data IsPrinted (o : OutlineParts) : Symbol → Symbol → Type 0 where
  same_name : {word printed : Word} → printed.bytes ≡ word.bytes → IsPrinted o (Name word) (Name printed)
  same_literal : {word printed : Word} → printed.bytes ≡ word.bytes → is_one_of (texts (literal_words o)) word.bytes ≡ false → IsPrinted o (Quoted word) (Quoted printed)
  named_literal : {word printed : Word} → is_one_of (texts (literal_words o)) word.bytes ≡ true → is_one_of (texts (token_words o)) printed.bytes ≡ true → symbol_by (lists_of o) (Name printed) ≡ symbol_by (lists_of o) (Quoted word) → IsPrinted o (Quoted word) (Name printed)

pub data ArePrinted (o : OutlineParts) : List Symbol → List Symbol → Type 0 where
  none_printed : ArePrinted o [] []
  next_printed : {s printed : Symbol} {ss others : List Symbol} → IsPrinted o s printed → ArePrinted o ss others → ArePrinted o (s ∷ ss) (printed ∷ others)

pub record SymbolRead (o : OutlineParts) (bytes : List ℕ) (from : ℕ) (s : Symbol) (words : Words) (to : ℕ) : Type 0 where
  pub printed : Symbol
  pub is : IsPrinted o s printed
  pub before : IsReadBefore bytes from (spelled_symbol printed ∷ []) words to

pub record SymbolsRead (o : OutlineParts) (bytes : List ℕ) (from : ℕ) (ss : List Symbol) (words : Words) (to : ℕ) : Type 0 where
  pub printed : List Symbol
  pub are : ArePrinted o ss printed
  pub before : IsReadBefore bytes from (map spelled_symbol printed) words to

module _ (o : OutlineParts) (sheet : Sheet) (sound : IsSound o sheet) where
  abbrev lists : WordLists
  lists = lists_of o

  -- a token's printed name
  token_text : (name : List ℕ) (a : ℕ) → slice_get (texts (token_words o)) a ≡ Some name → symbol_text sheet (token_symbol a) ≡ name
  token_text name a found = ap (λ x. unwrap_or x []) (token_names-declared sheet a name (ap (λ l. slice_get l a) sound.tokens ∙ found))

  pub name_text : (name : List ℕ) → is_one_of (grammar_names o) name ≡ true → symbol_text sheet (name_symbol (index_of (grammar_names o) name)) ≡ name
  name_text name one = ap (λ x. unwrap_or x []) (ap (λ l. slice_get l (index_of (grammar_names o) name)) sound.says.names ∙ at_first (grammar_names o) name one)

  -- the symbols of names
  token_is : (word : Word) → is_one_of (texts (token_words o)) word.bytes ≡ true → symbol_by lists (Name word) ≡ token_symbol (index_of (texts (token_words o)) word.bytes)
  token_is word e = ap (λ b. cond b (token_symbol (index_of (texts (token_words o)) word.bytes)) (name_symbol (index_of (grammar_names o) word.bytes))) e

  name_is : (word : Word) → is_one_of (texts (token_words o)) word.bytes ≡ false → symbol_by lists (Name word) ≡ name_symbol (index_of (grammar_names o) word.bytes)
  name_is word e = ap (λ b. cond b (token_symbol (index_of (texts (token_words o)) word.bytes)) (name_symbol (index_of (grammar_names o) word.bytes))) e

  name_prints : (word : Word) → IsKnown o (Name word) → symbol_text sheet (symbol_by lists (Name word)) ≡ word.bytes
  name_prints word (inl token) = ap (symbol_text sheet) (token_is word token) ∙ token_text word.bytes (index_of (texts (token_words o)) word.bytes) (at_first (texts (token_words o)) word.bytes token)
  name_prints word (inr (none, rule)) = ap (symbol_text sheet) (name_is word none) ∙ name_text word.bytes rule

  -- literals
  unnamed_index : (word : List ℕ) → word ≢ [] → is_one_of (texts (literal_words o)) word ≡ false → index_of (token_literals o) word ≡ length (declared_names sheet.decls) + index_of sheet.literals word
  unnamed_index word some none =
      let place = index_append_right (declared_literals o) (unnamed_literals o) word (sound.declared word some ∙ none) in
      let size : length (declared_names sheet.decls) ≡ length (texts (token_words o)) = ap length sound.tokens in
      let same : index_of sheet.literals word ≡ index_of (unnamed_literals o) word = ap (λ l. index_of l word) sound.says.literals in
      omega (arith, place, size, same, sound.size)

  unnamed_prints : (word : Word) → word.bytes ≢ [] → is_one_of (texts (literal_words o)) word.bytes ≡ false → is_one_of (unnamed_literals o) word.bytes ≡ true → symbol_text sheet (symbol_by lists (Quoted word)) ≡ escaped quote word.bytes
  unnamed_prints word some none one =
      ap (λ n. unwrap_or (slice_get (token_names sheet) n) []) (unnamed_index word.bytes some none)
      ∙ ap (λ x. unwrap_or x []) (token_names-literal sheet (index_of sheet.literals word.bytes) word.bytes (at_first sheet.literals word.bytes (ap (λ l. is_one_of l word.bytes) sound.says.literals ∙ one)))

  -- the name of a literal's token
  record TokenOf (word : Word) : Type 0 where
    pub name : List ℕ
    pub one : is_one_of (texts (token_words o)) name ≡ true
    pub text : symbol_text sheet (symbol_by lists (Quoted word)) ≡ name
    pub is : token_symbol (index_of (texts (token_words o)) name) ≡ symbol_by lists (Quoted word)

  token_of : (word : Word) → word.bytes ≢ [] → is_one_of (texts (literal_words o)) word.bytes ≡ true → TokenOf word
  token_of word some one =
      let tokens : Words = texts (token_words o) in
      let known : is_one_of (declared_literals o) word.bytes ≡ true = sound.declared word.bytes some ∙ one in
      let a : ℕ = index_of (declared_literals o) word.bytes in
      let within : a < length (declared_literals o) = index_within (declared_literals o) word.bytes known in
      let found : slice_get tokens a ≡ Some (get_or tokens a []) = slice_get-get_or tokens a [] (omega (arith, within, sound.size)) in
      let same : index_of (token_literals o) word.bytes ≡ a = index_append_left (declared_literals o) (unnamed_literals o) word.bytes known in
      record {
        name = get_or tokens a [];
        one = one_at tokens (get_or tokens a []) a found;
        text = ap (λ n. symbol_text sheet (token_symbol n)) same ∙ token_text (get_or tokens a []) a found;
        is = ap token_symbol (index_once tokens sound.once (get_or tokens a []) a found ∙ sym same);
      }

  module _ (bytes : List ℕ) (to : ℕ) where
    with_text : (from : ℕ) (text name : List ℕ) (words : Words) → text ≡ name → Laid bytes from (text ∷ words) to → Laid bytes from (name ∷ words) to
    with_text from text name words e h = subst (λ w. Laid bytes from (w ∷ words) to) e h

    name_read : (from : ℕ) (word : Word) (words : Words) → IsKnown o (Name word) → IsName word.bytes → Laid bytes from (symbol_text sheet (symbol_by lists (Name word)) ∷ words) to → SymbolRead o bytes from (Name word) words to
    name_read from word words known good h =
        let read = first_read bytes from to (name_lexeme word.bytes) word.bytes words (name_printed good) (with_text from _ word.bytes words (name_prints word known) h) in
        record {
          printed = Name (record { bytes = word.bytes; line = read.line });
          is = same_name refl;
          before = record { next = read.next; read = read.read; laid = read.laid };
        }

    quoted_read : (from : ℕ) (word : Word) (words : Words) → IsKnown o (Quoted word) → AreBytes word.bytes → Laid bytes from (symbol_text sheet (symbol_by lists (Quoted word)) ∷ words) to → SymbolRead o bytes from (Quoted word) words to
    quoted_read from word words (some, inl one) good h =
        let token = token_of word some one in
        let read = first_read bytes from to (name_lexeme token.name) token.name words (name_printed (sound.named token.name (contains (texts (token_words o)) token.name token.one))) (with_text from _ token.name words token.text h) in
        let name : Word = record { bytes = token.name; line = read.line } in
        record {
          printed = Name name;
          is = named_literal one token.one (token_is name token.one ∙ token.is);
          before = record { next = read.next; read = read.read; laid = read.laid };
        }
    quoted_read from word words (some, inr (none, one)) good h =
        let read = first_read bytes from to (quoted_lexeme word.bytes) (escaped quote word.bytes) words (quoted_printed good) (with_text from _ (escaped quote word.bytes) words (unnamed_prints word some none one) h) in
        record {
          printed = Quoted (record { bytes = word.bytes; line = read.line });
          is = same_literal refl none;
          before = record { next = read.next; read = read.read; laid = read.laid };
        }

    symbol_read : (from : ℕ) (s : Symbol) (words : Words) → IsKnown o s → IsGoodKept (spelled_symbol s) → Laid bytes from (symbol_text sheet (symbol_by lists s) ∷ words) to → SymbolRead o bytes from s words to
    symbol_read from (Name word) words known good h = name_read from word words known good h
    symbol_read from (Quoted word) words known good h = quoted_read from word words known good h

    pub symbols_read : (from : ℕ) (ss : List Symbol) (words : Words) → All (IsKnown o) ss → AreGood (map spelled_symbol ss) → Laid bytes from (map (symbol_text sheet) (map (symbol_by lists) ss) ++ words) to → SymbolsRead o bytes from ss words to
    symbols_read from [] words known good h = record { printed = []; are = none_printed; before = before_none bytes from words to h }
    symbols_read from (s ∷ ss) words known good h =
        let first = symbol_read from s (map (symbol_text sheet) (map (symbol_by lists) ss) ++ words) (All-head (IsKnown o) s ss known) good.0 h in
        let rest = symbols_read first.before.next ss words (All-tail (IsKnown o) s ss known) good.1 first.before.laid in
        record {
          printed = first.printed ∷ rest.printed;
          are = next_printed first.is rest.are;
          before = before_join bytes from (spelled_symbol first.printed ∷ []) (map spelled_symbol rest.printed) words _ to first.before rest.before;
        }
