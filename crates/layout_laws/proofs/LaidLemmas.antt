-- Words one after another, and what is read of them.
use Rattle.std.proofs.Common.{◌≡◌, ℕ, ◌+◌, List, [], ◌∷◌, ◌++◌, length, map, refl, sym, ap, subst, ◌∙◌, inl, inr, arith, append_assoc, length-append}
use Rattle.std.specs.List.{flat_map}
use Rattle.std.proofs.lemmas.List.{map-append}
use Rattle.lexeme_theory.specs.declared.lexeme.Lexeme.{Lexeme}
use Rattle.lexeme_theory.specs.Lines.{line_of}
use Rattle.lexeme_theory.specs.Stands.{IsLexeme}
use Rattle.lexeme_theory.specs.Reading.{Placed, placed_in, AreLexemes}
use Rattle.lexeme_theory.specs.Reading.AreLexemes.{no_lexeme, blank_first, lexeme_first}
use Rattle.lexeme_theory.proofs.ReadingLemmas.{reading_join}
use Rattle.outline_theory.specs.Spelling.{Kept, kept, line_kept}
use Rattle.outline_theory.specs.Layout.{line_text}
use Rattle.layout_laws.proofs.StandLemmas.{Stands, stands_front, stands_back}
use Rattle.layout_laws.proofs.WordLemmas.{Prints, IsSeparator, separator_stands, printed_stands}

-- the words stand one after another, each with a separator behind it
pub data Laid (bytes : List ℕ) : ℕ → List (List ℕ) → ℕ → Type 0 where
  no_word : {from to : ℕ} → from ≡ to → Laid bytes from [] to
  word_first : {from next to : ℕ} {word : List ℕ} {words : List (List ℕ)} (separator : ℕ) → IsSeparator separator → Stands bytes from (word ++ separator ∷ []) → next ≡ from + length word + 1 → Laid bytes next words to → Laid bytes from (word ∷ words) to

-- these lexemes, with the lines that are kept, stand up to a place
pub record IsRead (bytes : List ℕ) (from : ℕ) (lexemes : List Kept) (to : ℕ) : Type 0 where
  pub placed : List Placed
  pub read : AreLexemes bytes from placed to
  pub keeps : map kept placed ≡ lexemes

-- the first word is read, and the others stand behind it
pub record FirstRead (bytes : List ℕ) (from : ℕ) (lexeme : Lexeme) (words : List (List ℕ)) (to : ℕ) : Type 0 where
  pub line : ℕ
  pub next : ℕ
  pub read : IsRead bytes from ((lexeme, line_kept lexeme line) ∷ []) next
  pub laid : Laid bytes next words to

module _ (bytes : List ℕ) where
  pub laid_to : {from to other : ℕ} {words : List (List ℕ)} → to ≡ other → Laid bytes from words to → Laid bytes from words other
  laid_to {from = from} {words = words} e h = subst (Laid bytes from words) e h

  pub laid_append : {from middle to : ℕ} {words : List (List ℕ)} (more : List (List ℕ)) → Laid bytes from words middle → Laid bytes middle more to → Laid bytes from (words ++ more) to
  laid_append {to = to} more (no_word e) k = let P : ℕ → Type 0 = λ n. Laid bytes n more to in subst P (sym e) k
  laid_append more (word_first separator is stands e rest) k = word_first separator is stands e (laid_append more rest k)

  pub laid_split : (from to : ℕ) (words more : List (List ℕ)) → Laid bytes from (words ++ more) to → (middle : ℕ) × Laid bytes from words middle × Laid bytes middle more to
  laid_split from to [] more h = (from, no_word refl, h)
  laid_split from to (word ∷ words) more (word_first {next = next} separator is stands e rest) =
      let split = laid_split next to words more rest in
      (split.0, word_first separator is stands e split.1, split.2)

  word_laid : (from : ℕ) (word : List ℕ) (separator : ℕ) (text : List ℕ) (words : List (List ℕ)) → IsSeparator separator → Stands bytes from (word ++ separator ∷ text)
      → ((next : ℕ) → Stands bytes next text → Laid bytes next words (next + length text)) → Laid bytes from (word ∷ words) (from + length (word ++ separator ∷ text))
  word_laid from word separator text words is h more =
      let same : word ++ separator ∷ text ≡ (word ++ separator ∷ []) ++ text = sym (append_assoc word (separator ∷ []) text) in
      let split : Stands bytes from ((word ++ separator ∷ []) ++ text) = subst (Stands bytes from) same h in
      let size : length (word ++ separator ∷ []) ≡ length word + 1 = length-append word (separator ∷ []) in
      let all : length (word ++ separator ∷ text) ≡ length word + (1 + length text) = length-append word (separator ∷ text) ∙ omega arith in
      let next : ℕ = from + length (word ++ separator ∷ []) in
      laid_to (omega (arith, size, all)) (word_first separator is (stands_front bytes from (word ++ separator ∷ []) text split) (omega (arith, size)) (more next (stands_back bytes from (word ++ separator ∷ []) text split)))

  line_laid : (from : ℕ) (words : List (List ℕ)) → Stands bytes from (line_text words) → Laid bytes from words (from + length (line_text words))
  line_laid from [] h = no_word (omega arith)
  line_laid from (word ∷ []) h = word_laid from word 10 [] [] (inr refl) h (λ next _. no_word (omega arith))
  line_laid from (word ∷ other ∷ words) h = word_laid from word 32 (line_text (other ∷ words)) (other ∷ words) (inl refl) h (λ next stands. line_laid next (other ∷ words) stands)

  pub lines_laid : (from : ℕ) (lines : List (List (List ℕ))) → Stands bytes from (flat_map line_text lines) → Laid bytes from (flat_map (λ words. words) lines) (from + length (flat_map line_text lines))
  lines_laid from [] h = no_word (omega arith)
  lines_laid from (line ∷ lines) h =
      let size : length (line_text line ++ flat_map line_text lines) ≡ length (line_text line) + length (flat_map line_text lines) = length-append (line_text line) (flat_map line_text lines) in
      laid_to (omega (arith, size)) (laid_append (flat_map (λ words. words) lines) (line_laid from line (stands_front bytes from (line_text line) (flat_map line_text lines) h)) (lines_laid (from + length (line_text line)) lines (stands_back bytes from (line_text line) (flat_map line_text lines) h)))

  -- readings
  pub read_none : (from to : ℕ) → from ≡ to → IsRead bytes from [] to
  read_none from to e = record { placed = []; read = no_lexeme e; keeps = refl }

  pub read_join : {from middle to : ℕ} {lexemes others : List Kept} → IsRead bytes from lexemes middle → IsRead bytes middle others to → IsRead bytes from (lexemes ++ others) to
  read_join {to = to} {lexemes = lexemes} {others = others} one other = record {
    placed = one.placed ++ other.placed;
    read = reading_join bytes to other.placed one.read other.read;
    keeps = map-append kept one.placed other.placed ∙ ap (λ l. l ++ map kept other.placed) one.keeps ∙ ap (λ l. lexemes ++ l) other.keeps;
  }

  lexeme_read : (from next : ℕ) (lexeme : Lexeme) (separator : ℕ) (word : List ℕ) → IsSeparator separator → Stands bytes from (word ++ separator ∷ []) → IsLexeme bytes from lexeme (from + length word) → next ≡ from + length word + 1 → IsRead bytes from ((lexeme, line_kept lexeme (line_of bytes from)) ∷ []) next
  lexeme_read from next lexeme separator word is stands here e = record {
    placed = placed_in bytes from lexeme ∷ [];
    read = lexeme_first here (blank_first (separator_stands bytes (from + length word) separator [] is (stands_back bytes from word (separator ∷ []) stands)) (no_lexeme (sym e))) refl;
    keeps = refl;
  }

  pub first_read : (from to : ℕ) (lexeme : Lexeme) (word : List ℕ) (words : List (List ℕ)) → Prints lexeme word → Laid bytes from (word ∷ words) to → FirstRead bytes from lexeme words to
  first_read from to lexeme word words prints (word_first {next = next} separator is stands e rest) = record {
    line = line_of bytes from;
    next = next;
    read = lexeme_read from next lexeme separator word is stands (printed_stands bytes from separator prints is stands) e;
    laid = rest;
  }
