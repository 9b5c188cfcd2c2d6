-- The lexemes between two places are one list.
use Rattle.std.proofs.Common.{◌≡◌, ℕ, ◌<◌, ◌≤◌, List, [], ◌∷◌, ◌++◌, refl, sym, ap, subst, ◌∙◌, arith}
use Rattle.lexeme_theory.specs.declared.lexeme.Lexeme.{Lexeme}
use Rattle.lexeme_theory.specs.declared.found.Found.TheVariants.{Blank as blank_found, Lexeme as lexeme_found}
use Rattle.lexeme_theory.specs.Stands.{IsBlank, IsLexeme}
use Rattle.lexeme_theory.specs.Reading.{Placed, placed_in, AreBlanks, AreLexemes}
use Rattle.lexeme_theory.specs.Reading.AreBlanks.{no_blank, one_blank}
use Rattle.lexeme_theory.specs.Reading.AreLexemes.{no_lexeme, blank_first, lexeme_first}
use Rattle.lexeme_theory.proofs.FoundLemmas.{found_once}
use Rattle.lexeme_theory.proofs.EndLemmas.{found_ends}

-- what is found is one thing
pub same_blank : (n m : ℕ) → blank_found n ≡ blank_found m → n ≡ m
same_blank n m e = cc

pub same_lexeme : (l k : Lexeme) (n m : ℕ) → lexeme_found l n ≡ lexeme_found k m → (l ≡ k) × (n ≡ m)
same_lexeme l k n m e = (cc, cc)

pub no_blank_lexeme : (n m : ℕ) (l : Lexeme) → blank_found n ≡ lexeme_found l m → ⊥
no_blank_lexeme n m l e = cc

module _ (bytes : List ℕ) where
  pub blank_on : (at next : ℕ) → IsBlank bytes at next → at < next
  blank_on at next h = (found_ends bytes at (blank_found next) h).0

  pub lexeme_on : (at next : ℕ) (lexeme : Lexeme) → IsLexeme bytes at lexeme next → at < next
  lexeme_on at next lexeme h = (found_ends bytes at (lexeme_found lexeme next) h).0

  pub reading_order : {from to : ℕ} {lexemes : List Placed} → AreLexemes bytes from lexemes to → from ≤ to
  reading_order (no_lexeme same) = omega arith
  reading_order (blank_first {from = from} {next = next} blank more) =
      let on = blank_on from next blank in let rest = reading_order more in omega (arith, on, rest)
  reading_order (lexeme_first {from = from} {next = next} {lexeme = lexeme} stands more is) =
      let on = lexeme_on from next lexeme stands in let rest = reading_order more in omega (arith, on, rest)

  none_once : {from to : ℕ} {others : List Placed} → from ≡ to → AreLexemes bytes from others to → [] ≡ others
  none_once same (no_lexeme _) = refl
  none_once same (blank_first {from = from} {next = next} blank more) =
      let on = blank_on from next blank in let rest = reading_order more in absurd (omega (arith, on, rest))
  none_once same (lexeme_first {from = from} {next = next} {lexeme = lexeme} stands more is) =
      let on = lexeme_on from next lexeme stands in let rest = reading_order more in absurd (omega (arith, on, rest))

  blank_once : {from next to : ℕ} {lexemes others : List Placed} → IsBlank bytes from next → next ≤ to → ((ls : List Placed) → AreLexemes bytes next ls to → lexemes ≡ ls) → AreLexemes bytes from others to → lexemes ≡ others
  blank_once {from = from} {next = next} blank upto once (no_lexeme same) = let on = blank_on from next blank in absurd (omega (arith, on))
  blank_once {from = from} {next = next} {to = to} blank upto once (blank_first {next = other} {lexemes = others} other_blank more) =
      let same : other ≡ next = same_blank other next (found_once bytes from (blank_found other) (blank_found next) other_blank blank) in
      let P : ℕ → Type 0 = λ n. AreLexemes bytes n others to in
      once others (subst P same more)
  blank_once {from = from} {next = next} blank upto once (lexeme_first {next = other} {lexeme = lexeme} stands more is) =
      absurd (no_blank_lexeme next other lexeme (found_once bytes from (blank_found next) (lexeme_found lexeme other) blank stands))

  lexeme_once : {from next to : ℕ} {lexeme : Lexeme} {rest all others : List Placed} → IsLexeme bytes from lexeme next → next ≤ to → ((ls : List Placed) → AreLexemes bytes next ls to → rest ≡ ls) → all ≡ placed_in bytes from lexeme ∷ rest → AreLexemes bytes from others to → all ≡ others
  lexeme_once {from = from} {next = next} {lexeme = lexeme} stands upto once is (no_lexeme same) = let on = lexeme_on from next lexeme stands in absurd (omega (arith, on))
  lexeme_once {from = from} {next = next} {lexeme = lexeme} stands upto once is (blank_first {next = other} blank more) =
      absurd (no_blank_lexeme other next lexeme (found_once bytes from (blank_found other) (lexeme_found lexeme next) blank stands))
  lexeme_once {from = from} {next = next} {to = to} {lexeme = lexeme} {rest = rest} stands upto once is (lexeme_first {next = other} {lexeme = other_lexeme} {rest = others} other_stands more other_is) =
      let same = same_lexeme other_lexeme lexeme other next (found_once bytes from (lexeme_found other_lexeme other) (lexeme_found lexeme next) other_stands stands) in
      let P : ℕ → Type 0 = λ n. AreLexemes bytes n others to in
      is ∙ ap (λ ls. placed_in bytes from lexeme ∷ ls) (once others (subst P same.1 more)) ∙ ap (λ l. placed_in bytes from l ∷ others) (sym same.0) ∙ sym other_is

  pub reading_once : {from to : ℕ} {lexemes : List Placed} → AreLexemes bytes from lexemes to → (others : List Placed) → AreLexemes bytes from others to → lexemes ≡ others
  reading_once (no_lexeme same) others d = none_once same d
  reading_once (blank_first blank more) others d = blank_once blank (reading_order more) (reading_once more) d
  reading_once (lexeme_first stands more is) others d = lexeme_once stands (reading_order more) (reading_once more) is d

  pub reading_join : {from middle : ℕ} {lexemes : List Placed} (to : ℕ) (others : List Placed) → AreLexemes bytes from lexemes middle → AreLexemes bytes middle others to → AreLexemes bytes from (lexemes ++ others) to
  reading_join to others (no_lexeme same) later = let P : ℕ → Type 0 = λ n. AreLexemes bytes n others to in subst P (sym same) later
  reading_join to others (blank_first blank more) later = blank_first blank (reading_join to others more later)
  reading_join to others (lexeme_first stands more is) later = lexeme_first stands (reading_join to others more later) (ap (λ ls. ls ++ others) is)

  pub blanks_read : {from to : ℕ} → AreBlanks bytes from to → AreLexemes bytes from [] to
  blanks_read (no_blank same) = no_lexeme same
  blanks_read (one_blank blank more) = blank_first blank (blanks_read more)

  pub blanks_more : {from middle : ℕ} (to : ℕ) → AreBlanks bytes from middle → IsBlank bytes middle to → AreBlanks bytes from to
  blanks_more to (no_blank same) last = let P : ℕ → Type 0 = λ n. IsBlank bytes n to in one_blank (subst P (sym same) last) (no_blank refl)
  blanks_more to (one_blank blank more) last = one_blank blank (blanks_more to more last)
