-- Of two readings from one place one goes on from the other.
use Rattle.std.proofs.Common.{◌≡◌, ◌⊎◌, inl, inr, ℕ, ◌≤◌, List, [], ◌∷◌, ◌++◌, length, refl, sym, ap, subst, ◌∙◌, arith}
use Rattle.lexeme_theory.specs.declared.lexeme.Lexeme.{Lexeme}
use Rattle.lexeme_theory.specs.declared.found.Found.TheVariants.{Blank as blank_found, Lexeme as lexeme_found}
use Rattle.lexeme_theory.specs.Stands.{IsBlank, IsLexeme}
use Rattle.lexeme_theory.specs.Reading.{Placed, placed_in, AreLexemes}
use Rattle.lexeme_theory.specs.Reading.AreLexemes.{no_lexeme, blank_first, lexeme_first}
use Rattle.lexeme_theory.proofs.FoundLemmas.{found_once}
use Rattle.lexeme_theory.proofs.ReadingLemmas.{same_blank, same_lexeme, no_blank_lexeme}

-- the reading of the others up to `to` goes on from that of the lexemes up to `at`
pub record GoesOn (bytes : List ℕ) (lexemes : List Placed) (at : ℕ) (others : List Placed) (to : ℕ) : Type 0 where
  pub rest : List Placed
  pub is : others ≡ lexemes ++ rest
  pub read : AreLexemes bytes at rest to

abbrev pub Compared : List ℕ → List Placed → ℕ → List Placed → ℕ → Type 0
Compared bytes lexemes at others to = GoesOn bytes lexemes at others to ⊎ GoesOn bytes others to lexemes at

consed : (bytes : List ℕ) (p q : Placed) (rest others all ys : List Placed) (to upto : ℕ) → q ≡ p → all ≡ p ∷ rest → ys ≡ q ∷ others → Compared bytes rest to others upto → Compared bytes all to ys upto
consed bytes p q rest others all ys to upto same all_is ys_is (inl g) = inl (record {
  rest = g.rest;
  is = ys_is ∙ ap (λ x. x ∷ others) same ∙ ap (λ l. p ∷ l) g.is ∙ sym (ap (λ l. l ++ g.rest) all_is);
  read = g.read;
})
consed bytes p q rest others all ys to upto same all_is ys_is (inr g) = inr (record {
  rest = g.rest;
  is = all_is ∙ ap (λ l. p ∷ l) g.is ∙ ap (λ x. x ∷ (others ++ g.rest)) (sym same) ∙ sym (ap (λ l. l ++ g.rest) ys_is);
  read = g.read;
})

module _ (bytes : List ℕ) where
  after_blank : {from next to upto : ℕ} {xs ys : List Placed} → IsBlank bytes from next → ((zs : List Placed) → AreLexemes bytes next zs upto → Compared bytes xs to zs upto) → AreLexemes bytes from xs to → AreLexemes bytes from ys upto → Compared bytes xs to ys upto
  after_blank {to = to} {xs = xs} blank each whole (no_lexeme same) =
      let P : ℕ → Type 0 = λ n. AreLexemes bytes n xs to in
      inr (record { rest = xs; is = refl; read = subst P same whole })
  after_blank {from = from} {next = next} {upto = upto} {ys = ys} blank each whole (blank_first {next = other} other_blank more) =
      let same : other ≡ next = same_blank other next (found_once bytes from (blank_found other) (blank_found next) other_blank blank) in
      let P : ℕ → Type 0 = λ n. AreLexemes bytes n ys upto in
      each ys (subst P same more)
  after_blank {from = from} {next = next} blank each whole (lexeme_first {next = other} {lexeme = lexeme} stands more is) =
      absurd (no_blank_lexeme next other lexeme (found_once bytes from (blank_found next) (lexeme_found lexeme other) blank stands))

  after_lexeme : {from next to upto : ℕ} {lexeme : Lexeme} {rest all ys : List Placed} → IsLexeme bytes from lexeme next → ((zs : List Placed) → AreLexemes bytes next zs upto → Compared bytes rest to zs upto) → all ≡ placed_in bytes from lexeme ∷ rest → AreLexemes bytes from all to → AreLexemes bytes from ys upto → Compared bytes all to ys upto
  after_lexeme {to = to} {all = all} stands each all_is whole (no_lexeme same) =
      let P : ℕ → Type 0 = λ n. AreLexemes bytes n all to in
      inr (record { rest = all; is = refl; read = subst P same whole })
  after_lexeme {from = from} {next = next} {lexeme = lexeme} stands each all_is whole (blank_first {next = other} blank more) =
      absurd (no_blank_lexeme other next lexeme (found_once bytes from (blank_found other) (lexeme_found lexeme next) blank stands))
  after_lexeme {from = from} {next = next} {to = to} {upto = upto} {lexeme = lexeme} {rest = rest} {all = all} {ys = ys} stands each all_is whole (lexeme_first {next = other} {lexeme = other_lexeme} {rest = others} other_stands more other_is) =
      let same = same_lexeme other_lexeme lexeme other next (found_once bytes from (lexeme_found other_lexeme other) (lexeme_found lexeme next) other_stands stands) in
      let P : ℕ → Type 0 = λ n. AreLexemes bytes n others upto in
      consed bytes (placed_in bytes from lexeme) (placed_in bytes from other_lexeme) rest others all ys to upto (ap (λ l. placed_in bytes from l) same.0) all_is other_is (each others (subst P same.1 more))

  pub compare : {from to : ℕ} {xs : List Placed} → AreLexemes bytes from xs to → (upto : ℕ) (ys : List Placed) → AreLexemes bytes from ys upto → Compared bytes xs to ys upto
  compare (no_lexeme same) upto ys d =
      let P : ℕ → Type 0 = λ n. AreLexemes bytes n ys upto in inl (record { rest = ys; is = refl; read = subst P same d })
  compare (blank_first blank more) upto ys d = after_blank blank (λ zs e. compare more upto zs e) (blank_first blank more) d
  compare (lexeme_first stands more is) upto ys d = after_lexeme stands (λ zs e. compare more upto zs e) is (lexeme_first stands more is) d

  -- nothing stands behind the end
  pub none_behind : {from to : ℕ} {xs : List Placed} → AreLexemes bytes from xs to → length bytes ≤ from → (from ≡ to) × (xs ≡ [])
  none_behind (no_lexeme same) past = (same, refl)
  none_behind (blank_first blank more) past = let inside = blank.inside in absurd (omega (arith, inside, past))
  none_behind (lexeme_first stands more is) past = let inside = stands.inside in absurd (omega (arith, inside, past))
