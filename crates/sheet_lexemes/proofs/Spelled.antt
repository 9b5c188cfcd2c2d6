-- Bytes that the front of a text stands for, while it is read.
use Rattle.std.proofs.Common.{◌≡◌, ℕ, ◌<◌, List, [], ◌∷◌, ◌++◌, length, refl, sym, ap, ◌∙◌, subst, append_assoc, arith}
use Rattle.std.specs.Prelude.{None, Some}
use Rattle.std.proofs.lemmas.List.{append-nil}
use Rattle.lexeme_theory.specs.Escapes.{front_of, Spells}
use Rattle.lexeme_theory.specs.Escapes.Spells.{nothing, byte_and}
use Rattle.lexeme_theory.proofs.SpellLemmas.{no_front, rest_of}

-- the text stands for these bytes and those of what is left, and for no others
pub record SpellsSoFar (text bytes left : List ℕ) : Type 0 where
  pub whole : (others : List ℕ) → Spells left others → Spells text (bytes ++ others)
  pub rest : (all : List ℕ) → Spells text all → (others : List ℕ) × Spells left others

pub so_far_none : (text : List ℕ) → SpellsSoFar text [] text
so_far_none text = record { whole = λ others h. h; rest = λ all h. (all, h) }

pub so_far_more : (text bytes left more rest : List ℕ) (byte : ℕ) → SpellsSoFar text bytes left → front_of left ≡ Some (byte, rest) → more ≡ bytes ++ byte ∷ [] → SpellsSoFar text more rest
so_far_more text bytes left more rest byte h front is = record {
  whole = λ others spells. let P : List ℕ → Type 0 = λ l. Spells text l in
      let same : bytes ++ (byte ∷ others) ≡ more ++ others = sym (ap (λ l. l ++ others) is ∙ append_assoc bytes (byte ∷ []) others) in
      subst P same (h.whole (byte ∷ others) (byte_and front spells refl));
  rest = λ all spells. let left_spells = h.rest all spells in let more_spells = rest_of front left_spells.1 in (more_spells.0, more_spells.1);
}

pub so_far_all : (text bytes left : List ℕ) → length left ≡ 0 → SpellsSoFar text bytes left → Spells text bytes
so_far_all text bytes [] none h = let P : List ℕ → Type 0 = λ l. Spells text l in subst P (append-nil bytes) (h.whole [] nothing)
so_far_all text bytes (b ∷ left) none h = absurd (omega arith)

pub so_far_wrong : (text bytes left : List ℕ) → 0 < length left → front_of left ≡ None → SpellsSoFar text bytes left → (all : List ℕ) → Spells text all → ⊥
so_far_wrong text bytes left some none h all spells = let left_spells = h.rest all spells in no_front some none left_spells.1
