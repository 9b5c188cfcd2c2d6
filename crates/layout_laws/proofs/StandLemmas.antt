-- Bytes that stand at a place of others.
use Rattle.std.proofs.Common.{◌≡◌, ℕ, ◌+◌, ◌-◌, ◌<◌, ◌≤◌, Bool, true, false, List, [], ◌∷◌, ◌++◌, length, get_or, drop, take, refl, sym, ap, ◌∙◌, arith, append_assoc, length-append, length-drop, get_or-drop}
use Rattle.std.specs.Prelude.{All, Some, slice_get, slice_range}
use Rattle.std.proofs.lemmas.List.{drop-drop, drop_at, take_at, get_or_append_left}
use Rattle.std.proofs.lemmas.Option.{slice_get-get_or}
use Rattle.lexeme_theory.specs.Runs.{IsRunOf}

-- the text stands in the bytes from this place on
pub record Stands (bytes : List ℕ) (at : ℕ) (text : List ℕ) : Type 0 where
  pub rest : List ℕ
  pub is : drop at bytes ≡ text ++ rest

module _ (bytes : List ℕ) where
  pub stands_front : (at : ℕ) (text more : List ℕ) → Stands bytes at (text ++ more) → Stands bytes at text
  stands_front at text more h = record { rest = more ++ h.rest; is = h.is ∙ append_assoc text more h.rest }

  pub stands_back : (at : ℕ) (text more : List ℕ) → Stands bytes at (text ++ more) → Stands bytes (at + length text) more
  stands_back at text more h = record {
    rest = h.rest;
    is = sym (drop-drop (length text) at bytes) ∙ ap (drop (length text)) (h.is ∙ append_assoc text more h.rest) ∙ drop_at text (more ++ h.rest) (length text) refl;
  }

  pub stands_inside : (at : ℕ) (text : List ℕ) → Stands bytes at text → 0 < length text → at + length text ≤ length bytes
  stands_inside at text h some =
      let e : length (drop at bytes) ≡ length text + length h.rest = ap length h.is ∙ length-append text h.rest in
      let d = length-drop at bytes in
      omega (arith, e, d, some)

  pub stands_byte : (at : ℕ) (text : List ℕ) (i : ℕ) → Stands bytes at text → i < length text → get_or bytes (at + i) 0 ≡ get_or text i 0
  stands_byte at text i h within = sym (get_or-drop at bytes i 0) ∙ ap (λ l. get_or l i 0) h.is ∙ get_or_append_left text h.rest 0 i within

  pub stands_get : (at : ℕ) (text : List ℕ) (i : ℕ) → Stands bytes at text → i < length text → slice_get bytes (at + i) ≡ Some (get_or text i 0)
  stands_get at text i h within =
      let room = stands_inside at text h (omega (arith, within)) in
      slice_get-get_or bytes (at + i) 0 (omega (arith, within, room)) ∙ ap Some (stands_byte at text i h within)

  pub stands_range : (at : ℕ) (text : List ℕ) → Stands bytes at text → slice_range bytes at (at + length text) ≡ text
  stands_range at text h =
      let e : at + length text - at ≡ length text = omega arith in
      ap (λ n. take n (drop at bytes)) e ∙ ap (take (length text)) h.is ∙ take_at text h.rest (length text) refl

  -- the first byte, and the byte behind
  pub stands_first : (at first : ℕ) (text : List ℕ) → Stands bytes at (first ∷ text) → get_or bytes at 0 ≡ first
  stands_first at first text h = let e : at ≡ at + 0 = omega arith in ap (λ n. get_or bytes n 0) e ∙ stands_byte at (first ∷ text) 0 h (omega arith)

  pub stands_last : (at : ℕ) (text : List ℕ) (last : ℕ) → Stands bytes at (text ++ last ∷ []) → get_or bytes (at + length text) 0 ≡ last
  stands_last at text last h = stands_first (at + length text) last [] (stands_back at text (last ∷ []) h)

  -- bytes of a kind, and one behind them that is of another
  pub stands_run : (kind : ℕ → Bool) (at : ℕ) (text : List ℕ) (last : ℕ) → Stands bytes at (text ++ last ∷ []) → All (λ byte. kind byte ≡ true) text → kind last ≡ false → IsRunOf kind bytes at (at + length text)
  stands_run kind at text last h all ends =
      let size : length (text ++ last ∷ []) ≡ length text + 1 = length-append text (last ∷ []) in
      let room = stands_inside at (text ++ last ∷ []) h (omega (arith, size)) in
      record {
        ordered = omega arith;
        inside = omega (arith, room, size);
        each = λ i above below.
            let within : i - at < length text = omega (arith, above, below) in
            let place : i ≡ at + (i - at) = omega (arith, above) in
            let byte = stands_byte at text (i - at) (stands_front at text (last ∷ []) h) within in
            ap (λ n. kind (get_or bytes n 0)) place ∙ ap kind byte ∙ all (i - at) 0 within;
        ended = λ below. ap kind (stands_last at text last h) ∙ ends;
      }
