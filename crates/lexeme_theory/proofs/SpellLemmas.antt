-- A text stands for one list of bytes at most, and whether it does is decided.
use Rattle.std.proofs.Common.{◌≡◌, ℕ, zero, suc, ◌<◌, ◌≤◌, ◌⊎◌, List, [], ◌∷◌, length, refl, sym, ap, subst, ◌∙◌, inl, inr, ⊎_elim, arith}
use Rattle.std.specs.Prelude.{Option, None, Some}
use Rattle.std.proofs.lemmas.Option.{none-some, same_Some}
use Rattle.pattern_data.proofs.EscapeLemmas.{IsShorter, front_shorter}
use Rattle.lexeme_theory.specs.Escapes.{Front, front_of, Spells}
use Rattle.lexeme_theory.specs.Escapes.Spells.{nothing, byte_and}

pub no_front : {text bytes : List ℕ} → 0 < length text → front_of text ≡ None → Spells text bytes → ⊥
no_front some none nothing = omega arith
no_front some none (byte_and front more is) = none-some _ (sym none ∙ front)

-- behind its first byte the text stands for the other bytes
abbrev pub IsRest : Front → List ℕ → Type 0
IsRest front all = (bytes : List ℕ) × Spells front.1 bytes × (all ≡ front.0 ∷ bytes)

pub rest_of : {text all : List ℕ} {front : Front} → front_of text ≡ Some front → Spells text all → IsRest front all
rest_of e nothing = absurd (none-some _ e)
rest_of {all = all} {front = first} e (byte_and {byte = byte} {rest = rest} {bytes = bytes} front more is) =
    let read : Front = (byte, rest) in
    let same : read ≡ first = same_Some read first (sym front ∙ e) in
    subst (λ f. IsRest f all) same (bytes, more, is)

spells_none : {other : List ℕ} → Spells [] other → [] ≡ other
spells_none nothing = refl
spells_none (byte_and front more is) = absurd (none-some _ front)

pub spells_once : {text one : List ℕ} → Spells text one → (other : List ℕ) → Spells text other → one ≡ other
spells_once nothing other d = spells_none d
spells_once (byte_and {byte = byte} front more is) other d =
    let rest = rest_of front d in
    is ∙ ap (λ l. byte ∷ l) (spells_once more rest.0 rest.1) ∙ sym rest.2

-- the front takes a byte at least
pub front_is_shorter : (text : List ℕ) (front : Front) → front_of text ≡ Some front → length front.1 < length text
front_is_shorter text front e = subst (IsShorter (length text)) e (front_shorter text)

abbrev pub IsSpelling : List ℕ → Type 0
IsSpelling text = ((bytes : List ℕ) × Spells text bytes) ⊎ ((bytes : List ℕ) → Spells text bytes → ⊥)

by_front : (text : List ℕ) (front : Option Front) → 0 < length text → front_of text ≡ front → ((f : Front) → front_of text ≡ Some f → IsSpelling f.1) → IsSpelling text
by_front text None some e rest = inr (λ bytes d. no_front some e d)
by_front text (Some f) some e rest =
    ⊎_elim
    (λ found. inl (f.0 ∷ found.0, byte_and e found.1 refl))
    (λ none. inr (λ bytes d. let more = rest_of e d in none more.0 more.1))
    (rest f e)

decide : (fuel : ℕ) (text : List ℕ) → length text ≤ fuel → IsSpelling text
decide fuel [] h = inl ([], nothing)
decide zero (byte ∷ text) h = absurd (omega arith)
decide (suc fuel) (byte ∷ text) h =
    by_front (byte ∷ text) (front_of (byte ∷ text)) (omega arith) refl (λ f e. let less = front_is_shorter (byte ∷ text) f e in decide fuel f.1 (omega (arith, less)))

pub spelling : (text : List ℕ) → IsSpelling text
spelling text = decide (length text) text (omega arith)
