-- The sign at the front of a text is one.
use Rattle.std.proofs.Common.{◌≡◌, ℕ, ◌↔◌, List, [], ◌∷◌, sym, ap, ◌∙◌, subst}
use Rattle.std.specs.Prelude.{true, Option, None, Some, MatchOption}
use Rattle.pattern_data.specs.Escapes.{Front}
use Rattle.pattern_data.specs.Classes.{written_byte}
use Rattle.pattern_data.specs.declared.signs.Sign.{Sign}
use Rattle.pattern_data.specs.declared.signs.Sign.TheVariants.{Set}
use Rattle.pattern_data.specs.declared.signs.Kind.{Kind}
use Rattle.pattern_data.specs.declared.signs.Kind.TheVariants.{Byte, AnyByte, Class, Mark, Nothing}
use Rattle.pattern_data.specs.Signs.{kind_of, IsByteSign, IsClassSign, IsSignOf, IsSign}
use Rattle.pattern_data.proofs.SetLemmas.{set_once}
use Rattle.pattern_data.proofs.MemberLemmas.{class_once}

byte_once : (front : Option Front) (one other : Sign) (rest end : List ℕ) → IsByteSign front one rest → IsByteSign front other end → (one ≡ other) × (rest ≡ end)
byte_once None one other rest end h k = absurd h
byte_once (Some front) one other rest end h k = (h.1 ∙ sym k.1, h.2 ∙ sym k.2)

sign_of_once : (kind : Kind) (byte : ℕ) (behind : List ℕ) (one other : Sign) (rest end : List ℕ) → IsSignOf kind byte behind one rest → IsSignOf kind byte behind other end → (one ≡ other) × (rest ≡ end)
sign_of_once Byte byte behind one other rest end h k = byte_once (written_byte (byte ∷ behind)) one other rest end h k
sign_of_once AnyByte byte behind one other rest end h k = (h.2 ∙ ap Set (set_once (λ _. true) h.0 k.0 h.1 k.1) ∙ sym k.2, h.3 ∙ sym k.3)
sign_of_once Class byte behind one other rest end h k =
    let same = class_once behind h.0 k.0 rest end h.1 k.1 in (h.2 ∙ ap Set same.0 ∙ sym k.2, same.1)
sign_of_once (Mark mark) byte behind one other rest end h k = (h.0 ∙ sym k.0, h.1 ∙ sym k.1)
sign_of_once Nothing byte behind one other rest end h k = absurd h

pub sign_once : (text : List ℕ) (one other : Sign) (rest end : List ℕ) → IsSign text one rest → IsSign text other end → (one ≡ other) × (rest ≡ end)
sign_once [] one other rest end h k = absurd h
sign_once (byte ∷ behind) one other rest end h k = sign_of_once (kind_of byte) byte behind one other rest end h k

-- ---- a class by its first byte
pub class_begins : (text behind : List ℕ) (byte : ℕ) → text ≡ byte ∷ behind → kind_of byte ≡ Class → (sign : Sign) (rest : List ℕ) → IsSign text sign rest ↔ IsClassSign behind sign rest
class_begins text behind byte is kind sign rest =
    let P : Kind → Type 0 = λ k. IsSignOf k byte behind sign rest in
    let Q : List ℕ → Type 0 = λ l. IsSign l sign rest in
    (λ h. let at_front : P (kind_of byte) = subst Q is h in subst P kind at_front, λ h. let at_front : P (kind_of byte) = subst P (sym kind) h in subst Q (sym is) at_front)

pub same_match : {A : Type 0} (o : Option A) (P R : Type 0) (Q S : A → Type 0) → (P → R) → ((a : A) → Q a → S a) → MatchOption o P Q → MatchOption o R S
same_match None P R Q S f g h = f h
same_match (Some a) P R Q S f g h = g a h
