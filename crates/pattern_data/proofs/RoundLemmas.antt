-- A text spells one pattern, and what is written for a pattern that some text spells is read as this pattern.
use Rattle.std.proofs.Common.{◌≡◌, ℕ, List, [], ◌∷◌, sym, ap, ◌∙◌, subst}
use Rattle.pattern_data.specs.declared.pattern.Pattern.{Pattern}
use Rattle.pattern_data.specs.declared.signs.Sign.{Sign}
use Rattle.pattern_data.specs.Signs.{IsSign, AreSigns}
use Rattle.pattern_data.specs.Signs.AreSigns.{no_sign, sign_and}
use Rattle.pattern_data.specs.Spellings.{StandFor, IsSpelling}
use Rattle.pattern_data.specs.Printing.{written, normal_spelling}
use Rattle.pattern_data.proofs.SignLemmas.{sign_once}
use Rattle.pattern_data.proofs.ReadingLemmas.{stand_once}
use Rattle.pattern_data.proofs.NormalLemmas.{normal_stands}
use Rattle.pattern_data.proofs.TextLemmas.{signs_read, signs_good}

-- ---- a text is one list of signs
no_sign_at : (text : List ℕ) (sign : Sign) (rest : List ℕ) → text ≡ [] → IsSign text sign rest → ⊥
no_sign_at text sign rest none is = let P : List ℕ → Type 0 = λ l. IsSign l sign rest in subst P none is

signs_once : {text : List ℕ} {one : List Sign} → AreSigns text one → (other : List Sign) → AreSigns text other → one ≡ other
signs_once (no_sign none signs_are) other (no_sign its_none its_signs_are) = signs_are ∙ sym its_signs_are
signs_once (no_sign {text = text} none signs_are) other (sign_and {rest = rest} {sign = sign} is read its_signs_are) = absurd (no_sign_at text sign rest none is)
signs_once (sign_and {text = text} {rest = rest} {sign = sign} is read signs_are) other (no_sign its_none its_signs_are) = absurd (no_sign_at text sign rest its_none is)
signs_once (sign_and {text = text} {rest = rest} {sign = sign} {others = others} is read signs_are) other (sign_and {rest = its_rest} {sign = its_sign} {others = its_others} its_is its_read its_signs_are) =
    let same = sign_once text sign its_sign rest its_rest is its_is in
    let P : List ℕ → Type 0 = λ l. AreSigns l its_others in
    signs_are ∙ ap (λ s. s ∷ others) same.0 ∙ ap (λ ss. its_sign ∷ ss) (signs_once read its_others (subst P (sym same.1) its_read)) ∙ sym its_signs_are

pub spelling_once : (text : List ℕ) (one other : Pattern) → IsSpelling text one → IsSpelling text other → one ≡ other
spelling_once text one other h k =
    let P : List Sign → Type 0 = λ signs. StandFor signs one in
    stand_once k.signs one other (subst P (signs_once h.read k.signs k.read) h.stands) k.stands

-- ---- the normal spelling is one
pub normal_spells : (text : List ℕ) (pattern : Pattern) → IsSpelling text pattern → IsSpelling (normal_spelling pattern) pattern
normal_spells text pattern h =
    let normal = normal_stands h.signs pattern h.stands (signs_good h.read) in
    record { signs = (written pattern).1; read = signs_read (written pattern).1 normal.good; stands = normal.stands }
