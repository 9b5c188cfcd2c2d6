-- The grammar of spellings: which signs stand for which pattern.
use Rattle.std.specs.Prelude.{◌≡◌, ℕ, suc, List, [], ◌∷◌, ◌++◌}
use Rattle.pattern_data.specs.declared.pattern.Pattern.{Pattern}
use Rattle.pattern_data.specs.declared.pattern.Pattern.TheVariants.{Set as set_pattern, Seq as seq_pattern, Alt as alt_pattern, Star as star_pattern, Plus as plus_pattern, Opt as opt_pattern}
use Rattle.pattern_data.specs.declared.signs.Sign.{Sign}
use Rattle.pattern_data.specs.declared.signs.Sign.TheVariants.{Set, Open, Close, Bar, Repeat}
use Rattle.pattern_data.specs.declared.signs.Repetition.{Repetition}
use Rattle.pattern_data.specs.declared.signs.Repetition.TheVariants.{Star, Plus, Opt}
use Rattle.pattern_data.specs.Signs.{AreSigns}

-- one member alone is itself
abbrev pub seq_of : List Pattern → Pattern
seq_of [] = seq_pattern []
seq_of (member ∷ []) = member
seq_of (member ∷ second ∷ members) = seq_pattern (member ∷ second ∷ members)

abbrev pub alt_of : List Pattern → Pattern
alt_of [] = alt_pattern []
alt_of (member ∷ []) = member
alt_of (member ∷ second ∷ members) = alt_pattern (member ∷ second ∷ members)

abbrev pub repeated : Repetition → Pattern → Pattern
repeated Star inner = star_pattern inner
repeated Plus inner = plus_pattern inner
repeated Opt inner = opt_pattern inner

-- Each relation says of signs that their front stands for a pattern, or for members, and what is left behind it. `depth` is how
-- many brackets may be open in it at once.
mutual
  -- sequences with bars between them
  pub data AreAlternatives : ℕ → List Sign → List Pattern → List Sign → Type 0 where
    one_alternative : {depth : ℕ} {signs left : List Sign} {members : List Pattern} {all : List Pattern} → AreInSequence depth signs members left → all ≡ seq_of members ∷ [] → AreAlternatives depth signs all left
    alternative_more : {depth : ℕ} {signs behind left : List Sign} {alternatives members all : List Pattern} → AreAlternatives depth signs alternatives (Bar ∷ behind) → AreInSequence depth behind members left → all ≡ alternatives ++ seq_of members ∷ [] → AreAlternatives depth signs all left

  -- one after another, and at least one
  pub data AreInSequence : ℕ → List Sign → List Pattern → List Sign → Type 0 where
    one_in_sequence : {depth : ℕ} {signs left : List Sign} {member : Pattern} {all : List Pattern} → IsRepetition depth signs member left → all ≡ member ∷ [] → AreInSequence depth signs all left
    in_sequence_more : {depth : ℕ} {signs behind left : List Sign} {members all : List Pattern} {member : Pattern} → AreInSequence depth signs members behind → IsRepetition depth behind member left → all ≡ members ++ member ∷ [] → AreInSequence depth signs all left

  -- an atom, with one operator or none behind it
  pub data IsRepetition : ℕ → List Sign → Pattern → List Sign → Type 0 where
    atom_alone : {depth : ℕ} {signs left : List Sign} {pattern : Pattern} → IsAtom depth signs pattern left → IsRepetition depth signs pattern left
    atom_repeated : {depth : ℕ} {signs left : List Sign} {inner pattern : Pattern} {repetition : Repetition} → IsAtom depth signs inner (Repeat repetition ∷ left) → pattern ≡ repeated repetition inner → IsRepetition depth signs pattern left

  -- a set, or alternatives in brackets
  pub data IsAtom : ℕ → List Sign → Pattern → List Sign → Type 0 where
    set_atom : {depth : ℕ} {signs left : List Sign} {words : List ℕ} {pattern : Pattern} → signs ≡ Set words ∷ left → pattern ≡ set_pattern words → IsAtom depth signs pattern left
    in_brackets : {depth outer : ℕ} {signs inside left : List Sign} {alternatives : List Pattern} {pattern : Pattern} → signs ≡ Open ∷ inside → AreAlternatives depth inside alternatives (Close ∷ left) → pattern ≡ alt_of alternatives → outer ≡ suc depth → IsAtom outer signs pattern left

-- the most brackets that are open at once
abbrev pub most_open : ℕ
most_open = 50

-- the signs stand for the pattern
pub record StandFor (signs : List Sign) (pattern : Pattern) : Type 0 where
  pub alternatives : List Pattern
  pub spelled : AreAlternatives most_open signs alternatives []
  pub joined : pattern ≡ alt_of alternatives

-- the text is a spelling of the pattern
pub record IsSpelling (text : List ℕ) (pattern : Pattern) : Type 0 where
  pub signs : List Sign
  pub read : AreSigns text signs
  pub stands : StandFor signs pattern
