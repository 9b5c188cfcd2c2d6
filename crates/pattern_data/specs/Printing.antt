-- The normal spelling of a pattern.
use Rattle.std.specs.Prelude.{ℕ, Bool, true, false, if◌then◌else◌, List, [], ◌∷◌, ◌++◌}
use Rattle.std.specs.List.{flat_map}
use Rattle.pattern_data.specs.declared.pattern.Pattern.{Pattern, Pattern-F, fold-Pattern}
use Rattle.pattern_data.specs.declared.pattern.Pattern.TheOpen.Pattern-F.{Set, Seq, Alt, Star, Plus, Opt}
use Rattle.pattern_data.specs.declared.signs.Sign.{Sign}
use Rattle.pattern_data.specs.declared.signs.Sign.TheVariants.{Set as set_sign, Open, Close, Bar, Repeat}
use Rattle.pattern_data.specs.declared.signs.Repetition.{Repetition}
use Rattle.pattern_data.specs.declared.signs.Repetition.TheVariants.{Star as star, Plus as plus, Opt as opt}
use Rattle.pattern_data.specs.declared.print.Form.{Form}
use Rattle.pattern_data.specs.declared.print.Form.TheVariants.{Set as a_set, Sequence as a_sequence, Choice as a_choice, Repetition as a_repetition}
use Rattle.pattern_data.specs.Texts.{set_text}

-- a pattern's form and its signs
abbrev pub Written : Type 0
Written = Form × List Sign

-- an alternative that has alternatives itself takes brackets
abbrev pub takes_brackets_in_choice : Form → Bool
takes_brackets_in_choice a_set = false
takes_brackets_in_choice a_sequence = false
takes_brackets_in_choice a_choice = true
takes_brackets_in_choice a_repetition = false

-- so does a sequence or a choice in a sequence
abbrev pub takes_brackets_in_sequence : Form → Bool
takes_brackets_in_sequence a_set = false
takes_brackets_in_sequence a_sequence = true
takes_brackets_in_sequence a_choice = true
takes_brackets_in_sequence a_repetition = false

-- and whatever is repeated, but a set
abbrev pub takes_brackets_in_repetition : Form → Bool
takes_brackets_in_repetition a_set = false
takes_brackets_in_repetition a_sequence = true
takes_brackets_in_repetition a_choice = true
takes_brackets_in_repetition a_repetition = true

abbrev pub within : Bool → List Sign → List Sign
within brackets signs = if brackets then Open ∷ (signs ++ Close ∷ []) else signs

abbrev pub in_choice : Written → List Sign
in_choice written = within (takes_brackets_in_choice written.0) written.1

abbrev pub in_a_sequence : Written → List Sign
in_a_sequence written = within (takes_brackets_in_sequence written.0) written.1

abbrev pub in_repetition : Repetition → Written → List Sign
in_repetition repetition written = within (takes_brackets_in_repetition written.0) written.1 ++ Repeat repetition ∷ []

abbrev pub with_bars : List Written → List Sign
with_bars [] = []
with_bars (first ∷ others) = in_choice first ++ flat_map (λ (written : Written). Bar ∷ in_choice written) others

abbrev pub written_step : Pattern-F Written → Written
written_step (Set words) = (a_set, set_sign words ∷ [])
written_step (Seq members) = (a_sequence, flat_map in_a_sequence members)
written_step (Alt members) = (a_choice, with_bars members)
written_step (Star inner) = (a_repetition, in_repetition star inner)
written_step (Plus inner) = (a_repetition, in_repetition plus inner)
written_step (Opt inner) = (a_repetition, in_repetition opt inner)

unfoldable pub written : Pattern → Written
written = fold-Pattern Written written_step

abbrev pub repetition_text : Repetition → ℕ
repetition_text star = 42
repetition_text plus = 43
repetition_text opt = 63

abbrev pub sign_text : Sign → List ℕ
sign_text (set_sign words) = set_text words
sign_text Open = 40 ∷ []
sign_text Close = 41 ∷ []
sign_text Bar = 124 ∷ []
sign_text (Repeat repetition) = repetition_text repetition ∷ []

abbrev pub signs_text : List Sign → List ℕ
signs_text signs = flat_map sign_text signs

-- the normal spelling: the normal text of the signs that the tree needs
abbrev pub normal_spelling : Pattern → List ℕ
normal_spelling pattern = signs_text (written pattern).1
