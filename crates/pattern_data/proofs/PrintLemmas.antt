-- The normal spelling by the variants.
use Rattle.std.proofs.Common.{◌≡◌, ℕ, ◌-◌, ◌<◌, ◌≤◌, List, [], ◌∷◌, ◌++◌, map, length, take, drop, get_or, refl, sym, ap, subst, ◌∙◌, arith}
use Rattle.std.specs.Prelude.{Result, OnOk}
use Rattle.std.specs.List.{flat_map}
use Rattle.std.proofs.lemmas.List.{append-nil, take_all}
use Rattle.std.proofs.lemmas.List.Concat.{flat_map-append}
use Rattle.pattern_data.specs.declared.pattern.Pattern.{Pattern, Pattern-F, out-Pattern, map-Pattern, fold_out-Pattern}
use Rattle.pattern_data.specs.declared.pattern.Pattern.TheOpen.Pattern-F.{Set, Seq, Alt, Star, Plus, Opt}
use Rattle.pattern_data.specs.declared.pattern.Pattern.TheVariants.{Set as set_pattern, Seq as seq_pattern, Alt as alt_pattern, Star as star_pattern, Plus as plus_pattern, Opt as opt_pattern, outs-Set, outs-Seq, outs-Alt, outs-Star, outs-Plus, outs-Opt}
use Rattle.pattern_data.specs.declared.signs.Sign.{Sign}
use Rattle.pattern_data.specs.declared.signs.Sign.TheVariants.{Set as set_sign, Bar}
use Rattle.pattern_data.specs.declared.signs.Repetition.TheVariants.{Star as star, Plus as plus, Opt as opt}
use Rattle.pattern_data.specs.Printing.{Written, written_step, written, in_choice, in_a_sequence, in_repetition, with_bars, sign_text, signs_text, normal_spelling}
use Rattle.pattern_data.specs.Texts.{set_text}
use Rattle.pattern_data.specs.declared.print.Form.TheVariants.{Set as a_set, Sequence as a_sequence, Choice as a_choice, Repetition as a_repetition}

pub written-layer : (p : Pattern) (layer : Pattern-F Pattern) → out-Pattern p ≡ layer → written p ≡ written_step (map-Pattern Pattern Written written layer)
unfolding written
written-layer p layer is = fold_out-Pattern Written written_step p ∙ ap (λ l. written_step (map-Pattern Pattern Written written l)) is

pub written-set : (p : Pattern) (words : List ℕ) → p ≡ set_pattern words → written p ≡ (a_set, set_sign words ∷ [])
written-set p words is = written-layer p (Set words) (ap out-Pattern is ∙ outs-Set words)

pub written-seq : (p : Pattern) (members : List Pattern) → p ≡ seq_pattern members → written p ≡ (a_sequence, flat_map in_a_sequence (map written members))
written-seq p members is = written-layer p (Seq members) (ap out-Pattern is ∙ outs-Seq members)

pub written-alt : (p : Pattern) (members : List Pattern) → p ≡ alt_pattern members → written p ≡ (a_choice, with_bars (map written members))
written-alt p members is = written-layer p (Alt members) (ap out-Pattern is ∙ outs-Alt members)

pub written-star : (p inner : Pattern) → p ≡ star_pattern inner → written p ≡ (a_repetition, in_repetition star (written inner))
written-star p inner is = written-layer p (Star inner) (ap out-Pattern is ∙ outs-Star inner)

pub written-plus : (p inner : Pattern) → p ≡ plus_pattern inner → written p ≡ (a_repetition, in_repetition plus (written inner))
written-plus p inner is = written-layer p (Plus inner) (ap out-Pattern is ∙ outs-Plus inner)

pub written-opt : (p inner : Pattern) → p ≡ opt_pattern inner → written p ≡ (a_repetition, in_repetition opt (written inner))
written-opt p inner is = written-layer p (Opt inner) (ap out-Pattern is ∙ outs-Opt inner)

-- ---- texts of signs
pub text-append : (one other : List Sign) → signs_text (one ++ other) ≡ signs_text one ++ signs_text other
text-append one other = flat_map-append sign_text one other

-- the text of each member
abbrev pub sequence_text : Pattern → List ℕ
sequence_text member = signs_text (in_a_sequence (written member))

abbrev pub choice_text : Pattern → List ℕ
choice_text member = signs_text (in_choice (written member))

abbrev pub bar_text : Pattern → List ℕ
bar_text member = 124 ∷ choice_text member

pub text-members : (members : List Pattern) → signs_text (flat_map in_a_sequence (map written members)) ≡ flat_map sequence_text members
text-members [] = refl
text-members (first ∷ others) =
    text-append (in_a_sequence (written first)) (flat_map in_a_sequence (map written others)) ∙ ap (λ l. sequence_text first ++ l) (text-members others)

text-bars : (others : List Pattern) → signs_text (flat_map (λ (w : Written). Bar ∷ in_choice w) (map written others)) ≡ flat_map bar_text others
text-bars [] = refl
text-bars (first ∷ others) =
    text-append (Bar ∷ in_choice (written first)) (flat_map (λ (w : Written). Bar ∷ in_choice w) (map written others)) ∙ ap (λ l. bar_text first ++ l) (text-bars others)

pub text-alternatives : (first : Pattern) (others : List Pattern) → signs_text (with_bars (map written (first ∷ others))) ≡ choice_text first ++ flat_map bar_text others
text-alternatives first others =
    text-append (in_choice (written first)) (flat_map (λ (w : Written). Bar ∷ in_choice w) (map written others)) ∙ ap (λ l. choice_text first ++ l) (text-bars others)

pub text-set : (words : List ℕ) → signs_text (set_sign words ∷ []) ≡ sign_text (set_sign words)
text-set words = append-nil (sign_text (set_sign words))

-- ---- the normal spelling by the variants
pub spelling-set : (p : Pattern) (words : List ℕ) → p ≡ set_pattern words → normal_spelling p ≡ set_text words
spelling-set p words is = ap (λ (w : Written). signs_text w.1) (written-set p words is) ∙ text-set words

pub spelling-seq : (p : Pattern) (members : List Pattern) → p ≡ seq_pattern members → normal_spelling p ≡ flat_map sequence_text members
spelling-seq p members is = ap (λ (w : Written). signs_text w.1) (written-seq p members is) ∙ text-members members

pub spelling-alt_none : (p : Pattern) (members : List Pattern) → p ≡ alt_pattern members → length members < 1 → normal_spelling p ≡ []
spelling-alt_none p [] is none = ap (λ (w : Written). signs_text w.1) (written-alt p [] is)
spelling-alt_none p (first ∷ others) is none = absurd (omega arith)

pub spelling-alt : (p : Pattern) (members : List Pattern) (first : Pattern) → p ≡ alt_pattern members → 1 ≤ length members → first ≡ get_or members 0 first → normal_spelling p ≡ choice_text first ++ flat_map bar_text (take (length members - 1) (drop 1 members))
spelling-alt p [] first is some at_front = absurd (omega arith)
spelling-alt p (head ∷ others) first is some at_front =
    let e : length (head ∷ others) - 1 ≡ length others = omega arith in
    let whole : take (length others) others ≡ others = take_all (length others) others (omega arith) in
    ap (λ (w : Written). signs_text w.1) (written-alt p (head ∷ others) is) ∙ text-alternatives head others
    ∙ ap (λ x. choice_text x ++ flat_map bar_text others) (sym at_front)
    ∙ ap (λ l. choice_text first ++ flat_map bar_text l) (sym (ap (λ n. take n others) e ∙ whole))

pub spelling-star : (p inner : Pattern) → p ≡ star_pattern inner → normal_spelling p ≡ signs_text (in_repetition star (written inner))
spelling-star p inner is = ap (λ (w : Written). signs_text w.1) (written-star p inner is)

pub spelling-plus : (p inner : Pattern) → p ≡ plus_pattern inner → normal_spelling p ≡ signs_text (in_repetition plus (written inner))
spelling-plus p inner is = ap (λ (w : Written). signs_text w.1) (written-plus p inner is)

pub spelling-opt : (p inner : Pattern) → p ≡ opt_pattern inner → normal_spelling p ≡ signs_text (in_repetition opt (written inner))
spelling-opt p inner is = ap (λ (w : Written). signs_text w.1) (written-opt p inner is)

-- ---- what was written behind a text
pub written_as : {E : Type 0} (r : Result (Unit {0}) E) (new old one other : List ℕ) → one ≡ other → OnOk r (new ≡ old ++ one) → OnOk r (new ≡ old ++ other)
written_as r new old one other e h = let P : List ℕ → Type 0 = λ l. OnOk r (new ≡ old ++ l) in subst P e h
