-- The signs of the normal spelling stand for the pattern that they were written for.
use Rattle.std.proofs.Common.{◌≡◌, ◌≢◌, ℕ, suc, ◌^◌, ◌<◌, Bool, true, false, List, [], ◌∷◌, ◌++◌, map, length, refl, sym, ap, ◌∙◌, subst}
use Rattle.std.specs.Prelude.{All}
use Rattle.std.specs.List.{flat_map}
use Rattle.std.proofs.lemmas.List.{append-nil, append_assoc}
use Rattle.std.proofs.lemmas.List.Concat.{flat_map-append}
use Rattle.pattern_data.specs.Bytes.{IsByteSet}
use Rattle.pattern_data.specs.declared.pattern.Pattern.{Pattern}
use Rattle.pattern_data.specs.declared.pattern.Pattern.TheVariants.{Set as set_pattern, Seq as seq_pattern, Alt as alt_pattern}
use Rattle.pattern_data.specs.declared.signs.Sign.{Sign}
use Rattle.pattern_data.specs.declared.signs.Sign.TheVariants.{Set, Open, Close, Bar, Repeat}
use Rattle.pattern_data.specs.declared.signs.Repetition.{Repetition}
use Rattle.pattern_data.specs.declared.signs.Repetition.TheVariants.{Star, Plus, Opt}
use Rattle.pattern_data.specs.declared.print.Form.{Form}
use Rattle.pattern_data.specs.declared.print.Form.TheVariants.{Set as a_set, Sequence as a_sequence, Choice as a_choice, Repetition as a_repetition}
use Rattle.pattern_data.specs.Spellings.{seq_of, alt_of, repeated, most_open, AreAlternatives, AreInSequence, IsRepetition, IsAtom, StandFor}
use Rattle.pattern_data.specs.Spellings.AreAlternatives.{one_alternative, alternative_more}
use Rattle.pattern_data.specs.Spellings.AreInSequence.{one_in_sequence, in_sequence_more}
use Rattle.pattern_data.specs.Spellings.IsRepetition.{atom_alone, atom_repeated}
use Rattle.pattern_data.specs.Spellings.IsAtom.{set_atom, in_brackets}
use Rattle.pattern_data.specs.Printing.{Written, written, within, takes_brackets_in_choice, takes_brackets_in_sequence, takes_brackets_in_repetition, in_choice, in_a_sequence, in_repetition, with_bars}
use Rattle.pattern_data.proofs.PrintLemmas.{written-set, written-seq, written-alt, written-star, written-plus, written-opt}

-- ---- signs whose sets are sets
pub record IsGoodSet (words : List ℕ) : Type 0 where
  pub is_set : IsByteSet words
  pub four : length words ≡ 4
  pub small : All (λ word. word < 2 ^ 64) words

abbrev pub IsGood : Sign → Type 0
IsGood (Set words) = IsGoodSet words
IsGood Open = Unit {0}
IsGood Close = Unit {0}
IsGood Bar = Unit {0}
IsGood (Repeat repetition) = Unit {0}

abbrev pub AreGood : List Sign → Type 0
AreGood [] = Unit {0}
AreGood (sign ∷ signs) = IsGood sign × AreGood signs

good-append : (one other : List Sign) → AreGood one → AreGood other → AreGood (one ++ other)
good-append [] other h k = k
good-append (sign ∷ one) other h k = (h.0, good-append one other h.1 k)

good-within : (brackets : Bool) (signs : List Sign) → AreGood signs → AreGood (within brackets signs)
good-within true signs h = (tt, good-append signs (Close ∷ []) h (tt, tt))
good-within false signs h = h

good-is : (one other : List Sign) → one ≡ other → AreGood one → AreGood other
good-is one other e h = let P : List Sign → Type 0 = λ l. AreGood l in subst P e h

-- ---- more brackets may be open
mutual
  deeper_alternatives : {depth : ℕ} {signs alternatives left : _} → AreAlternatives depth signs alternatives left → AreAlternatives (suc depth) signs alternatives left
  deeper_alternatives (one_alternative sequence is) = one_alternative (deeper_sequence sequence) is
  deeper_alternatives (alternative_more others sequence is) = alternative_more (deeper_alternatives others) (deeper_sequence sequence) is

  deeper_sequence : {depth : ℕ} {signs members left : _} → AreInSequence depth signs members left → AreInSequence (suc depth) signs members left
  deeper_sequence (one_in_sequence repetition is) = one_in_sequence (deeper_repetition repetition) is
  deeper_sequence (in_sequence_more others repetition is) = in_sequence_more (deeper_sequence others) (deeper_repetition repetition) is

  deeper_repetition : {depth : ℕ} {signs left : _} {pattern : Pattern} → IsRepetition depth signs pattern left → IsRepetition (suc depth) signs pattern left
  deeper_repetition (atom_alone atom) = atom_alone (deeper_atom atom)
  deeper_repetition (atom_repeated atom is) = atom_repeated (deeper_atom atom) is

  deeper_atom : {depth : ℕ} {signs left : _} {pattern : Pattern} → IsAtom depth signs pattern left → IsAtom (suc depth) signs pattern left
  deeper_atom (set_atom signs_are is) = set_atom signs_are is
  deeper_atom (in_brackets signs_are inner is more) = in_brackets signs_are (deeper_alternatives inner) is (ap (λ n. suc n) more)

-- ---- what signs stand for, by the pattern's form
record Members (depth : ℕ) (signs : List Sign) (pattern : Pattern) (left : List Sign) : Type 0 where
  members : List Pattern
  are : AreInSequence depth signs members left
  joined : pattern ≡ seq_of members

record Choices (depth : ℕ) (signs : List Sign) (pattern : Pattern) (left : List Sign) : Type 0 where
  alternatives : List Pattern
  are : AreAlternatives depth signs alternatives left
  joined : pattern ≡ alt_of alternatives

abbrev ByForm : Form → ℕ → List Sign → Pattern → List Sign → Type 0
ByForm a_set depth signs pattern left = IsAtom depth signs pattern left
ByForm a_sequence depth signs pattern left = Members depth signs pattern left
ByForm a_choice depth signs pattern left = Choices depth signs pattern left
ByForm a_repetition depth signs pattern left = IsRepetition depth signs pattern left

deeper_form : (form : Form) (depth : ℕ) (signs : List Sign) (pattern : Pattern) (left : List Sign) → ByForm form depth signs pattern left → ByForm form (suc depth) signs pattern left
deeper_form a_set depth signs pattern left h = deeper_atom h
deeper_form a_sequence depth signs pattern left h = record { members = h.members; are = deeper_sequence h.are; joined = h.joined }
deeper_form a_choice depth signs pattern left h = record { alternatives = h.alternatives; are = deeper_alternatives h.are; joined = h.joined }
deeper_form a_repetition depth signs pattern left h = deeper_repetition h

one_member : (depth : ℕ) (signs : List Sign) (pattern : Pattern) (left : List Sign) → IsRepetition depth signs pattern left → Members depth signs pattern left
one_member depth signs pattern left h = record { members = pattern ∷ []; are = one_in_sequence h refl; joined = refl }

one_choice : (depth : ℕ) (signs : List Sign) (pattern : Pattern) (left : List Sign) → Members depth signs pattern left → Choices depth signs pattern left
one_choice depth signs pattern left h = record { alternatives = seq_of h.members ∷ []; are = one_alternative h.are refl; joined = h.joined }

as_choices : (form : Form) (depth : ℕ) (signs : List Sign) (pattern : Pattern) (left : List Sign) → ByForm form depth signs pattern left → Choices depth signs pattern left
as_choices a_set depth signs pattern left h = one_choice depth signs pattern left (one_member depth signs pattern left (atom_alone h))
as_choices a_sequence depth signs pattern left h = one_choice depth signs pattern left h
as_choices a_choice depth signs pattern left h = h
as_choices a_repetition depth signs pattern left h = one_choice depth signs pattern left (one_member depth signs pattern left h)

-- the normal signs of a pattern, before whatever is left
record IsNormal (depth : ℕ) (pattern : Pattern) : Type 0 where
  stands : (left : List Sign) → ByForm (written pattern).0 depth ((written pattern).1 ++ left) pattern left
  good : AreGood (written pattern).1

record IsNormalAtom (depth : ℕ) (pattern : Pattern) : Type 0 where
  normal : IsNormal depth pattern
  atom : (left : List Sign) → IsAtom depth (within (takes_brackets_in_repetition (written pattern).0) (written pattern).1 ++ left) pattern left

record IsNormalMember (depth : ℕ) (pattern : Pattern) : Type 0 where
  normal : IsNormal depth pattern
  member : (left : List Sign) → IsRepetition depth (in_a_sequence (written pattern) ++ left) pattern left

record IsNormalChoice (depth : ℕ) (pattern : Pattern) : Type 0 where
  normal : IsNormal depth pattern
  choice : (left : List Sign) → Members depth (in_choice (written pattern) ++ left) pattern left

bracketed_atom : (form : Form) (depth : ℕ) (signs : List Sign) (pattern : Pattern) → ((left : List Sign) → ByForm form depth (signs ++ left) pattern left) → (left : List Sign) → IsAtom (suc depth) (within true signs ++ left) pattern left
bracketed_atom form depth signs pattern h left =
    let inner = as_choices form depth (signs ++ (Close ∷ left)) pattern (Close ∷ left) (h (Close ∷ left)) in
    in_brackets (ap (λ l. Open ∷ l) (append_assoc signs (Close ∷ []) left)) inner.are inner.joined refl

atom_from : (form : Form) (depth : ℕ) (signs : List Sign) (pattern : Pattern) → ((left : List Sign) → ByForm form depth (signs ++ left) pattern left) → (left : List Sign) → IsAtom (suc depth) (within (takes_brackets_in_repetition form) signs ++ left) pattern left
atom_from a_set depth signs pattern h left = deeper_atom (h left)
atom_from a_sequence depth signs pattern h left = bracketed_atom a_sequence depth signs pattern h left
atom_from a_choice depth signs pattern h left = bracketed_atom a_choice depth signs pattern h left
atom_from a_repetition depth signs pattern h left = bracketed_atom a_repetition depth signs pattern h left

member_from_atom : (form : Form) (depth : ℕ) (signs : List Sign) (pattern : Pattern) → ((left : List Sign) → ByForm form depth (signs ++ left) pattern left) → ((left : List Sign) → IsAtom depth (within (takes_brackets_in_repetition form) signs ++ left) pattern left) → (left : List Sign) → IsRepetition depth (within (takes_brackets_in_sequence form) signs ++ left) pattern left
member_from_atom a_set depth signs pattern h atom left = atom_alone (atom left)
member_from_atom a_sequence depth signs pattern h atom left = atom_alone (atom left)
member_from_atom a_choice depth signs pattern h atom left = atom_alone (atom left)
member_from_atom a_repetition depth signs pattern h atom left = h left

choice_from_member : (form : Form) (depth : ℕ) (signs : List Sign) (pattern : Pattern) → ((left : List Sign) → ByForm form depth (signs ++ left) pattern left) → ((left : List Sign) → IsRepetition depth (within (takes_brackets_in_sequence form) signs ++ left) pattern left) → (left : List Sign) → Members depth (within (takes_brackets_in_choice form) signs ++ left) pattern left
choice_from_member a_set depth signs pattern h member left = one_member depth (signs ++ left) pattern left (member left)
choice_from_member a_sequence depth signs pattern h member left = h left
choice_from_member a_choice depth signs pattern h member left = one_member depth (within true signs ++ left) pattern left (member left)
choice_from_member a_repetition depth signs pattern h member left = one_member depth (signs ++ left) pattern left (member left)

-- ---- patterns by what was written for them
normal_from : (depth : ℕ) (pattern : Pattern) (w : Written) → written pattern ≡ w → ((left : List Sign) → ByForm w.0 depth (w.1 ++ left) pattern left) → AreGood w.1 → IsNormal depth pattern
normal_from depth pattern w is stands good =
    let P : Written → Type 0 = λ v. (left : List Sign) → ByForm v.0 depth (v.1 ++ left) pattern left in
    let Q : Written → Type 0 = λ v. AreGood v.1 in
    record { stands = subst P (sym is) stands; good = subst Q (sym is) good }

atom_normal : (depth : ℕ) (pattern : Pattern) → IsNormal depth pattern → IsNormalAtom (suc depth) pattern
atom_normal depth pattern h = record {
  normal = record { stands = λ left. deeper_form (written pattern).0 depth ((written pattern).1 ++ left) pattern left (h.stands left); good = h.good };
  atom = λ left. atom_from (written pattern).0 depth (written pattern).1 pattern h.stands left;
}

member_normal : (depth : ℕ) (pattern : Pattern) → IsNormalAtom depth pattern → IsNormalMember depth pattern
member_normal depth pattern h = record {
  normal = h.normal;
  member = λ left. member_from_atom (written pattern).0 depth (written pattern).1 pattern h.normal.stands h.atom left;
}

choice_normal : (depth : ℕ) (pattern : Pattern) → IsNormalMember depth pattern → IsNormalChoice depth pattern
choice_normal depth pattern h = record {
  normal = h.normal;
  choice = λ left. choice_from_member (written pattern).0 depth (written pattern).1 pattern h.normal.stands h.member left;
}

set_normal : (depth : ℕ) (pattern : Pattern) (words : List ℕ) → pattern ≡ set_pattern words → IsGoodSet words → IsNormalAtom depth pattern
set_normal depth pattern words is good =
    let w : written pattern ≡ (a_set, Set words ∷ []) = written-set pattern words is in
    let P : Written → Type 0 = λ v. (left : List Sign) → IsAtom depth (within (takes_brackets_in_repetition v.0) v.1 ++ left) pattern left in
    let atom : (left : List Sign) → IsAtom depth (Set words ∷ left) pattern left = λ left. set_atom refl is in
    record { normal = normal_from depth pattern (a_set, Set words ∷ []) w atom (good, tt); atom = subst P (sym w) atom }

repeated_written : (repetition : Repetition) (inner pattern : Pattern) → pattern ≡ repeated repetition inner → written pattern ≡ (a_repetition, in_repetition repetition (written inner))
repeated_written Star inner pattern is = written-star pattern inner is
repeated_written Plus inner pattern is = written-plus pattern inner is
repeated_written Opt inner pattern is = written-opt pattern inner is

repetition_normal : (depth : ℕ) (repetition : Repetition) (inner pattern : Pattern) → pattern ≡ repeated repetition inner → IsNormalAtom depth inner → IsNormalMember depth pattern
repetition_normal depth repetition inner pattern is h =
    let brackets : List Sign = within (takes_brackets_in_repetition (written inner).0) (written inner).1 in
    let w : written pattern ≡ (a_repetition, brackets ++ Repeat repetition ∷ []) = repeated_written repetition inner pattern is in
    let whole : (left : List Sign) → IsRepetition depth ((brackets ++ Repeat repetition ∷ []) ++ left) pattern left = λ left.
    let Q : List Sign → Type 0 = λ l. IsRepetition depth l pattern left in
    subst Q (sym (append_assoc brackets (Repeat repetition ∷ []) left)) (atom_repeated (h.atom (Repeat repetition ∷ left)) is) in
    let P : Written → Type 0 = λ v. (left : List Sign) → IsRepetition depth (in_a_sequence v ++ left) pattern left in
    record {
      normal = normal_from depth pattern (a_repetition, brackets ++ Repeat repetition ∷ []) w whole (good-append brackets (Repeat repetition ∷ []) (good-within (takes_brackets_in_repetition (written inner).0) (written inner).1 h.normal.good) (tt, tt));
      member = subst P (sym w) whole;
    }

-- ---- members of a sequence
record AreNormalMembers (depth : ℕ) (members : List Pattern) : Type 0 where
  stand : (left : List Sign) → AreInSequence depth (flat_map in_a_sequence (map written members) ++ left) members left
  good : AreGood (flat_map in_a_sequence (map written members))
  some : members ≢ []
  alone : (member : Pattern) → members ≡ member ∷ [] → IsNormalMember depth member

map_snoc : (members : List Pattern) (member : Pattern) → map written (members ++ member ∷ []) ≡ map written members ++ written member ∷ []
map_snoc [] member = refl
map_snoc (first ∷ others) member = ap (λ l. written first ∷ l) (map_snoc others member)

snoc_some : (members : List Pattern) (member : Pattern) → members ++ member ∷ [] ≡ [] → ⊥
snoc_some [] member e = absurd (cc)
snoc_some (first ∷ others) member e = absurd (cc)

snoc_alone : (members : List Pattern) (member one : Pattern) → members ≢ [] → members ++ member ∷ [] ≡ one ∷ [] → ⊥
snoc_alone [] member one some e = some refl
snoc_alone (first ∷ others) member one some e = let rest : others ++ member ∷ [] ≡ [] = cc in snoc_some others member rest

is_same : (depth : ℕ) (one other : Pattern) → one ∷ [] ≡ other ∷ [] → IsNormalMember depth one → IsNormalMember depth other
is_same depth one other e h = let P : Pattern → Type 0 = λ p. IsNormalMember depth p in let same : one ≡ other = cc in subst P same h

first_member : (depth : ℕ) (members : List Pattern) (member : Pattern) → members ≡ member ∷ [] → IsNormalMember depth member → AreNormalMembers depth members
first_member depth members member is h =
    let P : List Pattern → Type 0 = λ ms. AreNormalMembers depth ms in
    let signs : List Sign = in_a_sequence (written member) in
    subst P (sym is) (record {
      stand = λ left. let Q : List Sign → Type 0 = λ l. AreInSequence depth (l ++ left) (member ∷ []) left in
          subst Q (sym (append-nil signs)) (one_in_sequence (h.member left) refl);
      good = good-is signs (signs ++ []) (sym (append-nil signs)) (good-within (takes_brackets_in_sequence (written member).0) (written member).1 h.normal.good);
      some = λ e. absurd (cc);
      alone = λ one e. is_same depth member one e h;
    })

next_member : (depth : ℕ) (before members : List Pattern) (member : Pattern) → members ≡ before ++ member ∷ [] → AreNormalMembers depth before → IsNormalMember depth member → AreNormalMembers depth members
next_member depth before members member is h k =
    let P : List Pattern → Type 0 = λ ms. AreNormalMembers depth ms in
    let front : List Sign = flat_map in_a_sequence (map written before) in
    let signs : List Sign = in_a_sequence (written member) in
    let joined : flat_map in_a_sequence (map written (before ++ member ∷ [])) ≡ front ++ signs =
    ap (flat_map in_a_sequence) (map_snoc before member) ∙ flat_map-append in_a_sequence (map written before) (written member ∷ []) ∙ ap (λ l. front ++ l) (append-nil signs) in
    subst P (sym is) (record {
      stand = λ left. let Q : List Sign → Type 0 = λ l. AreInSequence depth l (before ++ member ∷ []) left in
          subst Q (sym (ap (λ l. l ++ left) joined ∙ append_assoc front signs left)) (in_sequence_more (h.stand (signs ++ left)) (k.member left) refl);
      good = good-is (front ++ signs) _ (sym joined) (good-append front signs h.good (good-within (takes_brackets_in_sequence (written member).0) (written member).1 k.normal.good));
      some = snoc_some before member;
      alone = λ one e. absurd (snoc_alone before member one h.some e);
    })

sequence_normal : (depth : ℕ) (members : List Pattern) → AreNormalMembers depth members → IsNormalChoice depth (seq_of members)
sequence_normal depth [] h = absurd (h.some refl)
sequence_normal depth (member ∷ []) h = choice_normal depth member (h.alone member refl)
sequence_normal depth (member ∷ second ∷ members) h =
    let all : List Pattern = member ∷ second ∷ members in
    let w : written (seq_pattern all) ≡ (a_sequence, flat_map in_a_sequence (map written all)) = written-seq (seq_pattern all) all refl in
    let whole : (left : List Sign) → Members depth (flat_map in_a_sequence (map written all) ++ left) (seq_pattern all) left = λ left. record { members = all; are = h.stand left; joined = refl } in
    let P : Written → Type 0 = λ v. (left : List Sign) → Members depth (in_choice v ++ left) (seq_pattern all) left in
    record { normal = normal_from depth (seq_pattern all) (a_sequence, flat_map in_a_sequence (map written all)) w whole h.good; choice = subst P (sym w) whole }

-- ---- alternatives
record AreNormalChoices (depth : ℕ) (alternatives : List Pattern) : Type 0 where
  stand : (left : List Sign) → AreAlternatives depth (with_bars (map written alternatives) ++ left) alternatives left
  good : AreGood (with_bars (map written alternatives))
  some : alternatives ≢ []
  alone : (alternative : Pattern) → alternatives ≡ alternative ∷ [] → IsNormal depth alternative

bars_snoc : (alternatives : List Pattern) (last : Pattern) → alternatives ≢ [] → with_bars (map written (alternatives ++ last ∷ [])) ≡ with_bars (map written alternatives) ++ (Bar ∷ in_choice (written last))
bars_snoc [] last some = absurd (some refl)
bars_snoc (first ∷ others) last some =
    let bar : Written → List Sign = λ (w : Written). Bar ∷ in_choice w in
    ap (λ l. in_choice (written first) ++ flat_map bar l) (map_snoc others last)
    ∙ ap (λ l. in_choice (written first) ++ l) (flat_map-append bar (map written others) (written last ∷ []) ∙ ap (λ l. flat_map bar (map written others) ++ l) (append-nil (bar (written last))))
    ∙ sym (append_assoc (in_choice (written first)) (flat_map bar (map written others)) (bar (written last)))

same_normal : (depth : ℕ) (one other : Pattern) → one ∷ [] ≡ other ∷ [] → IsNormal depth one → IsNormal depth other
same_normal depth one other e h = let P : Pattern → Type 0 = λ p. IsNormal depth p in let same : one ≡ other = cc in subst P same h

first_choice : (depth : ℕ) (alternatives : List Pattern) (one : Pattern) → alternatives ≡ one ∷ [] → IsNormalChoice depth one → AreNormalChoices depth alternatives
first_choice depth alternatives one is h =
    let P : List Pattern → Type 0 = λ ps. AreNormalChoices depth ps in
    let signs : List Sign = in_choice (written one) in
    subst P (sym is) (record {
      stand = λ left. let Q : List Sign → Type 0 = λ l. AreAlternatives depth (l ++ left) (one ∷ []) left in
          let members = h.choice left in
          subst Q (sym (append-nil signs)) (one_alternative members.are (ap (λ p. p ∷ []) members.joined));
      good = good-is signs (signs ++ []) (sym (append-nil signs)) (good-within (takes_brackets_in_choice (written one).0) (written one).1 h.normal.good);
      some = λ e. absurd (cc);
      alone = λ other e. same_normal depth one other e h.normal;
    })

next_choice : (depth : ℕ) (before alternatives : List Pattern) (last : Pattern) → alternatives ≡ before ++ last ∷ [] → AreNormalChoices depth before → IsNormalChoice depth last → AreNormalChoices depth alternatives
next_choice depth before alternatives last is h k =
    let P : List Pattern → Type 0 = λ ps. AreNormalChoices depth ps in
    let front : List Sign = with_bars (map written before) in
    let signs : List Sign = in_choice (written last) in
    subst P (sym is) (record {
      stand = λ left. let Q : List Sign → Type 0 = λ l. AreAlternatives depth l (before ++ last ∷ []) left in
          let members = k.choice left in
          subst Q (sym (ap (λ l. l ++ left) (bars_snoc before last h.some) ∙ append_assoc front (Bar ∷ signs) left))
          (alternative_more (h.stand (Bar ∷ (signs ++ left))) members.are (ap (λ p. before ++ p ∷ []) members.joined));
      good = good-is (front ++ (Bar ∷ signs)) _ (sym (bars_snoc before last h.some)) (good-append front (Bar ∷ signs) h.good (tt, good-within (takes_brackets_in_choice (written last).0) (written last).1 k.normal.good));
      some = snoc_some before last;
      alone = λ other e. absurd (snoc_alone before last other h.some e);
    })

choices_normal : (depth : ℕ) (alternatives : List Pattern) → AreNormalChoices depth alternatives → IsNormal depth (alt_of alternatives)
choices_normal depth [] h = absurd (h.some refl)
choices_normal depth (one ∷ []) h = h.alone one refl
choices_normal depth (one ∷ second ∷ others) h =
    let all : List Pattern = one ∷ second ∷ others in
    let w : written (alt_pattern all) ≡ (a_choice, with_bars (map written all)) = written-alt (alt_pattern all) all refl in
    normal_from depth (alt_pattern all) (a_choice, with_bars (map written all)) w (λ left. record { alternatives = all; are = h.stand left; joined = refl }) h.good

-- ---- each derivation gives the normal one
mutual
  normal_alternatives : {depth : ℕ} {signs alternatives left : _} → AreAlternatives depth signs alternatives left → AreGood signs → AreNormalChoices depth alternatives × AreGood left
  normal_alternatives (one_alternative {depth = depth} {members = members} {all = all} sequence is) good =
      let inner = normal_sequence sequence good in
      (first_choice depth all (seq_of members) is (sequence_normal depth members inner.0), inner.1)
  normal_alternatives (alternative_more {depth = depth} {alternatives = before} {members = members} {all = all} others sequence is) good =
      let first = normal_alternatives others good in
      let inner = normal_sequence sequence first.1.1 in
      (next_choice depth before all (seq_of members) is first.0 (sequence_normal depth members inner.0), inner.1)

  normal_sequence : {depth : ℕ} {signs members left : _} → AreInSequence depth signs members left → AreGood signs → AreNormalMembers depth members × AreGood left
  normal_sequence (one_in_sequence {depth = depth} {member = member} {all = all} repetition is) good =
      let inner = normal_repetition repetition good in
      (first_member depth all member is inner.0, inner.1)
  normal_sequence (in_sequence_more {depth = depth} {members = before} {all = all} {member = member} others repetition is) good =
      let first = normal_sequence others good in
      let inner = normal_repetition repetition first.1 in
      (next_member depth before all member is first.0 inner.0, inner.1)

  normal_repetition : {depth : ℕ} {signs left : _} {pattern : Pattern} → IsRepetition depth signs pattern left → AreGood signs → IsNormalMember depth pattern × AreGood left
  normal_repetition (atom_alone {depth = depth} {pattern = pattern} atom) good =
      let inner = normal_atom atom good in (member_normal depth pattern inner.0, inner.1)
  normal_repetition (atom_repeated {depth = depth} {inner = inner_pattern} {pattern = pattern} {repetition = repetition} atom is) good =
      let inner = normal_atom atom good in (repetition_normal depth repetition inner_pattern pattern is inner.0, inner.1.1)

  normal_atom : {depth : ℕ} {signs left : _} {pattern : Pattern} → IsAtom depth signs pattern left → AreGood signs → IsNormalAtom depth pattern × AreGood left
  normal_atom (set_atom {depth = depth} {signs = signs} {left = left} {words = words} {pattern = pattern} signs_are is) good =
      let all = good-is signs (Set words ∷ left) signs_are good in (set_normal depth pattern words is all.0, all.1)
  normal_atom (in_brackets {depth = depth} {outer = outer} {signs = signs} {inside = inside} {left = left} {alternatives = alternatives} {pattern = pattern} signs_are inner is deeper) good =
      let all = good-is signs (Open ∷ inside) signs_are good in
      let choices = normal_alternatives inner all.1 in
      let P : Pattern → Type 0 = λ p. IsNormal depth p in
      let Q : ℕ → Type 0 = λ d. IsNormalAtom d pattern in
      (subst Q (sym deeper) (atom_normal depth pattern (subst P (sym is) (choices_normal depth alternatives choices.0))), choices.1.1)

-- the normal signs of a pattern stand for it
pub record NormalStands (pattern : Pattern) : Type 0 where
  pub stands : StandFor (written pattern).1 pattern
  pub good : AreGood (written pattern).1

pub normal_stands : (signs : List Sign) (pattern : Pattern) → StandFor signs pattern → AreGood signs → NormalStands pattern
normal_stands signs pattern h good =
    let choices = normal_alternatives h.spelled good in
    let P : Pattern → Type 0 = λ p. IsNormal most_open p in
    let normal = subst P (sym h.joined) (choices_normal most_open h.alternatives choices.0) in
    let Q : List Sign → Type 0 = λ l. ByForm (written pattern).0 most_open l pattern [] in
    let whole = as_choices (written pattern).0 most_open (written pattern).1 pattern [] (subst Q (append-nil (written pattern).1) (normal.stands [])) in
    record { stands = record { alternatives = whole.alternatives; spelled = whole.are; joined = whole.joined }; good = normal.good }
