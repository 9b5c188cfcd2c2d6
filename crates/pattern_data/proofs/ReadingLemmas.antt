-- Signs that are taken one after another stand for the pattern that they give, and all that stand for one give it.
use Rattle.std.proofs.Common.{◌≡◌, ℕ, zero, suc, ◌+◌, ◌<◌, true, false, cond, List, [], ◌∷◌, ◌++◌, length, refl, sym, ap, ◌∙◌, subst, ⊎_elim, arith}
use Rattle.std.specs.Prelude.{nat_lt, Option, None, Some, option_to_list, option_map, option_and_then}
use Rattle.std.proofs.lemmas.Bool.{cases_Bool, lt-ltb, ltb-true}
use Rattle.std.proofs.lemmas.List.{append-nil, append_assoc}
use Rattle.std.proofs.lemmas.Option.{none-some, same_Some}
use Rattle.pattern_data.specs.declared.pattern.Pattern.{Pattern}
use Rattle.pattern_data.specs.declared.pattern.Pattern.TheVariants.{Set as set_pattern}
use Rattle.pattern_data.specs.declared.signs.Sign.{Sign}
use Rattle.pattern_data.specs.declared.signs.Sign.TheVariants.{Set, Open as open_bracket, Close, Bar, Repeat}
use Rattle.pattern_data.specs.declared.signs.Repetition.{Repetition}
use Rattle.pattern_data.specs.declared.group.Group.{Group}
use Rattle.pattern_data.specs.Spellings.{seq_of, alt_of, repeated, most_open, AreAlternatives, AreInSequence, IsRepetition, IsAtom, StandFor}
use Rattle.pattern_data.specs.Spellings.AreAlternatives.{one_alternative, alternative_more}
use Rattle.pattern_data.specs.Spellings.AreInSequence.{one_in_sequence, in_sequence_more}
use Rattle.pattern_data.specs.Spellings.IsRepetition.{atom_alone, atom_repeated}
use Rattle.pattern_data.specs.Spellings.IsAtom.{set_atom, in_brackets}
use Rattle.pattern_data.specs.Groups.{Open, no_group, in_sequence, with_atom, repeated_last, ended, with_bar, whole_of, closed, with_sign, at_end}

-- the pattern that signs give, from what is open on
abbrev pub run : List Sign → Group → List Group → Option Pattern
run [] group outer = at_end group outer
run (sign ∷ signs) group outer = option_and_then (λ (o : Open). run signs o.0 o.1) (with_sign sign group outer)

-- ---- all signs that stand for a pattern give it
abbrev IsIn : ℕ → List Group → Type 0
IsIn depth outer = depth + length outer ≡ most_open

-- a group with more members
record Runs (signs left : List Sign) (group : Group) (outer : List Group) (members : List Pattern) : Type 0 where
  after : Group
  same : run signs group outer ≡ run left after outer
  alternatives : after.alternatives ≡ group.alternatives
  sequence : in_sequence after ≡ in_sequence group ++ members

-- a group of these alternatives
record RunsWhole (signs left : List Sign) (outer : List Group) (alternatives : List Pattern) : Type 0 where
  after : Group
  same : run signs no_group outer ≡ run left after outer
  ended : with_bar after ≡ Some (record { alternatives = alternatives; sequence = []; atom = None })

some_members : {depth : ℕ} {signs members left : _} → AreInSequence depth signs members left → (alternatives : List Pattern) → ended alternatives members ≡ Some (record { alternatives = alternatives ++ seq_of members ∷ []; sequence = []; atom = None })
some_members (one_in_sequence {member = member} repetition is) alternatives =
    let P : List Pattern → Type 0 = λ ms. ended alternatives ms ≡ Some (record { alternatives = alternatives ++ seq_of ms ∷ []; sequence = []; atom = None }) in
    subst P (sym is) refl
some_members (in_sequence_more {members = members} {member = member} others repetition is) alternatives =
    let P : List Pattern → Type 0 = λ ms. ended alternatives ms ≡ Some (record { alternatives = alternatives ++ seq_of ms ∷ []; sequence = []; atom = None }) in
    subst P (sym is) (behind members)
  where
    behind : (ms : List Pattern) → ended alternatives (ms ++ member ∷ []) ≡ Some (record { alternatives = alternatives ++ seq_of (ms ++ member ∷ []) ∷ []; sequence = []; atom = None })
    behind [] = refl
    behind (m ∷ ms) = refl

run_bar : (signs : List Sign) (group next : Group) (outer : List Group) → with_bar group ≡ Some next → run (Bar ∷ signs) group outer ≡ run signs next outer
run_bar signs group next outer e = ap (λ o. option_and_then (λ (a : Open). run signs a.0 a.1) (option_map (λ ended. (ended, outer)) o)) e

run_open : (signs : List Sign) (group : Group) (outer : List Group) → length outer < most_open → run (open_bracket ∷ signs) group outer ≡ run signs no_group (group ∷ outer)
run_open signs group outer room = ap (λ b. option_and_then (λ (a : Open). run signs a.0 a.1) (cond b (Some (no_group, group ∷ outer)) None)) (lt-ltb (length outer) most_open room)

run_close : (signs : List Sign) (inside around : Group) (outer : List Group) (pattern : Pattern) → whole_of inside ≡ Some pattern → run (Close ∷ signs) inside (around ∷ outer) ≡ run signs (with_atom around pattern) outer
run_close signs inside around outer pattern e = ap (λ o. option_and_then (λ (a : Open). run signs a.0 a.1) (closed o (around ∷ outer))) e

whole_from : (group : Group) (all : List Pattern) → with_bar group ≡ Some (record { alternatives = all; sequence = []; atom = None }) → whole_of group ≡ Some (alt_of all)
whole_from group all e = ap (λ o. option_map (λ (g : Group). alt_of g.alternatives) o) e

mutual
  runs_alternatives : {depth : ℕ} {signs alternatives left : _} → AreAlternatives depth signs alternatives left → (outer : List Group) → IsIn depth outer → RunsWhole signs left outer alternatives
  runs_alternatives (one_alternative {members = members} sequence is) outer room =
      let inner = runs_sequence sequence no_group outer room in
      record {
        after = inner.after;
        same = inner.same;
        ended = ap (λ alts. ended alts (in_sequence inner.after)) inner.alternatives ∙ ap (ended []) inner.sequence ∙ some_members sequence []
            ∙ ap (λ alts. Some (record { alternatives = alts; sequence = []; atom = None })) (sym is);
      }
  runs_alternatives (alternative_more {behind = behind} {left = left} {alternatives = before} {members = members} others sequence is) outer room =
      let first = runs_alternatives others outer room in
      let next : Group = record { alternatives = before; sequence = []; atom = None } in
      let inner = runs_sequence sequence next outer room in
      record {
        after = inner.after;
        same = first.same ∙ run_bar behind first.after next outer first.ended ∙ inner.same;
        ended = ap (λ alts. ended alts (in_sequence inner.after)) inner.alternatives ∙ ap (ended before) inner.sequence ∙ some_members sequence before
            ∙ ap (λ alts. Some (record { alternatives = alts; sequence = []; atom = None })) (sym is);
      }

  runs_sequence : {depth : ℕ} {signs members left : _} → AreInSequence depth signs members left → (group : Group) (outer : List Group) → IsIn depth outer → Runs signs left group outer members
  runs_sequence (one_in_sequence {member = member} repetition is) group outer room =
      let inner = runs_repetition repetition group outer room in
      record { after = inner.after; same = inner.same; alternatives = inner.alternatives; sequence = inner.sequence ∙ ap (λ ms. in_sequence group ++ ms) (sym is) }
  runs_sequence (in_sequence_more {members = before} {member = member} others repetition is) group outer room =
      let first = runs_sequence others group outer room in
      let inner = runs_repetition repetition first.after outer room in
      record {
        after = inner.after;
        same = first.same ∙ inner.same;
        alternatives = inner.alternatives ∙ first.alternatives;
        sequence = inner.sequence ∙ ap (λ ms. ms ++ member ∷ []) first.sequence ∙ append_assoc (in_sequence group) before (member ∷ []) ∙ ap (λ ms. in_sequence group ++ ms) (sym is);
      }

  runs_repetition : {depth : ℕ} {signs left : _} {pattern : Pattern} → IsRepetition depth signs pattern left → (group : Group) (outer : List Group) → IsIn depth outer → Runs signs left group outer (pattern ∷ [])
  runs_repetition (atom_alone {pattern = pattern} atom) group outer room =
      record { after = with_atom group pattern; same = runs_atom atom group outer room; alternatives = refl; sequence = refl }
  runs_repetition (atom_repeated {inner = inner} {pattern = pattern} {repetition = repetition} atom is) group outer room =
      let after : Group = record { alternatives = group.alternatives; sequence = in_sequence group ++ repeated repetition inner ∷ []; atom = None } in
      record {
        after = after;
        same = runs_atom atom group outer room;
        alternatives = refl;
        sequence = append-nil (in_sequence group ++ repeated repetition inner ∷ []) ∙ ap (λ p. in_sequence group ++ p ∷ []) (sym is);
      }

  runs_atom : {depth : ℕ} {signs left : _} {pattern : Pattern} → IsAtom depth signs pattern left → (group : Group) (outer : List Group) → IsIn depth outer → run signs group outer ≡ run left (with_atom group pattern) outer
  runs_atom (set_atom {left = left} signs_are is) group outer room = ap (λ ss. run ss group outer) signs_are ∙ ap (λ p. run left (with_atom group p) outer) (sym is)
  runs_atom (in_brackets {depth = depth} {inside = inside} {left = left} {alternatives = alternatives} signs_are inner is deeper) group outer room =
      let whole = runs_alternatives inner (group ∷ outer) (omega arith) in
      ap (λ ss. run ss group outer) signs_are ∙ run_open inside group outer (omega arith) ∙ whole.same
      ∙ run_close left whole.after group outer (alt_of alternatives) (whole_from whole.after alternatives whole.ended)
      ∙ ap (λ p. run left (with_atom group p) outer) (sym is)

pub runs_whole : (signs : List Sign) (pattern : Pattern) → StandFor signs pattern → run signs no_group [] ≡ Some pattern
runs_whole signs pattern h =
    let whole = runs_alternatives h.spelled [] refl in
    whole.same ∙ whole_from whole.after h.alternatives whole.ended ∙ ap Some (sym h.joined)

-- signs stand for one pattern at most
pub stand_once : (signs : List Sign) (one other : Pattern) → StandFor signs one → StandFor signs other → one ≡ other
stand_once signs one other h k = same_Some one other (sym (runs_whole signs one h) ∙ runs_whole signs other k)

-- ---- and what signs give, they stand for
abbrev AlternativesUpTo : ℕ → List Sign → List Pattern → List Sign → Type 0
AlternativesUpTo depth from [] at = from ≡ at
AlternativesUpTo depth from (first ∷ others) at = AreAlternatives depth from (first ∷ others) (Bar ∷ at)

abbrev SequenceUpTo : ℕ → List Sign → List Pattern → List Sign → Type 0
SequenceUpTo depth from [] at = from ≡ at
SequenceUpTo depth from (first ∷ others) at = AreInSequence depth from (first ∷ others) at

abbrev AtomUpTo : ℕ → List Sign → Option Pattern → List Sign → Type 0
AtomUpTo depth from None at = from ≡ at
AtomUpTo depth from (Some pattern) at = IsAtom depth from pattern at

-- the signs between two places stand for what is in the group
record Stands (depth : ℕ) (from : List Sign) (group : Group) (here : List Sign) : Type 0 where
  sequence_at : List Sign
  atom_at : List Sign
  alternatives : AlternativesUpTo depth from group.alternatives sequence_at
  sequence : SequenceUpTo depth sequence_at group.sequence atom_at
  atom : AtomUpTo depth atom_at group.atom here

abbrev Around : List Sign → ℕ → List Group → List Sign → Type 0
Around all depth [] from = (depth ≡ most_open) × (from ≡ all)
Around all depth (group ∷ outer) from = (start : List Sign) × Around all (suc depth) outer start × Stands (suc depth) start group (open_bracket ∷ from)

around_depth : (all : List Sign) (depth : ℕ) (outer : List Group) (from : List Sign) → Around all depth outer from → depth + length outer ≡ most_open
around_depth all depth [] from h = let e : depth ≡ most_open = h.0 in omega arith
around_depth all depth (group ∷ outer) from h = let e : suc depth + length outer ≡ most_open = around_depth all (suc depth) outer h.0 h.1 in omega arith

sequence_more : (depth : ℕ) (from at here : List Sign) (members : List Pattern) (member : Pattern) → SequenceUpTo depth from members at → IsRepetition depth at member here → AreInSequence depth from (members ++ member ∷ []) here
sequence_more depth from at here [] member same repetition =
    let P : List Sign → Type 0 = λ l. AreInSequence depth l (member ∷ []) here in subst P (sym same) (one_in_sequence repetition refl)
sequence_more depth from at here (first ∷ others) member sequence repetition = in_sequence_more sequence repetition refl

up_to_more : (depth : ℕ) (from here : List Sign) (members : List Pattern) (member : Pattern) → AreInSequence depth from (members ++ member ∷ []) here → SequenceUpTo depth from (members ++ member ∷ []) here
up_to_more depth from here [] member h = h
up_to_more depth from here (first ∷ others) member h = h

settled : (depth : ℕ) (from at here : List Sign) (members : List Pattern) (atom : Option Pattern) → SequenceUpTo depth from members at → AtomUpTo depth at atom here → SequenceUpTo depth from (members ++ option_to_list atom) here
settled depth from at here members None sequence same =
    let P : List Pattern → Type 0 = λ ms. SequenceUpTo depth from ms here in
    let Q : List Sign → Type 0 = λ l. SequenceUpTo depth from members l in
    subst P (sym (append-nil members)) (subst Q same sequence)
settled depth from at here members (Some pattern) sequence atom = up_to_more depth from here members pattern (sequence_more depth from at here members pattern sequence (atom_alone atom))

alternatives_more : (depth : ℕ) (from at here : List Sign) (alternatives members : List Pattern) → AlternativesUpTo depth from alternatives at → AreInSequence depth at members here → AreAlternatives depth from (alternatives ++ seq_of members ∷ []) here
alternatives_more depth from at here [] members same sequence =
    let P : List Sign → Type 0 = λ l. AreAlternatives depth l (seq_of members ∷ []) here in subst P (sym same) (one_alternative sequence refl)
alternatives_more depth from at here (first ∷ others) members before sequence = alternative_more before sequence refl

up_to_bar : (depth : ℕ) (from here : List Sign) (alternatives : List Pattern) (one : Pattern) → AreAlternatives depth from (alternatives ++ one ∷ []) (Bar ∷ here) → AlternativesUpTo depth from (alternatives ++ one ∷ []) here
up_to_bar depth from here [] one h = h
up_to_bar depth from here (first ∷ others) one h = h

-- a group whose sequence ends
record Ends (depth : ℕ) (from : List Sign) (alternatives members : List Pattern) (here : List Sign) : Type 0 where
  first : Pattern
  others : List Pattern
  members_are : members ≡ first ∷ others
  whole : AreAlternatives depth from (alternatives ++ seq_of (first ∷ others) ∷ []) here

ends : (depth : ℕ) (from at here : List Sign) (alternatives members : List Pattern) (next : Group) → AlternativesUpTo depth from alternatives at → SequenceUpTo depth at members here → ended alternatives members ≡ Some next → Ends depth from alternatives members here
ends depth from at here alternatives [] next before sequence e = absurd (none-some next e)
ends depth from at here alternatives (first ∷ others) next before sequence e =
    record { first = first; others = others; members_are = refl; whole = alternatives_more depth from at here alternatives (first ∷ others) before sequence }

group_ends : (depth : ℕ) (from here : List Sign) (group next : Group) → Stands depth from group here → with_bar group ≡ Some next → Ends depth from group.alternatives (in_sequence group) here
group_ends depth from here group next h e =
    ends depth from h.sequence_at here group.alternatives (in_sequence group) next h.alternatives (settled depth h.sequence_at h.atom_at here group.sequence group.atom h.sequence h.atom) e

next_is : (depth : ℕ) (from here : List Sign) (group next : Group) → (h : Ends depth from group.alternatives (in_sequence group) here) → with_bar group ≡ Some next → next ≡ record { alternatives = group.alternatives ++ seq_of (h.first ∷ h.others) ∷ []; sequence = []; atom = None }
next_is depth from here group next h e =
    sym (same_Some _ next (sym (ap (ended group.alternatives) h.members_are) ∙ e))

-- what is open after a sign
record Goes (all : List Sign) (signs : List Sign) (after : Open) : Type 0 where
  depth : ℕ
  from : List Sign
  around : Around all depth after.1 from
  stands : Stands depth from after.0 signs

whole_next : (group : Group) (pattern : Pattern) (o : Option Group) → with_bar group ≡ o → option_map (λ (g : Group). alt_of g.alternatives) o ≡ Some pattern → (next : Group) × (with_bar group ≡ Some next) × (alt_of next.alternatives ≡ pattern)
whole_next group pattern None is e = absurd (none-some pattern e)
whole_next group pattern (Some next) is e = (next, is, same_Some _ pattern e)

-- the alternatives of a whole group
whole_stands : (depth : ℕ) (from here : List Sign) (group : Group) (pattern : Pattern) → Stands depth from group here → whole_of group ≡ Some pattern → (all : List Pattern) × AreAlternatives depth from all here × (pattern ≡ alt_of all)
whole_stands depth from here group pattern h e =
    let next = whole_next group pattern (with_bar group) refl e in
    let end = group_ends depth from here group next.0 h next.1 in
    let is = next_is depth from here group next.0 end next.1 in
    (group.alternatives ++ seq_of (end.first ∷ end.others) ∷ [], end.whole, sym next.2 ∙ ap (λ (g : Group). alt_of g.alternatives) is)

atom_goes : (all : List Sign) (depth : ℕ) (from at here : List Sign) (group : Group) (outer : List Group) (pattern : Pattern) → Around all depth outer from → Stands depth from group at → IsAtom depth at pattern here → Goes all here (with_atom group pattern, outer)
atom_goes all depth from at here group outer pattern around h atom = record {
  depth = depth;
  from = from;
  around = around;
  stands = record {
    sequence_at = h.sequence_at;
    atom_at = at;
    alternatives = h.alternatives;
    sequence = settled depth h.sequence_at h.atom_at at group.sequence group.atom h.sequence h.atom;
    atom = atom;
  };
}

open_goes : (all : List Sign) (depth : ℕ) (from signs : List Sign) (group : Group) (outer : List Group) → Around all depth outer from → Stands depth from group (open_bracket ∷ signs) → length outer < most_open → Goes all signs (no_group, group ∷ outer)
open_goes all zero from signs group outer around h room = let e = around_depth all zero outer from around in absurd (omega arith)
open_goes all (suc depth) from signs group outer around h room = record {
  depth = depth;
  from = signs;
  around = (from, around, h);
  stands = record { sequence_at = signs; atom_at = signs; alternatives = refl; sequence = refl; atom = refl };
}

close_goes : (all : List Sign) (depth : ℕ) (from signs : List Sign) (group : Group) (outer : List Group) (whole : Option Pattern) (after : Open) → Around all depth outer from → Stands depth from group (Close ∷ signs) → whole_of group ≡ whole → closed whole outer ≡ Some after → Goes all signs after
close_goes all depth from signs group outer None after around h is e = absurd (none-some after e)
close_goes all depth from signs group [] (Some pattern) after around h is e = absurd (none-some after e)
close_goes all depth from signs group (other ∷ outer) (Some pattern) after around h is e =
    let inner = whole_stands depth from (Close ∷ signs) group pattern h is in
    let P : Open → Type 0 = λ o. Goes all signs o in
    subst P (same_Some (with_atom other pattern, outer) after e)
    (atom_goes all (suc depth) around.0 (open_bracket ∷ from) signs other outer pattern around.1 around.2 (in_brackets refl inner.1 inner.2 refl))

bar_goes : (all : List Sign) (depth : ℕ) (from signs : List Sign) (group : Group) (outer : List Group) (o : Option Group) (after : Open) → Around all depth outer from → Stands depth from group (Bar ∷ signs) → with_bar group ≡ o → option_map (λ ended. (ended, outer)) o ≡ Some after → Goes all signs after
bar_goes all depth from signs group outer None after around h is e = absurd (none-some after e)
bar_goes all depth from signs group outer (Some next) after around h is e =
    let end = group_ends depth from (Bar ∷ signs) group next h is in
    let same = next_is depth from (Bar ∷ signs) group next end is in
    let P : Open → Type 0 = λ a. Goes all signs a in
    let goes : Goes all signs (record { alternatives = group.alternatives ++ seq_of (end.first ∷ end.others) ∷ []; sequence = []; atom = None }, outer) = record {
      depth = depth;
      from = from;
      around = around;
      stands = record {
        sequence_at = signs;
        atom_at = signs;
        alternatives = up_to_bar depth from signs group.alternatives (seq_of (end.first ∷ end.others)) end.whole;
        sequence = refl;
        atom = refl;
      };
    } in
    subst P (ap (λ (g : Group). (g, outer)) (sym same) ∙ same_Some (next, outer) after e) goes

repeat_goes : (all : List Sign) (depth : ℕ) (from signs : List Sign) (group : Group) (outer : List Group) (repetition : Repetition) (atom : Option Pattern) (after : Open) → Around all depth outer from → Stands depth from group (Repeat repetition ∷ signs) → group.atom ≡ atom → option_map (λ more. (more, outer)) (repeated_last group repetition atom) ≡ Some after → Goes all signs after
repeat_goes all depth from signs group outer repetition None after around h is e = absurd (none-some after e)
repeat_goes all depth from signs group outer repetition (Some inner) after around h is e =
    let P : Open → Type 0 = λ a. Goes all signs a in
    let Q : Option Pattern → Type 0 = λ a. AtomUpTo depth h.atom_at a (Repeat repetition ∷ signs) in
    let atom : IsAtom depth h.atom_at inner (Repeat repetition ∷ signs) = subst Q is h.atom in
    let goes : Goes all signs (record { alternatives = group.alternatives; sequence = group.sequence ++ repeated repetition inner ∷ []; atom = None }, outer) = record {
      depth = depth;
      from = from;
      around = around;
      stands = record {
        sequence_at = h.sequence_at;
        atom_at = signs;
        alternatives = h.alternatives;
        sequence = up_to_more depth h.sequence_at signs group.sequence (repeated repetition inner) (sequence_more depth h.sequence_at h.atom_at signs group.sequence (repeated repetition inner) h.sequence (atom_repeated atom refl));
        atom = refl;
      };
    } in
    subst P (same_Some _ after e) goes

sign_goes : (all : List Sign) (depth : ℕ) (from signs : List Sign) (group : Group) (outer : List Group) (sign : Sign) (after : Open) → Around all depth outer from → Stands depth from group (sign ∷ signs) → with_sign sign group outer ≡ Some after → Goes all signs after
sign_goes all depth from signs group outer (Set words) after around h e =
    let P : Open → Type 0 = λ a. Goes all signs a in
    subst P (same_Some (with_atom group (set_pattern words), outer) after e) (atom_goes all depth from (Set words ∷ signs) signs group outer (set_pattern words) around h (set_atom refl refl))
sign_goes all depth from signs group outer open_bracket after around h e =
    let P : Open → Type 0 = λ a. Goes all signs a in
    ⊎_elim
    (λ (yes_room : nat_lt (length outer) most_open ≡ true).
    subst P (same_Some (no_group, group ∷ outer) after (sym (ap (λ b. cond b (Some (no_group, group ∷ outer)) None) yes_room) ∙ e))
    (open_goes all depth from signs group outer around h (ltb-true (length outer) most_open yes_room)))
    (λ (no_room : nat_lt (length outer) most_open ≡ false). absurd (none-some after (sym (ap (λ b. cond b (Some (no_group, group ∷ outer)) None) no_room) ∙ e)))
    (cases_Bool (nat_lt (length outer) most_open))
sign_goes all depth from signs group outer Close after around h e = close_goes all depth from signs group outer (whole_of group) after around h refl e
sign_goes all depth from signs group outer Bar after around h e = bar_goes all depth from signs group outer (with_bar group) after around h refl e
sign_goes all depth from signs group outer (Repeat repetition) after around h e = repeat_goes all depth from signs group outer repetition group.atom after around h refl e

end_stands : (all : List Sign) (depth : ℕ) (from : List Sign) (group : Group) (outer : List Group) (pattern : Pattern) → Around all depth outer from → Stands depth from group [] → at_end group outer ≡ Some pattern → StandFor all pattern
end_stands all depth from group (other ∷ outer) pattern around h e = absurd (none-some pattern e)
end_stands all depth from group [] pattern around h e =
    let whole = whole_stands depth from [] group pattern h e in
    let P : ℕ → Type 0 = λ d. AreAlternatives d from whole.0 [] in
    let Q : List Sign → Type 0 = λ l. AreAlternatives most_open l whole.0 [] in
    record { alternatives = whole.0; spelled = subst Q around.1 (subst P around.0 whole.1); joined = whole.2 }

sign_then : (signs : List Sign) (pattern : Pattern) (o : Option Open) → option_and_then (λ (a : Open). run signs a.0 a.1) o ≡ Some pattern → (after : Open) × (o ≡ Some after) × (run signs after.0 after.1 ≡ Some pattern)
sign_then signs pattern None e = absurd (none-some pattern e)
sign_then signs pattern (Some after) e = (after, refl, e)

stands_from : (all : List Sign) (signs : List Sign) (depth : ℕ) (from : List Sign) (group : Group) (outer : List Group) (pattern : Pattern) → Around all depth outer from → Stands depth from group signs → run signs group outer ≡ Some pattern → StandFor all pattern
stands_from all [] depth from group outer pattern around h e = end_stands all depth from group outer pattern around h e
stands_from all (sign ∷ signs) depth from group outer pattern around h e =
    let next = sign_then signs pattern (with_sign sign group outer) e in
    let goes = sign_goes all depth from signs group outer sign next.0 around h next.1 in
    stands_from all signs goes.depth goes.from next.0.0 next.0.1 pattern goes.around goes.stands next.2

pub stands_whole : (signs : List Sign) (pattern : Pattern) → run signs no_group [] ≡ Some pattern → StandFor signs pattern
stands_whole signs pattern e =
    stands_from signs signs most_open signs no_group [] pattern (refl, refl) (record { sequence_at = signs; atom_at = signs; alternatives = refl; sequence = refl; atom = refl }) e
