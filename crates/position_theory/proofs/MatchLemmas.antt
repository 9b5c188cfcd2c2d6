-- A pattern has a string that isn't empty exactly where the string reaches a last position.
use Rattle.std.proofs.Common.{◌≡◌, ◌≢◌, ℕ, zero, suc, ◌+◌, ◌<◌, ◌⊎◌, inl, inr, List, [], ◌∷◌, ◌++◌, length, get_or, refl, sym, ap, ◌∙◌, subst, append_assoc, arith}
use Rattle.std.specs.Prelude.{Contains, slice_get, Some}
use Rattle.std.proofs.lemmas.List.{append-nil}
use Rattle.pattern_data.specs.declared.pattern.Pattern.{Pattern}
use Rattle.pattern_data.specs.Language.{Matches, MatchesInOrder, Repeats}
use Rattle.pattern_data.specs.Language.Matches.{one_byte, in_order, any_one, repeated, at_least_once, once, left_out}
use Rattle.pattern_data.specs.Language.MatchesInOrder.{no_member, first_member}
use Rattle.pattern_data.specs.Language.Repeats.{no_more, one_more}
use Rattle.position_theory.specs.Positions.{count_all, IsSequence, IsChoice, IsLoop, HasInner, Reaches, ReachesInOrder, ReachesOne, IsLast, IsLastInOrder, IsLastOfOne, Ends}
use Rattle.position_theory.specs.Positions.IsLoop.{star_loop, plus_loop}
use Rattle.position_theory.specs.Positions.HasMembers.{sequence_members, choice_members}
use Rattle.position_theory.specs.Positions.HasInner.{loop_inner, option_inner}
use Rattle.position_theory.specs.Positions.Reaches.{by_byte, in_sequence, in_choice, in_loop, in_option}
use Rattle.position_theory.specs.Positions.ReachesInOrder.{reaches_first, reaches_behind}
use Rattle.position_theory.specs.Positions.ReachesOne.{reaches_this, reaches_later}
use Rattle.position_theory.specs.Positions.IsLast.{set_last, sequence_last, choice_last, inner_last}
use Rattle.position_theory.specs.Positions.IsLastInOrder.{last_in_first, last_behind}
use Rattle.position_theory.specs.Positions.IsLastOfOne.{last_in_this, last_in_later}
use Rattle.position_theory.specs.Positions.Ends.{this_ends, later_ends}
use Rattle.position_theory.proofs.LayerLemmas.{set_no_members, set_no_inner, members_no_inner, sequence_no_choice, loop_no_option, members_same, inners_same}
use Rattle.position_theory.proofs.BoundLemmas.{order_below, one_reached_below, order_last_below, one_last_below, ends_below}

-- ---- strings
pub is_empty : (w : List ℕ) → (w ≡ []) ⊎ (w ≢ [])
is_empty [] = inl refl
is_empty (byte ∷ w) = inr (λ e. cc)

pub some_behind : (u v : List ℕ) → v ≢ [] → u ++ v ≢ []
some_behind [] v some e = some e
some_behind (byte ∷ u) v some e = cc

pub join_empty : {u v w : List ℕ} → w ≡ u ++ v → v ≡ [] → w ≡ u
join_empty {u = u} is none = is ∙ ap (λ x. u ++ x) none ∙ append-nil u

pub join_after_empty : {u v w : List ℕ} → w ≡ u ++ v → u ≡ [] → w ≡ v
join_after_empty {v = v} is none = is ∙ ap (λ x. x ++ v) none

-- ---- a string that reaches a position isn't empty
mutual
  pub reaches_some : {p : Pattern} {w : List ℕ} {q : ℕ} → Reaches p w q → w ≢ []
  reaches_some (by_byte opens member string is) none = cc
  reaches_some (in_sequence opens reach) none = order_some reach none
  reaches_some (in_choice opens reach) none = one_some reach none
  reaches_some (in_loop {u = u} {v = v} loop strings reach is) none = some_behind u v (reaches_some reach) (sym is ∙ none)
  reaches_some (in_option opens reach) none = reaches_some reach none

  pub order_some : {ps : List Pattern} {w : List ℕ} {q : ℕ} → ReachesInOrder ps w q → w ≢ []
  order_some (reaches_first reach is) none = reaches_some reach none
  order_some (reaches_behind {u = u} {v = v} string reach is) none = some_behind u v (order_some reach) (sym is ∙ none)

  pub one_some : {ps : List Pattern} {w : List ℕ} {q : ℕ} → ReachesOne ps w q → w ≢ []
  one_some (reaches_this reach is) none = reaches_some reach none
  one_some (reaches_later reach) none = one_some reach none

-- ---- repetitions
pub repeats_push : {p : Pattern} {u v w : List ℕ} → Repeats p u → Matches p v → w ≡ u ++ v → Repeats p w
repeats_push {v = v} {w = w} (no_more none) string is = one_more {u = v} {v = []} string (no_more refl) (join_after_empty is none ∙ sym (append-nil v))
repeats_push {v = v} {w = w} (one_more {u = a} {v = b} first rest parts) string is =
    one_more {u = a} {v = b ++ v} first (repeats_push rest string refl) (is ∙ ap (λ x. x ++ v) parts ∙ append_assoc a b v)

-- a loop's string is repetitions of its inner pattern, and the other way round where it isn't empty
pub loop_repeats : {p inner : Pattern} {w : List ℕ} → IsLoop p inner → Matches p w → Repeats inner w
loop_repeats loop (one_byte opens member is) = absurd (set_no_inner (record { opens = opens }) (loop_inner loop))
loop_repeats loop (in_order opens strings) = absurd (members_no_inner (sequence_members (record { opens = opens })) (loop_inner loop))
loop_repeats loop (any_one opens one string) = absurd (members_no_inner (choice_members (record { opens = opens })) (loop_inner loop))
loop_repeats {w = w} loop (repeated {inner = other} opens strings) =
    let same = inners_same (loop_inner (star_loop opens)) (loop_inner loop) in
    let P : Pattern → Type 0 = λ i. Repeats i w in subst P same strings
loop_repeats {w = w} loop (at_least_once {inner = other} opens string strings is) =
    let same = inners_same (loop_inner (plus_loop opens)) (loop_inner loop) in
    let P : Pattern → Type 0 = λ i. Repeats i w in subst P same (one_more string strings is)
loop_repeats loop (once opens string) = absurd (loop_no_option loop (record { opens = opens }))
loop_repeats loop (left_out opens none) = absurd (loop_no_option loop (record { opens = opens }))

pub repeats_loop : {p inner : Pattern} {w : List ℕ} → IsLoop p inner → Repeats inner w → w ≢ [] → Matches p w
repeats_loop (star_loop opens) strings some = repeated opens strings
repeats_loop (plus_loop opens) (no_more none) some = absurd (some none)
repeats_loop (plus_loop opens) (one_more string strings is) some = at_least_once opens string strings is

-- ---- a string of the pattern reaches a last position
abbrev pub ReachesLast : Pattern → List ℕ → Type 0
ReachesLast p w = (q : ℕ) × Reaches p w q × IsLast p q

abbrev pub ReachesLastInOrder : List Pattern → List ℕ → Type 0
ReachesLastInOrder ps w = (q : ℕ) × ReachesInOrder ps w q × IsLastInOrder ps q

abbrev pub ReachesLastOfOne : List Pattern → List ℕ → Type 0
ReachesLastOfOne ps w = (q : ℕ) × ReachesOne ps w q × IsLastOfOne ps q

-- the last repetition that isn't empty reaches one
abbrev pub ReachesLastInLoop : Pattern → List ℕ → Type 0
ReachesLastInLoop inner w = (q : ℕ) × (u : List ℕ) × (v : List ℕ) × (w ≡ u ++ v) × Repeats inner u × Reaches inner v q × IsLast inner q

one_of_members : (ps : List Pattern) (member : Pattern) (w : List ℕ) (k : ℕ) → k < length ps → get_or ps k member ≡ member → ReachesLast member w → ReachesLastOfOne ps w
one_of_members [] member w k inside is found = absurd (omega arith)
one_of_members (p ∷ ps) member w zero inside is (q, reach, last) =
    let P : Pattern → Type 0 = λ x. Reaches x w q in
    let Q : Pattern → Type 0 = λ x. IsLast x q in
    (count_all ps + q, reaches_this (subst P (sym is) reach) refl, last_in_this (subst Q (sym is) last) refl)
one_of_members (p ∷ ps) member w (suc k) inside is found =
    let rest = one_of_members ps member w k (omega arith) is found in
    (rest.0, reaches_later rest.1, last_in_later rest.2)

more_last : {p : Pattern} {u v w : List ℕ} → Matches p u → (v ≡ []) ⊎ (v ≢ []) → (u ≢ [] → ReachesLast p u) → (v ≢ [] → ReachesLastInLoop p v) → w ≡ u ++ v → w ≢ [] → ReachesLastInLoop p w
more_last {u = u} {v = v} {w = w} string (inl none) first rest is some =
    let same : w ≡ u = join_empty is none in
    let h = first (λ e. some (same ∙ e)) in
    (h.0, [], u, same, no_more refl, h.1, h.2)
more_last {p = p} {u = u} {v = v} {w = w} string (inr more) first rest is some =
    let h = rest more in
    (h.0, u ++ h.1, h.2, is ∙ ap (λ x. u ++ x) h.3 ∙ sym (append_assoc u h.1 h.2), one_more {u = u} {v = h.1} string h.4 refl, h.5, h.6)

order_more : {p : Pattern} {ps : List Pattern} {u v w : List ℕ} → Matches p u → MatchesInOrder ps v → (v ≡ []) ⊎ (v ≢ []) → (u ≢ [] → ReachesLast p u) → (v ≢ [] → ReachesLastInOrder ps v) → w ≡ u ++ v → w ≢ [] → ReachesLastInOrder (p ∷ ps) w
order_more {p = p} {ps = ps} {u = u} {v = v} {w = w} string strings (inl none) first rest is some =
    let same : w ≡ u = join_empty is none in
    let h = first (λ e. some (same ∙ e)) in
    let P : List ℕ → Type 0 = λ x. Reaches p x h.0 in
    let Q : List ℕ → Type 0 = λ x. MatchesInOrder ps x in
    (count_all ps + h.0, reaches_first (subst P (sym same) h.1) refl, last_in_first h.2 (subst Q none strings) refl)
order_more string strings (inr more) first rest is some =
    let h = rest more in (h.0, reaches_behind string h.1 is, last_behind h.2)

mutual
  pub matches_last : {p : Pattern} {w : List ℕ} → Matches p w → w ≢ [] → ReachesLast p w
  matches_last (one_byte opens member is) some = (0, by_byte (record { opens = opens }) member is refl, set_last (record { opens = opens }) refl)
  matches_last (in_order opens strings) some = let h = order_last strings some in (h.0, in_sequence (record { opens = opens }) h.1, sequence_last (record { opens = opens }) h.2)
  matches_last (any_one {member = member} {members = members} {w = w} opens one string) some =
      let h = one_of_members members member w one.0 one.1 one.2 (matches_last string some) in (h.0, in_choice (record { opens = opens }) h.1, choice_last (record { opens = opens }) h.2)
  matches_last (repeated opens strings) some = let h = repeats_last strings some in (h.0, in_loop (star_loop opens) h.4 h.5 h.3, inner_last (loop_inner (star_loop opens)) h.6)
  matches_last (at_least_once {inner = inner} {u = u} {v = v} {w = w} opens string strings is) some =
      let h = more_last {p = inner} {u = u} {v = v} {w = w} string (is_empty v) (matches_last string) (repeats_last strings) is some in
      (h.0, in_loop (plus_loop opens) h.4 h.5 h.3, inner_last (loop_inner (plus_loop opens)) h.6)
  matches_last (once opens string) some = let h = matches_last string some in (h.0, in_option (record { opens = opens }) h.1, inner_last (option_inner (record { opens = opens })) h.2)
  matches_last (left_out opens none) some = absurd (some none)

  pub order_last : {ps : List Pattern} {w : List ℕ} → MatchesInOrder ps w → w ≢ [] → ReachesLastInOrder ps w
  order_last (no_member none) some = absurd (some none)
  order_last (first_member {p = p} {members = ps} {u = u} {v = v} {w = w} string strings is) some =
      order_more {p = p} {ps = ps} {u = u} {v = v} {w = w} string strings (is_empty v) (matches_last string) (order_last strings) is some

  pub repeats_last : {p : Pattern} {w : List ℕ} → Repeats p w → w ≢ [] → ReachesLastInLoop p w
  repeats_last (no_more none) some = absurd (some none)
  repeats_last (one_more {p = p} {u = u} {v = v} {w = w} string strings is) some =
      more_last {p = p} {u = u} {v = v} {w = w} string (is_empty v) (matches_last string) (repeats_last strings) is some

-- ---- the last positions of a layer
pub last_sequence : {p : Pattern} {members : List Pattern} {q : ℕ} → IsSequence p members → IsLast p q → IsLastInOrder members q
last_sequence opens (set_last sets is) = absurd (set_no_members sets (sequence_members opens))
last_sequence {q = q} opens (sequence_last other last) = let P : List Pattern → Type 0 = λ ms. IsLastInOrder ms q in subst P (members_same (sequence_members other) (sequence_members opens)) last
last_sequence opens (choice_last other last) = absurd (sequence_no_choice opens other)
last_sequence opens (inner_last inner last) = absurd (members_no_inner (sequence_members opens) inner)

pub last_choice : {p : Pattern} {members : List Pattern} {q : ℕ} → IsChoice p members → IsLast p q → IsLastOfOne members q
last_choice opens (set_last sets is) = absurd (set_no_members sets (choice_members opens))
last_choice opens (sequence_last other last) = absurd (sequence_no_choice other opens)
last_choice {q = q} opens (choice_last other last) = let P : List Pattern → Type 0 = λ ms. IsLastOfOne ms q in subst P (members_same (choice_members other) (choice_members opens)) last
last_choice opens (inner_last inner last) = absurd (members_no_inner (choice_members opens) inner)

pub last_inner : {p inner : Pattern} {q : ℕ} → HasInner p inner → IsLast p q → IsLast inner q
last_inner has (set_last sets is) = absurd (set_no_inner sets has)
last_inner has (sequence_last other last) = absurd (members_no_inner (sequence_members other) has)
last_inner has (choice_last other last) = absurd (members_no_inner (choice_members other) has)
last_inner {q = q} has (inner_last other last) = let P : Pattern → Type 0 = λ i. IsLast i q in subst P (inners_same other has) last

-- of a list of patterns
pub last_first : {p : Pattern} {ps : List Pattern} {k q : ℕ} → q ≡ count_all ps + k → IsLastInOrder (p ∷ ps) q → IsLast p k × MatchesInOrder ps []
last_first {p = p} {k = k} is (last_in_first {k = other} last empty at) = let same : other ≡ k = omega arith in let P : ℕ → Type 0 = λ n. IsLast p n in (subst P same last, empty)
last_first is (last_behind last) = absurd (let below = order_last_below last in omega arith)

pub last_rest : {p : Pattern} {ps : List Pattern} {q : ℕ} → q < count_all ps → IsLastInOrder (p ∷ ps) q → IsLastInOrder ps q
last_rest below (last_in_first last empty at) = absurd (omega arith)
last_rest below (last_behind last) = last

pub last_this : {p : Pattern} {ps : List Pattern} {k q : ℕ} → q ≡ count_all ps + k → IsLastOfOne (p ∷ ps) q → IsLast p k
last_this {p = p} {k = k} is (last_in_this {k = other} last at) = let same : other ≡ k = omega arith in let P : ℕ → Type 0 = λ n. IsLast p n in subst P same last
last_this is (last_in_later last) = absurd (let below = one_last_below last in omega arith)

pub last_later : {p : Pattern} {ps : List Pattern} {q : ℕ} → q < count_all ps → IsLastOfOne (p ∷ ps) q → IsLastOfOne ps q
last_later below (last_in_this last at) = absurd (omega arith)
last_later below (last_in_later last) = last

-- ---- a string that reaches a last position is one of the pattern
abbrev HasOne : List Pattern → List ℕ → Type 0
HasOne ps w = (member : Pattern) × Contains ps member × Matches member w

has_more : (p : Pattern) (ps : List Pattern) (w : List ℕ) → HasOne ps w → HasOne (p ∷ ps) w
has_more p ps w (member, one, string) = (member, (suc one.0, omega (arith, one.1), one.2), string)

mutual
  pub last_matches : {p : Pattern} {w : List ℕ} {q : ℕ} → Reaches p w q → IsLast p q → Matches p w
  last_matches (by_byte opens member string is) last = one_byte opens.opens member string
  last_matches (in_sequence opens reach) last = in_order opens.opens (order_matches reach (last_sequence opens last))
  last_matches (in_choice opens reach) last = let h = one_matches reach (last_choice opens last) in any_one opens.opens h.1 h.2
  last_matches (in_loop {u = u} {v = v} loop strings reach is) last =
      let string = last_matches reach (last_inner (loop_inner loop) last) in
      repeats_loop loop (repeats_push strings string is) (λ none. some_behind u v (reaches_some reach) (sym is ∙ none))
  last_matches (in_option opens reach) last = once opens.opens (last_matches reach (last_inner (option_inner opens) last))

  pub order_matches : {ps : List Pattern} {w : List ℕ} {q : ℕ} → ReachesInOrder ps w q → IsLastInOrder ps q → MatchesInOrder ps w
  order_matches (reaches_first {w = w} reach is) last = let h = last_first is last in first_member {u = w} {v = []} (last_matches reach h.0) h.1 (sym (append-nil w))
  order_matches (reaches_behind string reach is) last = first_member string (order_matches reach (last_rest (order_below reach) last)) is

  pub one_matches : {ps : List Pattern} {w : List ℕ} {q : ℕ} → ReachesOne ps w q → IsLastOfOne ps q → HasOne ps w
  one_matches (reaches_this {p = p} reach is) last = (p, (0, omega arith, refl), last_matches reach (last_this is last))
  one_matches (reaches_later {p = p} {ps = ps} {w = w} reach) last = has_more p ps w (one_matches reach (last_later (one_reached_below reach) last))

-- ---- with some patterns, by rank
pub ends_this : {p : Pattern} {ps : List Pattern} {q rank : ℕ} → rank ≡ 0 → Ends (p ∷ ps) rank q → (k : ℕ) × (q ≡ count_all ps + k) × IsLast p k
ends_this none (this_ends {k = k} zeroth last is) = (k, is, last)
ends_this none (later_ends lower ends) = absurd (omega arith)

pub ends_later : {p : Pattern} {ps : List Pattern} {q rank lower : ℕ} → rank ≡ lower + 1 → Ends (p ∷ ps) rank q → Ends ps lower q
ends_later is (this_ends none last at) = absurd (omega arith)
ends_later {ps = ps} {q = q} {lower = lower} is (later_ends {lower = other} at ends) = let same : other ≡ lower = omega arith in let P : ℕ → Type 0 = λ n. Ends ps n q in subst P same ends

pub reached_this : {p : Pattern} {ps : List Pattern} {w : List ℕ} {k q : ℕ} → q ≡ count_all ps + k → ReachesOne (p ∷ ps) w q → Reaches p w k
reached_this {p = p} {w = w} {k = k} is (reaches_this {k = other} reach at) = let same : other ≡ k = omega arith in let P : ℕ → Type 0 = λ n. Reaches p w n in subst P same reach
reached_this is (reaches_later reach) = absurd (let below = one_reached_below reach in omega arith)

pub reached_later : {p : Pattern} {ps : List Pattern} {w : List ℕ} {q : ℕ} → q < count_all ps → ReachesOne (p ∷ ps) w q → ReachesOne ps w q
reached_later below (reaches_this reach at) = absurd (omega arith)
reached_later below (reaches_later reach) = reach

pub match_ends : (ps : List Pattern) (rank : ℕ) (p : Pattern) (w : List ℕ) → slice_get ps rank ≡ Some p → w ≢ [] → Matches p w → (q : ℕ) × ReachesOne ps w q × Ends ps rank q
match_ends [] rank p w at some string = absurd (cc)
match_ends (first ∷ ps) zero p w at some string =
    let same : p ≡ first = cc in
    let P : Pattern → Type 0 = λ x. Matches x w in
    let h = matches_last (subst P same string) some in
    (count_all ps + h.0, reaches_this h.1 refl, this_ends refl h.2 refl)
match_ends (first ∷ ps) (suc rank) p w at some string =
    let h = match_ends ps rank p w at some string in
    (h.0, reaches_later h.1, later_ends (omega arith) h.2)

pub ends_match : (ps : List Pattern) (rank : ℕ) (p : Pattern) (w : List ℕ) → slice_get ps rank ≡ Some p → (q : ℕ) → ReachesOne ps w q → Ends ps rank q → Matches p w
ends_match [] rank p w at q reach ends = absurd (cc)
ends_match (first ∷ ps) zero p w at q reach ends =
    let same : first ≡ p = cc in
    let h = ends_this refl ends in
    let P : Pattern → Type 0 = λ x. Matches x w in
    subst P same (last_matches (reached_this h.1 reach) h.2)
ends_match (first ∷ ps) (suc rank) p w at q reach ends =
    let h = ends_later {lower = rank} (omega arith) ends in
    ends_match ps rank p w at q (reached_later (ends_below h) reach) h
