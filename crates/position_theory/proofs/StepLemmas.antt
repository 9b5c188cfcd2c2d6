-- A string with one more byte reaches the positions ahead that read the byte.
use Rattle.std.proofs.Common.{◌≡◌, ◌≢◌, ℕ, ◌+◌, ◌<◌, ◌⊎◌, inl, inr, List, [], ◌∷◌, ◌++◌, refl, sym, ap, ◌∙◌, subst, append_assoc, arith}
use Rattle.std.proofs.lemmas.List.{append-nil}
use Rattle.pattern_data.specs.declared.pattern.Pattern.{Pattern}
use Rattle.pattern_data.specs.Bytes.{IsMember}
use Rattle.pattern_data.specs.Language.{Matches, Repeats}
use Rattle.pattern_data.specs.Language.Repeats.{no_more}
use Rattle.position_theory.specs.Positions.{count_all, IsSet, IsSequence, IsChoice, IsOption, IsLoop, HasMembers, HasInner, Reads, ReadsAmong, Reaches, ReachesInOrder, ReachesOne, IsFirst, IsFirstInOrder, IsFirstOfOne, Follows, FollowsInOrder, FollowsInOne}
use Rattle.position_theory.specs.Positions.HasMembers.{sequence_members, choice_members}
use Rattle.position_theory.specs.Positions.HasInner.{loop_inner, option_inner}
use Rattle.position_theory.specs.Positions.Reads.{set_reads, member_reads, inner_reads}
use Rattle.position_theory.specs.Positions.ReadsAmong.{this_reads, later_reads}
use Rattle.position_theory.specs.Positions.Reaches.{by_byte, in_sequence, in_choice, in_loop, in_option}
use Rattle.position_theory.specs.Positions.ReachesInOrder.{reaches_first, reaches_behind}
use Rattle.position_theory.specs.Positions.ReachesOne.{reaches_this, reaches_later}
use Rattle.position_theory.specs.Positions.IsFirst.{set_first, sequence_first, choice_first, inner_first}
use Rattle.position_theory.specs.Positions.IsFirstInOrder.{first_in_first, first_behind}
use Rattle.position_theory.specs.Positions.IsFirstOfOne.{first_in_this, first_in_later}
use Rattle.position_theory.specs.Positions.IsLast.{inner_last}
use Rattle.position_theory.specs.Positions.Follows.{sequence_follows, choice_follows, inner_follows, follows_again}
use Rattle.position_theory.specs.Positions.FollowsInOrder.{follows_within, follows_across, follows_behind}
use Rattle.position_theory.specs.Positions.FollowsInOne.{follows_in_this, follows_in_later}
use Rattle.position_theory.specs.States.{IsAhead}
use Rattle.position_theory.proofs.LayerLemmas.{set_no_members, set_no_inner, members_no_inner, sets_same, sequence_no_choice, loop_no_option, members_same, inners_same}
use Rattle.position_theory.proofs.BoundLemmas.{reads_all_below, order_below, one_reached_below, order_first_below, one_first_below, order_follows_below, one_follows_below}
use Rattle.position_theory.proofs.MatchLemmas.{is_empty, reaches_some, order_some, loop_repeats, matches_last, last_matches, repeats_last, ReachesLast, ReachesLastInLoop}

-- ---- strings
-- a string that ends with this byte
abbrev EndsWith : List ℕ → List ℕ → ℕ → Type 0
EndsWith x w byte = x ≡ w ++ byte ∷ []

-- what ends with a byte and is two strings, of which the second isn't empty: this one ends with the byte
abbrev IsCut : List ℕ → List ℕ → List ℕ → ℕ → Type 0
IsCut w u v byte = (front : List ℕ) × EndsWith v front byte × (w ≡ u ++ front)

cut : (u v w : List ℕ) (byte : ℕ) → v ≢ [] → u ++ v ≡ w ++ byte ∷ [] → IsCut w u v byte
cut [] v w byte some is = (w, is, refl)
cut (b ∷ u) [] w byte some is = absurd (some refl)
cut (b ∷ u) (c ∷ v) [] byte some is = absurd (no_rest u c v (cc))
  where
    no_rest : (u : List ℕ) (c : ℕ) (v : List ℕ) → u ++ c ∷ v ≡ [] → ⊥
    no_rest [] c v e = cc
    no_rest (x ∷ u) c v e = cc
cut (b ∷ u) (c ∷ v) (d ∷ w) byte some is =
    let h = cut u (c ∷ v) w byte some (cc) in
    let same : d ≡ b = cc in
    (h.0, h.1, ap (λ t. t ∷ w) same ∙ ap (λ t. b ∷ t) h.2)

one_byte_only : (w : List ℕ) (byte last : ℕ) → byte ∷ [] ≡ w ++ last ∷ [] → (w ≡ []) × (byte ≡ last)
one_byte_only [] byte last is = (refl, cc)
one_byte_only (b ∷ []) byte last is = absurd (cc)
one_byte_only (b ∷ c ∷ w) byte last is = absurd (cc)

-- ---- what is ahead behind a string
abbrev IsAheadIn : Pattern → List ℕ → ℕ → Type 0
IsAheadIn p w t = ((w ≡ []) × IsFirst p t) ⊎ ((q : ℕ) × Reaches p w q × Follows p q t)

abbrev IsAheadInOrder : List Pattern → List ℕ → ℕ → Type 0
IsAheadInOrder ps w t = ((w ≡ []) × IsFirstInOrder ps t) ⊎ ((q : ℕ) × ReachesInOrder ps w q × FollowsInOrder ps q t)

-- ---- from a string with one more byte
ahead_sequence : {p : Pattern} {members : List Pattern} {w : List ℕ} {t : ℕ} → IsSequence p members → IsAheadInOrder members w t → IsAheadIn p w t
ahead_sequence is (inl (none, first)) = inl (none, sequence_first is first)
ahead_sequence is (inr (q, reach, follows)) = inr (q, in_sequence is reach, sequence_follows is follows)

ahead_choice : {p : Pattern} {members : List Pattern} {w : List ℕ} {t : ℕ} → IsChoice p members → IsAhead members w t → IsAheadIn p w t
ahead_choice is (inl (none, first)) = inl (none, choice_first is first)
ahead_choice is (inr (q, reach, follows)) = inr (q, in_choice is reach, choice_follows is follows)

ahead_option : {p inner : Pattern} {w : List ℕ} {t : ℕ} → IsOption p inner → IsAheadIn inner w t → IsAheadIn p w t
ahead_option is (inl (none, first)) = inl (none, inner_first (option_inner is) first)
ahead_option is (inr (q, reach, follows)) = inr (q, in_option is reach, inner_follows (option_inner is) follows)

-- behind some repetitions
ahead_again : {p inner : Pattern} {u w : List ℕ} {t : ℕ} → IsLoop p inner → w ≡ u → IsFirst inner t → (u ≡ []) ⊎ (u ≢ []) → (u ≢ [] → ReachesLastInLoop inner u) → IsAheadIn p w t
ahead_again loop same first (inl none) last = inl (same ∙ none, inner_first (loop_inner loop) first)
ahead_again loop same first (inr some) last =
    let h = last some in
    inr (h.0, in_loop loop h.4 h.5 (same ∙ h.3), follows_again loop h.6 first)

ahead_loop : {p inner : Pattern} {u v w : List ℕ} {t : ℕ} → IsLoop p inner → Repeats inner u → w ≡ u ++ v → IsAheadIn inner v t → IsAheadIn p w t
ahead_loop {u = u} loop strings is (inl (none, first)) = ahead_again loop (is ∙ ap (λ x. u ++ x) none ∙ append-nil u) first (is_empty u) (repeats_last strings)
ahead_loop loop strings is (inr (q, reach, follows)) = inr (q, in_loop loop strings reach is, inner_follows (loop_inner loop) follows)

ahead_in_first : {p : Pattern} {ps : List Pattern} {w : List ℕ} {k t : ℕ} → t ≡ count_all ps + k → IsAheadIn p w k → IsAheadInOrder (p ∷ ps) w t
ahead_in_first at (inl (none, first)) = inl (none, first_in_first first at)
ahead_in_first {ps = ps} at (inr (q, reach, follows)) = inr (count_all ps + q, reaches_first reach refl, follows_within follows refl at)

-- behind a string of the first pattern
ahead_across : {p : Pattern} {ps : List Pattern} {u w : List ℕ} {t : ℕ} → Matches p u → w ≡ u → IsFirstInOrder ps t → (u ≡ []) ⊎ (u ≢ []) → (u ≢ [] → ReachesLast p u) → IsAheadInOrder (p ∷ ps) w t
ahead_across {p = p} string same first (inl none) last = let P : List ℕ → Type 0 = λ x. Matches p x in inl (same ∙ none, first_behind (subst P none string) first)
ahead_across {p = p} {ps = ps} string same first (inr some) last =
    let h = last some in
    let P : List ℕ → Type 0 = λ x. Reaches p x h.0 in
    inr (count_all ps + h.0, reaches_first (subst P (sym same) h.1) refl, follows_across h.2 refl first)

ahead_behind : {p : Pattern} {ps : List Pattern} {u v w : List ℕ} {t : ℕ} → Matches p u → w ≡ u ++ v → IsAheadInOrder ps v t → IsAheadInOrder (p ∷ ps) w t
ahead_behind {u = u} string is (inl (none, first)) = ahead_across string (is ∙ ap (λ x. u ++ x) none ∙ append-nil u) first (is_empty u) (matches_last string)
ahead_behind string is (inr (q, reach, follows)) = inr (q, reaches_behind string reach is, follows_behind follows)

ahead_in_this : {p : Pattern} {ps : List Pattern} {w : List ℕ} {k t : ℕ} → t ≡ count_all ps + k → IsAheadIn p w k → IsAhead (p ∷ ps) w t
ahead_in_this at (inl (none, first)) = inl (none, first_in_this first at)
ahead_in_this {ps = ps} at (inr (q, reach, follows)) = inr (count_all ps + q, reaches_this reach refl, follows_in_this follows refl at)

ahead_in_later : {p : Pattern} {ps : List Pattern} {w : List ℕ} {t : ℕ} → IsAhead ps w t → IsAhead (p ∷ ps) w t
ahead_in_later (inl (none, first)) = inl (none, first_in_later first)
ahead_in_later (inr (q, reach, follows)) = inr (q, reaches_later reach, follows_in_later follows)

mutual
  step_from : {p : Pattern} {x : List ℕ} {t : ℕ} → Reaches p x t → (w : List ℕ) (byte : ℕ) → EndsWith x w byte → IsAheadIn p w t × Reads p t byte
  step_from (by_byte {words = words} {byte = other} is member string at) w byte ends =
      let h = one_byte_only w other byte (sym string ∙ ends) in
      let P : ℕ → Type 0 = λ b. IsMember words b in
      (inl (h.0, set_first is at), set_reads is at (subst P h.1 member))
  step_from (in_sequence is reach) w byte ends = let h = step_from_order reach w byte ends in (ahead_sequence is h.0, member_reads (sequence_members is) h.1)
  step_from (in_choice is reach) w byte ends = let h = step_from_one reach w byte ends in (ahead_choice is h.0, member_reads (choice_members is) h.1)
  step_from (in_loop {u = u} {v = v} loop strings reach parts) w byte ends =
      let c = cut u v w byte (reaches_some reach) (sym parts ∙ ends) in
      let h = step_from reach c.0 byte c.1 in
      (ahead_loop {u = u} {v = c.0} loop strings c.2 h.0, inner_reads (loop_inner loop) h.1)
  step_from (in_option is reach) w byte ends = let h = step_from reach w byte ends in (ahead_option is h.0, inner_reads (option_inner is) h.1)

  step_from_order : {ps : List Pattern} {x : List ℕ} {t : ℕ} → ReachesInOrder ps x t → (w : List ℕ) (byte : ℕ) → EndsWith x w byte → IsAheadInOrder ps w t × ReadsAmong ps t byte
  step_from_order (reaches_first reach at) w byte ends = let h = step_from reach w byte ends in (ahead_in_first at h.0, this_reads h.1 at)
  step_from_order (reaches_behind {u = u} {v = v} string reach parts) w byte ends =
      let c = cut u v w byte (order_some reach) (sym parts ∙ ends) in
      let h = step_from_order reach c.0 byte c.1 in
      (ahead_behind {u = u} {v = c.0} string c.2 h.0, later_reads h.1)

  pub step_from_one : {ps : List Pattern} {x : List ℕ} {t : ℕ} → ReachesOne ps x t → (w : List ℕ) (byte : ℕ) → EndsWith x w byte → IsAhead ps w t × ReadsAmong ps t byte
  step_from_one (reaches_this reach at) w byte ends = let h = step_from reach w byte ends in (ahead_in_this at h.0, this_reads h.1 at)
  step_from_one (reaches_later reach) w byte ends = let h = step_from_one reach w byte ends in (ahead_in_later h.0, later_reads h.1)

-- ---- what is read at a position of a layer
pub reads_set : {p : Pattern} {words : List ℕ} {q byte : ℕ} → IsSet p words → Reads p q byte → IsMember words byte
reads_set {byte = byte} is (set_reads other at member) = let P : List ℕ → Type 0 = λ ws. IsMember ws byte in subst P (sets_same other is) member
reads_set is (member_reads members reads) = absurd (set_no_members is members)
reads_set is (inner_reads inner reads) = absurd (set_no_inner is inner)

pub reads_members : {p : Pattern} {members : List Pattern} {q byte : ℕ} → HasMembers p members → Reads p q byte → ReadsAmong members q byte
reads_members has (set_reads is at member) = absurd (set_no_members is has)
reads_members {q = q} {byte = byte} has (member_reads other reads) = let P : List Pattern → Type 0 = λ ms. ReadsAmong ms q byte in subst P (members_same other has) reads
reads_members has (inner_reads inner reads) = absurd (members_no_inner has inner)

pub reads_inner : {p inner : Pattern} {q byte : ℕ} → HasInner p inner → Reads p q byte → Reads inner q byte
reads_inner has (set_reads is at member) = absurd (set_no_inner is has)
reads_inner has (member_reads members reads) = absurd (members_no_inner members has)
reads_inner {q = q} {byte = byte} has (inner_reads other reads) = let P : Pattern → Type 0 = λ i. Reads i q byte in subst P (inners_same other has) reads

pub reads_this : {p : Pattern} {ps : List Pattern} {k q byte : ℕ} → q ≡ count_all ps + k → ReadsAmong (p ∷ ps) q byte → Reads p k byte
reads_this {p = p} {k = k} {byte = byte} is (this_reads {k = other} reads at) = let same : other ≡ k = omega arith in let P : ℕ → Type 0 = λ n. Reads p n byte in subst P same reads
reads_this is (later_reads reads) = absurd (let below = reads_all_below reads in omega arith)

pub reads_later : {p : Pattern} {ps : List Pattern} {q byte : ℕ} → q < count_all ps → ReadsAmong (p ∷ ps) q byte → ReadsAmong ps q byte
reads_later below (this_reads reads at) = absurd (omega arith)
reads_later below (later_reads reads) = reads

-- ---- a first position is reached by one byte
mutual
  first_reached : {p : Pattern} {t : ℕ} → IsFirst p t → (byte : ℕ) → Reads p t byte → Reaches p (byte ∷ []) t
  first_reached (set_first is at) byte reads = by_byte is (reads_set is reads) refl at
  first_reached (sequence_first is first) byte reads = in_sequence is (order_first_reached first byte (reads_members (sequence_members is) reads))
  first_reached (choice_first is first) byte reads = in_choice is (one_first_reached first byte (reads_members (choice_members is) reads))
  first_reached (inner_first (loop_inner loop) first) byte reads = in_loop {u = []} {v = byte ∷ []} loop (no_more refl) (first_reached first byte (reads_inner (loop_inner loop) reads)) refl
  first_reached (inner_first (option_inner is) first) byte reads = in_option is (first_reached first byte (reads_inner (option_inner is) reads))

  order_first_reached : {ps : List Pattern} {t : ℕ} → IsFirstInOrder ps t → (byte : ℕ) → ReadsAmong ps t byte → ReachesInOrder ps (byte ∷ []) t
  order_first_reached (first_in_first first at) byte reads = reaches_first (first_reached first byte (reads_this at reads)) at
  order_first_reached (first_behind empty first) byte reads = reaches_behind {u = []} {v = byte ∷ []} empty (order_first_reached first byte (reads_later (order_first_below first) reads)) refl

  one_first_reached : {ps : List Pattern} {t : ℕ} → IsFirstOfOne ps t → (byte : ℕ) → ReadsAmong ps t byte → ReachesOne ps (byte ∷ []) t
  one_first_reached (first_in_this first at) byte reads = reaches_this (first_reached first byte (reads_this at reads)) at
  one_first_reached (first_in_later first) byte reads = reaches_later (one_first_reached first byte (reads_later (one_first_below first) reads))

-- ---- what a layer reaches
pub reached_sequence : {p : Pattern} {members : List Pattern} {w : List ℕ} {q : ℕ} → IsSequence p members → Reaches p w q → ReachesInOrder members w q
reached_sequence is (by_byte sets member string at) = absurd (set_no_members sets (sequence_members is))
reached_sequence {w = w} {q = q} is (in_sequence other reach) = let P : List Pattern → Type 0 = λ ms. ReachesInOrder ms w q in subst P (members_same (sequence_members other) (sequence_members is)) reach
reached_sequence is (in_choice other reach) = absurd (sequence_no_choice is other)
reached_sequence is (in_loop loop strings reach parts) = absurd (members_no_inner (sequence_members is) (loop_inner loop))
reached_sequence is (in_option other reach) = absurd (members_no_inner (sequence_members is) (option_inner other))

reached_choice : {p : Pattern} {members : List Pattern} {w : List ℕ} {q : ℕ} → IsChoice p members → Reaches p w q → ReachesOne members w q
reached_choice is (by_byte sets member string at) = absurd (set_no_members sets (choice_members is))
reached_choice is (in_sequence other reach) = absurd (sequence_no_choice other is)
reached_choice {w = w} {q = q} is (in_choice other reach) = let P : List Pattern → Type 0 = λ ms. ReachesOne ms w q in subst P (members_same (choice_members other) (choice_members is)) reach
reached_choice is (in_loop loop strings reach parts) = absurd (members_no_inner (choice_members is) (loop_inner loop))
reached_choice is (in_option other reach) = absurd (members_no_inner (choice_members is) (option_inner other))

reached_option : {p inner : Pattern} {w : List ℕ} {q : ℕ} → IsOption p inner → Reaches p w q → Reaches inner w q
reached_option is (by_byte sets member string at) = absurd (set_no_inner sets (option_inner is))
reached_option is (in_sequence other reach) = absurd (members_no_inner (sequence_members other) (option_inner is))
reached_option is (in_choice other reach) = absurd (members_no_inner (choice_members other) (option_inner is))
reached_option is (in_loop loop strings reach parts) = absurd (loop_no_option loop is)
reached_option {w = w} {q = q} is (in_option other reach) = let P : Pattern → Type 0 = λ i. Reaches i w q in subst P (inners_same (option_inner other) (option_inner is)) reach

abbrev ReachesInLoop : Pattern → List ℕ → ℕ → Type 0
ReachesInLoop inner w q = (u : List ℕ) × (v : List ℕ) × Repeats inner u × Reaches inner v q × (w ≡ u ++ v)

reached_loop : {p inner : Pattern} {w : List ℕ} {q : ℕ} → IsLoop p inner → Reaches p w q → ReachesInLoop inner w q
reached_loop is (by_byte sets member string at) = absurd (set_no_inner sets (loop_inner is))
reached_loop is (in_sequence other reach) = absurd (members_no_inner (sequence_members other) (loop_inner is))
reached_loop is (in_choice other reach) = absurd (members_no_inner (choice_members other) (loop_inner is))
reached_loop {w = w} {q = q} is (in_loop {u = u} {v = v} loop strings reach parts) = let P : Pattern → Type 0 = λ i. ReachesInLoop i w q in subst P (inners_same (loop_inner loop) (loop_inner is)) (u, v, strings, reach, parts)
reached_loop is (in_option other reach) = absurd (loop_no_option is other)

order_reached_this : {p : Pattern} {ps : List Pattern} {w : List ℕ} {k q : ℕ} → q ≡ count_all ps + k → ReachesInOrder (p ∷ ps) w q → Reaches p w k
order_reached_this {p = p} {w = w} {k = k} is (reaches_first {k = other} reach at) = let same : other ≡ k = omega arith in let P : ℕ → Type 0 = λ n. Reaches p w n in subst P same reach
order_reached_this is (reaches_behind string reach parts) = absurd (let below = order_below reach in omega arith)

abbrev ReachesBehind : Pattern → List Pattern → List ℕ → ℕ → Type 0
ReachesBehind p ps w q = (u : List ℕ) × (v : List ℕ) × Matches p u × ReachesInOrder ps v q × (w ≡ u ++ v)

order_reached_behind : {p : Pattern} {ps : List Pattern} {w : List ℕ} {q : ℕ} → q < count_all ps → ReachesInOrder (p ∷ ps) w q → ReachesBehind p ps w q
order_reached_behind below (reaches_first reach at) = absurd (omega arith)
order_reached_behind below (reaches_behind {u = u} {v = v} string reach parts) = (u, v, string, reach, parts)

one_reached_this : {p : Pattern} {ps : List Pattern} {w : List ℕ} {k q : ℕ} → q ≡ count_all ps + k → ReachesOne (p ∷ ps) w q → Reaches p w k
one_reached_this {p = p} {w = w} {k = k} is (reaches_this {k = other} reach at) = let same : other ≡ k = omega arith in let P : ℕ → Type 0 = λ n. Reaches p w n in subst P same reach
one_reached_this is (reaches_later reach) = absurd (let below = one_reached_below reach in omega arith)

one_reached_later : {p : Pattern} {ps : List Pattern} {w : List ℕ} {q : ℕ} → q < count_all ps → ReachesOne (p ∷ ps) w q → ReachesOne ps w q
one_reached_later below (reaches_this reach at) = absurd (omega arith)
one_reached_later below (reaches_later reach) = reach

-- ---- what follows a reached position is reached by one more byte
pushed : (u v w : List ℕ) (byte : ℕ) → w ≡ u ++ v → w ++ byte ∷ [] ≡ u ++ (v ++ byte ∷ [])
pushed u v w byte is = ap (λ x. x ++ byte ∷ []) is ∙ append_assoc u v (byte ∷ [])

mutual
  follows_reached : {p : Pattern} {q t : ℕ} → Follows p q t → (w : List ℕ) (byte : ℕ) → Reaches p w q → Reads p t byte → Reaches p (w ++ byte ∷ []) t
  follows_reached (sequence_follows is follows) w byte reach reads = in_sequence is (order_follows_reached follows w byte (reached_sequence is reach) (reads_members (sequence_members is) reads))
  follows_reached (choice_follows is follows) w byte reach reads = in_choice is (one_follows_reached follows w byte (reached_choice is reach) (reads_members (choice_members is) reads))
  follows_reached (inner_follows (loop_inner loop) follows) w byte reach reads =
      let h = reached_loop loop reach in
      in_loop {u = h.0} {v = h.1 ++ byte ∷ []} loop h.2 (follows_reached follows h.1 byte h.3 (reads_inner (loop_inner loop) reads)) (pushed h.0 h.1 w byte h.4)
  follows_reached (inner_follows (option_inner is) follows) w byte reach reads = in_option is (follows_reached follows w byte (reached_option is reach) (reads_inner (option_inner is) reads))
  follows_reached (follows_again loop last first) w byte reach reads =
      let string = last_matches reach (inner_last (loop_inner loop) last) in
      in_loop {u = w} {v = byte ∷ []} loop (loop_repeats loop string) (first_reached first byte (reads_inner (loop_inner loop) reads)) refl

  order_follows_reached : {ps : List Pattern} {q t : ℕ} → FollowsInOrder ps q t → (w : List ℕ) (byte : ℕ) → ReachesInOrder ps w q → ReadsAmong ps t byte → ReachesInOrder ps (w ++ byte ∷ []) t
  order_follows_reached (follows_within follows from to) w byte reach reads = reaches_first (follows_reached follows w byte (order_reached_this from reach) (reads_this to reads)) to
  order_follows_reached (follows_across last from first) w byte reach reads =
      reaches_behind {u = w} {v = byte ∷ []} (last_matches (order_reached_this from reach) last) (order_first_reached first byte (reads_later (order_first_below first) reads)) refl
  order_follows_reached (follows_behind follows) w byte reach reads =
      let below = order_follows_below follows in
      let h = order_reached_behind below.0 reach in
      reaches_behind {u = h.0} {v = h.1 ++ byte ∷ []} h.2 (order_follows_reached follows h.1 byte h.3 (reads_later below.1 reads)) (pushed h.0 h.1 w byte h.4)

  one_follows_reached : {ps : List Pattern} {q t : ℕ} → FollowsInOne ps q t → (w : List ℕ) (byte : ℕ) → ReachesOne ps w q → ReadsAmong ps t byte → ReachesOne ps (w ++ byte ∷ []) t
  one_follows_reached (follows_in_this follows from to) w byte reach reads = reaches_this (follows_reached follows w byte (one_reached_this from reach) (reads_this to reads)) to
  one_follows_reached (follows_in_later follows) w byte reach reads =
      let below = one_follows_below follows in
      reaches_later (one_follows_reached follows w byte (one_reached_later below.0 reach) (reads_later below.1 reads))

pub step_to_one : (ps : List Pattern) (w : List ℕ) (byte t : ℕ) → IsAhead ps w t → ReadsAmong ps t byte → ReachesOne ps (w ++ byte ∷ []) t
step_to_one ps w byte t (inl (none, first)) reads =
    let P : List ℕ → Type 0 = λ x. ReachesOne ps (x ++ byte ∷ []) t in
    subst P (sym none) (one_first_reached first byte reads)
step_to_one ps w byte t (inr (q, reach, follows)) reads = one_follows_reached follows w byte reach reads
