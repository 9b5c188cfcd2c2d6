-- What comes behind the positions of a set, and which positions read a byte, one position after another.
use Rattle.std.proofs.Common.{◌≡◌, ℕ, ◌+◌, ◌*◌, ◌<◌, ◌≤◌, ◌↔◌, ◌⊎◌, inl, inr, ⊎_elim, false, ◌==◌, ◌||◌, List, length, sym, ◌∙◌, subst, arith}
use Rattle.std.specs.Prelude.{slice_get, Some}
use Rattle.std.proofs.lemmas.Bool.{false≢true, eq-eqb, eqb-true, or_cases, or_left, or_right, cases_lt}
use Rattle.std.proofs.lemmas.Option.{slice_get_within}
use Rattle.pattern_data.specs.Bytes.{IsMember}
use Rattle.position_sets.specs.declared.following.Position.{Position}
use Rattle.position_sets.specs.Sets.{Has, has_place}
use Rattle.token_patterns.specs.Ahead.{IsBehindOne, IsBehindOneBelow, ReadsAt}

-- ---- a set with the places of another, and perhaps one more
pub marked : (old new : List ℕ) (place : ℕ) (words : List ℕ) (byte : ℕ) → ((other : ℕ) → has_place new other ≡ ((other == place) || has_place old other)) → IsMember words byte
    → (q : ℕ) → Has new q ↔ (Has old q ⊎ ((q ≡ place) × IsMember words byte))
marked old new place words byte inserted member q = (
  λ has. ⊎_elim (λ e. inr (eqb-true q place e, member)) (λ before. inl before) (or_cases (q == place) (has_place old q) (sym (inserted q) ∙ has)),
  λ either. inserted q ∙ ⊎_elim (λ before. or_right (q == place) (has_place old q) before) (λ here. or_left (q == place) (has_place old q) (eq-eqb q place here.0)) either,
)

-- ---- one more position
pub same_row : (positions : List Position) (q : ℕ) (row other : Position) → slice_get positions q ≡ Some row → slice_get positions q ≡ Some other → row ≡ other
same_row positions q row other a b = let both : Some row ≡ Some other = sym a ∙ b in cc

-- which of the first positions read the byte
abbrev pub ReadsBelow : List Position → ℕ → ℕ → ℕ → Type 0
ReadsBelow positions byte bound q = (q < bound) × ReadsAt positions byte q

module _ (positions : List Position) (place : ℕ) (row : Position) (at : slice_get positions place ≡ Some row) where
  reads_one_more : (byte q : ℕ) → ReadsBelow positions byte place q ⊎ ((q ≡ place) × IsMember row.bytes byte) → ReadsBelow positions byte (place + 1) q
  reads_one_more byte q (inl (below, reads)) = (omega arith, reads)
  reads_one_more byte q (inr (here, member)) = (omega arith, subst (λ n. ReadsAt positions byte n) (sym here) (record { row = row; at = at; member = member }))

  reads_one_less : (byte q : ℕ) → ReadsBelow positions byte (place + 1) q → ReadsBelow positions byte place q ⊎ ((q ≡ place) × IsMember row.bytes byte)
  reads_one_less byte q (below, reads) = ⊎_elim
      (λ less. inl (less, reads))
      (λ upper. let here : q ≡ place = omega arith in
      let there = subst (λ n. ReadsAt positions byte n) here reads in
      inr (here, subst (λ (r : Position). IsMember r.bytes byte) (same_row positions place there.row row there.at at) there.member))
      (cases_lt q place)

  pub mask_more : (byte : ℕ) (old new : List ℕ) → ((q : ℕ) → Has old q ↔ ReadsBelow positions byte place q) → ((q : ℕ) → Has new q ↔ (Has old q ⊎ ((q ≡ place) × IsMember row.bytes byte)))
      → (q : ℕ) → Has new q ↔ ReadsBelow positions byte (place + 1) q
  mask_more byte old new before now q = (
    λ has. reads_one_more byte q (⊎_elim (λ h. inl ((before q).0 h)) (λ h. inr h) ((now q).0 has)),
    λ reads. (now q).1 (⊎_elim (λ h. inl ((before q).1 h)) (λ h. inr h) (reads_one_less byte q reads)),
  )

  behind_one_more : (set : List ℕ) (q : ℕ) → IsBehindOneBelow positions set place q ⊎ (Has set place × Has row.next.items q) → IsBehindOneBelow positions set (place + 1) q
  behind_one_more set q (inl (behind, below)) = (behind, omega arith)
  behind_one_more set q (inr (has, next)) = (record { q = place; row = row; at = at; has = has; next = next }, omega arith)

  behind_one_less : (set : List ℕ) (q : ℕ) → IsBehindOneBelow positions set (place + 1) q → IsBehindOneBelow positions set place q ⊎ (Has set place × Has row.next.items q)
  behind_one_less set q (behind, below) = ⊎_elim
      (λ less. inl (behind, less))
      (λ upper. let here : behind.q ≡ place = omega arith in
      let same = same_row positions place behind.row row (subst (λ n. slice_get positions n ≡ Some behind.row) here behind.at) at in
      inr (subst (λ n. Has set n) here behind.has, subst (λ (r : Position). Has r.next.items q) same behind.next))
      (cases_lt behind.q place)

  pub ahead_more : (set old new : List ℕ) → ((q : ℕ) → Has old q ↔ IsBehindOneBelow positions set place q) → ((q : ℕ) → Has new q ↔ (Has old q ⊎ (Has set place × Has row.next.items q)))
      → (q : ℕ) → Has new q ↔ IsBehindOneBelow positions set (place + 1) q
  ahead_more set old new before now q = (
    λ has. behind_one_more set q (⊎_elim (λ h. inl ((before q).0 h)) (λ h. inr h) ((now q).0 has)),
    λ behind. (now q).1 (⊎_elim (λ h. inl ((before q).1 h)) (λ h. inr h) (behind_one_less set q behind)),
  )

pub mask_all : (positions : List Position) (byte bound : ℕ) (mask : List ℕ) → length positions ≤ bound → ((q : ℕ) → Has mask q ↔ ReadsBelow positions byte bound q) → (q : ℕ) → Has mask q ↔ ReadsAt positions byte q
mask_all positions byte bound mask all has q = (
  λ h. ((has q).0 h).1,
  λ reads. (has q).1 (let below = slice_get_within positions q reads.row reads.at in omega arith, reads),
)

pub ahead_all : (positions : List Position) (set ahead : List ℕ) (bound : ℕ) → length positions ≤ bound → ((q : ℕ) → Has ahead q ↔ IsBehindOneBelow positions set bound q) → (q : ℕ) → Has ahead q ↔ IsBehindOne positions set q
ahead_all positions set ahead bound all has q = (
  λ h. ((has q).0 h).0,
  λ behind. (has q).1 (behind, let below = slice_get_within positions behind.q behind.row behind.at in omega arith),
)

-- ---- words of the set without a place, and words behind the last position
pub behind_below : (positions : List Position) (set : List ℕ) (bound more : ℕ) → bound ≤ more → ((q : ℕ) → bound ≤ q → q < more → Has set q → q < length positions → ⊥) → (q : ℕ) → IsBehindOneBelow positions set bound q ↔ IsBehindOneBelow positions set more q
behind_below positions set bound more order none q = (
  λ below. (below.0, let h = below.1 in omega (arith, h, order)),
  λ below. ⊎_elim
      (λ less. (below.0, less))
      (λ upper. absurd (none below.0.q upper below.1 below.0.has (slice_get_within positions below.0.q below.0.row below.0.at)))
      (cases_lt below.0.q bound),
)

pub behind_word_none : (positions : List Position) (set ahead : List ℕ) (index : ℕ) → ((place : ℕ) → 64 * index ≤ place → place < 64 * (index + 1) → has_place set place ≡ false)
    → ((q : ℕ) → Has ahead q ↔ IsBehindOneBelow positions set (64 * index) q) → (q : ℕ) → Has ahead q ↔ IsBehindOneBelow positions set (64 * (index + 1)) q
behind_word_none positions set ahead index none before q =
    let same = behind_below positions set (64 * index) (64 * (index + 1)) (omega arith) (λ p from below has within. false≢true (sym (none p from below) ∙ has)) q in
    (λ has. same.0 ((before q).0 has), λ behind. (before q).1 (same.1 behind))

pub behind_word_all : (positions : List Position) (set ahead : List ℕ) (bound index : ℕ) → bound ≤ 64 * (index + 1) → (bound < 64 * (index + 1) → length positions ≤ bound)
    → ((q : ℕ) → Has ahead q ↔ IsBehindOneBelow positions set bound q) → (q : ℕ) → Has ahead q ↔ IsBehindOneBelow positions set (64 * (index + 1)) q
behind_word_all positions set ahead bound index order ended before q =
    let same = behind_below positions set bound (64 * (index + 1)) order (λ p from below has within. let e = ended (omega (arith, from, below)) in omega (arith, e, from, within)) q in
    (λ has. same.0 ((before q).0 has), λ behind. (before q).1 (same.1 behind))
