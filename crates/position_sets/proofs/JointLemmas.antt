-- The positions of some patterns together, from those of each.
use Rattle.std.proofs.Common.{◌≡◌, ℕ, ◌+◌, ◌-◌, ◌*◌, ◌<◌, ◌≤◌, ◌↔◌, ◌⊎◌, inl, inr, ⊎_elim, ◌||◌, false, true, List, [], ◌∷◌, ◌++◌, length, get_or, drop, refl, sym, ◌∙◌, subst, arith}
use Rattle.std.specs.Prelude.{slice_get, Some}
use Rattle.std.proofs.lemmas.Bool.{false≢true, or_cases, or_left, or_right}
use Rattle.std.proofs.lemmas.List.{drop_all}
use Rattle.pattern_data.specs.declared.pattern.Pattern.{Pattern}
use Rattle.pattern_data.specs.Language.{Matches, positions_of}
use Rattle.position_theory.specs.Positions.{count_all, IsFirst, IsFirstOfOne, IsLast, Follows, FollowsInOne, Ends}
use Rattle.position_theory.specs.Positions.IsFirstOfOne.{first_in_this, first_in_later}
use Rattle.position_theory.specs.Positions.FollowsInOne.{follows_in_this, follows_in_later}
use Rattle.position_theory.specs.Positions.Ends.{this_ends, later_ends}
use Rattle.position_theory.proofs.BoundLemmas.{ends_below}
use Rattle.position_theory.proofs.PartLemmas.{one_follows_here, one_follows_rest}
use Rattle.position_sets.specs.declared.following.Position.{Position}
use Rattle.position_sets.specs.Follows.{IsBehind, IsFront, ArePositions, AddsPositions}
use Rattle.position_sets.specs.Joints.{EndsAt, AreJoint}
use Rattle.position_sets.specs.Sets.{Has, IsSetOfWords, has_place}
use Rattle.position_sets.proofs.BeginLemmas.{rest_from, fits_member}
use Rattle.position_sets.proofs.FollowLemmas.{two_lists, both_count, here_at, reads_both, sets_both}

no_element : {X : Type 0} (x : X) (q : ℕ) → slice_get [] q ≡ Some x → ⊥
no_element x q is = cc

no_first : (q : ℕ) → IsFirstOfOne [] q → ⊥
no_first q first = elim first [ ]

pub joint_none : (patterns : List Pattern) (ends size : ℕ) (front : List ℕ) → IsSetOfWords size front → ((place : ℕ) → has_place front place ≡ false) → AreJoint (drop (length patterns) patterns) ends size [] front
joint_none patterns ends size front set nothing =
    let none : drop (length patterns) patterns ≡ [] = drop_all (length patterns) patterns (omega arith) in
    subst (λ (ps : List Pattern). AreJoint ps ends size [] front) (sym none) (record {
      count_is = refl;
      reads = λ q row at byte. absurd (no_element row q at);
      sets = λ q row at. absurd (no_element row q at);
      behind = λ q row at place. absurd (no_element row q at);
      front_set = set;
      front_has = λ place. (λ has. absurd (false≢true (sym (nothing place) ∙ has)), λ first. absurd (no_first place first));
    })

ends_rest : (p : Pattern) (ps : List Pattern) (rank q : ℕ) → q < count_all ps → Ends (p ∷ ps) rank q → (lower : ℕ) × (rank ≡ lower + 1) × Ends ps lower q
ends_rest p ps rank q below (this_ends zeroth last at) = absurd (omega arith)
ends_rest p ps rank q below (later_ends {lower = lower} is ends) = (lower, is, ends)

ends_here : (p : Pattern) (ps : List Pattern) (rank q j : ℕ) → q ≡ count_all ps + j → Ends (p ∷ ps) rank q → (rank ≡ 0) × IsLast p j
ends_here p ps rank q j is (this_ends {k = k} zeroth last at) = let same : k ≡ j = omega arith in (zeroth, subst (λ n. IsLast p n) same last)
ends_here p ps rank q j is (later_ends lower ends) = absurd (let below = ends_below ends in omega arith)

-- one more pattern in front of others
module _ (p : Pattern) (ps : List Pattern) (ends size : ℕ) (rest here : List Position) (others begins front end : List ℕ) (h : AreJoint ps (ends + 1) size rest others)
    (g : ArePositions p (length rest) size (Has end) here begins) (ending : (place : ℕ) → Has end place ↔ (place ≡ ends)) (some : Matches p [] → ⊥)
    (set : IsSetOfWords size front) (union : (place : ℕ) → has_place front place ≡ (has_place others place || has_place begins place)) where
  ahead : (place k : ℕ) → place ≡ length rest + k → place ≡ count_all ps + k
  ahead place k at = let same = h.count_is in omega arith

  behind_there : (place k : ℕ) → place ≡ count_all ps + k → place ≡ length rest + k
  behind_there place k at = let same = h.count_is in omega arith

  rest_from_joint : (q place : ℕ) → FollowsInOne ps q place ⊎ EndsAt ps (ends + 1) q place → FollowsInOne (p ∷ ps) q place ⊎ EndsAt (p ∷ ps) ends q place
  rest_from_joint q place (inl f) = inl (follows_in_later f)
  rest_from_joint q place (inr e) = let is : place ≡ (ends + 1) + e.0 = e.1 in inr (e.0 + 1, omega arith, later_ends refl e.2)

  rest_to_joint : (q place : ℕ) → q < count_all ps → FollowsInOne (p ∷ ps) q place ⊎ EndsAt (p ∷ ps) ends q place → FollowsInOne ps q place ⊎ EndsAt ps (ends + 1) q place
  rest_to_joint q place below (inl f) = inl (one_follows_rest below f)
  rest_to_joint q place below (inr e) =
      let l = ends_rest p ps e.0 q below e.2 in
      let is : place ≡ ends + e.0 = e.1 in
      let more : e.0 ≡ l.0 + 1 = l.1 in
      inr (l.0, omega arith, l.2)

  here_from_joint : (q j place : ℕ) → q ≡ count_all ps + j → IsBehind (Follows p) (IsLast p) (Has end) (length rest) j place → FollowsInOne (p ∷ ps) q place ⊎ EndsAt (p ∷ ps) ends q place
  here_from_joint q j place is (inl f) = inl (follows_in_this f.2 is (ahead place f.0 f.1))
  here_from_joint q j place is (inr l) = inr (0, (ending place).0 l.1 ∙ omega arith, this_ends refl l.0 is)

  here_to_joint : (q j place : ℕ) → q ≡ count_all ps + j → FollowsInOne (p ∷ ps) q place ⊎ EndsAt (p ∷ ps) ends q place → IsBehind (Follows p) (IsLast p) (Has end) (length rest) j place
  here_to_joint q j place is (inl f) = let t = one_follows_here is f in inl (t.0, behind_there place t.0 t.1, t.2)
  here_to_joint q j place is (inr e) =
      let l = ends_here p ps e.0 q j is e.2 in
      let at : place ≡ ends + e.0 = e.1 in
      let zeroth : e.0 ≡ 0 = l.0 in
      inr (l.1, (ending place).1 (omega arith))

  front_begins : (place : ℕ) → IsFront (IsFirst p) (Matches p []) (Has end) (length rest) place → IsFirstOfOne (p ∷ ps) place
  front_begins place (inl f) = first_in_this f.2 (ahead place f.0 f.1)
  front_begins place (inr l) = absurd (some l.0)

  front_of : (place : ℕ) → IsFirstOfOne (p ∷ ps) place → (has_place others place || has_place begins place) ≡ true
  front_of place (first_in_this {k = k} first at) = or_right (has_place others place) _ ((g.front_has place).1 (inl (k, behind_there place k at, first)))
  front_of place (first_in_later first) = or_left (has_place others place) (has_place begins place) ((h.front_has place).1 first)

  pub joint_more : AreJoint (p ∷ ps) ends size (rest ++ here) front
  joint_more = record {
    count_is = both_count p ps (length rest) size (Has end) rest here h.count_is g.count_is;
    reads = reads_both p ps (length rest) size (Has end) rest here h.count_is h.reads g.reads;
    sets = sets_both p ps (length rest) size (Has end) rest here h.sets g.sets;
    behind = λ q row at place. ⊎_elim
        (λ l. let below : q < count_all ps = omega (arith, h.count_is, l.0) in
        (λ has. rest_from_joint q place ((h.behind q row l.1 place).0 has), λ b. (h.behind q row l.1 place).1 (rest_to_joint q place below b)))
        (λ l. let is : q ≡ count_all ps + l.0 = here_at p ps (length rest) size (Has end) rest here h.count_is q l.0 l.1 in
        (λ has. here_from_joint q l.0 place is ((g.behind l.0 row l.2 place).0 has), λ b. (g.behind l.0 row l.2 place).1 (here_to_joint q l.0 place is b)))
        (two_lists rest here q row at);
    front_set = set;
    front_has = λ place. (
      λ has. ⊎_elim (λ o. first_in_later ((h.front_has place).0 o)) (λ b. front_begins place ((g.front_has place).0 b)) (or_cases (has_place others place) (has_place begins place) (sym (union place) ∙ has)),
      λ first. union place ∙ front_of place first,
    );
  }

-- one more pattern in front of those from a place on
module _ (patterns : List Pattern) (at : ℕ) (p : Pattern) (above : 0 < at) (inside : at ≤ length patterns) (is : p ≡ get_or patterns (at - 1) p) (ends size : ℕ) (old new : List Position) (others : List ℕ) where
  pub joint_room : AreJoint (drop at patterns) (ends + at) size old others → count_all patterns ≤ ends → ends + length patterns ≤ 64 * size → length old + positions_of p ≤ 64 * size
  joint_room h behind room = fits_member patterns at p 0 (length old) (64 * size) above inside is (h.count_is ∙ omega arith) (omega arith)

  pub joint_before : (begins front end given : List ℕ) → given ≡ end → AreJoint (drop at patterns) (ends + at) size old others → AddsPositions p size given old new begins
      → ((place : ℕ) → Has end place ↔ (place ≡ ends + (at - 1))) → (Matches p [] → ⊥) → IsSetOfWords size front → ((place : ℕ) → has_place front place ≡ (has_place others place || has_place begins place))
      → AreJoint (drop (at - 1) patterns) (ends + (at - 1)) size new front
  joint_before begins front end given same h g ending some set union =
      let adds = subst (λ (a : List ℕ). AddsPositions p size a old new begins) same g in
      let next : ends + at ≡ (ends + (at - 1)) + 1 = omega arith in
      let behind = subst (λ n. AreJoint (drop at patterns) n size old others) next h in
      subst (λ (ps : List Pattern). AreJoint ps (ends + (at - 1)) size new front) (sym (rest_from patterns at p above inside is))
      (subst (λ (x : List Position). AreJoint (p ∷ drop at patterns) (ends + (at - 1)) size x front) (sym adds.1)
      (joint_more p (drop at patterns) (ends + (at - 1)) size old adds.0 others begins front end behind adds.2 ending some set union))
