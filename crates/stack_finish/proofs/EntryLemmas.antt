-- Entries on state 0: their kids, the states over them, and lists of them one after the other.
use Rattle.std.proofs.Common.{◌≡◌, ℕ, suc, ◌-◌, ◌<◌, List, [], ◌∷◌, ◌++◌, length, get_or, Contains, Some, IsSome, refl, ap, ◌∙◌, arith}
use Rattle.std.proofs.lemmas.List.{get_or_default}
use Rattle.node_data.specs.declared.kid.Kid.{Kid}
use Rattle.node_data.specs.declared.kid.Kid.TheVariants.{Hidden}
use Rattle.map_theory.specs.Maps.{target}
use Rattle.piece_theory.specs.Pieces.{Held, kids_of}
use Rattle.join_theory.specs.Faults.{over, state_over}
use Rattle.walk_laws.proofs.WalkLemmas.{AreShown}
use Rattle.stack_finish.specs.Gathering.{entries_on, ground, last_state}

pub length_entries : (kids : List Kid) (states : List ℕ) → length states ≡ length kids → length (entries_on kids states) ≡ length kids
length_entries [] states e = refl
length_entries (k ∷ kids) [] e = absurd (omega (arith, e))
length_entries (k ∷ kids) (q ∷ states) e = let rest = length_entries kids states (omega (arith, e)) in omega (arith, rest)

pub entries_kids : (kids : List Kid) (states : List ℕ) → length states ≡ length kids → kids_of (entries_on kids states) ≡ kids
entries_kids [] states e = refl
entries_kids (k ∷ kids) [] e = absurd (omega (arith, e))
entries_kids (k ∷ kids) (q ∷ states) e = ap (λ l. k ∷ l) (entries_kids kids states (omega (arith, e)))

pub entries-append : (kids more : List Kid) (states others : List ℕ) → length states ≡ length kids → entries_on (kids ++ more) (states ++ others) ≡ entries_on kids states ++ entries_on more others
entries-append [] more [] others e = refl
entries-append [] more (q ∷ states) others e = absurd (omega (arith, e))
entries-append (k ∷ kids) more [] others e = absurd (omega (arith, e))
entries-append (k ∷ kids) more (q ∷ states) others e = ap (λ (l : List Held). record { kid = k; states = (0, q) ∷ [] } ∷ l) (entries-append kids more states others (omega (arith, e)))

pub last-append : (below : ℕ) (states more : List ℕ) → last_state below (states ++ more) ≡ last_state (last_state below states) more
last-append below [] more = refl
last-append below (q ∷ states) more = last-append q states more

over_entries : (kids : List Kid) (states : List ℕ) → length states ≡ length kids → (below : ℕ) → over (Some below) (entries_on kids states) 0 ≡ Some (last_state below states)
over_entries [] [] e below = refl
over_entries [] (q ∷ states) e below = absurd (omega (arith, e))
over_entries (k ∷ kids) [] e below = absurd (omega (arith, e))
over_entries (k ∷ kids) (q ∷ states) e below = over_entries kids states (omega (arith, e)) q

-- the state on top stands last in the list
last_below : (below : ℕ) (q : ℕ) (states : List ℕ) → last_state below (q ∷ states) ≡ get_or (q ∷ states) (length states) 0
last_below below q [] = refl
last_below below q (p ∷ states) = last_below q p states

pub last_at : (states : List ℕ) → 0 < length states → last_state 0 states ≡ get_or states (length states - 1) 0
last_at [] less = absurd (omega (arith, less))
last_at (q ∷ states) less = last_below 0 q states ∙ ap (λ n. get_or (q ∷ states) n 0) (one_less (length states))
  where
    one_less : (n : ℕ) → n ≡ suc n - 1
    one_less n = omega arith

pub last_none : (states : List ℕ) → length states ≡ 0 → last_state 0 states ≡ 0
last_none [] e = refl
last_none (q ∷ states) e = absurd (omega (arith, e))

-- the state over the entries, for the one start
pub state_on : (kids : List Kid) (states : List ℕ) → length states ≡ length kids → state_over ground.starts (entries_on kids states) 0 ≡ Some (last_state 0 states)
state_on kids states e = over_entries kids states e 0

pub alive : IsSome (target ground.starts 0)
alive = refl

-- ---- parts of lists

tail_of : {X : Type 0} {x y : X} {xs ys : List X} → x ∷ xs ≡ y ∷ ys → xs ≡ ys
tail_of e = cc

head_of : {X : Type 0} {x y : X} {xs ys : List X} → x ∷ xs ≡ y ∷ ys → x ≡ y
head_of e = cc

-- fronts of one length are the same
pub same_parts : {X : Type 0} (xs us ys vs : List X) → length xs ≡ length us → xs ++ ys ≡ us ++ vs → (xs ≡ us) × (ys ≡ vs)
same_parts [] [] ys vs e h = (refl, h)
same_parts [] (u ∷ us) ys vs e h = absurd (omega (arith, e))
same_parts (x ∷ xs) [] ys vs e h = absurd (omega (arith, e))
same_parts (x ∷ xs) (u ∷ us) ys vs e h = let rest = same_parts xs us ys vs (omega (arith, e)) (tail_of h) in ((λ i. head_of h i ∷ rest.0 i), rest.1)

-- kids none of which is hidden
pub all_shown : (kids : List Kid) → (Contains {X = Kid} kids Hidden → ⊥) → AreShown kids
all_shown kids none k d inside same = none (Contains-default kids k d inside same)
  where
    Contains-default : (l : List Kid) (k : ℕ) (d : Kid) → k < length l → get_or l k d ≡ Hidden → Contains {X = Kid} l Hidden
    Contains-default l k d inside same = (k, inside, get_or_default l k Hidden d inside ∙ same)
