-- Kids and openings of lists in two parts, and entries that lose the starts that have erred.
use Rattle.std.proofs.Common.{◌≡◌, ℕ, if◌then◌else◌, List, [], ◌∷◌, ◌++◌, filter, Option, Some, None, is_some, refl, sym, ap, ◌∙◌}
use Rattle.std.proofs.lemmas.List.{map-append}
use Rattle.tree_theory.specs.Stores.{Store}
use Rattle.table_data.specs.Tables.{Tables}
use Rattle.map_theory.specs.Maps.{StateMap, target}
use Rattle.map_theory.specs.Agreements.{NoneLeft, AreSeveral, two_differ, one_accepts}
use Rattle.map_theory.proofs.MapLemmas.{keep_law}
use Rattle.piece_theory.specs.Pieces.{Opened, Floor, Held, opening_before, openings, kids_of}
use Rattle.level_laws.specs.Growing.{FollowOn, follow_none, follow, IsTight, IsFresh}
use Rattle.level_laws.specs.Laws.{AreFresh, fresh_none, fresh_more}

pub kids-append : (xs ys : List Held) → kids_of (xs ++ ys) ≡ kids_of xs ++ kids_of ys
kids-append xs ys = map-append (λ (h : Held). h.kid) xs ys

before-append : (o : Option Opened) (xs ys : List Opened) → opening_before o (xs ++ ys) ≡ opening_before o xs ++ ys
before-append None xs ys = refl
before-append (Some o) xs ys = refl

pub openings-append : (fs gs : List Floor) → openings (fs ++ gs) ≡ openings fs ++ openings gs
openings-append [] gs = refl
openings-append (f ∷ fs) gs = ap (λ l. opening_before f.opened l) (openings-append fs gs) ∙ before-append f.opened (openings fs) (openings gs)

-- another last floor that was opened by the same
pub openings_same : (lower : List Floor) (f g : Floor) → g.opened ≡ f.opened → openings (lower ++ g ∷ []) ≡ openings (lower ++ f ∷ [])
openings_same lower f g same = openings-append lower (g ∷ []) ∙ ap (λ o. openings lower ++ opening_before o []) same ∙ sym (openings-append lower (f ∷ []))

-- ---- fresh entries

pub fresh_of : {t : Tables} {store : Store} {alive : StateMap} {from : ℕ → Option ℕ} {hs : List Held} → FollowOn t store alive from hs → (fresh : List Held) × AreFresh alive hs fresh
fresh_of follow_none = ([], fresh_none)
fresh_of {alive = alive} (follow {h = h} x symbol rising to rest) =
    let more = fresh_of rest in
    let first : Held = record { kid = h.kid; states = filter {X = ℕ × ℕ} (λ pair. is_some (target alive pair.0)) h.states } in
    (first ∷ more.0, fresh_more (record { kid = refl; states = keep_law (λ q. is_some (target alive q)) h.states rising }) more.1)

pub fresh_kids : {alive : StateMap} {hs fresh : List Held} → AreFresh alive hs fresh → kids_of fresh ≡ kids_of hs
fresh_kids fresh_none = refl
fresh_kids (fresh_more {h = h} {fresh = f} {hs = hs} {more = more} first rest) = λ i. first.kid i ∷ fresh_kids rest i

pub record LastFresh (alive : StateMap) (h : Held) (fresh : List Held) : Type 0 where
  pub lower : List Held
  pub last : Held
  pub parts : fresh ≡ lower ++ last ∷ []
  pub is : IsFresh alive h last

pub fresh_last : {alive : StateMap} (under : List Held) (h : Held) {fresh : List Held} → AreFresh alive (under ++ h ∷ []) fresh → LastFresh alive h fresh
fresh_last [] h (fresh_more {fresh = f} first fresh_none) = record { lower = []; last = f; parts = refl; is = first }
fresh_last (g ∷ under) h (fresh_more {fresh = f} first rest) =
    let more = fresh_last under h rest in
    record { lower = f ∷ more.lower; last = more.last; parts = ap (λ l. f ∷ l) more.parts; is = more.is }

-- where the map has alive starts alone, nothing is lost
pub fresh_same : (alive : StateMap) (h f : Held) → IsTight alive h → IsFresh alive h f → (q : ℕ) → target f.states q ≡ target h.states q
fresh_same alive h f tight fresh q = fresh.states.targets q ∙ cases (target alive q) refl
  where
    cases : (o : Option ℕ) → target alive q ≡ o → (if is_some o then target h.states q else None) ≡ target h.states q
    cases (Some p) e = refl
    cases None e = sym (tight q e)

pub none_same : (t : Tables) (a : ℕ) (m n : StateMap) → ((q : ℕ) → target n q ≡ target m q) → NoneLeft t a m → NoneLeft t a n
none_same t a m n same none q p at = none q p (sym (same q) ∙ at)

pub several_same : (t : Tables) (a : ℕ) (m n : StateMap) → ((q : ℕ) → target n q ≡ target m q) → AreSeveral t a m → AreSeveral t a n
several_same t a m n same (two_differ q p y z at there differ) = two_differ q p y z (same q ∙ at) (same y ∙ there) differ
several_same t a m n same (one_accepts q p at accepts) = one_accepts q p (same q ∙ at) accepts
