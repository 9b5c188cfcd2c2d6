-- Entries that are put behind those that are left.
use Rattle.std.proofs.Common.{◌≡◌, ℕ, ◌≤◌, ◌<◌, ◌⊎◌, inl, inr, if◌then◌else◌, Bool, List, [], ◌∷◌, ◌++◌, length, Option, Some, None, IsSome, is_some, refl, sym, ap, ◌∙◌, subst, append-nil, arith}
use Rattle.std.specs.Prelude.{option_and_then}
use Rattle.std.proofs.lemmas.List.{length-append, length-map, same_from_push}
use Rattle.std.proofs.lemmas.List.Elements.{All-nil, All-cons, All-head, All-tail}
use Rattle.grammar_data.specs.declared.token.Token.{Token as TextToken}
use Rattle.tree_theory.specs.Stores.{Store}
use Rattle.table_data.specs.Tables.{Tables, step_by}
use Rattle.machine_theory.specs.Machine.{Entry, top}
use Rattle.map_theory.specs.Maps.{StateMap, target, IsRising}
use Rattle.part_theory.specs.Moves.{Move}
use Rattle.part_theory.specs.Parts.{IsContext}
use Rattle.use_theory.specs.Kept.{IsKept}
use Rattle.piece_theory.specs.Pieces.{Floor, Held, Piece, kids_of}
use Rattle.piece_theory.specs.Applies.{HasSymbol, Leaves}
use Rattle.piece_theory.specs.WellMade.{start_of, AreFloors, AreStacked, AreSteps, no_step, step_on}
use Rattle.piece_theory.proofs.FloorLemmas.{floors_law}
use Rattle.piece_theory.proofs.ResultLemmas.{symbol_once}
use Rattle.arm_laws.specs.Did.{Did, did_err, did_leave, AreSameAt, none_same, same_first}
use Rattle.arm_laws.proofs.PutLemmas.{put_same}
use Rattle.arm_laws.proofs.ArmLemmas.{leaves_by, leaves_with}
use Rattle.level_laws.specs.Growing.{FollowOn, follow_none, follow, AreTight, tight_none, loose, tight}
use Rattle.level_laws.specs.Laws.{AreFresh, fresh_none, fresh_more}
use Rattle.level_laws.proofs.LevelLemmas.{or_none, no_some, some_of}
use Rattle.level_laws.proofs.GrowingLemmas.{fresh_at, last_map_law}
use Rattle.leaf_laws.specs.Leaves.{IsOpenPiece}
use Rattle.leaf_laws.proofs.EndLemmas.{alive_below, over_top}
use Rattle.leaf_laws.proofs.MadeLemmas.{made_open_law}
use Rattle.segment_laws.proofs.KidLemmas.{fresh_of, fresh_last, LastFresh}
use Rattle.join_theory.specs.Faults.{over, state_over}
use Rattle.join_theory.specs.Floors.{IsPutOn}
use Rattle.join_theory.proofs.PutLemmas.{alive_start, symbol_kept}
use Rattle.joined_laws.specs.Joining.{ArePut, none_put, put_next}
use Rattle.joined_laws.specs.Joint.{IsJoined}
use Rattle.joined_laws.proofs.MadeLemmas.{fresh_over, dead_over}
use Rattle.joined_laws.proofs.MeetingLemmas.{meet_law, lands_law}
use Rattle.joined_laws.proofs.JointLemmas.{join_end_law}
use Rattle.landing_laws.specs.Behind.{AreRising, LooseOpenLaw, JoinPutLaw}

-- ---- maps as they are

-- the alive starts of the last floor
last_starts : (t : Tables) (first : TextToken) (floors : List Floor) (last : StateMap) (lower : List Floor) (f : Floor) → AreFloors t first floors last → floors ≡ lower ++ f ∷ [] → last ≡ f.starts
last_starts t first floors last lower f are parts =
    let by = floors_law t first floors last are in
    sym by.3 ∙ ap (λ (g : Floor). g.starts) (same_from_push by.0 lower by.1 f (sym by.2 ∙ parts)).1

same_back : {alive : StateMap} {hs fresh : List Held} (q : ℕ) → IsSome (target alive q) → AreFresh alive hs fresh → AreSameAt q fresh hs
same_back q some fresh_none = none_same
same_back q some (fresh_more is more) = same_first (sym is.kid) (sym (fresh_at is q some)) (same_back q some more)

-- maps that rise are exact at the alive starts where they are so restricted
follow_loose : {t : Tables} {store : Store} {alive : StateMap} {hs fresh : List Held} → AreFresh alive hs fresh → AreRising hs → {from from1 : ℕ → Option ℕ} → ((q : ℕ) → IsSome (target alive q) → from q ≡ from1 q) → AreSteps t store from1 fresh → FollowOn t store alive from hs
follow_loose fresh_none rising agree no_step = follow_none
follow_loose {t} {store} (fresh_more {h = h} {fresh = g} {hs = hs} is rest) rising {from} {from1} agree (step_on x symbol up at more) =
    follow x (subst (λ k. HasSymbol t.rules store k x) is.kid symbol) (All-head {X = Held} (λ h1. IsRising h1.states) h hs rising)
    (λ q live. sym (fresh_at is q live) ∙ at q ∙ ap (option_and_then (λ p. step_by t p x)) (sym (agree q live)))
    (follow_loose rest (All-tail {X = Held} (λ h1. IsRising h1.states) h hs rising) (λ q live. sym (fresh_at is q live)) more)

follow_rising : {t : Tables} {store : Store} {alive : StateMap} {hs : List Held} {from : ℕ → Option ℕ} → FollowOn t store alive from hs → AreRising hs
follow_rising follow_none = All-nil {X = Held} (λ h1. IsRising h1.states)
follow_rising (follow {h = h} {hs = hs} x symbol up at more) = All-cons {X = Held} (λ h1. IsRising h1.states) h hs up (follow_rising more)

pub loose_open_law : LooseOpenLaw
loose_open_law t store p fresh w next steps lower f under h stale made stands right are floors stack rising tights within = record {
  growing = record {
    on_floors = floors;
    on_stack = stack;
    floors = exact.growing.floors;
    maps = follow_loose are rising (λ q live. refl) steps_of;
    tight = tights;
    within = within;
  };
  did = λ s on. let by = exact.did s on in (by.0, back s by.1);
  right = right;
}
  where
    closed : Piece
    closed = record p { stack = fresh }

    end : LastFresh f.starts h fresh
    end = fresh_last under h (subst (λ l. AreFresh f.starts l fresh) stack are)

    exact : IsOpenPiece t store closed w next lower f end.lower end.last 0
    exact = made_open_law t store closed w next steps lower f end.lower end.last made stands right floors end.parts

    steps_of : AreSteps t store (start_of f.starts) fresh
    steps_of = subst (λ m. AreSteps t store (start_of m) fresh) (last_starts t p.first p.floors made.last lower f made.floors floors) made.maps

    back : (s : List Entry) {moves : List Move} → Did t store closed (w ++ next) next moves s → Did t store p (w ++ next) next moves s
    back s (did_err fails by) = did_err fails by
    back s (did_leave {last = last} leaves run) =
        let by = leaves_by {t = t} {store = store} {p = closed} lower f fresh floors refl leaves in
        let alive = alive_below f.starts end.last (last_map_law t store closed lower f end.lower end.last 0 exact.growing) (top 0 by.rest) (top 0 last) (sym (over_top exact.growing (top 0 by.rest)) ∙ by.over_all) in
        did_leave (leaves_with t store p (lower ++ f ∷ []) p.stack floors refl by.down (put_same (same_back (top 0 by.rest) alive are) by.up)) run

-- ---- entries behind others

follow_behind : {t : Tables} {store : Store} {alive : StateMap} {hs : List Held} {from : ℕ → Option ℕ} → FollowOn t store alive from hs → {put : List Held} {from1 : ℕ → Option ℕ} → ((q : ℕ) → IsSome (target alive q) → from1 q ≡ over (from q) hs q) → AreSteps t store from1 put → FollowOn t store alive from (hs ++ put)
follow_behind {t} {store} {alive} {from = from} follow_none agree steps = behind agree steps
  where
    behind : {put : List Held} {from from1 : ℕ → Option ℕ} → ((q : ℕ) → IsSome (target alive q) → from1 q ≡ from q) → AreSteps t store from1 put → FollowOn t store alive from put
    behind agree no_step = follow_none
    behind {from = from} {from1 = from1} agree (step_on x symbol rising at more) = follow x symbol rising (λ q live. at q ∙ ap (option_and_then (λ p. step_by t p x)) (agree q live)) (behind (λ q live. refl) more)
follow_behind (follow x symbol rising at rest) agree steps = follow x symbol rising at (follow_behind rest agree steps)

tight_steps : {t : Tables} {store : Store} {alive : StateMap} {put : List Held} {from : ℕ → Option ℕ} → ((q : ℕ) → target alive q ≡ None → from q ≡ None) → AreSteps t store from put → AreTight alive 0 put
tight_steps none no_step = tight_none
tight_steps {t} {alive = alive} none (step_on {h = h} x symbol rising at more) = tight gone (tight_steps gone more)
  where
    gone : (q : ℕ) → target alive q ≡ None → target h.states q ≡ None
    gone q dead = at q ∙ ap (option_and_then (λ p. step_by t p x)) (none q dead)

tight_behind : {alive : StateMap} (hs put : List Held) {stale : ℕ} → AreTight alive stale hs → stale ≤ length hs → AreTight alive 0 put → AreTight alive stale (hs ++ put)
tight_behind {alive} [] put {stale} are within behind = subst (λ n. AreTight alive n put) (let e : 0 ≡ stale = omega (arith, within) in e) behind
tight_behind (h ∷ hs) put (loose more) within behind = loose (tight_behind hs put more (omega (arith, within)) behind)
tight_behind (h ∷ hs) put (tight is more) within behind = tight is (tight_behind hs put more (omega arith) behind)

-- entries with alive starts alone are as they are where they are restricted
fresh_self : {alive : StateMap} {t : Tables} {store : Store} {put : List Held} {from : ℕ → Option ℕ} → ((q : ℕ) → target alive q ≡ None → from q ≡ None) → AreSteps t store from put → AreFresh alive put put
fresh_self none no_step = fresh_none
fresh_self {alive} {t} none (step_on {h = h} x symbol rising at more) =
    fresh_more (record { kid = refl; states = record { rising = rising; targets = λ q. kept q (or_none (target alive q)) } }) (fresh_self gone more)
  where
    gone : (q : ℕ) → target alive q ≡ None → target h.states q ≡ None
    gone q dead = at q ∙ ap (option_and_then (λ p. step_by t p x)) (none q dead)

    kept : (q : ℕ) → (target alive q ≡ None) ⊎ IsSome (target alive q) → target h.states q ≡ (if is_some (target alive q) then target h.states q else None)
    kept q (inl dead) = gone q dead ∙ sym (ap (λ (o : Option ℕ). if is_some o then target h.states q else None) dead)
    kept q (inr live) = sym (ap (λ (b : Bool). if b then target h.states q else None) live)

fresh_then : {alive : StateMap} {hs fresh : List Held} → AreFresh alive hs fresh → {more others : List Held} → AreFresh alive more others → AreFresh alive (hs ++ more) (fresh ++ others)
fresh_then fresh_none rest = rest
fresh_then (fresh_more is more) rest = fresh_more is (fresh_then more rest)

-- entries with the right piece's kids that are walked from other states are the right piece's over those states
put_of_steps : {t : Tables} {store now : Store} → IsKept store now → (states : ℕ → Option ℕ) {from from1 : ℕ → Option ℕ} {hs ks : List Held} → ((q : ℕ) → from1 q ≡ option_and_then from (states q)) → AreSteps t store from hs → AreSteps t now from1 ks → kids_of ks ≡ kids_of hs → ArePut states hs ks
put_of_steps kept states agree no_step no_step same = none_put
put_of_steps kept states agree no_step (step_on {h = k} {hs = ks} x symbol rising at more) same = absurd (let e = ap length same in omega (arith, e))
put_of_steps kept states agree (step_on {h = h} {hs = hs} x symbol rising at more) no_step same = absurd (let e = ap length same in omega (arith, e))
put_of_steps {t} {store} {now} kept states {from} {from1} agree (step_on {h = h} {hs = hs} x symbol rising at more) (step_on {h = k} {hs = ks} y symbol1 rising1 at1 more1) same =
    put_next kid (record { rising = rising1; targets = exact }) (put_of_steps kept states exact more more1 (same_tail same))
  where
    kid : k.kid ≡ h.kid
    kid = cc

    same_tail : kids_of (k ∷ ks) ≡ kids_of (h ∷ hs) → kids_of ks ≡ kids_of hs
    same_tail e = cc

    symbols : y ≡ x
    symbols = symbol_once (subst (λ c. HasSymbol t.rules now c y) kid symbol1) (symbol_kept kept symbol)

    through_state : (o : Option ℕ) → option_and_then (λ p. step_by t p x) (option_and_then from o) ≡ option_and_then (target h.states) o
    through_state None = refl
    through_state (Some z) = sym (at z)

    exact : (q : ℕ) → target k.states q ≡ option_and_then (target h.states) (states q)
    exact q = at1 q ∙ ap (λ s. option_and_then (λ p. step_by t p s) (from1 q)) symbols ∙ ap (option_and_then (λ p. step_by t p x)) (agree q) ∙ through_state (states q)

-- the last of some entries
pub record HasLast (hs : List Held) : Type 0 where
  pub lower : List Held
  pub last : Held
  pub parts : hs ≡ lower ++ last ∷ []

last_held : (h : Held) (hs : List Held) → HasLast (h ∷ hs)
last_held h [] = record { lower = []; last = h; parts = refl }
last_held h (g ∷ hs) = let more = last_held g hs in record { lower = h ∷ more.lower; last = more.last; parts = ap (λ l. h ∷ l) more.parts }

last_behind : (hs put : List Held) → 0 < length put → HasLast (hs ++ put)
last_behind [] [] some = absurd (omega (arith, some))
last_behind [] (h ∷ put) some = last_held h put
last_behind (h ∷ hs) put some = let more = last_behind hs put some in record { lower = h ∷ more.lower; last = more.last; parts = ap (λ l. h ∷ l) more.parts }

lands_at : (last : StateMap) (o : Option ℕ) → ((z : ℕ) → o ≡ Some z → IsSome (target last z)) → o ≡ option_and_then (start_of last) o
lands_at last None lands = refl
lands_at last (Some z) lands = sym (alive_start last z (lands z refl))

start_none : (alive : StateMap) (q : ℕ) → target alive q ≡ None → start_of alive q ≡ None
start_none alive q dead = ap (option_and_then (λ (p : ℕ). Some q)) dead

pub join_put_law : JoinPutLaw
join_put_law g t lawful lead store now left right p after u v next steps more beside lower e tops put stale met joining tights within over_alive walked kids first count floors stack = record {
  fresh = keep.0 ++ put;
  restricted = restricted;
  joined = joined;
  rising = rising;
  tight = tight_all;
  under = ends.lower;
  last = ends.last;
  open_piece = loose_open_law t now after (keep.0 ++ put) (u ++ v) next joined.steps lower e ends.lower ends.last stale joined.made joined.stands joined.takes restricted (floors ∙ joining.floors.on_floors) (stack ∙ ends.parts)
      rising tight_all
      (let all = ap length ends.parts in let both = length-append p.stack put in let parts = length-append ends.lower (ends.last ∷ []) in omega (arith, within, all, both, parts, some_put));
}
  where
    keep : (fresh : List Held) × AreFresh e.starts p.stack fresh
    keep = fresh_of joining.floors.maps

    restricted : AreFresh e.starts after.stack (keep.0 ++ put)
    restricted = subst (λ l. AreFresh e.starts l (keep.0 ++ put)) (sym stack) (fresh_then keep.1 (fresh_self over_alive.tight walked))

    rising : AreRising after.stack
    rising = subst AreRising (sym stack) (follow_rising (follow_behind joining.floors.maps over_alive.same walked))

    tight_all : AreTight e.starts stale after.stack
    tight_all = subst (λ l. AreTight e.starts stale l) (sym stack) (tight_behind p.stack put tights (omega (arith, within)) (tight_steps over_alive.tight walked))

    some_put : 0 < length put
    some_put =
        let one = length-map put (λ held. held.kid) in
        let two = length-map right.stack (λ held. held.kid) in
        let same = ap length kids in
        let some = met.made_right.some_entry in
        omega (arith, one, two, same, some)

    ends : HasLast (p.stack ++ put)
    ends = last_behind p.stack put some_put

    put_on : (s : List Entry) → IsContext t left.first.id s → (mid : List Entry) → Leaves t.rules store left s mid → IsContext t right.first.id mid
    put_on s context mid leaves = meet_law g t lawful store left met.made.last right.first u (right.first ∷ []) s mid met.made.floors met.takes joining.once met.shifts context (met.stands s context) leaves

    lands : (q z : ℕ) → IsSome (target e.starts q) → state_over e.starts p.stack q ≡ Some z → IsSome (target met.made_right.last z)
    lands = lands_law g t lawful lead store now (length u) left right p lower e met.made_right.last (subst (λ (x : TextToken). AreStacked t x lower e) joining.first joining.floors.floors) joining.floors.on_floors met.made_right.floors met.takes_right
        (λ s context. subst (λ l. IsPutOn t.rules store now (length u) left p e.starts l [] s) (sym (append-nil joining.taken) ∙ sym joining.parts) (joining.put_on s context))
        (λ s mid context leaves. put_on s context mid leaves)

    state_at : (q : ℕ) → (target e.starts q ≡ None) ⊎ IsSome (target e.starts q) → target tops q ≡ state_over e.starts keep.0 q
    state_at q (inl dead) = over_alive.tight q dead ∙ sym (dead_over keep.1 q dead (start_of e.starts q) (start_none e.starts q dead))
    state_at q (inr live) = over_alive.same q live ∙ sym (fresh_over keep.1 q live (start_of e.starts q))

    landed : (q z : ℕ) → (target e.starts q ≡ None) ⊎ IsSome (target e.starts q) → target tops q ≡ Some z → IsSome (target met.made_right.last z)
    landed q z (inl dead) at = absurd (no_some (over_alive.tight q dead) (some_of at))
    landed q z (inr live) at = lands q z live (sym (over_alive.same q live) ∙ at)

    through : (q : ℕ) → target tops q ≡ option_and_then (start_of met.made_right.last) (state_over e.starts keep.0 q)
    through q =
        lands_at met.made_right.last (target tops q) (λ z at. landed q z (or_none (target e.starts q)) at)
        ∙ ap (option_and_then (start_of met.made_right.last)) (state_at q (or_none (target e.starts q)))

    joined : IsJoined t store now right (record after { stack = keep.0 ++ put }) (u ++ v) next beside
    joined = join_end_law g t lawful lead store now left right p (record after { stack = keep.0 ++ put }) u v next steps more beside lower e keep.0 put met joining keep.1
        (put_of_steps joining.kept (state_over e.starts keep.0) through met.made_right.maps walked kids) first count floors refl
