-- Entries by the numbers of their maps: in parts, and the map over the last of them.
use Rattle.std.proofs.Common.{◌≡◌, ℕ, zero, suc, ◌+◌, ◌-◌, ◌<◌, ◌≤◌, ◌⊎◌, inl, inr, eqb, if◌then◌else◌, List, [], ◌∷◌, ◌++◌, length, take, drop, get_or, slice_set, Option, Some, None, IsSome, refl, sym, ap, ◌∙◌, subst, arith}
use Rattle.std.specs.Prelude.{is_some, option_and_then, ◌==◌}
use Rattle.std.proofs.lemmas.Bool.{cond-false, ne_eqb}
use Rattle.std.proofs.lemmas.List.{get_or_append_left, length-append, length-take, take-append-drop}
use Rattle.std.proofs.lemmas.List.Elements.{All-head, All-tail, All-nil, All-cons}
use Rattle.std.proofs.Math.Seq.{get_or-append_seam}
use Rattle.grammar_theory.proofs.Lists.{Pushed, empty, pushed, all_pushed}
use Rattle.node_data.specs.declared.kid.Kid.{Kid}
use Rattle.tree_theory.specs.Stores.{Store}
use Rattle.table_data.specs.Tables.{Tables, step_by}
use Rattle.map_theory.specs.Maps.{StateMap, target, IsRising}
use Rattle.map_theory.specs.Relations.{IsIdentityOf}
use Rattle.piece_theory.specs.Pieces.{Held}
use Rattle.piece_theory.specs.WellMade.{start_of}
use Rattle.level_laws.specs.Growing.{FollowOn, follow, follow_none, IsTight, AreTight, tight_none, loose, tight}
use Rattle.level_laws.proofs.GrowingLemmas.{tight_top}
use Rattle.join_theory.specs.Faults.{over, state_over}
use Rattle.join_theory.specs.Floors.{AreKeptFor, none_kept, kept_next}
use Rattle.landing_laws.specs.Carrying.{IsOverAlive}
use Rattle.landing_laws.specs.Behind.{AreRising}
use Rattle.arrow_table.specs.Looks.{Grows, map_at}
use Rattle.segment_parser.specs.Working.{held_of, last_id, AreThere}
use Rattle.stack_join.proofs.EntryLemmas.{entries_push}
use Rattle.stack_join.proofs.EnteredLemmas.{by_test}

-- ---- entries in parts

pub entries_both : (maps : List StateMap) (kids others : List Kid) (ids more : List ℕ) → length ids ≡ length kids → held_of maps (kids ++ others) (ids ++ more) ≡ held_of maps kids ids ++ held_of maps others more
entries_both maps [] others [] more e = refl
entries_both maps [] others (x ∷ ids) more e = absurd (omega (arith, e))
entries_both maps (k ∷ kids) others [] more e = absurd (omega (arith, e))
entries_both maps (k ∷ kids) others (x ∷ ids) more e = ap (λ l. record { kid = k; states = map_at maps x } ∷ l) (entries_both maps kids others ids more (omega (arith, e)))

pub entries_cut : (maps : List StateMap) (kids : List Kid) (ids : List ℕ) (n : ℕ) → length ids ≡ length kids → held_of maps kids ids ≡ held_of maps (take n kids) (take n ids) ++ held_of maps (drop n kids) (drop n ids)
entries_cut maps kids ids n e =
    let one = length-take n kids in
    let two = length-take n ids in
    let even : length (take n ids) ≡ length (take n kids) = omega (arith, e, one, two) in
    ap (λ l. held_of maps l ids) (sym (take-append-drop n kids)) ∙ ap (λ l. held_of maps (take n kids ++ drop n kids) l) (sym (take-append-drop n ids)) ∙ entries_both maps (take n kids) (drop n kids) (take n ids) (drop n ids) even

pub entries_length : (maps : List StateMap) (kids : List Kid) (ids : List ℕ) → length ids ≡ length kids → length (held_of maps kids ids) ≡ length ids
entries_length maps [] [] e = refl
entries_length maps [] (x ∷ ids) e = absurd (omega (arith, e))
entries_length maps (k ∷ kids) [] e = refl
entries_length maps (k ∷ kids) (x ∷ ids) e = let rest = entries_length maps kids ids (omega (arith, e)) in omega (arith, rest)

-- ---- the map over the last entry

-- the number of the map over the last entry, or of another where there is none
abbrev pub top_id : List ℕ → ℕ → ℕ
top_id ids own = (if length ids == 0 then own else last_id ids)

pub last_of_push : (low : List ℕ) (id : ℕ) → last_id (low ++ id ∷ []) ≡ id
last_of_push low id =
    let count = length-append low (id ∷ []) in
    let place : length (low ++ id ∷ []) - 1 ≡ length low = omega (arith, count) in
    ap (λ k. get_or (low ++ id ∷ []) k 0) place ∙ get_or-append_seam low id [] 0

pub top_of_push : (low : List ℕ) (id own : ℕ) → top_id (low ++ id ∷ []) own ≡ id
top_of_push low id own =
    let count = length-append low (id ∷ []) in
    let all = low ++ id ∷ [] in
    cond-false (eqb (length all) 0) own (last_id all) (ne_eqb (length all) 0 (λ none. absurd (omega (arith, count, none)))) ∙ last_of_push low id

pub over_push_last : (under : List Held) (h : Held) (from : Option ℕ) (q : ℕ) → over from (under ++ h ∷ []) q ≡ target h.states q
over_push_last [] h from q = refl
over_push_last (g ∷ under) h from q = over_push_last under h (target g.states q) q

pub rising_push : (under : List Held) (h : Held) → AreRising (under ++ h ∷ []) → IsRising h.states
rising_push [] h all = All-head {X = Held} (λ x. IsRising x.states) h [] all
rising_push (g ∷ under) h all = rising_push under h (All-tail {X = Held} (λ x. IsRising x.states) g (under ++ h ∷ []) all)

-- entries as the last one and those below it
pub record HasTop (maps : List StateMap) (kids : List Kid) (ids : List ℕ) : Type 0 where
  pub low : List ℕ
  pub id : ℕ
  pub below : List Kid
  pub kid : Kid
  pub ids_are : ids ≡ low ++ id ∷ []
  pub kids_are : kids ≡ below ++ kid ∷ []
  pub even : length low ≡ length below
  pub stack : held_of maps kids ids ≡ held_of maps below low ++ record { kid = kid; states = map_at maps id } ∷ []

has_top_by : (maps : List StateMap) (kids : List Kid) (ids : List ℕ) → length ids ≡ length kids → 0 < length ids → Pushed kids → Pushed ids → HasTop maps kids ids
has_top_by maps kids ids even some (empty none) many = let e = ap length none in absurd (omega (arith, even, some, e))
has_top_by maps kids ids even some (pushed below kid at) (empty none) = let e = ap length none in absurd (omega (arith, some, e))
has_top_by maps kids ids even some (pushed below kid at) (pushed low id here) =
    let kid_count = ap length at ∙ length-append below (kid ∷ []) in
    let id_count = ap length here ∙ length-append low (id ∷ []) in
    let fewer : length low ≡ length below = omega (arith, even, kid_count, id_count) in
    record { low = low; id = id; below = below; kid = kid; ids_are = here; kids_are = at; even = fewer; stack = (λ i. held_of maps (at i) (here i)) ∙ entries_push maps below low kid id fewer }

pub has_top : (maps : List StateMap) (kids : List Kid) (ids : List ℕ) → length ids ≡ length kids → 0 < length ids → HasTop maps kids ids
has_top maps kids ids even some = has_top_by maps kids ids even some (all_pushed kids) (all_pushed ids)

-- the last map tells the states over the entries, and where there is no entry the map of the starts does
pub top_states : (maps : List StateMap) (kids : List Kid) (ids : List ℕ) (starts own : ℕ) → length ids ≡ length kids → IsIdentityOf (map_at maps starts) (map_at maps own) → (q : ℕ) → target (map_at maps (top_id ids own)) q ≡ state_over (map_at maps starts) (held_of maps kids ids) q
top_states maps [] [] starts own even is q = is.targets q ∙ by_test (target (map_at maps starts) q) q
top_states maps (k ∷ kids) [] starts own even is q = absurd (omega (arith, even))
top_states maps kids (x ∷ ids) starts own even is q =
    let top = has_top maps kids (x ∷ ids) even (omega arith) in
    ap (λ l. target (map_at maps (top_id l own)) q) top.ids_are ∙ ap (λ n. target (map_at maps n) q) (top_of_push top.low top.id own)
    ∙ sym (ap (λ l. state_over (map_at maps starts) l q) top.stack ∙ over_push_last (held_of maps top.below top.low) (record { kid = top.kid; states = map_at maps top.id }) (start_of (map_at maps starts) q) q)

top_rising : (maps : List StateMap) (kids : List Kid) (ids : List ℕ) (starts own : ℕ) → length ids ≡ length kids → IsIdentityOf (map_at maps starts) (map_at maps own) → AreRising (held_of maps kids ids) → IsRising (map_at maps (top_id ids own))
top_rising maps kids [] starts own even is rising = is.rising
top_rising maps kids (x ∷ ids) starts own even is rising =
    let top = has_top maps kids (x ∷ ids) even (omega arith) in
    let last : Held = record { kid = top.kid; states = map_at maps top.id } in
    subst (λ l. IsRising (map_at maps (top_id l own))) (sym top.ids_are) (subst (λ n. IsRising (map_at maps n)) (sym (top_of_push top.low top.id own)) (rising_push (held_of maps top.below top.low) last (subst AreRising top.stack rising)))

top_tight : (maps : List StateMap) (kids : List Kid) (ids : List ℕ) (starts own stale : ℕ) → length ids ≡ length kids → IsIdentityOf (map_at maps starts) (map_at maps own) → AreTight (map_at maps starts) stale (held_of maps kids ids) → (stale ≡ 0) ⊎ (stale < length ids) → (q : ℕ) → target (map_at maps starts) q ≡ None → target (map_at maps (top_id ids own)) q ≡ None
top_tight maps kids [] starts own stale even is tights within q dead = is.targets q ∙ ap (λ (o : Option ℕ). if is_some o then Some q else None) dead
top_tight maps kids (x ∷ ids) starts own stale even is tights within q dead =
    let top = has_top maps kids (x ∷ ids) even (omega arith) in
    let last : Held = record { kid = top.kid; states = map_at maps top.id } in
    let below : List Held = held_of maps top.below top.low in
    let count = ap length top.ids_are ∙ length-append top.low (top.id ∷ []) in
    let under = entries_length maps top.below top.low top.even in
    let less : stale ≤ length below = small below count under within in
    ap (λ l. target (map_at maps (top_id l own)) q) top.ids_are ∙ ap (λ n. target (map_at maps n) q) (top_of_push top.low top.id own) ∙ tight_top below last (subst (λ l. AreTight (map_at maps starts) stale l) top.stack tights) less q dead
  where
    small : (below : List Held) {low : ℕ} → length (x ∷ ids) ≡ low + 1 → length below ≡ low → (stale ≡ 0) ⊎ (stale < length (x ∷ ids)) → stale ≤ length below
    small below count under (inl none) = omega (arith, none)
    small below count under (inr less) = omega (arith, count, under, less)

-- so it is the map over the entries, where each alive start has a state
pub over_alive_of : (maps : List StateMap) (kids : List Kid) (ids : List ℕ) (starts own stale : ℕ) (states : ℕ → Option ℕ) → length ids ≡ length kids → IsIdentityOf (map_at maps starts) (map_at maps own) → AreRising (held_of maps kids ids) → AreTight (map_at maps starts) stale (held_of maps kids ids) → (stale ≡ 0) ⊎ (stale < length ids)
    → ((q : ℕ) → IsSome (target (map_at maps starts) q) → state_over (map_at maps starts) (held_of maps kids ids) q ≡ states q) → ((q : ℕ) → IsSome (target (map_at maps starts) q) → IsSome (states q)) → IsOverAlive (map_at maps starts) (map_at maps (top_id ids own)) states
over_alive_of maps kids ids starts own stale states even is rising tights within agree wide = record {
  rising = top_rising maps kids ids starts own even is rising;
  same = same;
  wide = λ q live. subst IsSome (sym (same q live)) (wide q live);
  tight = top_tight maps kids ids starts own stale even is tights within;
}
  where
    same : (q : ℕ) → IsSome (target (map_at maps starts) q) → target (map_at maps (top_id ids own)) q ≡ states q
    same q live = top_states maps kids ids starts own even is q ∙ agree q live

-- ---- entries that are kept

pub kept_self : (starts : StateMap) (hs : List Held) → AreRising hs → AreKeptFor starts hs hs
kept_self starts [] rising = none_kept
kept_self starts (h ∷ hs) rising = kept_next refl (All-head {X = Held} (λ x. IsRising x.states) h hs rising) (λ q live. refl) (kept_self starts hs (All-tail {X = Held} (λ x. IsRising x.states) h hs rising))

pub kept_over : {starts : StateMap} {hs ks : List Held} → AreKeptFor starts hs ks → (q : ℕ) → IsSome (target starts q) → (from : Option ℕ) → over from ks q ≡ over from hs q
kept_over none_kept q live from = refl
kept_over (kept_next {h = h} {k = k} {hs = hs} {ks = ks} kid rising same more) q live from = ap (λ o. over o ks q) (same q live) ∙ kept_over more q live (target h.states q)

pub kept_then : {starts fewer : StateMap} {hs ks ls : List Held} → ((q : ℕ) → IsSome (target fewer q) → IsSome (target starts q)) → AreKeptFor starts hs ks → AreKeptFor fewer ks ls → AreKeptFor fewer hs ls
kept_then less none_kept none_kept = none_kept
kept_then less (kept_next kid rising same more) (kept_next kid1 rising1 same1 more1) = kept_next (kid1 ∙ kid) rising1 (λ q live. same1 q live ∙ same q (less q live)) (kept_then less more more1)

pub kept_rising : {starts : StateMap} {hs ks : List Held} → AreKeptFor starts hs ks → AreRising ks
kept_rising none_kept = λ k d inside. absurd (omega (arith, inside))
kept_rising (kept_next {k = k} {ks = ks} kid rising same more) = rising_first k ks rising (kept_rising more)
  where
    rising_first : (h : Held) (hs : List Held) → IsRising h.states → AreRising hs → AreRising (h ∷ hs)
    rising_first h hs first rest zero d inside = first
    rising_first h hs first rest (suc i) d inside = rest i d (omega (arith, inside))

-- the last of them may be another
pub kept_push : {starts : StateMap} (under : List Held) (h k : Held) → AreRising (under ++ h ∷ []) → k.kid ≡ h.kid → IsRising k.states → ((q : ℕ) → IsSome (target starts q) → target k.states q ≡ target h.states q) → AreKeptFor starts (under ++ h ∷ []) (under ++ k ∷ [])
kept_push [] h k all kid rising same = kept_next kid rising same none_kept
kept_push (g ∷ under) h k all kid rising same = kept_next refl (All-head {X = Held} (λ x. IsRising x.states) g (under ++ h ∷ []) all) (λ q live. refl) (kept_push under h k (All-tail {X = Held} (λ x. IsRising x.states) g (under ++ h ∷ []) all) kid rising same)

pub rising_front : (hs more : List Held) → AreRising (hs ++ more) → AreRising hs
rising_front hs more all k d inside = subst (λ (h : Held). IsRising h.states) (get_or_append_left hs more d k inside) (all k d (let count = length-append hs more in omega (arith, count, inside)))

-- the entries below have alive starts alone where those with others on them have
pub tight_front : {alive : StateMap} (hs more : List Held) {stale : ℕ} → AreTight alive stale (hs ++ more) → AreTight alive stale hs
tight_front [] more all = tight_none
tight_front (h ∷ hs) more (loose rest) = loose (tight_front hs more rest)
tight_front (h ∷ hs) more (tight is rest) = tight is (tight_front hs more rest)

pub tight_end : {alive : StateMap} (under : List Held) (h : Held) → IsTight alive h → AreTight alive (length under) (under ++ h ∷ [])
tight_end [] h is = tight is tight_none
tight_end (g ∷ under) h is = loose (tight_end under h is)

-- maps that follow one another are rising
pub follow_rising : {t : Tables} {store : Store} {alive : StateMap} {hs : List Held} {from : ℕ → Option ℕ} → FollowOn t store alive from hs → AreRising hs
follow_rising follow_none = All-nil {X = Held} (λ x. IsRising x.states)
follow_rising (follow {h = h} {hs = hs} x symbol up at more) = All-cons {X = Held} (λ g. IsRising g.states) h hs up (follow_rising more)

-- a start that has a state over all entries has one over the first ones
pub over_front : {t : Tables} {store : Store} {alive : StateMap} (hs more : List Held) {from : ℕ → Option ℕ} → FollowOn t store alive from (hs ++ more) → (q : ℕ) → IsSome (target alive q) → IsSome (over (from q) (hs ++ more) q) → IsSome (over (from q) hs q)
over_front {t} {store} {alive} [] more {from} follows q live some = back follows some
  where
    below : (x : ℕ → Option ℕ) (o : Option ℕ) → IsSome (option_and_then x o) → IsSome o
    below x None is = is
    below x (Some p) is = refl

    back : {hs : List Held} {from : ℕ → Option ℕ} → FollowOn t store alive from hs → IsSome (over (from q) hs q) → IsSome (from q)
    back follow_none is = is
    back {from = from} (follow x symbol rising at rest) is = below (λ p. step_by t p x) (from q) (subst IsSome (at q live) (back rest is))
over_front (h ∷ hs) more (follow x symbol rising at rest) q live some = over_front hs more rest q live some

-- ---- another map over the last entry

pub set_end : (low : List ℕ) (id other place : ℕ) → place ≡ length low → slice_set (low ++ id ∷ []) place other ≡ low ++ other ∷ []
set_end [] id other zero e = refl
set_end [] id other (suc place) e = absurd (omega (arith, e))
set_end (x ∷ low) id other zero e = absurd (omega (arith, e))
set_end (x ∷ low) id other (suc place) e = ap (λ l. x ∷ l) (set_end low id other place (omega (arith, e)))

pub there_front : (maps : List StateMap) (ids more : List ℕ) → AreThere maps (ids ++ more) → AreThere maps ids
there_front maps ids more all k d inside =
    let count = length-append ids more in
    subst (λ (n : ℕ). n < length maps) (get_or_append_left ids more d k inside) (all k d (omega (arith, count, inside)))

pub there_grow : (maps new : List StateMap) → Grows maps new → (ids : List ℕ) → AreThere maps ids → AreThere new ids
there_grow maps new grows ids there k d inside =
    let count = ap length grows.1 ∙ length-append maps grows.0 in
    let less = there k d inside in
    omega (arith, count, less)
