-- A floor's faults are carried back on the code's open piece.
use Rattle.std.proofs.Common.{◌≡◌, ℕ, ◌-◌, ◌<◌, ◌⊎◌, inl, inr, Bool, true, false, if◌then◌else◌, List, [], ◌∷◌, ◌++◌, length, map, slice_set, append_assoc, All, Option, Some, None, IsSome, is_some, refl, sym, ap, ◌∙◌, subst, arith}
use Rattle.std.specs.Prelude.{option_and_then, ◌==◌}
use Rattle.std.specs.List.{cons_option}
use Rattle.std.specs.Option.{option_map}
use Rattle.std.proofs.lemmas.List.{length-append, length-map}
use Rattle.std.proofs.lemmas.List.Elements.{All-push, All-nil, All-cons, All-head, All-tail}
use Rattle.std.proofs.Math.ListN.{get_or-map}
use Rattle.node_data.specs.declared.kid.Kid.{Kid}
use Rattle.map_theory.specs.Maps.{StateMap, target, IsRising, IsMapOf, followed}
use Rattle.map_theory.specs.Relations.{IsIdentityOf, IsRestricted}
use Rattle.map_theory.proofs.MapLemmas.{followed_law}
use Rattle.piece_theory.specs.Pieces.{Floor, Held, fault_at}
use Rattle.level_laws.specs.Growing.{AreTight, tight_none}
use Rattle.level_laws.proofs.LevelLemmas.{or_none, no_some}
use Rattle.join_theory.specs.Floors.{AreKeptFor, none_kept}
use Rattle.landing_laws.specs.Carrying.{clear_on, carried_faults, IsOverAlive, HasEachOnce, IsCarried}
use Rattle.landing_laws.specs.Behind.{AreRising}
use Rattle.landing_laws.proofs.CarryLemmas.{carry_law, carry_none_law}
use Rattle.state_sets.specs.Classes.{targets_of, ClassLaw}
use Rattle.state_sets.specs.Within.{AreWithin}
use Rattle.arrow_table.specs.Looks.{Grows, HasMap, map_at}
use Rattle.segment_parser.specs.declared.leaf.Leaf.{Leaf}
use Rattle.segment_parser.specs.Working.{held_of, last_id, AreThere}
use Rattle.segment_parser.specs.Standing.{last_in, piece_in, HasMaps}
use Rattle.stack_join.specs.Joining.{over_id, IsTightIn}
use Rattle.stack_join.specs.Landing.{IsCarriedBack}
use Rattle.stack_join.proofs.EntryLemmas.{entries_stay, entries_push}
use Rattle.stack_join.proofs.StandingLemmas.{map_stays}
use Rattle.stack_join.proofs.HeldLemmas.{HasTop, has_top, top_of_push, kept_self, kept_push, tight_end, set_end, there_front, there_grow, entries_length}

-- ---- nothing errs

clear_of : (f : Floor) (z : ℕ) → IsSome (clear_on f z) → fault_at f.faults z ≡ None
clear_of f z some = by (or_none (fault_at f.faults z))
  where
    by : (fault_at f.faults z ≡ None) ⊎ IsSome (fault_at f.faults z) → fault_at f.faults z ≡ None
    by (inl none) = none
    by (inr fault) = absurd (no_some (ap (λ (b : Bool). if b then None else Some z) fault) some)

pub none_carried : (class : ClassLaw) (f : Floor) (maps : List StateMap) (s : Leaf) (images : List (Option ℕ)) → HasMaps maps s → images ≡ map (clear_on f) (targets_of (map_at maps (over_id s))) → All {X = Option ℕ} (λ image. IsSome image) images → IsCarriedBack f maps maps s s
none_carried class f maps s images has are all = record {
  has = has;
  block = refl;
  first = refl;
  count = refl;
  over = λ states over once rising tight. record {
    moved = carry_none_law s.count tops states (last_in maps s) f over once (λ q z at. clear over.rising q z at);
    kept = kept_self (map_at maps s.starts) (piece_in maps s).stack rising;
    tight = tight;
  };
}
  where
    tops : StateMap
    tops = map_at maps (over_id s)

    each : All (λ z. IsSome (clear_on f z)) (targets_of (map_at maps (over_id s)))
    each k d inside =
        let ts = targets_of (map_at maps (over_id s)) in
        let count = length-map ts (clear_on f) in
        subst IsSome (get_or-map (clear_on f) ts k d) (subst (λ l. All {X = Option ℕ} (λ image. IsSome image) l) are all k (clear_on f d) (omega (arith, count, inside)))

    clear : IsRising (map_at maps (over_id s)) → (q z : ℕ) → target (map_at maps (over_id s)) q ≡ Some z → fault_at f.faults z ≡ None
    clear rising q z at =
        let there = ((class (map_at maps (over_id s)) rising).1 z).1 (q, at) in
        clear_of f z (subst (λ x. IsSome (clear_on f x)) there.2 (each there.0 z there.1))

-- what is left of a map is within the tables where the map is
pub clear_within : (n : ℕ) (f : Floor) (m : StateMap) → AreWithin n m → AreWithin n (followed (λ q p. clear_on f p) m)
clear_within n f [] all = All-nil (λ (pair : ℕ × ℕ). (pair.0 < n) × (pair.1 < n))
clear_within n f (pair ∷ m) all = by (is_some (fault_at f.faults pair.1)) (clear_within n f m (All-tail (λ (x : ℕ × ℕ). (x.0 < n) × (x.1 < n)) pair m all))
  where
    by : (b : Bool) → AreWithin n (followed (λ q p. clear_on f p) m) → AreWithin n (cons_option (option_map (λ p. (pair.0, p)) (if b then None else Some pair.1)) (followed (λ q p. clear_on f p) m))
    by true rest = rest
    by false rest = All-cons (λ (x : ℕ × ℕ). (x.0 < n) × (x.1 < n)) pair (followed (λ q p. clear_on f p) m) (All-head (λ (x : ℕ × ℕ). (x.0 < n) × (x.1 < n)) pair m all) rest

-- ---- starts err

-- the code has put the faults behind, restricted the starts, and set the last map
pub record HasLost (f : Floor) (maps mid new : List StateMap) (s after : Leaf) (id : ℕ) : Type 0 where
  pub grows : Grows maps mid
  pub grows_on : Grows mid new
  pub within : id < length mid
  pub left : map_at mid id ≡ followed (λ q p. clear_on f p) (map_at maps (over_id s))
  pub starts : HasMap new after.starts (IsRestricted (map_at mid s.starts) (map_at mid id))
  pub own : HasMap new after.own (IsIdentityOf (map_at new after.starts))
  pub ids : after.ids.items ≡ slice_set s.ids.items (length s.ids.items - 1) id
  pub stale : after.stale ≡ length s.ids.items - 1
  pub block : after.block ≡ s.block
  pub faults : after.faults ≡ s.faults ++ carried_faults s.count f (map_at maps (over_id s))
  pub opened : after.opened ≡ s.opened
  pub first : after.first ≡ s.first
  pub count : after.count ≡ s.count

-- the entries after it
data Entries (maps mid new : List StateMap) (s after : Leaf) (id : ℕ) : Type 0 where
  no_entry : s.ids.items ≡ [] → after.ids.items ≡ [] → (piece_in maps s).stack ≡ [] → (piece_in new after).stack ≡ [] → Entries maps mid new s after id
  last_entry : (top : HasTop maps s.block.kids s.ids.items) → after.ids.items ≡ top.low ++ id ∷ [] → (piece_in new after).stack ≡ held_of maps top.below top.low ++ record { kid = top.kid; states = map_at mid id } ∷ [] → Entries maps mid new s after id

entries_of : {f : Floor} {maps mid new : List StateMap} {s after : Leaf} {id : ℕ} → HasMaps maps s → HasLost f maps mid new s after id → Entries maps mid new s after id
entries_of {f} {maps} {mid} {new} {s} {after} {id} has lost = by s.ids.items refl
  where
    all_grow : Grows maps new
    all_grow = (lost.grows.0 ++ lost.grows_on.0, lost.grows_on.1 ∙ ap (λ l. l ++ lost.grows_on.0) lost.grows.1 ∙ append_assoc maps lost.grows.0 lost.grows_on.0)

    kids : after.block.kids ≡ s.block.kids
    kids = ap (λ b. b.kids) lost.block

    no_kids : (ks : List Kid) → length ks ≡ 0 → ks ≡ []
    no_kids [] e = refl
    no_kids (k ∷ ks) e = absurd (omega (arith, e))

    by : (ids : List ℕ) → s.ids.items ≡ ids → Entries maps mid new s after id
    by [] none =
        let no_ids : after.ids.items ≡ [] = lost.ids ∙ ap (λ l. slice_set l (length l - 1) id) none in
        let none_kids : s.block.kids ≡ [] = no_kids s.block.kids (has.even ∙ ap length none) in
        no_entry none no_ids ((λ i. held_of maps (none_kids i) (none i))) ((λ i. held_of new ((kids ∙ none_kids) i) (no_ids i)))
    by (x ∷ ids) some =
        let top = has_top maps s.block.kids s.ids.items (sym has.even) (let e = ap length some in omega (arith, e)) in
        let count = ap length top.ids_are ∙ length-append top.low (top.id ∷ []) in
        let place : length s.ids.items - 1 ≡ length top.low = omega (arith, count) in
        let ids_are : after.ids.items ≡ top.low ++ id ∷ [] = lost.ids ∙ ap (λ l. slice_set l (length s.ids.items - 1) id) top.ids_are ∙ set_end top.low top.id id (length s.ids.items - 1) place in
        let there : AreThere maps top.low = there_front maps top.low (top.id ∷ []) (subst (λ l. AreThere maps l) top.ids_are has.there) in
        last_entry top ids_are
        ((λ i. held_of new ((kids ∙ top.kids_are) i) (ids_are i)) ∙ entries_push new top.below top.low top.kid id top.even
        ∙ ap (λ l. l ++ record { kid = top.kid; states = map_at new id } ∷ []) (entries_stay maps new all_grow top.below top.low there)
        ∙ ap (λ m. held_of maps top.below top.low ++ record { kid = top.kid; states = m } ∷ []) (map_stays mid new lost.grows_on id lost.within))

pub some_carried : {f : Floor} {maps mid new : List StateMap} {s after : Leaf} {id : ℕ} → HasMaps maps s → HasLost f maps mid new s after id → IsCarriedBack f maps new s after
some_carried {f} {maps} {mid} {new} {s} {after} {id} has lost = record {
  has = record {
    even = even entries;
    there = there entries;
    starts = lost.starts.within;
    own = lost.own;
  };
  block = lost.block;
  first = lost.first;
  count = lost.count;
  over = λ states over once rising tight. (let by = carried states over once in record {
    moved = by.moved;
    kept = kept entries rising (λ q live. by.over q ∙ ap (λ (b : Bool). if b then target tops q else None) live) (left_rising over.rising);
    tight = tight_in entries (λ q dead. by.over q ∙ ap (λ (o : Option ℕ). if is_some o then target tops q else None) dead);
  });
}
  where
    entries : Entries maps mid new s after id
    entries = entries_of has lost

    tops : StateMap
    tops = map_at maps (over_id s)

    same_starts : map_at mid s.starts ≡ map_at maps s.starts
    same_starts = map_stays maps mid lost.grows s.starts has.starts

    left_map : IsRising (map_at maps (over_id s)) → IsMapOf (λ q. option_and_then (clear_on f) (target (map_at maps (over_id s)) q)) (map_at mid id)
    left_map rising = subst (IsMapOf (λ q. option_and_then (clear_on f) (target (map_at maps (over_id s)) q))) (sym lost.left) (followed_law (λ q p. clear_on f p) (map_at maps (over_id s)) rising)

    left_rising : IsRising (map_at maps (over_id s)) → IsRising (map_at mid id)
    left_rising rising = (left_map rising).rising

    carried : (states : ℕ → Option ℕ) → IsOverAlive (map_at maps s.starts) (map_at maps (over_id s)) states → HasEachOnce (last_in maps s) → IsCarried s.count (map_at maps (over_id s)) (map_at mid id) states (last_in maps s) (last_in new after) f
    carried states over once = carry_law s.count (map_at maps (over_id s)) (map_at mid id) states (last_in maps s) (last_in new after) f over once (left_map over.rising) lost.opened (subst (λ m. IsRestricted m (map_at mid id) (map_at new after.starts)) same_starts lost.starts.is) lost.faults

    even : Entries maps mid new s after id → length after.block.kids ≡ length after.ids.items
    even (no_entry none no_ids before after1) = ap (λ b. length b.kids) lost.block ∙ has.even ∙ ap length none ∙ sym (ap length no_ids)
    even (last_entry top ids_are stack) =
        let one = ap (λ b. length b.kids) lost.block ∙ has.even ∙ ap length top.ids_are ∙ length-append top.low (top.id ∷ []) in
        let two = ap length ids_are ∙ length-append top.low (id ∷ []) in
        omega (arith, one, two)

    there : Entries maps mid new s after id → AreThere new after.ids.items
    there (no_entry none no_ids before after1) = subst (λ l. AreThere new l) (sym no_ids) (λ k d inside. absurd (omega (arith, inside)))
    there (last_entry top ids_are stack) =
        let low = there_grow maps mid lost.grows top.low (there_front maps top.low (top.id ∷ []) (subst (λ l. AreThere maps l) top.ids_are has.there)) in
        subst (λ l. AreThere new l) (sym ids_are) (there_grow mid new lost.grows_on (top.low ++ id ∷ []) (All-push {X = ℕ} (λ n. n < length mid) top.low id low lost.within))

    kept : Entries maps mid new s after id → AreRising (piece_in maps s).stack → ((q : ℕ) → IsSome (target (map_at new after.starts) q) → target (map_at mid id) q ≡ target (map_at maps (over_id s)) q) → IsRising (map_at mid id) → AreKeptFor (map_at new after.starts) (piece_in maps s).stack (piece_in new after).stack
    kept (no_entry none no_ids before after1) rising same up = subst (λ l. AreKeptFor (map_at new after.starts) l (piece_in new after).stack) (sym before) (subst (λ l. AreKeptFor (map_at new after.starts) [] l) (sym after1) none_kept)
    kept (last_entry top ids_are stack) rising same up =
        let under = held_of maps top.below top.low in
        let h : Held = record { kid = top.kid; states = map_at maps top.id } in
        let k : Held = record { kid = top.kid; states = map_at mid id } in
        let on_top : map_at maps (over_id s) ≡ map_at maps top.id = ap (λ l. map_at maps (if length l == 0 then s.own else last_id l)) top.ids_are ∙ ap (map_at maps) (top_of_push top.low top.id s.own) in
        subst (λ l. AreKeptFor (map_at new after.starts) l (piece_in new after).stack) (sym top.stack) (subst (λ l. AreKeptFor (map_at new after.starts) (under ++ h ∷ []) l) (sym stack)
        (kept_push under h k (subst AreRising top.stack rising) refl up (λ q live. same q live ∙ ap (λ m. target m q) on_top)))

    tight_in : Entries maps mid new s after id → ((q : ℕ) → target (map_at new after.starts) q ≡ None → target (map_at mid id) q ≡ None) → IsTightIn new after
    tight_in (no_entry none no_ids before after1) gone = record {
      tight = subst (λ l. AreTight (map_at new after.starts) after.stale l) (sym after1) tight_none;
      within = inl (lost.stale ∙ ap (λ l. length l - 1) none);
    }
    tight_in (last_entry top ids_are stack) gone =
        let under = held_of maps top.below top.low in
        let k : Held = record { kid = top.kid; states = map_at mid id } in
        let count = ap length top.ids_are ∙ length-append top.low (top.id ∷ []) in
        let long = entries_length maps top.below top.low top.even in
        let at : length under ≡ after.stale = (let s1 = lost.stale in omega (arith, long, count, s1)) in
        let more = ap length ids_are ∙ length-append top.low (id ∷ []) in
        record {
          tight = subst (λ l. AreTight (map_at new after.starts) after.stale l) (sym stack) (subst (λ n. AreTight (map_at new after.starts) n (under ++ k ∷ [])) at (tight_end under k gone));
          within = inr (omega (arith, long, at, more));
        }
