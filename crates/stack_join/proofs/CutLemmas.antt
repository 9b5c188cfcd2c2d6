-- The open piece keeps its first entries.
use Rattle.std.proofs.Common.{◌≡◌, ℕ, ◌+◌, ◌-◌, ◌<◌, ◌≤◌, inl, inr, Bool, if◌then◌else◌, List, [], ◌∷◌, ◌++◌, length, take, drop, get_or, slice_set, slice_index_or, Option, None, is_some, refl, sym, ap, ◌∙◌, subst, arith}
use Rattle.std.proofs.lemmas.List.{length-append, length-take, take-append-drop}
use Rattle.std.proofs.lemmas.List.Elements.{All-push}
use Rattle.std.proofs.Math.Seq.{get_or-append_seam}
use Rattle.map_theory.specs.Maps.{StateMap, target}
use Rattle.map_theory.specs.Relations.{IsIdentityOf, IsRestricted}
use Rattle.piece_theory.specs.Pieces.{Held}
use Rattle.level_laws.specs.Growing.{AreTight, tight_none}
use Rattle.join_theory.specs.Floors.{AreKeptFor, none_kept}
use Rattle.landing_laws.specs.Behind.{AreRising}
use Rattle.arrow_table.specs.Looks.{Grows, HasMap, map_at}
use Rattle.segment_parser.specs.declared.leaf.Leaf.{Leaf}
use Rattle.segment_parser.specs.Working.{held_of, AreThere, IsFreshAt, was_fresh, made_fresh}
use Rattle.segment_parser.specs.Standing.{piece_in, HasMaps, SameButEntries}
use Rattle.stack_join.specs.Landing.{IsCut}
use Rattle.stack_join.proofs.EntryLemmas.{entries_stay, entries_push}
use Rattle.stack_join.proofs.StandingLemmas.{map_stays}
use Rattle.stack_join.proofs.HeldLemmas.{HasTop, has_top, entries_cut, entries_length, kept_self, kept_push, rising_front, tight_front, tight_end, set_end, there_front, there_grow}

pub has_same : (maps new : List StateMap) (s after : Leaf) → HasMaps maps s → Grows maps new → after.starts ≡ s.starts → after.own ≡ s.own → length after.block.kids ≡ length after.ids.items → AreThere new after.ids.items → HasMaps new after
has_same maps new s after has grows starts own even there =
    let count = ap length grows.1 ∙ length-append maps grows.0 in
    let s1 = has.starts in
    let o1 = has.own.within in
    record {
      even = even;
      there = there;
      starts = omega (arith, count, s1, starts);
      own = record {
        within = omega (arith, count, o1, own);
        is = subst (λ m. IsIdentityOf m (map_at new after.own)) (sym (ap (map_at new) starts ∙ map_stays maps new grows s.starts has.starts)) (subst (IsIdentityOf (map_at maps s.starts)) (sym (ap (map_at new) own ∙ map_stays maps new grows s.own has.own.within)) has.own.is);
      };
    }

pub cut_all : (maps new : List StateMap) (s after : Leaf) → HasMaps maps s → Grows maps new → SameButEntries s after → after.count ≡ s.count → after.block.kids ≡ [] → after.ids.items ≡ [] → after.stale ≡ 0 → IsCut maps new s after 0
cut_all maps new s after has grows same count kids ids stale = record {
  has = has_same maps new s after has grows same.starts same.own (ap length kids ∙ sym (ap length ids)) (subst (λ l. AreThere new l) (sym ids) (λ k d inside. absurd (omega (arith, inside))));
  same = same;
  count = count;
  kids = kids;
  kept = λ rising tight. (
    subst (λ l. AreKeptFor (map_at maps s.starts) [] l) (sym stack) none_kept,
    record { tight = subst (λ l. AreTight (map_at new after.starts) after.stale l) (sym stack) tight_none; within = inl stale },
  );
}
  where
    stack : (piece_in new after).stack ≡ []
    stack = (λ i. held_of new (kids i) (ids i))

module _ (maps new : List StateMap) (s after : Leaf) (rest : ℕ) (has : HasMaps maps s) (grows : Grows maps new) (same : SameButEntries s after) (count : after.count ≡ s.count) (some : 0 < rest) (inside : rest ≤ length s.ids.items) (kids : after.block.kids ≡ take rest s.block.kids) where
  kids_count : length (take rest s.block.kids) ≡ rest
  kids_count = let all = length-take rest s.block.kids in let even = has.even in omega (arith, all, even, inside)

  ids_count : length (take rest s.ids.items) ≡ rest
  ids_count = let all = length-take rest s.ids.items in omega (arith, all, inside)

  first_there : AreThere maps (take rest s.ids.items)
  first_there = there_front maps (take rest s.ids.items) (drop rest s.ids.items) (subst (λ l. AreThere maps l) (sym (take-append-drop rest s.ids.items)) has.there)

  keep : List Held
  keep = held_of maps (take rest s.block.kids) (take rest s.ids.items)

  starts_same : map_at new after.starts ≡ map_at maps s.starts
  starts_same = ap (map_at new) same.starts ∙ map_stays maps new grows s.starts has.starts

  parts : (piece_in maps s).stack ≡ held_of maps (take rest s.block.kids) (take rest s.ids.items) ++ held_of maps (drop rest s.block.kids) (drop rest s.ids.items)
  parts = entries_cut maps s.block.kids s.ids.items rest (sym has.even)

  keep_rising : AreRising (piece_in maps s).stack → AreRising (held_of maps (take rest s.block.kids) (take rest s.ids.items))
  keep_rising rising = rising_front (held_of maps (take rest s.block.kids) (take rest s.ids.items)) (held_of maps (drop rest s.block.kids) (drop rest s.ids.items)) (subst AreRising parts rising)

  cut_same : after.ids.items ≡ take rest s.ids.items → after.stale ≡ s.stale → s.stale ≤ rest - 1 → IsCut maps new s after rest
  cut_same ids stale less = record {
    has = has_same maps new s after has grows same.starts same.own (ap length kids ∙ kids_count ∙ sym (ap length ids ∙ ids_count)) (subst (λ l. AreThere new l) (sym ids) (there_grow maps new grows (take rest s.ids.items) first_there));
    same = same;
    count = count;
    kids = kids;
    kept = λ rising tight. (
      subst (λ l. AreKeptFor (map_at maps s.starts) (held_of maps (take rest s.block.kids) (take rest s.ids.items)) l) (sym stack) (kept_self (map_at maps s.starts) (held_of maps (take rest s.block.kids) (take rest s.ids.items)) (keep_rising rising)),
      record {
        tight = subst (λ m. AreTight m after.stale (piece_in new after).stack) (sym starts_same) (subst (λ n. AreTight (map_at maps s.starts) n (piece_in new after).stack) (sym stale) (subst (λ l. AreTight (map_at maps s.starts) s.stale l) (sym stack) (tight_front (held_of maps (take rest s.block.kids) (take rest s.ids.items)) (held_of maps (drop rest s.block.kids) (drop rest s.ids.items)) (subst (λ l. AreTight (map_at maps s.starts) s.stale l) parts tight.tight))));
        within = (let n = ap length ids ∙ ids_count in inr (omega (arith, n, stale, less, some)));
      },
    );
  }
    where
      stack : (piece_in new after).stack ≡ held_of maps (take rest s.block.kids) (take rest s.ids.items)
      stack = (λ i. held_of new (kids i) (ids i)) ∙ entries_stay maps new grows (take rest s.block.kids) (take rest s.ids.items) first_there

  cut_made : (fresh : ℕ) → after.ids.items ≡ slice_set (take rest s.ids.items) (rest - 1) fresh → after.stale ≡ rest - 1 → HasMap new fresh (IsRestricted (map_at maps (slice_index_or (take rest s.ids.items) (rest - 1) 0)) (map_at maps s.starts)) → IsCut maps new s after rest
  cut_made fresh ids stale is = record {
    has = has_same maps new s after has grows same.starts same.own (let a = ap length kids ∙ kids_count in let b = ap length ids_are ∙ length-append top.low (fresh ∷ []) in omega (arith, a, b, low_count)) (subst (λ l. AreThere new l) (sym ids_are) (All-push {X = ℕ} (λ n. n < length new) top.low fresh (there_grow maps new grows top.low low_there) is.within));
    same = same;
    count = count;
    kids = kids;
    kept = λ rising tight. (
      subst (λ l. AreKeptFor (map_at maps s.starts) l (piece_in new after).stack) (sym top.stack) (subst (λ l. AreKeptFor (map_at maps s.starts) (under ++ h ∷ []) l) (sym stack)
          (kept_push under h k (subst AreRising top.stack (keep_rising rising)) refl is.is.rising (λ q live. at q ∙ ap (λ (b : Bool). if b then target (map_at maps top.id) q else None) live))),
      record {
        tight = subst (λ m. AreTight m after.stale (piece_in new after).stack) (sym starts_same) (subst (λ l. AreTight (map_at maps s.starts) after.stale l) (sym stack) (subst (λ n. AreTight (map_at maps s.starts) n (under ++ k ∷ [])) place (tight_end under k (λ q dead. at q ∙ ap (λ (o : Option ℕ). if is_some o then target (map_at maps top.id) q else None) dead))));
        within = (let b = ap length ids_are ∙ length-append top.low (fresh ∷ []) in inr (omega (arith, b, low_count, stale, some)));
      },
    );
  }
    where
      top : HasTop maps (take rest s.block.kids) (take rest s.ids.items)
      top = has_top maps (take rest s.block.kids) (take rest s.ids.items) (ids_count ∙ sym kids_count) (omega (arith, ids_count, some))

      low_count : length top.low + 1 ≡ rest
      low_count = let all = ap length top.ids_are ∙ length-append top.low (top.id ∷ []) in omega (arith, all, ids_count)

      low_there : AreThere maps top.low
      low_there = there_front maps top.low (top.id ∷ []) (subst (λ l. AreThere maps l) top.ids_are first_there)

      ids_are : after.ids.items ≡ top.low ++ fresh ∷ []
      ids_are = ids ∙ ap (λ l. slice_set l (rest - 1) fresh) top.ids_are ∙ set_end top.low top.id fresh (rest - 1) (omega (arith, low_count))

      under : List Held
      under = held_of maps top.below top.low

      h : Held
      h = record { kid = top.kid; states = map_at maps top.id }

      k : Held
      k = record { kid = top.kid; states = map_at new fresh }

      stack : (piece_in new after).stack ≡ held_of maps top.below top.low ++ record { kid = top.kid; states = map_at new fresh } ∷ []
      stack = (λ i. held_of new ((kids ∙ top.kids_are) i) (ids_are i)) ∙ entries_push new top.below top.low top.kid fresh top.even ∙ ap (λ l. l ++ record { kid = top.kid; states = map_at new fresh } ∷ []) (entries_stay maps new grows top.below top.low low_there)

      last_is : slice_index_or (take rest s.ids.items) (rest - 1) 0 ≡ top.id
      last_is =
          let place : rest - 1 ≡ length top.low = omega (arith, low_count) in
          ap (λ l. get_or l (rest - 1) 0) top.ids_are ∙ ap (λ n. get_or (top.low ++ top.id ∷ []) n 0) place ∙ get_or-append_seam top.low top.id [] 0

      at : (q : ℕ) → target (map_at new fresh) q ≡ (if is_some (target (map_at maps s.starts) q) then target (map_at maps top.id) q else None)
      at q = is.is.targets q ∙ ap (λ n. if is_some (target (map_at maps s.starts) q) then target (map_at maps n) q else None) last_is

      place : length (held_of maps top.below top.low) ≡ after.stale
      place = let long = entries_length maps top.below top.low top.even in omega (arith, long, low_count, stale)

  pub cut_some : IsFreshAt maps new s.starts s.stale after.stale (rest - 1) (take rest s.ids.items) after.ids.items → IsCut maps new s after rest
  cut_some (was_fresh less stale ids) = cut_same ids stale less
  cut_some (made_fresh fresh less stale ids is) = cut_made fresh ids stale is
