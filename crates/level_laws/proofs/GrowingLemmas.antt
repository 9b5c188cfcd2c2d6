-- Maps of entries where starts err, where entries are pushed and taken off, and at the end.
use Rattle.std.proofs.Common.{◌≡◌, ℕ, ◌≤◌, ◌⊎◌, inl, inr, Bool, if◌then◌else◌, List, [], ◌∷◌, ◌++◌, length, Option, Some, None, refl, sym, ap, ◌∙◌, subst, arith}
use Rattle.std.proofs.lemmas.List.{length_push}
use Rattle.std.specs.Prelude.{IsSome, is_some, option_and_then}
use Rattle.grammar_data.specs.declared.rule.Sym.{Sym}
use Rattle.grammar_data.specs.declared.rule.Sym.TheVariants.{Token}
use Rattle.tree_theory.specs.Stores.{Store}
use Rattle.table_data.specs.Tables.{Tables, step_by}
use Rattle.map_theory.specs.Maps.{StateMap, target, IsRising, IsMapOf}
use Rattle.map_theory.specs.Relations.{IsThenSymbol}
use Rattle.piece_theory.specs.Pieces.{Fault, Floor, Held}
use Rattle.piece_theory.specs.Applies.{HasSymbol}
use Rattle.piece_theory.specs.WellMade.{start_of, AreStacked, on_ground, on_floor, AreSteps, no_step, step_on}
use Rattle.piece_theory.specs.Laws.{HasMore}
use Rattle.piece_theory.proofs.StoreLemmas.{symbol_more}
use Rattle.level_laws.specs.Levels.{IsMoved}
use Rattle.level_laws.specs.Growing.{FollowOn, follow_none, follow, IsTight, AreTight, tight_none, loose, tight, IsFresh}
use Rattle.level_laws.specs.Laws.{OpenedPieceLaw, LookedPieceLaw, PushedPieceLaw, TakenPieceLaw, TakenFreshLaw, WholePieceLaw, FloorPieceLaw, MoreNodesLaw, LastMapLaw, AreFresh, fresh_none, fresh_more, ExactMapsLaw}
use Rattle.level_laws.proofs.LevelLemmas.{or_none, no_some, floors_moved, level_new}

-- ---- entries that are kept

-- the entries have the same kids, and the same states for these starts
pub data AreKept (alive : StateMap) : List Held → List Held → Type 0 where
  kept_none : AreKept alive [] []
  kept_more : {h g : Held} {hs gs : List Held} → g.kid ≡ h.kid → IsRising g.states → ((q : ℕ) → IsSome (target alive q) → target g.states q ≡ target h.states q) → AreKept alive hs gs → AreKept alive (h ∷ hs) (g ∷ gs)

pub follow_kept : {t : Tables} {store : Store} {alive fewer : StateMap} → ((q : ℕ) → IsSome (target fewer q) → IsSome (target alive q)) → {hs gs : List Held} {from from1 : ℕ → Option ℕ} → ((q : ℕ) → IsSome (target fewer q) → from1 q ≡ from q) → FollowOn t store alive from hs → AreKept fewer hs gs → FollowOn t store fewer from1 gs
follow_kept less agree follow_none kept_none = follow_none
follow_kept {t} {store} less agree (follow x symbol rising at more) (kept_more kid up same rest) =
    follow x (subst (λ k. HasSymbol t.rules store k x) (sym kid) symbol) up (λ q is. same q is ∙ at q (less q is) ∙ ap (option_and_then (λ p. step_by t p x)) (sym (agree q is))) (follow_kept less same more rest)

risings : {t : Tables} {store : Store} {alive : StateMap} {hs : List Held} {from : ℕ → Option ℕ} (fewer : StateMap) → FollowOn t store alive from hs → AreKept fewer hs hs
risings fewer follow_none = kept_none
risings fewer (follow x symbol rising at more) = kept_more refl rising (λ q is. refl) (risings fewer more)

-- the last entry may be another
kept_last : {t : Tables} {store : Store} {alive fewer : StateMap} (under : List Held) (h g : Held) {from : ℕ → Option ℕ} → FollowOn t store alive from (under ++ h ∷ []) → g.kid ≡ h.kid → IsRising g.states → ((q : ℕ) → IsSome (target fewer q) → target g.states q ≡ target h.states q) → AreKept fewer (under ++ h ∷ []) (under ++ g ∷ [])
kept_last [] h g (follow x symbol rising at more) kid up same = kept_more kid up same kept_none
kept_last (e ∷ under) h g (follow x symbol rising at more) kid up same = kept_more refl rising (λ q is. refl) (kept_last under h g more kid up same)

follow_keep : {t : Tables} {store : Store} {alive : StateMap} (hs taken : List Held) {from : ℕ → Option ℕ} → FollowOn t store alive from (hs ++ taken) → FollowOn t store alive from hs
follow_keep [] taken all = follow_none
follow_keep (h ∷ hs) taken (follow x symbol rising at more) = follow x symbol rising at (follow_keep hs taken more)

follow_push : {t : Tables} {store : Store} {alive : StateMap} (under : List Held) (h new : Held) (y : Sym) {from : ℕ → Option ℕ} → FollowOn t store alive from (under ++ h ∷ []) → HasSymbol t.rules store new.kid y → IsThenSymbol t y h.states new.states → FollowOn t store alive from ((under ++ h ∷ []) ++ new ∷ [])
follow_push [] h new y (follow x symbol rising at more) is map = follow x symbol rising at (follow y is map.rising (λ q live. map.targets q) follow_none)
follow_push (e ∷ under) h new y (follow x symbol rising at more) is map = follow x symbol rising at (follow_push under h new y more is map)

-- ---- entries that have alive starts alone

tight_last : {alive : StateMap} (under : List Held) (h : Held) → IsTight alive h → AreTight alive (length under) (under ++ h ∷ [])
tight_last [] h is = tight is tight_none
tight_last (e ∷ under) h is = loose (tight_last under h is)

tight_keep : {alive : StateMap} (hs taken : List Held) {stale : ℕ} → AreTight alive stale (hs ++ taken) → AreTight alive stale hs
tight_keep [] taken all = tight_none
tight_keep (h ∷ hs) taken (loose more) = loose (tight_keep hs taken more)
tight_keep (h ∷ hs) taken (tight is more) = tight is (tight_keep hs taken more)

tight_push : {alive : StateMap} (under : List Held) (h new : Held) {stale : ℕ} → AreTight alive stale (under ++ h ∷ []) → stale ≤ length under → (IsTight alive h → IsTight alive new) → AreTight alive stale ((under ++ h ∷ []) ++ new ∷ [])
tight_push [] h new (loose more) less go = absurd (omega (arith, less))
tight_push [] h new (tight is more) less go = tight is (tight (go is) tight_none)
tight_push (e ∷ under) h new (loose more) less go = loose (tight_push under h new more (omega (arith, less)) go)
tight_push (e ∷ under) h new (tight is more) less go = tight is (tight_push under h new more (omega arith) go)

pub tight_top : {alive : StateMap} (under : List Held) (h : Held) {stale : ℕ} → AreTight alive stale (under ++ h ∷ []) → stale ≤ length under → IsTight alive h
tight_top [] h (loose more) less = absurd (omega (arith, less))
tight_top [] h (tight is more) less = is
tight_top (e ∷ under) h (loose more) less = tight_top under h more (omega (arith, less))
tight_top (e ∷ under) h (tight is more) less = tight_top under h more (omega arith)

-- ---- maps that are restricted

pub fresh_at : {alive : StateMap} {h fresh : Held} → IsFresh alive h fresh → (q : ℕ) → IsSome (target alive q) → target fresh.states q ≡ target h.states q
fresh_at {h = h} is q live = is.states.targets q ∙ ap (λ (b : Bool). if b then target h.states q else None) live

pub fresh_none_at : {alive : StateMap} {h fresh : Held} → IsFresh alive h fresh → IsTight alive fresh
fresh_none_at {h = h} is q none = is.states.targets q ∙ ap (λ (o : Option ℕ). if is_some o then target h.states q else None) none

-- ---- the piece of one token

pub opened_piece_law : OpenedPieceLaw
opened_piece_law t store p f h floors stack unopened none starts symbol after = record {
  on_floors = floors;
  on_stack = stack;
  floors = on_ground unopened (level_new none starts);
  maps = subst (λ l. FollowOn t store f.starts (start_of f.starts) l) (sym stack) (follow (Token p.first.id) symbol after.rising first follow_none);
  tight = subst (λ l. AreTight f.starts 0 l) (sym stack) (tight alone tight_none);
  within = omega arith;
}
  where
    by_start : (o s : Option ℕ) (q : ℕ) → s ≡ option_and_then (λ p. Some q) o → IsSome s → option_and_then (λ b. Some q) s ≡ Some q
    by_start o (Some b) q e is = refl
    by_start o None q e is = absurd (no_some {A = ℕ} {o = None} refl is)

    first : (q : ℕ) → IsSome (target f.starts q) → target h.states q ≡ option_and_then (λ r. step_by t r (Token p.first.id)) (start_of f.starts q)
    first q is = after.targets q ∙ ap (option_and_then (λ r. step_by t r (Token p.first.id))) (sym (by_start (step_by t q (Token p.first.id)) (target f.starts q) q (starts.targets q) is))

    gone : (q : ℕ) (o : Option ℕ) → option_and_then (λ p. Some q) o ≡ None → o ≡ None
    gone q None e = refl
    gone q (Some b) e = absurd (cc)

    alone : IsTight f.starts h
    alone q none = after.targets q ∙ gone q (step_by t q (Token p.first.id)) (sym (starts.targets q) ∙ none)

-- ---- looks

moved_fewer : {dies : ℕ → Option Fault} {f g : Floor} → IsMoved dies f g → (q : ℕ) → IsSome (target g.starts q) → target g.starts q ≡ target f.starts q
moved_fewer {dies} {f} {g} moved q is = cases (or_none (dies q))
  where
    cases : (dies q ≡ None) ⊎ IsSome (dies q) → target g.starts q ≡ target f.starts q
    cases (inl none) = moved.stay q none
    cases (inr some) = absurd (no_some (moved.gone q some) is)

pub looked_piece_law : LookedPieceLaw
looked_piece_law t store p looked lower f g under h fresh stale dies growing same moved top floors stack = record {
  on_floors = floors;
  on_stack = stack;
  floors = subst (λ a. AreStacked t a lower g) (sym same) (floors_moved g growing.floors moved);
  maps = subst (λ l. FollowOn t store g.starts (start_of g.starts) l) (sym stack) (follow_kept fewer agree all (kept_last under h fresh all top.kid top.states.rising (fresh_at top)));
  tight = subst (λ l. AreTight g.starts (length under) l) (sym stack) (tight_last under fresh (fresh_none_at top));
  within = omega arith;
}
  where
    all : FollowOn t store f.starts (start_of f.starts) (under ++ h ∷ [])
    all = subst (λ l. FollowOn t store f.starts (start_of f.starts) l) growing.on_stack growing.maps

    fewer : (q : ℕ) → IsSome (target g.starts q) → IsSome (target f.starts q)
    fewer q is = sym (ap is_some (moved_fewer moved q is)) ∙ is

    agree : (q : ℕ) → IsSome (target g.starts q) → start_of g.starts q ≡ start_of f.starts q
    agree q is = ap (option_and_then (λ p. Some q)) (moved_fewer moved q is)

-- ---- entries pushed and taken off

pub pushed_piece_law : PushedPieceLaw
pushed_piece_law t store p more lower f under h new x stale growing same floors symbol map stack = record {
  on_floors = floors ∙ growing.on_floors;
  on_stack = all;
  floors = subst (λ a. AreStacked t a lower f) (sym same) growing.floors;
  maps = subst (λ l. FollowOn t store f.starts (start_of f.starts) l) (sym all) (follow_push under h new x (subst (λ l. FollowOn t store f.starts (start_of f.starts) l) growing.on_stack growing.maps) symbol map);
  tight = subst (λ l. AreTight f.starts stale l) (sym all) (tight_push under h new (subst (λ l. AreTight f.starts stale l) growing.on_stack growing.tight) growing.within (λ is q none. map.targets q ∙ ap (option_and_then (λ r. step_by t r x)) (is q none)));
  within = let count = growing.within in let long = length_push under h in omega (arith, count, long);
}
  where
    all : more.stack ≡ (under ++ h ∷ []) ++ new ∷ []
    all = stack ∙ ap (λ l. l ++ new ∷ []) growing.on_stack

pub taken_piece_law : TakenPieceLaw
taken_piece_law t store p left lower f under h stale low taken top fresh growing same floors parts is stack = record {
  on_floors = floors ∙ growing.on_floors;
  on_stack = stack;
  floors = subst (λ a. AreStacked t a lower f) (sym same) growing.floors;
  maps = subst (λ l. FollowOn t store f.starts (start_of f.starts) l) (sym stack) (follow_kept (λ q live. live) (λ q live. refl) kept (kept_last low top fresh kept is.kid is.states.rising (fresh_at is)));
  tight = subst (λ l. AreTight f.starts (length low) l) (sym stack) (tight_last low fresh (fresh_none_at is));
  within = omega arith;
}
  where
    kept : FollowOn t store f.starts (start_of f.starts) (low ++ top ∷ [])
    kept = follow_keep (low ++ top ∷ []) taken (subst (λ l. FollowOn t store f.starts (start_of f.starts) l) parts growing.maps)

pub taken_fresh_law : TakenFreshLaw
taken_fresh_law t store p left lower f under h stale low taken top growing same floors parts less stack = record {
  on_floors = floors ∙ growing.on_floors;
  on_stack = stack;
  floors = subst (λ a. AreStacked t a lower f) (sym same) growing.floors;
  maps = subst (λ l. FollowOn t store f.starts (start_of f.starts) l) (sym stack) (follow_keep (low ++ top ∷ []) taken (subst (λ l. FollowOn t store f.starts (start_of f.starts) l) parts growing.maps));
  tight = subst (λ l. AreTight f.starts stale l) (sym stack) (tight_keep (low ++ top ∷ []) taken (subst (λ l. AreTight f.starts stale l) parts growing.tight));
  within = less;
}

-- ---- one entry on the floors

-- a map one step on from the starts themselves
one_follows : {t : Tables} {store : Store} (f : Floor) {new : Held} (x : Sym) → HasSymbol t.rules store new.kid x → IsMapOf (λ q. option_and_then (λ p. step_by t p x) (start_of f.starts q)) new.states → FollowOn t store f.starts (start_of f.starts) (new ∷ [])
one_follows f x symbol map = follow x symbol map.rising (λ q is. map.targets q) follow_none

one_tight : (t : Tables) (f : Floor) {new : Held} (x : Sym) → IsMapOf (λ q. option_and_then (λ p. step_by t p x) (start_of f.starts q)) new.states → AreTight f.starts 0 (new ∷ [])
one_tight t f x map = tight (λ q none. map.targets q ∙ ap (λ (o : Option ℕ). option_and_then (λ p. step_by t p x) (option_and_then (λ b. Some q) o)) none) tight_none

pub whole_piece_law : WholePieceLaw
whole_piece_law t store p more lower f under h new x stale growing same floors symbol map stack = record {
  on_floors = floors ∙ growing.on_floors;
  on_stack = stack;
  floors = subst (λ a. AreStacked t a lower f) (sym same) growing.floors;
  maps = subst (λ l. FollowOn t store f.starts (start_of f.starts) l) (sym stack) (one_follows f x symbol map);
  tight = subst (λ l. AreTight f.starts 0 l) (sym stack) (one_tight t f x map);
  within = omega arith;
}

pub floor_piece_law : FloorPieceLaw
floor_piece_law t store p more lower f g under h new x stale opened growing same is none some less starts symbol map floors stack = record {
  on_floors = floors;
  on_stack = stack;
  floors = subst (λ a. AreStacked t a p.floors g) (sym same) (on_floor opened growing.floors growing.on_floors is some less (level_new none starts));
  maps = subst (λ l. FollowOn t store g.starts (start_of g.starts) l) (sym stack) (one_follows g x symbol map);
  tight = subst (λ l. AreTight g.starts 0 l) (sym stack) (one_tight t g x map);
  within = omega arith;
}

-- ---- facts of a growing piece

follow_more : {t : Tables} {store more : Store} {alive : StateMap} → HasMore store more → {hs : List Held} {from : ℕ → Option ℕ} → FollowOn t store alive from hs → FollowOn t more alive from hs
follow_more all follow_none = follow_none
follow_more {t} all (follow x symbol rising at rest) = follow x (symbol_more all symbol) rising at (follow_more all rest)

pub more_nodes_law : MoreNodesLaw
more_nodes_law t store more p lower f under h stale all growing = record {
  on_floors = growing.on_floors;
  on_stack = growing.on_stack;
  floors = growing.floors;
  maps = follow_more all growing.maps;
  tight = growing.tight;
  within = growing.within;
}

pub last_map_law : LastMapLaw
last_map_law t store p lower f under h stale growing = tight_top under h (subst (λ l. AreTight f.starts stale l) growing.on_stack growing.tight) growing.within

-- ---- at the end

pub exact_maps : {t : Tables} {store : Store} {alive : StateMap} {hs fresh : List Held} {from from1 : ℕ → Option ℕ} → ((q : ℕ) → IsSome (target alive q) → from1 q ≡ from q) → ((q : ℕ) → target alive q ≡ None → from1 q ≡ None) → FollowOn t store alive from hs → AreFresh alive hs fresh → AreSteps t store from1 fresh
exact_maps agree none follow_none fresh_none = no_step
exact_maps {t} {store} {alive} {from = from} {from1 = from1} agree none (follow {h = h} x symbol rising at more) (fresh_more {fresh = g} is rest) =
    step_on x (subst (λ k. HasSymbol t.rules store k x) (sym is.kid) symbol) is.states.rising (λ q. step q (or_none (target alive q))) (exact_maps (fresh_at is) (fresh_none_at is) more rest)
  where
    step : (q : ℕ) → (target alive q ≡ None) ⊎ IsSome (target alive q) → target g.states q ≡ option_and_then (λ p. step_by t p x) (from1 q)
    step q (inl gone) = fresh_none_at is q gone ∙ ap (option_and_then (λ p. step_by t p x)) (sym (none q gone))
    step q (inr live) = fresh_at is q live ∙ at q live ∙ ap (option_and_then (λ p. step_by t p x)) (sym (agree q live))

pub exact_maps_law : ExactMapsLaw
exact_maps_law t store alive hs fresh maps are = exact_maps (λ q live. refl) (λ q none. ap (option_and_then (λ p. Some q)) none) maps are
