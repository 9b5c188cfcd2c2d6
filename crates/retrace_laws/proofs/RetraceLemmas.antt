-- Maps that are found again by steps, and pieces that have them.
use Rattle.std.proofs.Common.{◌≡◌, ℕ, ◌⊎◌, inl, inr, Bool, if◌then◌else◌, List, [], ◌∷◌, ◌++◌, length, Option, None, suc, refl, sym, ap, ◌∙◌, subst, arith}
use Rattle.std.proofs.lemmas.List.{length_push}
use Rattle.std.specs.Prelude.{IsSome, is_some, option_and_then}
use Rattle.grammar_data.specs.declared.rule.Sym.{Sym}
use Rattle.grammar_data.specs.declared.token.Token.{Token as TextToken}
use Rattle.tree_theory.specs.Stores.{Store}
use Rattle.table_data.specs.Tables.{Tables, step_by}
use Rattle.machine_theory.specs.Machine.{Entry, top}
use Rattle.map_theory.specs.Maps.{StateMap, target}
use Rattle.part_theory.specs.Moves.{Move}
use Rattle.part_theory.specs.Parts.{IsContext}
use Rattle.piece_theory.specs.Pieces.{Floor, Held, Piece}
use Rattle.piece_theory.specs.Applies.{HasSymbol, TakesRight, Fails, Fitted}
use Rattle.piece_theory.specs.WellMade.{start_of, AreStacked, AreSteps, no_step, step_on}
use Rattle.piece_theory.proofs.ResultLemmas.{symbol_once}
use Rattle.arm_laws.specs.Did.{Did, did_err, did_leave, over, AreSameAt, none_same, same_first}
use Rattle.arm_laws.proofs.PutLemmas.{put_same}
use Rattle.arm_laws.proofs.ArmLemmas.{leaves_by, leaves_with}
use Rattle.level_laws.specs.Growing.{FollowOn, follow_none, follow, AreTight, loose, tight, IsGrowing}
use Rattle.level_laws.specs.Laws.{AreFresh, fresh_none, fresh_more}
use Rattle.level_laws.proofs.LevelLemmas.{or_none}
use Rattle.level_laws.proofs.GrowingLemmas.{AreKept, kept_none, kept_more, follow_kept, fresh_at, fresh_none_at, last_map_law}
use Rattle.leaf_laws.proofs.EndLemmas.{alive_below, over_top}
use Rattle.retrace_laws.specs.Retraced.{HaveSameKids, no_kids, same_kids, IsRetraced}
use Rattle.retrace_laws.specs.Laws.{RetracedMapsLaw, RetracedPieceLaw, RetracedOpenLaw, RetracedLeafLaw}

-- ---- steps that are made again

retraced_maps : {t : Tables} {store : Store} {alive : StateMap} {hs fresh : List Held} → HaveSameKids hs fresh → {from again : ℕ → Option ℕ} → FollowOn t store alive from hs → AreSteps t store again fresh → ((q : ℕ) → again q ≡ (if is_some (target alive q) then from q else None)) → AreFresh alive hs fresh
retraced_maps no_kids follow_none no_step agree = fresh_none
retraced_maps {t} {store} {alive} (same_kids kid rest) {from} {again} (follow {h = h} x symbol rising at more) (step_on {h = g} y symbol1 rising1 at1 more1) agree =
    fresh_more (record { kid = kid; states = record { rising = rising1; targets = λ q. by q (or_none (target alive q)) } }) (retraced_maps rest more more1 (λ q. by q (or_none (target alive q))))
  where
    same : y ≡ x
    same = symbol_once symbol1 (subst (λ k. HasSymbol t.rules store k x) (sym kid) symbol)

    by : (q : ℕ) → (target alive q ≡ None) ⊎ IsSome (target alive q) → target g.states q ≡ (if is_some (target alive q) then target h.states q else None)
    by q (inl none) = at1 q ∙ ap (option_and_then (λ p. step_by t p y)) (agree q ∙ ap (λ (o : Option ℕ). if is_some o then from q else None) none) ∙ sym (ap (λ (o : Option ℕ). if is_some o then target h.states q else None) none)
    by q (inr live) = at1 q ∙ ap (option_and_then (λ p. step_by t p y)) (agree q ∙ ap (λ (b : Bool). if b then from q else None) live) ∙ ap (λ (z : Sym). option_and_then (λ p. step_by t p z) (from q)) same ∙ sym (at q live) ∙ sym (ap (λ (b : Bool). if b then target h.states q else None) live)

pub retraced_maps_law : RetracedMapsLaw
retraced_maps_law t store alive from again hs fresh maps agree steps kids = retraced_maps kids maps steps agree

-- ---- lists in which some entries are others

kept_all : {t : Tables} {store : Store} {alive : StateMap} {hs : List Held} {from : ℕ → Option ℕ} → FollowOn t store alive from hs → AreKept alive hs hs
kept_all follow_none = kept_none
kept_all (follow x symbol rising at more) = kept_more refl rising (λ q is. refl) (kept_all more)

kept_old : {t : Tables} {store : Store} {alive : StateMap} {old fresh : List Held} (rest : List Held) {from : ℕ → Option ℕ} → FollowOn t store alive from (old ++ rest) → AreFresh alive old fresh → AreKept alive (old ++ rest) (fresh ++ rest)
kept_old rest maps fresh_none = kept_all maps
kept_old rest (follow x symbol rising at more) (fresh_more is others) = kept_more is.kid is.states.rising (fresh_at is) (kept_old rest more others)

kept_low : {t : Tables} {store : Store} {alive : StateMap} (low : List Held) {old fresh : List Held} (rest : List Held) {from : ℕ → Option ℕ} → FollowOn t store alive from (low ++ (old ++ rest)) → AreFresh alive old fresh → AreKept alive (low ++ (old ++ rest)) (low ++ (fresh ++ rest))
kept_low [] rest maps are = kept_old rest maps are
kept_low (h ∷ low) rest (follow x symbol rising at more) are = kept_more refl rising (λ q is. refl) (kept_low low rest more are)

tight_old : {alive : StateMap} {old fresh : List Held} (rest : List Held) {stale : ℕ} → AreTight alive stale (old ++ rest) → AreFresh alive old fresh → AreTight alive stale (fresh ++ rest)
tight_old rest all fresh_none = all
tight_old rest (loose more) (fresh_more is others) = loose (tight_old rest more others)
tight_old rest (tight t more) (fresh_more is others) = tight (fresh_none_at is) (tight_old rest more others)

tight_low : {alive : StateMap} (low : List Held) {old fresh : List Held} (rest : List Held) {stale : ℕ} → AreTight alive stale (low ++ (old ++ rest)) → AreFresh alive old fresh → AreTight alive stale (low ++ (fresh ++ rest))
tight_low [] rest all are = tight_old rest all are
tight_low (h ∷ low) rest (loose more) are = loose (tight_low low rest more are)
tight_low (h ∷ low) rest (tight is more) are = tight is (tight_low low rest more are)

same_all : (q : ℕ) (hs : List Held) → AreSameAt q hs hs
same_all q [] = none_same
same_all q (h ∷ hs) = same_first refl refl (same_all q hs)

same_old : {alive : StateMap} {old fresh : List Held} (q : ℕ) → IsSome (target alive q) → (rest : List Held) → AreFresh alive old fresh → AreSameAt q (old ++ rest) (fresh ++ rest)
same_old q live rest fresh_none = same_all q rest
same_old q live rest (fresh_more is more) = same_first is.kid (fresh_at is q live) (same_old q live rest more)

same_low : {alive : StateMap} (low : List Held) {old fresh : List Held} (q : ℕ) → IsSome (target alive q) → (rest : List Held) → AreFresh alive old fresh → AreSameAt q (low ++ (old ++ rest)) (low ++ (fresh ++ rest))
same_low [] q live rest are = same_old q live rest are
same_low (h ∷ low) q live rest are = same_first refl refl (same_low low q live rest are)

long_old : {alive : StateMap} {old fresh : List Held} (rest : List Held) → AreFresh alive old fresh → length (fresh ++ rest) ≡ length (old ++ rest)
long_old rest fresh_none = refl
long_old rest (fresh_more is more) = ap suc (long_old rest more)

long_low : {alive : StateMap} (low : List Held) {old fresh : List Held} (rest : List Held) → AreFresh alive old fresh → length (low ++ (fresh ++ rest)) ≡ length (low ++ (old ++ rest))
long_low [] rest are = long_old rest are
long_low (h ∷ low) rest are = ap suc (long_low low rest are)

-- ---- the piece

pub retraced_piece_law : RetracedPieceLaw
retraced_piece_law t store p again lower f under after h top stale growing is = record {
  on_floors = is.floors ∙ growing.on_floors;
  on_stack = is.on_stack;
  floors = subst (λ a. AreStacked t a lower f) (sym is.first) growing.floors;
  maps = subst (λ l. FollowOn t store f.starts (start_of f.starts) l) (sym is.behind) (follow_kept (λ q live. live) (λ q live. refl) maps (kept_low is.low is.rest maps is.maps));
  tight = subst (λ l. AreTight f.starts stale l) (sym is.behind) (tight_low is.low is.rest (subst (λ l. AreTight f.starts stale l) is.before growing.tight) is.maps);
  within = let within = growing.within in let one = length_push under h in let other = length_push after top in omega (arith, within, one, other, long);
}
  where
    maps : FollowOn t store f.starts (start_of f.starts) (is.low ++ (is.old ++ is.rest))
    maps = subst (λ l. FollowOn t store f.starts (start_of f.starts) l) is.before growing.maps

    long : length (after ++ top ∷ []) ≡ length (under ++ h ∷ [])
    long = ap length (sym is.on_stack ∙ is.behind) ∙ long_low is.low is.rest is.maps ∙ ap length (sym is.before ∙ growing.on_stack)

-- what the piece does from a context it does with the other maps too
retraced_did : {t : Tables} {store : Store} {p again : Piece} {input next : List TextToken} {lower : List Floor} {f : Floor} {under after : List Held} {h top : Held} {stale : ℕ} → IsGrowing t store p lower f under h stale → IsRetraced f p again after top → (s : List Entry) {moves : List Move} → Did t store p input next moves s → Did t store again input next moves s
retraced_did growing is s (did_err {fault = fault} fails by) = did_err (subst (λ l. Fails l s fault) (sym is.floors) fails) by
retraced_did {t} {store} {p} {again} {lower = lower} {f = f} {under = under} {h = h} {stale = stale} growing is s (did_leave {last = last} leaves run) =
    let by = leaves_by {t = t} {store = store} {p = p} lower f (is.low ++ (is.old ++ is.rest)) growing.on_floors is.before leaves in
    let state = sym (over_top growing (top 0 by.rest)) ∙ ap (λ l. over l (top 0 by.rest)) is.before ∙ by.over_all in
    let alive = alive_below f.starts h (last_map_law t store p lower f under h stale growing) (top 0 by.rest) (top 0 last) state in
    did_leave (leaves_with t store again (lower ++ f ∷ []) (is.low ++ (is.fresh ++ is.rest)) (is.floors ∙ growing.on_floors) is.behind by.down (put_same (same_low is.low (top 0 by.rest) alive is.rest is.maps) by.up)) run

retraced_right : {t : Tables} {f : Floor} {p again : Piece} {after : List Held} {top : Held} → IsRetraced f p again after top → TakesRight t p → TakesRight t again
retraced_right {t} is right s on = subst (λ l. Fitted t.rules l s) (sym is.floors) (right s (subst (λ (a : TextToken). IsContext t a.id s) is.first on))

pub retraced_open_law : RetracedOpenLaw
retraced_open_law t store p again w next lower f under after h top stale piece is = record {
  growing = retraced_piece_law t store p again lower f under after h top stale piece.growing is;
  did = λ s on. let by = piece.did s (subst (λ (a : TextToken). IsContext t a.id s) is.first on) in (by.0, retraced_did piece.growing is s by.1);
  right = retraced_right is piece.right;
}

pub retraced_leaf_law : RetracedLeafLaw
retraced_leaf_law t store p again w next lower f under after h top stale leaf is = record {
  growing = retraced_piece_law t store p again lower f under after h top stale leaf.growing is;
  moves = leaf.moves;
  did = λ s on. retraced_did leaf.growing is s (leaf.did s (subst (λ (a : TextToken). IsContext t a.id s) is.first on));
  right = retraced_right is leaf.right;
}
