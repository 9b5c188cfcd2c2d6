-- The joined piece at the end is well made.
use Rattle.std.proofs.Common.{◌≡◌, ℕ, ◌<◌, if◌then◌else◌, Bool, List, [], ◌∷◌, ◌++◌, reverse, map, length, All, Option, Some, None, IsSome, is_some, refl, sym, ap, ◌∙◌, subst, arith}
use Rattle.std.specs.Prelude.{option_and_then}
use Rattle.std.proofs.lemmas.List.{map-append, length-append}
use Rattle.grammar_data.specs.declared.token.Token.{Token as TextToken}
use Rattle.tree_theory.specs.Stores.{Store}
use Rattle.tree_theory.specs.Walks.{WalksAll}
use Rattle.table_data.specs.Tables.{Tables, step_by}
use Rattle.map_theory.specs.Maps.{StateMap, target}
use Rattle.use_theory.specs.Kept.{IsKept}
use Rattle.use_theory.specs.Spines.{IsSpine}
use Rattle.use_theory.proofs.FillLemmas.{tokens-append, walk_then}
use Rattle.piece_theory.specs.Pieces.{Opened, Held, openings, floor_nodes, kids_of}
use Rattle.piece_theory.specs.Applies.{HasSymbol, nowhere}
use Rattle.piece_theory.specs.WellMade.{HasHidden, start_of, AreFloors, AreSteps, no_step, step_on}
use Rattle.piece_theory.proofs.FloorLemmas.{from_ground}
use Rattle.level_laws.specs.Laws.{AreFresh, fresh_none, fresh_more}
use Rattle.level_laws.proofs.GrowingLemmas.{exact_maps_law}
use Rattle.join_theory.specs.Faults.{over, state_over}
use Rattle.join_theory.proofs.PutLemmas.{alive_start, symbol_kept}
use Rattle.joined_laws.specs.Joining.{ArePut, none_put, put_next, MadeLaw}
use Rattle.joined_laws.proofs.EdgeLemmas.{walks_moved}
use Rattle.joined_laws.proofs.JoiningLemmas.{steps_visible}

-- ---- maps

pub steps_then : {t : Tables} {store : Store} {from : ℕ → Option ℕ} {hs : List Held} → AreSteps t store from hs → {ks : List Held} → AreSteps t store (λ q. over (from q) hs q) ks → AreSteps t store from (hs ++ ks)
steps_then no_step more = more
steps_then (step_on x symbol rising to rest) more = step_on x symbol rising to (steps_then rest more)

-- the states over the entries that are left are those over the entries before, for alive starts alone
pub fresh_over : {alive : StateMap} {hs fresh : List Held} → AreFresh alive hs fresh → (q : ℕ) → IsSome (target alive q) → (from : Option ℕ) → over from fresh q ≡ over from hs q
fresh_over fresh_none q some from = refl
fresh_over {alive} (fresh_more {h = h} {fresh = fresh} {hs = hs} {more = more} is rest) q some from =
    let at : target fresh.states q ≡ target h.states q = is.states.targets q ∙ ap (λ (b : Bool). if b then target h.states q else None) some in
    fresh_over rest q some (target fresh.states q) ∙ ap (λ o. over o hs q) at

pub dead_over : {alive : StateMap} {hs fresh : List Held} → AreFresh alive hs fresh → (q : ℕ) → target alive q ≡ None → (from : Option ℕ) → from ≡ None → over from fresh q ≡ None
dead_over fresh_none q none from is = is
dead_over {alive} (fresh_more {h = h} {fresh = fresh} one rest) q none from is =
    dead_over rest q none (target fresh.states q) (one.states.targets q ∙ ap (λ (o : Option ℕ). if is_some o then target h.states q else None) none)

kids_fresh : {alive : StateMap} {hs fresh : List Held} → AreFresh alive hs fresh → kids_of fresh ≡ kids_of hs
kids_fresh fresh_none = refl
kids_fresh (fresh_more is rest) = λ i. is.kid i ∷ kids_fresh rest i

kids_put : {states : ℕ → Option ℕ} {hs ks : List Held} → ArePut states hs ks → kids_of ks ≡ kids_of hs
kids_put none_put = refl
kids_put (put_next kid map rest) = λ i. kid i ∷ kids_put rest i

-- the right piece's maps over other states are exact, where those states are where its maps begin
put_maps : {t : Tables} {store now : Store} {states : ℕ → Option ℕ} → IsKept store now → {from from1 : ℕ → Option ℕ} {hs ks : List Held} → ((q : ℕ) → from1 q ≡ option_and_then from (states q)) → AreSteps t store from hs → ArePut states hs ks → AreSteps t now from1 ks
put_maps kept agree no_step none_put = no_step
put_maps {t} {store} {now} {states} kept {from} {from1} agree (step_on {h = h} x symbol rising to rest) (put_next {k = k} kid map more) =
    step_on x (subst (λ y. HasSymbol t.rules now y x) (sym kid) (symbol_kept kept symbol)) map.rising exact (put_maps kept (λ q. map.targets q) rest more)
  where
    through_state : (o : Option ℕ) → option_and_then (target h.states) o ≡ option_and_then (λ p. step_by t p x) (option_and_then from o)
    through_state None = refl
    through_state (Some z) = to z

    exact : (q : ℕ) → target k.states q ≡ option_and_then (λ p. step_by t p x) (from1 q)
    exact q = map.targets q ∙ through_state (states q) ∙ ap (option_and_then (λ p. step_by t p x)) (sym (agree q))

-- ---- the whole piece

lands_on : (last : StateMap) (o : Option ℕ) → ((z : ℕ) → o ≡ Some z → IsSome (target last z)) → o ≡ option_and_then (start_of last) o
lands_on last None lands = refl
lands_on last (Some z) lands = sym (alive_start last z (lands z refl))

-- the states over the entries that are left are alive starts of the right piece
states_land : (alive last : StateMap) (hs fresh : List Held) → AreFresh alive hs fresh → ((q z : ℕ) → IsSome (target alive q) → state_over alive hs q ≡ Some z → IsSome (target last z)) → (q : ℕ) → state_over alive fresh q ≡ option_and_then (start_of last) (state_over alive fresh q)
states_land alive last hs fresh are lands q = lands_on last (state_over alive fresh q) (by (target alive q) refl)
  where
    none_then : (o : Option ℕ) → o ≡ None → option_and_then (λ (b : ℕ). Some q) o ≡ None
    none_then o e = ap (option_and_then (λ (b : ℕ). Some q)) e

    not_some : {z : ℕ} → ◌≡◌ {A = Option ℕ} None (Some z) → ⊥
    not_some e = cc

    by : (o : Option ℕ) → target alive q ≡ o → (z : ℕ) → state_over alive fresh q ≡ Some z → IsSome (target last z)
    by None is z at = absurd (not_some (sym (dead_over are q is (start_of alive q) (none_then (target alive q) is)) ∙ at))
    by (Some b) is z at = let some : IsSome (target alive q) = ap is_some is in lands q z some (sym (fresh_over are q some (start_of alive q)) ∙ at)

some_put : {states : ℕ → Option ℕ} {hs ks : List Held} (keep : List Held) → ArePut states hs ks → 0 < length hs → 0 < length (keep ++ ks)
some_put keep none_put some = absurd (omega (arith, some))
some_put keep (put_next {k = k} {ks = ks} kid map rest) some = let all = length-append keep (k ∷ ks) in omega (arith, all)

pub made_law : MadeLaw
made_law t store now left right p next u v steps more lower e keep put beside other made has_floors has kept fresh put_on lands left_first first count floors stack = record {
  last = e.starts;
  floors = subst (λ l. AreFloors t next.first l e.starts) (sym (floors ∙ has_floors.on_floors)) (subst (λ l. AreFloors t l (lower ++ e ∷ []) e.starts) (sym first) (from_ground has_floors.floors));
  nodes = subst (λ l. All {X = Opened} (HasHidden now) (openings l)) (sym floors) has.nodes;
  some_entry = subst (λ l. 0 < length l) (sym stack) (some_put keep put_on other.some_entry);
  maps = subst (λ l. AreSteps t now (start_of e.starts) l) (sym stack) (steps_then (exact_maps_law t now e.starts p.stack keep has_floors.maps fresh) (put_maps kept (states_land e.starts other.last p.stack keep fresh lands) other.maps put_on));
  walk = subst (λ l. WalksAll now nowhere 0 l (has.steps ++ has.more)) (sym kids) (walk_then has.walk (length (kids_of p.stack)) (kids_of right.stack) has.more (omega arith) (walks_moved has.more_walk nowhere (length (kids_of p.stack)) (steps_visible other.maps)));
  yields = tokens-append has.steps has.more ∙ has.yields;
  later = made.later ++ v;
  begins = ap (λ l. l ++ v) made.begins ∙ ap (λ (x : TextToken). x ∷ (made.later ++ v)) (sym left_first ∙ sym first);
  counted = (let all = length-append u v in let one = made.counted in let two = other.counted in omega (arith, all, one, two, count));
  spine = subst (λ l. IsSpine (reverse (floor_nodes l)) (has.steps ++ has.more)) (sym floors) has.spine;
}
  where
    kids : kids_of next.stack ≡ kids_of p.stack ++ kids_of right.stack
    kids = ap kids_of stack ∙ map-append (λ h. h.kid) keep put ∙ (λ i. kids_fresh fresh i ++ kids_put put_on i)
