-- Maps over entries, one after the other.
use Rattle.std.proofs.Common.{◌≡◌, ℕ, ◌<◌, List, [], ◌∷◌, ◌++◌, length, Option, refl, sym, ap, ◌∙◌, subst, arith}
use Rattle.std.specs.Prelude.{option_and_then}
use Rattle.std.proofs.lemmas.List.{length-append, length_push}
use Rattle.std.proofs.lemmas.List.Elements.{All-push, All-nil, All-weaker}
use Rattle.grammar_data.specs.declared.rule.Sym.{Sym}
use Rattle.node_data.specs.declared.kid.Kid.{Kid}
use Rattle.tree_theory.specs.Stores.{Store}
use Rattle.table_data.specs.Tables.{Tables, step_by}
use Rattle.map_theory.specs.Maps.{StateMap, target}
use Rattle.map_theory.specs.Relations.{IsThenSymbol}
use Rattle.piece_theory.specs.Pieces.{Held}
use Rattle.piece_theory.specs.Applies.{HasSymbol}
use Rattle.piece_theory.specs.WellMade.{AreSteps, no_step, step_on}
use Rattle.arrow_table.specs.Looks.{Grows, HasMap, map_at}
use Rattle.segment_parser.specs.Working.{held_of}
use Rattle.segment_parser.specs.Entering.{over_all, AreEntered}
use Rattle.segment_parser.proofs.HeldLemmas.{held_grows, held_push}

steps_push : {t : Tables} {store : Store} {hs : List Held} {from : ℕ → Option ℕ} → AreSteps t store from hs → (x : Sym) (h : Held) (below : StateMap) → ((q : ℕ) → target below q ≡ over_all from hs q) → HasSymbol t.rules store h.kid x → IsThenSymbol t x below h.states → AreSteps t store from (hs ++ h ∷ [])
steps_push {t} no_step x h below same symbol map = step_on x symbol map.rising (λ q. map.targets q ∙ ap (option_and_then (λ p. step_by t p x)) (same q)) no_step
steps_push (step_on y has rising at more) x h below same symbol map = step_on y has rising at (steps_push more x h below same symbol map)

pub over_push : (from : ℕ → Option ℕ) (hs : List Held) (h : Held) (q : ℕ) → over_all from (hs ++ h ∷ []) q ≡ target h.states q
over_push from [] h q = refl
over_push from (g ∷ hs) h q = over_push (target g.states) hs h q

-- the entries so far
pub record EntersTo (t : Tables) (store : Store) (from : ℕ → Option ℕ) (maps : List StateMap) (kids : List Kid) (ids : List ℕ) (top : ℕ) : Type 0 where
  pub entered : AreEntered t store from maps kids ids
  pub inside : top < length maps
  pub over : (q : ℕ) → target (map_at maps top) q ≡ over_all from (held_of maps kids ids) q

pub enters_none : (t : Tables) (store : Store) (maps : List StateMap) (own : ℕ) → own < length maps → EntersTo t store (target (map_at maps own)) maps [] [] own
enters_none t store maps own inside = record {
  entered = record { even = refl; there = All-nil {X = ℕ} (λ id. id < length maps); steps = no_step };
  inside = inside;
  over = λ q. refl;
}

pub enters_more : (t : Tables) (store : Store) (from : ℕ → Option ℕ) (maps new : List StateMap) (kids : List Kid) (ids : List ℕ) (top to : ℕ) (kid : Kid) (x : Sym) → Grows maps new → EntersTo t store from maps kids ids top → HasSymbol t.rules store kid x → HasMap new to (IsThenSymbol t x (map_at maps top)) → EntersTo t store from new (kids ++ kid ∷ []) (ids ++ to ∷ []) to
enters_more t store from maps new kids ids top to kid x grows before symbol has =
    let stay = held_grows maps new grows kids ids before.entered.there in
    let count = ap length grows.1 ∙ length-append maps grows.0 in
    let push = held_push new kids ids kid to (sym before.entered.even) ∙ ap (λ l. l ++ record { kid = kid; states = map_at new to } ∷ []) stay in
    let ids_count = length_push ids to in
    let kids_count = length_push kids kid in
    let even = before.entered.even in
    record {
      entered = record {
        even = omega (arith, ids_count, kids_count, even);
        there = All-push {X = ℕ} (λ id. id < length new) ids to (All-weaker {X = ℕ} (λ id. id < length maps) (λ id. id < length new) (λ id less. omega (arith, less, count)) ids before.entered.there) has.within;
        steps = subst (λ l. AreSteps t store from l) (sym push) (steps_push before.entered.steps x (record { kid = kid; states = map_at new to }) (map_at maps top) before.over symbol has.is);
      };
      inside = has.within;
      over = λ q. sym (ap (λ l. over_all from l q) push ∙ over_push from (held_of maps kids ids) (record { kid = kid; states = map_at new to }) q);
    }
