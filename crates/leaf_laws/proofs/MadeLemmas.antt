-- A well made piece that stands for its tokens is an open one.
use Rattle.std.proofs.Common.{◌≡◌, ℕ, List, [], ◌∷◌, ◌++◌, Option, Some, None, sym, ap, ◌∙◌, subst, append-nil, arith}
use Rattle.std.specs.Prelude.{option_and_then}
use Rattle.std.proofs.lemmas.List.{same_from_push}
use Rattle.grammar_data.specs.declared.token.Token.{Token as TextToken}
use Rattle.tree_theory.specs.Stores.{Store}
use Rattle.table_data.specs.Tables.{Tables, step_by}
use Rattle.machine_theory.specs.Machine.{Entry}
use Rattle.map_theory.specs.Maps.{StateMap, target}
use Rattle.part_theory.specs.Moves.{Move}
use Rattle.part_theory.proofs.MoveLemmas.{reached_by}
use Rattle.piece_theory.specs.Pieces.{Floor, Held, Piece}
use Rattle.piece_theory.specs.Applies.{Tells, tells_error, tells_stack}
use Rattle.piece_theory.specs.WellMade.{start_of, AreStacked, AreSteps, no_step, step_on}
use Rattle.piece_theory.proofs.FloorLemmas.{floors_law}
use Rattle.arm_laws.specs.Did.{Did, did_err, did_leave}
use Rattle.level_laws.specs.Growing.{FollowOn, follow_none, follow, AreTight, tight_none, tight}
use Rattle.leaf_laws.specs.OpenPieces.{MadeOpenLaw}

-- exact maps are exact at the alive starts, and have no others
exact_follow : {t : Tables} {store : Store} (alive : StateMap) {hs : List Held} {from : ℕ → Option ℕ} → AreSteps t store from hs → FollowOn t store alive from hs
exact_follow alive no_step = follow_none
exact_follow alive (step_on x symbol rising at more) = follow x symbol rising (λ q live. at q) (exact_follow alive more)

exact_tight : {t : Tables} {store : Store} {alive : StateMap} {hs : List Held} {from : ℕ → Option ℕ} → ((q : ℕ) → target alive q ≡ None → from q ≡ None) → AreSteps t store from hs → AreTight alive 0 hs
exact_tight none no_step = tight_none
exact_tight {t} {alive = alive} none (step_on {h = h} x symbol rising at more) = tight (λ q no_start. gone q no_start) (exact_tight gone more)
  where
    gone : (q : ℕ) → target alive q ≡ None → target h.states q ≡ None
    gone q no_start = at q ∙ ap (option_and_then (λ p. step_by t p x)) (none q no_start)

-- what is told was done by some moves
told_did : {t : Tables} {store : Store} {p : Piece} {w next : List TextToken} {s : List Entry} → Tells t store p w next s → (moves : List Move) × Did t store p (w ++ next) next moves s
told_did (tells_error {fault = fault} fails errs) =
    let by = reached_by errs.reached in
    (by.0, did_err fails (record { made = by.0; more = []; of_moves = append-nil by.0; stack = errs.stack; before = errs.before; later = errs.later; parts = errs.parts; at = errs.at; run = by.1; state_on_top = errs.state_on_top; error = errs.error }))
told_did (tells_stack leaves reached) = let by = reached_by reached in (by.0, did_leave leaves by.1)

pub made_open_law : MadeOpenLaw
made_open_law t store p w next steps lower f under h made stands right floors stack = record {
  growing = record {
    on_floors = floors;
    on_stack = stack;
    floors = subst (λ l. AreStacked t p.first l f) same.0 (subst (λ g. AreStacked t p.first by.0 g) same.1 by.4);
    maps = exact_follow f.starts exact;
    tight = exact_tight (λ q none. ap (option_and_then (λ b. Some q)) none) exact;
    within = omega arith;
  };
  did = λ s on. told_did (stands s on);
  right = right;
}
  where
    by : (lower1 : List Floor) × (g : Floor) × (p.floors ≡ lower1 ++ g ∷ []) × (g.starts ≡ made.last) × AreStacked t p.first lower1 g
    by = floors_law t p.first p.floors made.last made.floors

    same : (by.0 ≡ lower) × (by.1 ≡ f)
    same = same_from_push by.0 lower by.1 f (sym by.2 ∙ floors)

    last : made.last ≡ f.starts
    last = sym by.3 ∙ ap (λ (g : Floor). g.starts) same.1

    exact : AreSteps t store (start_of f.starts) p.stack
    exact = subst (λ m. AreSteps t store (start_of m) p.stack) last made.maps
