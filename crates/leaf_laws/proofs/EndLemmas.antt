-- Alive starts of a leaf are ends of contexts, from which the machine makes the leaf's moves.
use Rattle.std.proofs.Common.{◌≡◌, ℕ, ◌⊎◌, inl, inr, List, [], ◌∷◌, ◌++◌, Some, None, refl, sym, ap, ◌∙◌, subst}
use Rattle.std.specs.Prelude.{IsSome}
use Rattle.grammar_data.specs.declared.token.Token.{Token as TextToken}
use Rattle.grammar_theory.proofs.RuleLemmas.{same_parts}
use Rattle.tree_theory.specs.Stores.{Store, Supply}
use Rattle.table_data.specs.Tables.{Tables}
use Rattle.machine_theory.specs.Machine.{Entry, top}
use Rattle.lawful_theory.specs.Lawful.{IsLawful, grammar_with}
use Rattle.map_theory.specs.Maps.{StateMap, target}
use Rattle.map_theory.proofs.MapLemmas.{target_at}
use Rattle.part_theory.specs.Moves.{Move, Runs}
use Rattle.part_theory.specs.Parts.{IsContext}
use Rattle.piece_theory.specs.Pieces.{Fault, Floor, Held, Piece, fault_at}
use Rattle.piece_theory.specs.Applies.{Falls, through, falls, Fails, fails_here, fails_below}
use Rattle.piece_theory.specs.WellMade.{AreStacked, on_ground, on_floor}
use Rattle.piece_theory.proofs.ResultLemmas.{falls_once, falls_not_fails}
use Rattle.context_laws.specs.Contexts.{LeadFromStates, IsEnd}
use Rattle.context_laws.proofs.ContextLemmas.{end_law}
use Rattle.arm_laws.specs.Did.{Did, did_err, did_leave, over}
use Rattle.arm_laws.proofs.PutLemmas.{over_push}
use Rattle.arm_laws.proofs.ArmLemmas.{leaves_by}
use Rattle.level_laws.specs.Growing.{IsTight, IsGrowing}
use Rattle.level_laws.proofs.LevelLemmas.{or_none, no_some, some_of}
use Rattle.leaf_laws.specs.Leaves.{IsLeaf}
use Rattle.leaf_laws.specs.Laws.{WideLaw}
use Rattle.leaf_laws.specs.OpenPieces.{OpenWideLaw, LeafOpenLaw}

-- ---- starts and states

pub alive_below : (starts : StateMap) (h : Held) → IsTight starts h → (q z : ℕ) → target h.states q ≡ Some z → IsSome (target starts q)
alive_below starts h tight q z e = cases (or_none (target starts q))
  where
    cases : (target starts q ≡ None) ⊎ IsSome (target starts q) → IsSome (target starts q)
    cases (inl none) = absurd (no_some (tight q none) (some_of e))
    cases (inr some) = some

pub apart_of : {t : Tables} {first : TextToken} {lower : List Floor} {f : Floor} → AreStacked t first lower f → (q : ℕ) → IsSome (target f.starts q) → fault_at f.faults q ≡ None
apart_of (on_ground unopened level) q alive = level.apart q alive
apart_of (on_floor opened stacked parts is some less level) q alive = level.apart q alive

-- the state over the entries is the last one's
pub over_top : {t : Tables} {store : Store} {p : Piece} {lower : List Floor} {f : Floor} {under : List Held} {h : Held} {stale : ℕ} → IsGrowing t store p lower f under h stale → (q : ℕ) → over p.stack q ≡ target h.states q
over_top {under = under} {h = h} growing q = ap (λ l. over l q) growing.on_stack ∙ over_push (Some q) under h q

-- a map has no start, or some
pub some_start : (m : StateMap) → (m ≡ []) ⊎ ((q : ℕ) × IsSome (target m q))
some_start [] = inl refl
some_start (pair ∷ m) = inr (pair.0, some_of (target_at pair m pair.0 refl))

-- a floor without faults lets through what comes to it
pub no_fault_above : {fs : List Floor} {s rest : List Entry} {supply : Supply} → Falls fs s rest supply → (g : Floor) → g.faults ≡ [] → {fault : Fault} → Fails (fs ++ g ∷ []) s fault → ⊥
no_fault_above through g none (fails_here taken below parts count is) = no_some (ap (λ l. fault_at l (top 0 below)) none) (some_of is)
no_fault_above through g none (fails_below taken below parts count clear more) = elim more [ ]
no_fault_above (falls {f = f} taken below parts count clear go at) g none (fails_here taken1 below1 parts1 count1 is) =
    let same = same_parts taken below taken1 below1 (sym parts ∙ parts1) (count ∙ sym count1) in
    no_some (ap (λ b. fault_at f.faults (top 0 b)) (sym same.1) ∙ clear) (some_of is)
no_fault_above (falls {fs = fs} taken below parts count clear go at) g none {fault} (fails_below taken1 below1 parts1 count1 clear1 more) =
    let same = same_parts taken below taken1 below1 (sym parts ∙ parts1) (count ∙ sym count1) in
    no_fault_above go g none (subst (λ b. Fails (fs ++ g ∷ []) b fault) (sym same.1) more)

-- ---- ends

-- a context that comes down to the start, from which the machine makes the moves and comes to the state over the start
pub record AtEnd (t : Tables) (p : Piece) (input next : List TextToken) (moves : List Move) (h : Held) (q : ℕ) : Type 0 where
  pub from : List Entry
  pub is_context : IsContext t p.first.id from
  pub rest : List Entry
  pub on_top : top 0 rest ≡ q
  pub supply : Supply
  pub down : Falls p.floors from rest supply
  pub last : List Entry
  pub run : Runs t 0 from input last next moves
  pub state : target h.states q ≡ Some (top 0 last)

-- where the machine made these moves from the context
pub end_at : {t : Tables} {store : Store} {p : Piece} {input next : List TextToken} {lower : List Floor} {f : Floor} {under : List Held} {h : Held} {stale : ℕ} {moves : List Move} → IsGrowing t store p lower f under h stale → (q : ℕ) (end : IsEnd t p.first (lower ++ f ∷ []) q) → Did t store p input next moves end.comes.from → AtEnd t p input next moves h q
end_at growing q end (did_err {fault = fault} fails errs) = absurd (falls_not_fails end.comes.falls (subst (λ l. Fails l end.comes.from fault) growing.on_floors fails))
end_at {t} {store} {p} {lower = lower} {f = f} growing q end (did_leave {last = last} leaves run) =
    let by = leaves_by {t = t} {store = store} {p = p} lower f p.stack growing.on_floors refl leaves in
    let same = (falls_once end.comes.falls by.down).0 in
    let here : top 0 by.rest ≡ q = ap (top 0) (sym same) ∙ end.on_top in
    record {
      from = end.comes.from;
      is_context = end.comes.is_context;
      rest = end.rest;
      on_top = end.on_top;
      supply = end.comes.supply;
      down = subst (λ l. Falls l end.comes.from end.rest end.comes.supply) (sym growing.on_floors) end.comes.falls;
      last = last;
      run = run;
      state = sym (over_top growing q) ∙ ap (over p.stack) (sym here) ∙ by.over_all;
    }

-- the context that comes down to an alive start
pub some_end : {t : Tables} → IsLawful t → LeadFromStates t → {store : Store} {p : Piece} {lower : List Floor} {f : Floor} {under : List Held} {h : Held} {stale : ℕ} → IsGrowing t store p lower f under h stale → (q : ℕ) → IsSome (target f.starts q) → IsEnd t p.first (lower ++ f ∷ []) q
some_end {t} lawful size {p = p} {lower = lower} {f = f} growing q alive = end_law (grammar_with t lawful.0) t lawful.1 size p.first lower f q growing.floors alive

pub at_end : {t : Tables} → IsLawful t → LeadFromStates t → {store : Store} {p : Piece} {w next : List TextToken} {lower : List Floor} {f : Floor} {under : List Held} {h : Held} {stale : ℕ} (leaf : IsLeaf t store p w next lower f under h stale) (q : ℕ) → IsSome (target f.starts q) → AtEnd t p (w ++ next) next leaf.moves h q
at_end lawful size leaf q alive =
    let end = some_end lawful size leaf.growing q alive in
    end_at leaf.growing q end (leaf.did end.comes.from end.comes.is_context)

pub leaf_open_law : LeafOpenLaw
leaf_open_law t store p w next lower f under h stale leaf = record { growing = leaf.growing; did = λ s on. (leaf.moves, leaf.did s on); right = leaf.right }

pub open_wide_law : OpenWideLaw
open_wide_law t lawful size store p w next lower f under h stale piece q alive =
    let end = some_end lawful size piece.growing q alive in
    let by = end_at piece.growing q end (piece.did end.comes.from end.comes.is_context).1 in
    some_of by.state

pub wide_law : WideLaw
wide_law t lawful size store p w next lower f under h stale leaf q alive = open_wide_law t lawful size store p w next lower f under h stale (leaf_open_law t store p w next lower f under h stale leaf) q alive
