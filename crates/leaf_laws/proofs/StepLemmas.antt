-- A leaf stays one with each step.
use Rattle.std.proofs.Common.{◌≡◌, ◌≢◌, ℕ, ◌<◌, ◌⊎◌, inl, inr, List, [], ◌∷◌, ◌++◌, length, replicate, take, Option, Some, None, refl, sym, ap, ◌∙◌, subst, append-nil, arith}
use Rattle.std.proofs.lemmas.List.{length_push}
use Rattle.std.specs.Prelude.{IsSome, is_some, option_and_then}
use Rattle.grammar_data.specs.declared.rule.Sym.{Sym}
use Rattle.grammar_data.specs.declared.rule.Sym.TheVariants.{Token, Name}
use Rattle.grammar_data.specs.declared.token.Token.{Token as TextToken}
use Rattle.node_data.specs.declared.kid.Kid.TheVariants.{Hidden}
use Rattle.tree_theory.specs.Stores.{Ref, Store}
use Rattle.table_data.specs.declared.act.Act.{Act}
use Rattle.table_data.specs.declared.act.Act.TheVariants.{Shift, Reduce, Accept, Error}
use Rattle.table_data.specs.Tables.{Tables, act_in, goto_in, shift_of, step_by}
use Rattle.machine_theory.specs.Machine.{Entry, top}
use Rattle.lawful_theory.specs.Lawful.{IsLawful}
use Rattle.map_theory.specs.Maps.{StateMap, target, walk_by}
use Rattle.map_theory.specs.Agreements.{IsShift, AllReduce}
use Rattle.part_theory.specs.Moves.{Move, ShiftMove, ReduceMove}
use Rattle.part_theory.specs.Parts.{IsContext}
use Rattle.piece_theory.specs.Pieces.{Fault, Floor, Held, Piece, fault_at, kids_of}
use Rattle.piece_theory.specs.Applies.{HasSymbol, token_symbol, node_symbol, right_side, right_of, Fitted, Fails}
use Rattle.piece_theory.specs.WellMade.{shifting, start_of}
use Rattle.piece_theory.specs.Laws.{HasMore}
use Rattle.arm_laws.specs.Did.{Did, did_err, did_leave, over, AreSameAt, none_same, same_first, Looks}
use Rattle.arm_laws.proofs.PutLemmas.{over_push}
use Rattle.arm_laws.proofs.ArmLemmas.{leaves_by, opened_law, next_law, look_law, shift_law, reduce_law}
use Rattle.arm_laws.proofs.OpeningLemmas.{floor_opened_law}
use Rattle.level_laws.specs.Levels.{fault_of, dying}
use Rattle.level_laws.specs.Growing.{IsTight, IsGrowing}
use Rattle.level_laws.proofs.LevelLemmas.{or_none, no_some, some_of, value_of}
use Rattle.level_laws.proofs.GrowingLemmas.{fresh_at, fresh_none_at, opened_piece_law, looked_piece_law, pushed_piece_law, taken_piece_law, taken_fresh_law, whole_piece_law, floor_piece_law, more_nodes_law, last_map_law}
use Rattle.leaf_laws.specs.Leaves.{IsLeaf, IsOpenPiece, HasStart, start_alive, none_begins, NoneErrs}
use Rattle.leaf_laws.specs.Steps.{LooksAt, PutsNode, TakesSome, TakesAll, OpensFloor}
use Rattle.leaf_laws.specs.Laws.{OpensLaw, NextTokenLaw, LooksLaw, ShiftsLaw, TakesSomeLaw, TakesFreshLaw, TakesAllLaw, OpensFloorLaw}
use Rattle.leaf_laws.specs.OpenPieces.{OpenLooksLaw, OpenTakesSomeLaw, OpenTakesFreshLaw, OpenTakesAllLaw, OpenFloorLaw}
use Rattle.leaf_laws.proofs.EndLemmas.{alive_below, apart_of, over_top, some_start, no_fault_above, AtEnd, at_end}

-- ---- opened

-- a context is a start
context_starts : {t : Tables} (first : TextToken) {s : List Entry} → IsContext t first.id s → IsSome (shifting t first (top 0 s))
context_starts {t} first {s} on = some_of (ap (option_and_then (λ p. Some (top 0 s))) (ap shift_of on.shifts))

pub opens_law : OpensLaw
opens_law t store p f h opens = (
  record {
    growing = opened_piece_law t store p f h opens.floors opens.stack opens.unopened opens.no_faults opens.starts symbol opens.after;
    moves = ShiftMove ∷ [];
    did = λ s on. (arm s on).0;
    right = λ s on. (arm s on).1;
  },
  cases (some_start f.starts),
)
  where
    symbol : HasSymbol t.rules store h.kid (Token p.first.id)
    symbol = subst (λ k. HasSymbol t.rules store k (Token p.first.id)) (sym opens.kid) token_symbol

    arm : (s : List Entry) → IsContext t p.first.id s → Did t store p (p.first ∷ []) [] (ShiftMove ∷ []) s × Fitted t.rules p.floors s
    arm s on = opened_law t store p f h opens.floors opens.unopened opens.no_faults opens.stack opens.kid (λ q z act. opens.after.targets q ∙ ap shift_of act) s on

    cases : (f.starts ≡ []) ⊎ ((q : ℕ) × IsSome (target f.starts q)) → HasStart t p (p.first ∷ []) f
    cases (inl none) = none_begins (λ s on. no_some (ap (λ m. target m (top 0 s)) none) (ap is_some (opens.starts.targets (top 0 s)) ∙ context_starts p.first on)) refl
    cases (inr some) = start_alive some.0 some.1

pub next_token_law : NextTokenLaw
next_token_law t store p w token lower f under h stale leaf = record {
  growing = leaf.growing;
  moves = leaf.moves;
  did = λ s on. next_law t store p w leaf.moves token s (subst (λ l. Did t store p l [] leaf.moves s) (append-nil w) (leaf.did s on));
  right = leaf.right;
}

-- ---- looks

lives_on : (token : TextToken) (index q z : ℕ) (act : Act) → act ≢ Error → fault_of token index q z act ≡ None
lives_on token index q z (Shift p) does = refl
lives_on token index q z (Reduce r) does = refl
lives_on token index q z Accept does = refl
lives_on token index q z Error does = absurd (does refl)

dying_by : (t : Tables) (token : TextToken) (index : ℕ) (tops : StateMap) (q z : ℕ) → target tops q ≡ Some z → dying t token index tops q ≡ fault_of token index q z (act_in t z token.id)
dying_by t token index tops q z e = ap (option_and_then (λ p. fault_of token index q p (act_in t p token.id))) e

same_refl : (q : ℕ) (hs : List Held) → AreSameAt q hs hs
same_refl q [] = none_same
same_refl q (h ∷ hs) = same_first refl refl (same_refl q hs)

same_last : (q : ℕ) (under : List Held) (h g : Held) → g.kid ≡ h.kid → target g.states q ≡ target h.states q → AreSameAt q (under ++ h ∷ []) (under ++ g ∷ [])
same_last q [] h g kid e = same_first kid e none_same
same_last q (x ∷ under) h g kid e = same_first refl refl (same_last q under h g kid e)

-- ---- a step on each context

-- what a step makes of what was done from a context
pub record Arms (t : Tables) (store new : Store) (p after : Piece) (w next : List TextToken) (then : List Move → List Move) : Type 0 where
  pub first : after.first ≡ p.first
  pub arm : (moves : List Move) (s : List Entry) → IsContext t p.first.id s → Did t store p (w ++ next) next moves s → Fitted t.rules p.floors s → Did t new after (w ++ next) next (then moves) s × Fitted t.rules after.floors s

at_first : {t : Tables} {first other : TextToken} {s : List Entry} → other ≡ first → IsContext t other.id s → IsContext t first.id s
at_first {t} {s = s} same on = subst (λ (x : TextToken). IsContext t x.id s) same on

leaf_by : {t : Tables} {store new : Store} {p after : Piece} {w next : List TextToken} {then : List Move → List Move} {lower lower1 : List Floor} {f g : Floor} {under under1 : List Held} {h held : Held} {stale stale1 : ℕ} → IsLeaf t store p w next lower f under h stale → Arms t store new p after w next then → IsGrowing t new after lower1 g under1 held stale1 → IsLeaf t new after w next lower1 g under1 held stale1
leaf_by {then = then} leaf arms growing = record {
  growing = growing;
  moves = then leaf.moves;
  did = λ s on. let before = at_first arms.first on in (arms.arm leaf.moves s before (leaf.did s before) (leaf.right s before)).0;
  right = λ s on. let before = at_first arms.first on in (arms.arm leaf.moves s before (leaf.did s before) (leaf.right s before)).1;
}

open_by : {t : Tables} {store new : Store} {p after : Piece} {w next : List TextToken} {then : List Move → List Move} {lower lower1 : List Floor} {f g : Floor} {under under1 : List Held} {h held : Held} {stale stale1 : ℕ} → IsOpenPiece t store p w next lower f under h stale → Arms t store new p after w next then → IsGrowing t new after lower1 g under1 held stale1 → IsOpenPiece t new after w next lower1 g under1 held stale1
open_by {then = then} piece arms growing = record {
  growing = growing;
  did = λ s on. let before = at_first arms.first on in let by = piece.did s before in (then by.0, (arms.arm by.0 s before by.1 (piece.right s before)).0);
  right = λ s on. let before = at_first arms.first on in let by = piece.did s before in (arms.arm by.0 s before by.1 (piece.right s before)).1;
}

-- ---- a look

module _ (t : Tables) (store : Store) (p looked : Piece) (w : List TextToken) (token : TextToken) (lower : List Floor) (f g : Floor) (under : List Held) (h fresh : Held) (stale : ℕ) (growing : IsGrowing t store p lower f under h stale) (look : LooksAt t token (length w) p looked lower f g under h fresh) where
  tight : IsTight f.starts h
  tight = last_map_law t store p lower f under h stale growing

  looks : Looks t token (length w) (over p.stack) f g
  looks = record {
    same = look.moved.opened;
    stays = λ q fault e. stays q fault e (or_none (target f.starts q));
    dies = λ q z clear over error.
        let is = sym (over_top growing q) ∙ over in
        look.moved.dead q (alive_below f.starts h tight q z is) ∙ dying_by t token (length w) h.states q z is ∙ ap (fault_of token (length w) q z) error;
    lives = λ q z clear over does.
        let is = sym (over_top growing q) ∙ over in
        look.moved.dead q (alive_below f.starts h tight q z is) ∙ dying_by t token (length w) h.states q z is ∙ lives_on token (length w) q z (act_in t z token.id) does;
  }
    where
      stays : (q : ℕ) (fault : Fault) → fault_at f.faults q ≡ Some fault → (target f.starts q ≡ None) ⊎ IsSome (target f.starts q) → fault_at g.faults q ≡ Some fault
      stays q fault e (inl none) = look.moved.kept q none ∙ e
      stays q fault e (inr some) = absurd (no_some (apart_of growing.floors q some) (some_of e))

  -- a start that lives keeps its target
  live_on : (q z : ℕ) → target h.states q ≡ Some z → dying t token (length w) h.states q ≡ None → IsSome (target g.starts q)
  live_on q z is lives = ap is_some (look.moved.stay q lives) ∙ alive_below f.starts h tight q z is

  same_state : (q : ℕ) → fault_at g.faults q ≡ None → target fresh.states q ≡ target h.states q
  same_state q clear = cases (or_none (target g.starts q)) (or_none (target h.states q))
    where
      cases : (target g.starts q ≡ None) ⊎ IsSome (target g.starts q) → (target h.states q ≡ None) ⊎ IsSome (target h.states q) → target fresh.states q ≡ target h.states q
      cases (inr some) either = fresh_at look.is_fresh q some
      cases (inl none) (inl nothing) = fresh_none_at look.is_fresh q none ∙ sym nothing
      cases (inl none) (inr some) =
          let state = value_of (target h.states q) some in
          absurd (no_some none (live_on q state.0 state.1 (sym (look.moved.dead q (alive_below f.starts h tight q state.0 state.1)) ∙ clear)))

  look_arms : Arms t store store p looked w (token ∷ []) (λ moves. moves)
  look_arms = record {
    first = look.first;
    arm = λ moves s on did fit. look_law t store p looked lower f g w token moves growing.on_floors look.floors looks
        (λ q clear. subst (λ l. AreSameAt q l looked.stack) (sym growing.on_stack) (subst (λ l. AreSameAt q (under ++ h ∷ []) l) (sym look.stack) (same_last q under h fresh look.is_fresh.kid (same_state q clear))))
        s did fit;
  }

  look_grown : IsGrowing t store looked lower g under fresh (length under)
  look_grown = looked_piece_law t store p looked lower f g under h fresh stale (λ q. dying t token (length w) h.states q) growing look.first look.moved look.is_fresh look.floors look.stack

  pub none_errs : NoneErrs t token.id fresh.states
  none_errs q z e error =
      let alive : IsSome (target g.starts q) = alive_below g.starts fresh (fresh_none_at look.is_fresh) q z e in
      let is : target h.states q ≡ Some z = sym (fresh_at look.is_fresh q alive) ∙ e in
      no_some (look.moved.gone q (some_of (dying_by t token (length w) h.states q z is ∙ ap (fault_of token (length w) q z) error))) alive

  pub lives_by : (q z : ℕ) → target h.states q ≡ Some z → act_in t z token.id ≢ Error → IsSome (target g.starts q) × (target fresh.states q ≡ Some z)
  lives_by q z is does =
      let alive = live_on q z is (dying_by t token (length w) h.states q z is ∙ lives_on token (length w) q z (act_in t z token.id) does) in
      (alive, fresh_at look.is_fresh q alive ∙ is)

pub looks_law : LooksLaw
looks_law t store p looked w token lower f g under h fresh stale leaf look = (
  leaf_by leaf (look_arms t store p looked w token lower f g under h fresh stale leaf.growing look) (look_grown t store p looked w token lower f g under h fresh stale leaf.growing look),
  none_errs t store p looked w token lower f g under h fresh stale leaf.growing look,
  lives_by t store p looked w token lower f g under h fresh stale leaf.growing look,
)

pub open_looks_law : OpenLooksLaw
open_looks_law t store p looked w token lower f g under h fresh stale piece look = (
  open_by piece (look_arms t store p looked w token lower f g under h fresh stale piece.growing look) (look_grown t store p looked w token lower f g under h fresh stale piece.growing look),
  none_errs t store p looked w token lower f g under h fresh stale piece.growing look,
  lives_by t store p looked w token lower f g under h fresh stale piece.growing look,
)

-- ---- shifts

-- what all do that don't err, each does where none errs
all_do : (does : Act → Type 0) (t : Tables) (a : ℕ) (m : StateMap) → NoneErrs t a m → ((q z : ℕ) → target m q ≡ Some z → (act_in t z a ≡ Error) ⊎ does (act_in t z a)) → (q z : ℕ) → target m q ≡ Some z → does (act_in t z a)
all_do does t a m none each q z e = cases (each q z e)
  where
    cases : (act_in t z a ≡ Error) ⊎ does (act_in t z a) → does (act_in t z a)
    cases (inl error) = absurd (none q z e error)
    cases (inr is) = is

pub shifts_law : ShiftsLaw
shifts_law t store p after w token lower f under h new stale leaf none all shift = (
  record {
    growing = pushed_piece_law t store p after lower f under h new (Token token.id) stale leaf.growing shift.first shift.floors symbol shift.map shift.stack;
    moves = leaf.moves ++ ShiftMove ∷ [];
    did = λ s on. subst (λ l. Did t store after l [] (leaf.moves ++ ShiftMove ∷ []) s) (sym (append-nil (w ++ token ∷ []))) (arm s (leaf.did s (context s on)));
    right = λ s on. subst (λ l. Fitted t.rules l s) (sym shift.floors) (leaf.right s (context s on));
  },
  start_alive all.some.0 (alive_below f.starts h (last_map_law t store p lower f under h stale leaf.growing) all.some.0 all.some.1 all.some.2),
)
  where
    symbol : HasSymbol t.rules store new.kid (Token token.id)
    symbol = subst (λ k. HasSymbol t.rules store k (Token token.id)) (sym shift.kid) token_symbol

    context : (s : List Entry) → IsContext t after.first.id s → IsContext t p.first.id s
    context s on = subst (λ (x : TextToken). IsContext t x.id s) shift.first on

    to : (q z : ℕ) → fault_at f.faults q ≡ None → over p.stack q ≡ Some z → (y : ℕ) × (act_in t z token.id ≡ Shift y) × (target new.states q ≡ Some y)
    to q z clear over =
        let is = sym (over_top leaf.growing q) ∙ over in
        let by : IsShift (act_in t z token.id) = all_do IsShift t token.id h.states none all.each q z is in
        (by.0, by.1, shift.map.targets q ∙ ap (option_and_then (λ x. step_by t x (Token token.id))) is ∙ ap shift_of by.1)

    arm : (s : List Entry) → Did t store p (w ++ token ∷ []) (token ∷ []) leaf.moves s → Did t store after (w ++ token ∷ []) [] (leaf.moves ++ ShiftMove ∷ []) s
    arm s did = shift_law t store p after lower f p.stack new (w ++ token ∷ []) token leaf.moves leaf.growing.on_floors shift.floors shift.stack (λ q clear. same_refl q p.stack) shift.kid to s did

-- ---- reductions

-- a new node is put into a store that has all that there were
pub has_more : {t : Tables} {store new : Store} {r n : ℕ} {right : List Sym} {m : Ref} {held : Held} → PutsNode t store new r n right m held → HasMore store new
has_more {store = store} {m = m} put other r kids is = put.others other (λ same. no_some (ap store same ∙ put.absent) (some_of is)) ∙ is

-- a start that something follows from is there
started : (next : ℕ → Option ℕ) (q : ℕ) (o : Option ℕ) {z : ℕ} → option_and_then next (option_and_then (λ b. Some q) o) ≡ Some z → IsSome o
started next q None e = absurd (no_some {A = ℕ} {o = None} refl (some_of e))
started next q (Some b) e = refl

module _ (t : Tables) (lawful : IsLawful t) (store new : Store) (p after : Piece) (w : List TextToken) (token : TextToken) (lower : List Floor) (f : Floor) (under : List Held) (h : Held) (stale r n : ℕ) (right : List Sym) (m : Ref) (held : Held) (growing : IsGrowing t store p lower f under h stale) (none : NoneErrs t token.id h.states) (all : AllReduce t token.id r h.states) (put : PutsNode t store new r n right m held) where
  alive_over : (q z : ℕ) → over p.stack q ≡ Some z → IsSome (target f.starts q)
  alive_over q z state = alive_below f.starts h (last_map_law t store p lower f under h stale growing) q z (sym (over_top growing q) ∙ state)

  acts : (q z : ℕ) → fault_at f.faults q ≡ None → over p.stack q ≡ Some z → act_in t z token.id ≡ Reduce r
  acts q z clear state = all_do (λ act. act ≡ Reduce r) t token.id h.states none all.each q z (sym (over_top growing q) ∙ state)

  grown : IsGrowing t new p lower f under h stale
  grown = more_nodes_law t store new p lower f under h stale (has_more put) growing

  alive_start : HasStart t after w f
  alive_start = start_alive all.some.0 (alive_below f.starts h (last_map_law t store p lower f under h stale growing) all.some.0 all.some.1 all.some.2)

  -- entries are taken, and what is left on top has the same states for the alive starts
  some_grown : {low taken : List Held} {top fresh : Held} {left : ℕ} → TakesSome t new p after r n right m low taken top fresh held → IsGrowing t store (record p { stack = low ++ fresh ∷ [] }) lower f low fresh left → IsGrowing t new after lower f (low ++ fresh ∷ []) held left
  some_grown {low} {taken} {top} {fresh} {left} take before = pushed_piece_law t new below after lower f low fresh held (Name n) left (more_nodes_law t store new below lower f low fresh left (has_more put) before) take.first take.floors symbol take.map take.stack
    where
      below : Piece
      below = record p { stack = low ++ fresh ∷ [] }

      symbol : HasSymbol t.rules new held.kid (Name n)
      symbol = subst (λ k. HasSymbol t.rules new k (Name n)) (sym put.kid) (node_symbol (kids_of taken) take.node put.rule)

  some_arms : {low taken : List Held} {top fresh : Held} → TakesSome t new p after r n right m low taken top fresh held → fresh.kid ≡ top.kid → ((q : ℕ) → IsSome (target f.starts q) → target fresh.states q ≡ target top.states q) → Arms t store new p after w (token ∷ []) (λ moves. moves ++ ReduceMove r ∷ [])
  some_arms {low} {taken} {top} {fresh} take kid same = record {
    first = take.first;
    arm = λ moves s on did fit. (
      reduce_law t lawful store new (has_more put) p after lower f (low ++ top ∷ []) taken (low ++ fresh ∷ []) held m r n right (w ++ token ∷ []) token moves growing.on_floors take.floors take.parts take.stack (λ q z clear state. same_last q low top fresh kid (same q (alive_over q z state))) put.rule take.count put.kid take.node acts gotos s on.stack did,
      subst (λ l. Fitted t.rules l s) (sym take.floors) fit,
    );
  }
    where
      gotos : (q x z y : ℕ) → fault_at f.faults q ≡ None → over p.stack q ≡ Some x → over (low ++ top ∷ []) q ≡ Some z → goto_in t z n ≡ Some y → target held.states q ≡ Some y
      gotos q x z y clear state beneath goes = take.map.targets q ∙ ap (option_and_then (λ u. step_by t u (Name n))) (same q (alive_over q x state) ∙ sym (over_push (Some q) low top q) ∙ beneath) ∙ goes

  all_grown : TakesAll t new p after f r n right m held → IsGrowing t new after lower f [] held 0
  all_grown take = whole_piece_law t new p after lower f under h held (Name n) stale grown take.first take.floors symbol take.map take.stack
    where
      symbol : HasSymbol t.rules new held.kid (Name n)
      symbol = subst (λ k. HasSymbol t.rules new k (Name n)) (sym put.kid) (node_symbol (kids_of p.stack) take.node put.rule)

  all_arms : TakesAll t new p after f r n right m held → Arms t store new p after w (token ∷ []) (λ moves. moves ++ ReduceMove r ∷ [])
  all_arms take = record {
    first = take.first;
    arm = λ moves s on did fit. (
      reduce_law t lawful store new (has_more put) p after lower f [] p.stack [] held m r n right (w ++ token ∷ []) token moves growing.on_floors take.floors refl take.stack (λ q z clear state. none_same) put.rule take.count put.kid take.node acts gotos s on.stack did,
      subst (λ l. Fitted t.rules l s) (sym take.floors) fit,
    );
  }
    where
      gotos : (q x z y : ℕ) → fault_at f.faults q ≡ None → over p.stack q ≡ Some x → over [] q ≡ Some z → goto_in t z n ≡ Some y → target held.states q ≡ Some y
      gotos q x z y clear state beneath goes =
          let start = value_of (target f.starts q) (alive_over q x state) in
          take.map.targets q ∙ ap (option_and_then (λ u. step_by t u (Name n))) (ap (option_and_then (λ b. Some q)) start.1 ∙ beneath) ∙ goes

  found : right_of t.rules r ≡ right
  found = ap right_side put.rule.found

  floor_grown : {g : Floor} {hidden : ℕ} → OpensFloor t new p after f g r n hidden right m held → IsGrowing t new after p.floors g [] held 0
  floor_grown {g} {hidden} opens = floor_piece_law t new p after lower f g under h held (Name n) stale (record { rule = r; hidden = hidden; node = m }) grown opens.first opens.opened opens.no_faults opens.some less opens.starts symbol opens.map opens.floors opens.stack
    where
      less : hidden < length (right_of t.rules r)
      less =
          let long = ap length growing.on_stack ∙ length_push under h in
          let count = opens.count in
          let size = ap length found in
          omega (arith, count, long, size)

      symbol : HasSymbol t.rules new held.kid (Name n)
      symbol = subst (λ k. HasSymbol t.rules new k (Name n)) (sym put.kid) (node_symbol (replicate hidden Hidden ++ kids_of p.stack) opens.node put.rule)

  floor_arms : {g : Floor} {hidden : ℕ} → OpensFloor t new p after f g r n hidden right m held → Arms t store new p after w (token ∷ []) (λ moves. moves ++ ReduceMove r ∷ [])
  floor_arms {g} {hidden} opens = record {
    first = opens.first;
    arm = λ moves s on did fit. floor_opened_law t lawful store new (has_more put) p after lower f g held m r n hidden right (w ++ token ∷ []) token moves growing.on_floors opens.floors opens.opened opens.no_faults opens.stack put.rule opens.count put.kid opens.node acts gotos s on.stack did fit;
  }
    where
      gotos : (q b z y : ℕ) → walk_by t q (take hidden right) ≡ Some b → fault_at f.faults b ≡ None → over p.stack b ≡ Some z → goto_in t q n ≡ Some y → target held.states q ≡ Some y
      gotos q b z y walk clear state goes =
          let first = value_of (target f.starts b) (alive_over b z state) in
          let leads = ap (option_and_then (λ x. start_of f.starts x)) (ap (λ l. walk_by t q (take hidden l)) found ∙ walk) ∙ ap (option_and_then (λ x. Some b)) first.1 in
          opens.map.targets q ∙ ap (option_and_then (λ u. step_by t u (Name n))) (ap (option_and_then (λ x. Some q)) (opens.starts.targets q ∙ leads)) ∙ goes

  -- the piece with one floor more is let through by each context that comes down to an alive start
  floor_start : {g : Floor} {hidden : ℕ} → OpensFloor t new p after f g r n hidden right m held → {moves : List Move} {q : ℕ} (end : AtEnd t p (w ++ token ∷ []) (token ∷ []) moves h q) → Did t new after (w ++ token ∷ []) (token ∷ []) (moves ++ ReduceMove r ∷ []) end.from → HasStart t after w g
  floor_start {g} opens end (did_err {fault = fault} fails errs) = absurd (no_fault_above end.down g opens.no_faults (subst (λ l. Fails l end.from fault) opens.floors fails))
  floor_start {g} opens end (did_leave {last = last} leaves run) =
      let by = leaves_by {t = t} {store = new} {p = after} p.floors g (held ∷ []) opens.floors opens.stack leaves in
      start_alive (top 0 by.rest) (started (λ u. step_by t u (Name n)) (top 0 by.rest) (target g.starts (top 0 by.rest)) (sym (opens.map.targets (top 0 by.rest)) ∙ by.over_all))

pub takes_some_law : TakesSomeLaw
takes_some_law t lawful store new p after w token lower f under h stale r n right m low taken top fresh held leaf none all put take is =
    let before = taken_piece_law t store p (record p { stack = low ++ fresh ∷ [] }) lower f under h stale low taken top fresh leaf.growing refl refl take.parts is refl in (
      leaf_by leaf (some_arms t lawful store new p after w token lower f under h stale r n right m held leaf.growing none all put take is.kid (fresh_at is)) (some_grown t lawful store new p after w token lower f under h stale r n right m held leaf.growing none all put take before),
      alive_start t lawful store new p after w token lower f under h stale r n right m held leaf.growing none all put,
    )

pub open_takes_some_law : OpenTakesSomeLaw
open_takes_some_law t lawful store new p after w token lower f under h stale r n right m low taken top fresh held piece none all put take is =
    let before = taken_piece_law t store p (record p { stack = low ++ fresh ∷ [] }) lower f under h stale low taken top fresh piece.growing refl refl take.parts is refl in
    open_by piece (some_arms t lawful store new p after w token lower f under h stale r n right m held piece.growing none all put take is.kid (fresh_at is)) (some_grown t lawful store new p after w token lower f under h stale r n right m held piece.growing none all put take before)

pub takes_fresh_law : TakesFreshLaw
takes_fresh_law t lawful store new p after w token lower f under h stale r n right m low taken top held leaf none all put take less =
    let before = taken_fresh_law t store p (record p { stack = low ++ top ∷ [] }) lower f under h stale low taken top leaf.growing refl refl take.parts less refl in (
      leaf_by leaf (some_arms t lawful store new p after w token lower f under h stale r n right m held leaf.growing none all put take refl (λ q live. refl)) (some_grown t lawful store new p after w token lower f under h stale r n right m held leaf.growing none all put take before),
      alive_start t lawful store new p after w token lower f under h stale r n right m held leaf.growing none all put,
    )

pub open_takes_fresh_law : OpenTakesFreshLaw
open_takes_fresh_law t lawful store new p after w token lower f under h stale r n right m low taken top held piece none all put take less =
    let before = taken_fresh_law t store p (record p { stack = low ++ top ∷ [] }) lower f under h stale low taken top piece.growing refl refl take.parts less refl in
    open_by piece (some_arms t lawful store new p after w token lower f under h stale r n right m held piece.growing none all put take refl (λ q live. refl)) (some_grown t lawful store new p after w token lower f under h stale r n right m held piece.growing none all put take before)

pub takes_all_law : TakesAllLaw
takes_all_law t lawful store new p after w token lower f under h stale r n right m held leaf none all put take = (
  leaf_by leaf (all_arms t lawful store new p after w token lower f under h stale r n right m held leaf.growing none all put take) (all_grown t lawful store new p after w token lower f under h stale r n right m held leaf.growing none all put take),
  alive_start t lawful store new p after w token lower f under h stale r n right m held leaf.growing none all put,
)

pub open_takes_all_law : OpenTakesAllLaw
open_takes_all_law t lawful store new p after w token lower f under h stale r n right m held piece none all put take =
    open_by piece (all_arms t lawful store new p after w token lower f under h stale r n right m held piece.growing none all put take) (all_grown t lawful store new p after w token lower f under h stale r n right m held piece.growing none all put take)

pub opens_floor_law : OpensFloorLaw
opens_floor_law t lawful size store new p after w token lower f g under h stale r n hidden right m held leaf none all put opens =
    let arms = floor_arms t lawful store new p after w token lower f under h stale r n right m held leaf.growing none all put opens in
    let end = at_end lawful size leaf all.some.0 (alive_below f.starts h (last_map_law t store p lower f under h stale leaf.growing) all.some.0 all.some.1 all.some.2) in (
      leaf_by leaf arms (floor_grown t lawful store new p after w token lower f under h stale r n right m held leaf.growing none all put opens),
      floor_start t lawful store new p after w token lower f under h stale r n right m held leaf.growing none all put opens end (arms.arm leaf.moves end.from end.is_context (leaf.did end.from end.is_context) (leaf.right end.from end.is_context)).0,
    )

pub open_floor_law : OpenFloorLaw
open_floor_law t lawful store new p after w token lower f g under h stale r n hidden right m held piece none all put opens =
    open_by piece (floor_arms t lawful store new p after w token lower f under h stale r n right m held piece.growing none all put opens) (floor_grown t lawful store new p after w token lower f under h stale r n right m held piece.growing none all put opens)
