-- Behind its last floor the entries of a piece are put on, each with the state to which the tables lead along its symbol.
use Rattle.std.proofs.Common.{◌≡◌, ℕ, zero, suc, ◌+◌, ◌<◌, ◌≤◌, ◌⊎◌, inl, inr, List, [], ◌∷◌, ◌++◌, length, drop, get_or, All, Option, Some, None, IsSome, refl, sym, ap, ◌∙◌, subst, append_assoc, append-nil, arith}
use Rattle.std.specs.Prelude.{option_and_then}
use Rattle.std.proofs.Math.Seq.{drop-cons}
use Rattle.std.proofs.lemmas.List.{length-append}
use Rattle.std.proofs.lemmas.List.Elements.{All-nil, All-cons}
use Rattle.grammar_data.specs.declared.rule.Sym.{Sym}
use Rattle.grammar_data.specs.declared.token.Token.{Token as TextToken}
use Rattle.node_data.specs.declared.kid.Kid.{Kid}
use Rattle.node_data.specs.declared.kid.Kid.TheVariants.{Token as TokenKid, Node as NodeKid, Hidden}
use Rattle.tree_theory.specs.Stores.{Ref, Store, Supply}
use Rattle.table_data.specs.declared.act.Act.{Act}
use Rattle.table_data.specs.declared.act.Act.TheVariants.{Shift, Reduce, Accept, Error}
use Rattle.table_data.specs.Tables.{Tables, act_in, shift_of, step_by}
use Rattle.machine_theory.specs.Machine.{Entry, top, bottom}
use Rattle.lawful_theory.specs.Lawful.{IsLawful, grammar_with}
use Rattle.lawful_theory.proofs.FitLemmas.{run_stack}
use Rattle.lr_machine.specs.IsTables.{IsTables}
use Rattle.context_laws.proofs.AlongLemmas.{size_law}
use Rattle.map_theory.specs.Maps.{StateMap, target}
use Rattle.use_theory.specs.Counts.{count_in}
use Rattle.use_theory.specs.Kept.{IsKept}
use Rattle.use_theory.proofs.KeptLemmas.{kept_then}
use Rattle.piece_theory.specs.Pieces.{Fault, Floor, Held, Piece, floor_nodes, kids_of}
use Rattle.piece_theory.specs.Applies.{HasSymbol, token_symbol, node_symbol, Falls, Fails, Puts, put_all, puts, Leaves, Tells, tells_error, tells_stack}
use Rattle.piece_theory.specs.WellMade.{start_of, AreLevels, no_level, level_above, AreFloors, AreSteps, no_step, step_on}
use Rattle.piece_theory.specs.Lists.{first_or}
use Rattle.piece_theory.proofs.ResultLemmas.{falls_once, falls_not_fails}
use Rattle.join_theory.specs.Faults.{state_over, HasApart}
use Rattle.join_theory.specs.Floors.{AreOver, none_over, over_next}
use Rattle.join_theory.proofs.AliveLemmas.{none_or_some, not_none}
use Rattle.join_theory.proofs.PutLemmas.{top_state, symbol_kept}
use Rattle.joined_laws.proofs.MeetingLemmas.{same_result}
use Rattle.finish_theory.specs.Endings.{IsEnding}
use Rattle.finish_theory.proofs.EndingLemmas.{ground_left, ground_fault, end_put_start_law, end_put_end_law}
use Rattle.node_store.specs.Chunks.{store_of}
use Rattle.stack_finish.specs.declared.gathered.Gathered.{Gathered}
use Rattle.stack_finish.specs.Gathering.{ground, entries_on, piece_on, last_state, top_of, IsGathered}
use Rattle.stack_finish.specs.Putting.{LeadsTo, GoesAlong, AreAlong, along_none, along_next, IsPutting}
use Rattle.stack_finish.proofs.EntryLemmas.{entries-append, last-append, state_on, alive}
use Rattle.stack_finish.proofs.FloorLemmas.{one_target, same_kept}

-- ---- floors

levels_apart : {t : Tables} {below last : StateMap} {fs : List Floor} → AreLevels t below fs last → All {X = Floor} HasApart fs
levels_apart no_level = All-nil {X = Floor} HasApart
levels_apart (level_above {f = f} {fs = fs} opened is some fewer level more) = All-cons {X = Floor} HasApart f fs level.apart (levels_apart more)

pub floors_apart : {t : Tables} {first : TextToken} {floors : List Floor} {last : StateMap} → AreFloors t first floors last → All {X = Floor} HasApart floors
floors_apart are = subst (λ l. All {X = Floor} HasApart l) (sym are.parts) (All-cons {X = Floor} HasApart are.ground are.upper are.shifts.apart (levels_apart are.levels))

-- ---- one kid

pub is_within : {t : Tables} {store : Store} {kid : Kid} {q p : ℕ} → IsTables t → LeadsTo t store kid q p → q < t.states
is_within {t} {q = q} {p = p} is leads = size_law t is.acts_size is.gotos_size q p leads.symbol leads.steps

shift_is : (act : Act) (p : ℕ) → shift_of act ≡ Some p → act ≡ Shift p
shift_is (Shift q) p e = cc
shift_is (Reduce r) p e = absurd (cc)
shift_is Accept p e = absurd (cc)
shift_is Error p e = absurd (cc)

pub token_shifts : {t : Tables} {store : Store} {token : TextToken} {q p : ℕ} → LeadsTo t store (TokenKid token) q p → act_in t q token.id ≡ Shift p
token_shifts {t} {store} {token} {q} {p} leads = by leads.has leads.steps
  where
    by : {x : Sym} → HasSymbol t.rules store (TokenKid token) x → step_by t q x ≡ Some p → act_in t q token.id ≡ Shift p
    by token_symbol step = shift_is (act_in t q token.id) p step

pub node_goes : {t : Tables} {store : Store} {m : Ref} {q p : ℕ} → LeadsTo t store (NodeKid m) q p → GoesAlong t store m q p
node_goes {t} {store} {m} {q} {p} leads = by leads.has leads.steps
  where
    by : {x : Sym} → HasSymbol t.rules store (NodeKid m) x → step_by t q x ≡ Some p → GoesAlong t store m q p
    by (node_symbol {r = r} {n = n} {right = right} kids at is) step = record { rule = r; kids = kids; name = n; right = right; found = at; is = is; goes = step }

pub hidden_leads : {t : Tables} {store : Store} {q p : ℕ} → LeadsTo t store Hidden q p → ⊥
hidden_leads {t} {store} leads = by leads.has
  where
    by : {x : Sym} → HasSymbol t.rules store Hidden x → ⊥
    by has = elim has [ ]

-- ---- where the state on top shifts the next piece's first token

pub put_begins : {t : Tables} → IsLawful t → {base : Store} {s : Gathered} {right : Piece} {rest : List Piece} {w : List TextToken} → IsGathered t base s (right ∷ rest) w → {q : ℕ} → act_in t (top_of s) right.first.id ≡ Shift q → IsPutting t (store_of s.store) s (piece_on s.kids.items s.states.items) right right.floors rest w
put_begins {t} lawful {base} {s} {right} {rest} {w} at {q} shift = record {
  even = at.even;
  on_ground = refl;
  put = end_put_start_law (grammar_with t lawful.0) t lawful.1 (store_of s.store) (piece_on s.kids.items s.states.items) right ground rest w at.ending alive (λ z state. (q, ap (λ p. act_in t p right.first.id) (same_state (sym state ∙ state_on s.kids.items s.states.items at.even)) ∙ shift));
  counted = at.counted;
}
  where
    same_state : {p z : ℕ} → ◌≡◌ {A = Option ℕ} (Some p) (Some z) → p ≡ z
    same_state e = cc

-- ---- states over the entries

-- the maps of entries have these targets for a state
pub data HaveTargets (z : ℕ) : List Held → List ℕ → Type 0 where
  no_target : HaveTargets z [] []
  target_next : {h : Held} {hs : List Held} {p : ℕ} {states : List ℕ} → target h.states z ≡ Some p → HaveTargets z hs states → HaveTargets z (h ∷ hs) (p ∷ states)

-- the states of a piece's entries on a stack
pub record AreLed (t : Tables) (store : Store) (z below : ℕ) (hs : List Held) : Type 0 where
  pub states : List ℕ
  pub along : AreAlong t store below (kids_of hs) states
  pub targets : HaveTargets z hs states

led : {t : Tables} {store now : Store} {supply : Supply} {z : ℕ} {hs : List Held} {s last : List Entry} {from : ℕ → Option ℕ} → IsKept store now → AreSteps t store from hs → Puts t.rules store supply z hs s last → (below : ℕ) → from z ≡ Some below → AreLed t now z below hs
led kept no_step put_all below at = record { states = []; along = along_none; targets = no_target }
led {t} {store} {now} {supply} {z} {from = from} kept (step_on x symbol rising targets more) (puts {h = h} {hs = hs} {p = p} symbol1 shown to rest) below at =
    let step : step_by t below x ≡ Some p = sym (ap (λ o. option_and_then (λ y. step_by t y x) o) at) ∙ sym (targets z) ∙ to in
    let after = led kept more rest p to in
    record { states = p ∷ after.states; along = along_next (record { symbol = x; has = symbol_kept kept symbol; steps = step }) after.along; targets = target_next to after.targets }

-- the first entry has a state only over an alive start
starts_there : (last : StateMap) (z p : ℕ) (f : ℕ → Option ℕ) → option_and_then f (start_of last z) ≡ Some p → start_of last z ≡ Some z
starts_there last z p f e = by (none_or_some (target last z))
  where
    no_some : ◌≡◌ {A = Option ℕ} None (Some p) → ⊥
    no_some h = cc

    by : (target last z ≡ None) ⊎ ((b : ℕ) × (target last z ≡ Some b)) → start_of last z ≡ Some z
    by (inl none) = absurd (no_some (sym (ap (λ o. option_and_then f (option_and_then (λ b. Some z) o)) none) ∙ e))
    by (inr some) = ap (λ o. option_and_then (λ b. Some z) o) some.1

led_first : {t : Tables} {store now : Store} {supply : Supply} {z : ℕ} {hs : List Held} {s last : List Entry} (starts : StateMap) → IsKept store now → AreSteps t store (start_of starts) hs → Puts t.rules store supply z hs s last → AreLed t now z z hs
led_first starts kept no_step put_all = record { states = []; along = along_none; targets = no_target }
led_first {t} {store} {now} {supply} {z} starts kept (step_on {h = h} {hs = hs} x symbol rising targets more) (puts {p = p} symbol1 shown to rest) =
    led {from = start_of starts} kept (step_on x symbol rising targets more) (puts symbol1 shown to rest) z (starts_there starts z p (λ y. step_by t y x) (sym (targets z) ∙ to))

module _ {t : Tables} (lawful : IsLawful t) {store : Store} {s : Gathered} {left right : Piece} {rest : List Piece} {w : List TextToken} (at : IsPutting t store s left right [] rest w) where
  same_top : {p z : ℕ} → ◌≡◌ {A = Option ℕ} (Some p) (Some z) → p ≡ z
  same_top e = cc

  no_fault : {x : Fault} → ◌≡◌ {A = Option Fault} None (Some x) → ⊥
  no_fault e = cc

  through : {mid low : List Entry} {given : Supply} → Leaves t.rules store left [] mid → Falls at.put.taken mid low given → Falls right.floors mid low given
  through {mid} {low} {given} leaves down = subst (λ l. Falls l mid low given) (sym (at.put.floors ∙ append-nil at.put.taken)) down

  on_top : {mid low : List Entry} {given : Supply} → Leaves t.rules store left [] mid → Falls at.put.taken mid low given → top 0 low ≡ top_of s
  on_top {mid} {low} {given} leaves down =
      let c = at.put.put_on.comes mid low given leaves down in
      let base = (ground_left {e = ground} refl c.down).0 in
      let up : Puts t.rules (store_of s.store) c.given 0 (entries_on s.kids.items s.states.items) [] low = subst (λ l. Puts t.rules (store_of s.store) c.given (top 0 l) (entries_on s.kids.items s.states.items) l low) base c.up in
      same_top (sym (top_state ground.starts alive up) ∙ state_on s.kids.items s.states.items at.even)

  one_node : (x : Ref) → count_in x (floor_nodes left.floors) ≤ 1
  one_node x = let none = ap (λ l. count_in x (floor_nodes l)) at.on_ground in omega (arith, none)

  pub are_led : AreLed t (store_of s.store) (top_of s) (top_of s) right.stack
  are_led = by at.put.put_on.came
    where
      told : {mid low : List Entry} {given : Supply} → Leaves t.rules store left [] mid → Falls at.put.taken mid low given → Tells t store right at.put.right_tokens (first_or [] rest) mid → AreLed t (store_of s.store) (top_of s) (top_of s) right.stack
      told leaves down (tells_error fails errs) = absurd (falls_not_fails (through leaves down) fails)
      told {mid} {low} {given} leaves down (tells_stack {last = last} others run) =
          let same = (falls_once others.down (through leaves down)).0 in
          let z = ap (λ (l : List Entry). top 0 l) same ∙ on_top leaves down in
          led_first at.put.made_right.last at.put.kept at.put.made_right.maps (subst (λ q. Puts t.rules store others.supply q right.stack others.rest last) z others.up)

      comes : {mid : List Entry} → Leaves t.rules store left [] mid → Tells t store left at.put.tokens (right.first ∷ []) [] → ((low : List Entry) × (given : Supply) × Falls at.put.taken mid low given) → AreLed t (store_of s.store) (top_of s) (top_of s) right.stack
      comes {mid} leaves (tells_error fails errs) down = absurd (falls_not_fails leaves.down fails)
      comes {mid} leaves (tells_stack {last = other} leaves1 run) down =
          let shift = at.put.shifts other leaves1 in
          let same = same_result t store left [] mid other one_node leaves leaves1 in
          let there = at.put.stands_right other (record { stack = run_stack lawful.1 run bottom; state = shift.0; shifts = shift.1 }) in
          told leaves down.2 (subst (λ l. Tells t store right at.put.right_tokens (first_or [] rest) l) (sym same) there)

      by : ((x : Fault) × Fails (ground ∷ []) [] x) ⊎ ((mid : List Entry) × (low : List Entry) × (supply : Supply) × Leaves t.rules store left [] mid × Falls at.put.taken mid low supply) → AreLed t (store_of s.store) (top_of s) (top_of s) right.stack
      by (inl (x, fails)) = absurd (no_fault (ground_fault {e = ground} refl fails))
      by (inr (mid, low, supply, leaves, down)) = comes leaves at.put.tells (low, supply, down)

-- ---- the entries are put on

over_targets : (starts : ℕ → Option ℕ) (z : ℕ) → starts 0 ≡ Some z → {hs : List Held} {states : List ℕ} → HaveTargets z hs states → AreOver starts ground.starts hs (entries_on (kids_of hs) states)
over_targets starts z at no_target = none_over
over_targets starts z at (target_next {h = h} {p = p} to rest) = over_next refl (λ i j d less past. absurd (omega (arith, less, past))) targets (over_targets starts z at rest)
  where
    targets : (q : ℕ) → IsSome (target ground.starts q) → target ((0, p) ∷ []) q ≡ option_and_then (target h.states) (starts q)
    targets zero here = sym (ap (option_and_then (target h.states)) at ∙ to)
    targets (suc q) here = absurd (not_none here (one_target q 0))

length_targets : {z : ℕ} {hs : List Held} {states : List ℕ} → HaveTargets z hs states → length states ≡ length (kids_of hs)
length_targets no_target = refl
length_targets (target_next to rest) = let more = length_targets rest in omega (arith, more)

pub put_ends : {t : Tables} (lawful : IsLawful t) {base store : Store} {s next : Gathered} {left right : Piece} {rest : List Piece} {w : List TextToken} (at : IsPutting t store s left right [] rest w) → IsKept base store → next.kids.items ≡ s.kids.items ++ kids_of right.stack → next.states.items ≡ s.states.items ++ (are_led lawful at).states → next.store ≡ s.store → next.count ≡ s.count + right.count → IsGathered t base next rest w
put_ends {t} lawful {base} {store} {s} {next} {left} {right} {rest} {w} at kept kids states same count =
    let by = are_led lawful at in
    let more = length_targets by.targets in
    let a = ap (λ (l : List Kid). length l) kids ∙ length-append s.kids.items (kids_of right.stack) in
    let b = ap (λ (l : List ℕ). length l) states ∙ length-append s.states.items by.states in
    let e = at.even in
    let stack : entries_on next.kids.items next.states.items ≡ entries_on s.kids.items s.states.items ++ entries_on (kids_of right.stack) by.states = (λ i. entries_on (kids i) (states i)) ∙ entries-append s.kids.items (kids_of right.stack) s.states.items by.states at.even in
    let over = over_targets (state_over ground.starts (entries_on s.kids.items s.states.items)) (top_of s) (state_on s.kids.items s.states.items at.even) by.targets in
    let ending : IsEnding t (store_of s.store) (piece_on next.kids.items next.states.items) ground rest w = end_put_end_law (grammar_with t lawful.0) t lawful.1 store (store_of s.store) left right (piece_on s.kids.items s.states.items) (piece_on next.kids.items next.states.items) ground rest w (entries_on s.kids.items s.states.items) (entries_on (kids_of right.stack) by.states) at.put refl stack (same_kept ground.starts s.kids.items s.states.items) over in
    let counted = at.counted in
    record {
      kept = subst (λ c. IsKept base (store_of c)) (sym same) (kept_then base store (store_of s.store) kept at.put.kept);
      even = omega (arith, a, b, e, more);
      ending = subst (λ c. IsEnding t (store_of c) (piece_on next.kids.items next.states.items) ground rest w) (sym same) ending;
      counted = omega (arith, counted, count);
    }

-- ---- so many entries are put on

pub next_kid : (kids : List Kid) (i : ℕ) (k : Kid) → i < length kids → k ≡ get_or kids i k → drop i kids ≡ k ∷ drop (i + 1) kids
next_kid kids i k inside is = drop-cons kids i k inside ∙ (λ j. sym is j ∷ drop (one_more i j) kids)
  where
    one_more : (n : ℕ) → suc n ≡ n + 1
    one_more n = omega arith

-- the states so far, of those to which the tables lead along all kids; these kids are left
pub record IsPartly (t : Tables) (store : Store) (before : List ℕ) (left : List Kid) (all now : List ℕ) : Type 0 where
  pub done : List ℕ
  pub others : List ℕ
  pub parts : all ≡ done ++ others
  pub so_far : now ≡ before ++ done
  pub along : AreAlong t store (last_state 0 now) left others

pub partly_none : {t : Tables} {store : Store} {before : List ℕ} {kids : List Kid} {states : List ℕ} → AreAlong t store (last_state 0 before) kids states → IsPartly t store before kids states before
partly_none {before = before} {states = states} along = record { done = []; others = states; parts = refl; so_far = sym (append-nil before); along = along }

-- the next kid has a state
pub record IsLedBy (t : Tables) (store : Store) (before : List ℕ) (kid : Kid) (left : List Kid) (all now : List ℕ) : Type 0 where
  pub state : ℕ
  pub leads : LeadsTo t store kid (last_state 0 now) state
  pub next : IsPartly t store before left all (now ++ state ∷ [])

pub partly_next : {t : Tables} {store : Store} {before all now : List ℕ} {kid : Kid} {left : List Kid} → IsPartly t store before (kid ∷ left) all now → IsLedBy t store before kid left all now
partly_next {t} {store} {before} {all} {now} {kid} {left} at = by at.others refl at.along
  where
    by : (others : List ℕ) → at.others ≡ others → AreAlong t store (last_state 0 now) (kid ∷ left) others → IsLedBy t store before kid left all now
    by others e (along_next {p = p} {states = states} leads more) = record {
      state = p;
      leads = leads;
      next = record {
        done = at.done ++ p ∷ [];
        others = states;
        parts = at.parts ∙ ap (λ l. at.done ++ l) e ∙ sym (append_assoc at.done (p ∷ []) states);
        so_far = ap (λ l. l ++ p ∷ []) at.so_far ∙ append_assoc before at.done (p ∷ []);
        along = subst (λ q. AreAlong t store q left states) (sym (last-append 0 now (p ∷ []))) more;
      };
    }

pub partly_all : {t : Tables} {store : Store} {before all now : List ℕ} → IsPartly t store before [] all now → now ≡ before ++ all
partly_all {t} {store} {before} {all} {now} at = at.so_far ∙ ap (λ l. before ++ l) (sym (append-nil at.done) ∙ ap (λ l. at.done ++ l) (sym (none at.along)) ∙ sym at.parts)
  where
    none : {others : List ℕ} → AreAlong t store (last_state 0 now) [] others → others ≡ []
    none along_none = refl

-- ---- the whole piece

-- where the next piece is reached, its floors are put on
pub reached_putting : {t : Tables} → IsLawful t → {base : Store} {s : Gathered} {right : Piece} {rest : List Piece} {w : List TextToken} → IsGathered t base s (right ∷ rest) w × ((q : ℕ) × (act_in t (top_of s) right.first.id ≡ Shift q)) → {floors : List Floor} → right.floors ≡ floors → IsPutting t (store_of s.store) s (piece_on s.kids.items s.states.items) right floors rest w
reached_putting {t} lawful {base} {s} {right} {rest} {w} at same = subst (λ l. IsPutting t (store_of s.store) s (piece_on s.kids.items s.states.items) right l rest w) same (put_begins lawful at.0 at.1.1)

pub reached_apart : {t : Tables} → IsLawful t → {base : Store} {s : Gathered} {right : Piece} {rest : List Piece} {w : List TextToken} → IsGathered t base s (right ∷ rest) w × ((q : ℕ) × (act_in t (top_of s) right.first.id ≡ Shift q)) → {floors : List Floor} → right.floors ≡ floors → All {X = Floor} HasApart floors
reached_apart lawful at same = subst (λ l. All {X = Floor} HasApart l) same (floors_apart (put_begins lawful at.0 at.1.1).put.made_right.floors)

-- the states of its entries, by its kids
pub led_along : {t : Tables} (lawful : IsLawful t) {store : Store} {s : Gathered} {left right : Piece} {rest : List Piece} {w : List TextToken} (at : IsPutting t store s left right [] rest w) {kids : List Kid} → kids_of right.stack ≡ kids → AreAlong t (store_of s.store) (top_of s) kids (are_led lawful at).states
led_along {t} lawful {s = s} at same = subst (λ l. AreAlong t (store_of s.store) (top_of s) l (are_led lawful at).states) same (are_led lawful at).along
