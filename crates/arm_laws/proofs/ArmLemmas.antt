-- The steps by which a piece is made, on one context.
use Rattle.std.proofs.Common.{◌≡◌, ◌≢◌, ℕ, ◌⊎◌, inl, inr, List, [], ◌∷◌, ◌++◌, length, Some, None, refl, sym, ap, ◌∙◌, subst, append-nil}
use Rattle.grammar_data.specs.declared.rule.Sym.{Sym}
use Rattle.grammar_data.specs.declared.rule.Sym.TheVariants.{Token, Name}
use Rattle.grammar_data.specs.declared.token.Token.{Token as TextToken}
use Rattle.grammar_theory.specs.Rules.{IsRule}
use Rattle.grammar_theory.specs.Trees.{Tree, Leaf, Node, NoTree}
use Rattle.grammar_theory.proofs.RuleLemmas.{rule_once, same_parts}
use Rattle.tree_theory.specs.Stores.{Store, Supply, Shows, shows_token, shows_node}
use Rattle.table_data.specs.declared.act.Act.TheVariants.{Reduce, Error}
use Rattle.table_data.specs.Tables.{Tables, act_in, goto_in}
use Rattle.machine_theory.specs.Machine.{Entry, top, forest_onto, reduced, reduces}
use Rattle.machine_theory.proofs.StackLemmas.{length-symbols}
use Rattle.lawful_theory.specs.Laws.{Fits}
use Rattle.map_theory.specs.Maps.{target}
use Rattle.part_theory.specs.Moves.{Move, ShiftMove, ReduceMove, shift_made, reduction_made, Runs, no_move, after_move}
use Rattle.part_theory.proofs.MoveLemmas.{moves_reach, runs_then}
use Rattle.piece_theory.specs.Pieces.{Fault, Floor, Held, Piece, fault_at, hidden_of, kids_of}
use Rattle.piece_theory.specs.Applies.{HasSymbol, token_symbol, node_symbol, nowhere, supply_of, hidden_symbols, Falls, through, falls, Fails, Puts, put_all, puts, Leaves, tells_error, tells_stack, Fitted, fitted_all, fitted}
use Rattle.arm_laws.specs.Did.{Did, did_err, did_leave, over, DidTellsLaw}
use Rattle.arm_laws.specs.Arms.{OpenedLaw, NextLaw, LookLaw, ShiftLaw, ReduceLaw}
use Rattle.arm_laws.proofs.FallLemmas.{fails_then, LastFalls, falls_last, falls_swap, fails_swap, fitted_swap}
use Rattle.arm_laws.proofs.PutLemmas.{puts_then, puts_split, put_same, put_grow, put_over, put_above}
use Rattle.arm_laws.proofs.RunLemmas.{runs_more, errs_input, errs_moves, error_or, run_fits}

-- ---- what is told

pub did_tells_law : DidTellsLaw
did_tells_law t store p w next moves s (did_err fails errs) = tells_error fails (record {
  stack = errs.stack;
  before = errs.before;
  later = errs.later;
  parts = errs.parts;
  at = errs.at;
  reached = moves_reach errs.run;
  state_on_top = errs.state_on_top;
  error = errs.error;
})
did_tells_law t store p w next moves s (did_leave leaves run) = tells_stack leaves (moves_reach run)

-- ---- what a piece leaves, over its floors and entries by name

-- what the floors and the entries do, the last floor apart
pub record LeavesBy (t : Tables) (store : Store) (lower : List Floor) (f : Floor) (hs : List Held) (s last : List Entry) : Type 0 where
  pub rest : List Entry
  pub supply : Supply
  pub down : Falls (lower ++ f ∷ []) s rest supply
  pub by : LastFalls lower f s rest supply
  pub up : Puts t.rules store supply (top 0 rest) hs rest last
  pub over_all : over hs (top 0 rest) ≡ Some (top 0 last)

pub leaves_by : {t : Tables} {store : Store} {p : Piece} {s last : List Entry} (lower : List Floor) (f : Floor) (hs : List Held) → p.floors ≡ lower ++ f ∷ [] → p.stack ≡ hs → Leaves t.rules store p s last → LeavesBy t store lower f hs s last
leaves_by {t} {store} {p} {s} {last} lower f hs on_floors on_stack leaves =
    let down : Falls (lower ++ f ∷ []) s leaves.rest leaves.supply = subst (λ l. Falls l s leaves.rest leaves.supply) on_floors leaves.down in
    let up : Puts t.rules store leaves.supply (top 0 leaves.rest) hs leaves.rest last = subst (λ l. Puts t.rules store leaves.supply (top 0 leaves.rest) l leaves.rest last) on_stack leaves.up in
    record { rest = leaves.rest; supply = leaves.supply; down = down; by = falls_last lower f down; up = up; over_all = put_over up }

pub leaves_with : (t : Tables) (store : Store) (p : Piece) {s last rest : List Entry} {supply : Supply} (floors : List Floor) (hs : List Held) → p.floors ≡ floors → p.stack ≡ hs → Falls floors s rest supply → Puts t.rules store supply (top 0 rest) hs rest last → Leaves t.rules store p s last
leaves_with t store p {s} {last} {rest} {supply} floors hs on_floors on_stack down up = record {
  rest = rest;
  supply = supply;
  down = subst (λ l. Falls l s rest supply) (sym on_floors) down;
  up = subst (λ l. Puts t.rules store supply (top 0 rest) l rest last) (sym on_stack) up;
}

fails_on : (p q : Piece) {s : List Entry} {fault : Fault} → p.floors ≡ q.floors → Fails q.floors s fault → Fails p.floors s fault
fails_on p q {s} {fault} same fails = subst (λ l. Fails l s fault) (sym same) fails

-- ---- opened, and the next token

pub no_fault : (f : Floor) → f.faults ≡ [] → (q : ℕ) → fault_at f.faults q ≡ None
no_fault f none q = ap (λ l. fault_at l q) none

pub opened_law : OpenedLaw
opened_law t store p f held on_floors un none on_stack kid shifts s context =
    let here : 0 ≡ hidden_of f.opened = ap hidden_of (sym un) in
    let down : Falls (f ∷ []) s s [] = falls [] s refl here (no_fault f none (top 0 s)) through (ap (λ o. supply_of o [] ++ []) (sym un)) in
    let symbol : HasSymbol t.rules store held.kid (Token p.first.id) = subst (λ k. HasSymbol t.rules store k (Token p.first.id)) (sym kid) token_symbol in
    let shown : Shows store [] nowhere 0 held.kid (Leaf p.first) = subst (λ k. Shows store [] nowhere 0 k (Leaf p.first)) (sym kid) shows_token in
    let up : Puts t.rules store [] (top 0 s) (held ∷ []) s (record { symbol = Token p.first.id; tree = Leaf p.first; state = context.state } ∷ s) = puts symbol shown (shifts (top 0 s) context.state context.shifts) put_all in
    let right : Fitted t.rules (f ∷ []) s = fitted [] s refl here (ap (λ o. hidden_symbols t.rules o) (sym un)) (λ clear. fitted_all) in (
      did_leave (leaves_with t store p (f ∷ []) (held ∷ []) on_floors on_stack down up) (after_move (shift_made context.shifts) no_move),
      subst (λ l. Fitted t.rules l s) (sym on_floors) right,
    )

pub next_law : NextLaw
next_law t store p input moves token s (did_err fails errs) = did_err fails (errs_input (token ∷ []) errs)
next_law t store p input moves token s (did_leave leaves run) = did_leave leaves (runs_more (token ∷ []) run)

-- ---- a look

pub look_law : LookLaw
look_law t store p looked lower f g w token moves on_floors now look same s did fit = (cases did, subst (λ l. Fitted t.rules l s) (sym now) (fitted_swap t.rules lower f g look.same (subst (λ l. Fitted t.rules l s) on_floors fit)))
  where
    cases : Did t store p (w ++ token ∷ []) (token ∷ []) moves s → Did t store looked (w ++ token ∷ []) (token ∷ []) moves s
    cases (did_err {fault = fault} fails errs) =
        let swapped : Fails (lower ++ g ∷ []) s fault = fails_swap lower f g look.same look.stays (subst (λ l. Fails l s fault) on_floors fails) in
        did_err (subst (λ l. Fails l s fault) (sym now) swapped) errs
    cases (did_leave {last = last} leaves run) =
        let by = leaves_by {t = t} {store = store} {p = p} lower f p.stack on_floors refl leaves in
        lived by (error_or (act_in t (top 0 last) token.id))
      where
        lived : LeavesBy t store lower f p.stack s last → (act_in t (top 0 last) token.id ≡ Error) ⊎ (act_in t (top 0 last) token.id ≢ Error) → Did t store looked (w ++ token ∷ []) (token ∷ []) moves s
        lived by (inl error) =
            let fault : Fault = record { start = top 0 by.rest; index = length w; token = token; state = top 0 last } in
            let is : fault_at g.faults (top 0 by.rest) ≡ Some fault = look.dies (top 0 by.rest) (top 0 last) by.by.clear by.over_all error in
            let fails : Fails (lower ++ g ∷ []) s fault = fails_then by.by.down g by.by.taken by.rest by.by.parts (by.by.count ∙ ap hidden_of (sym look.same)) is in
            did_err (subst (λ l. Fails l s fault) (sym now) fails) (record {
              made = moves;
              more = [];
              of_moves = append-nil moves;
              stack = last;
              before = w;
              later = [];
              parts = refl;
              at = refl;
              run = run;
              state_on_top = refl;
              error = error;
            })
        lived by (inr not) =
            let clear : fault_at g.faults (top 0 by.rest) ≡ None = look.lives (top 0 by.rest) (top 0 last) by.by.clear by.over_all not in
            did_leave (leaves_with t store looked (lower ++ g ∷ []) looked.stack now refl (falls_swap lower f g by.by look.same clear) (put_same (same (top 0 by.rest) clear) by.up)) run

-- ---- a shift

pub shift_law : ShiftLaw
shift_law t store p shifted lower f kept held input token moves on_floors same_floors on_stack same kid shifts s (did_err {fault = fault} fails errs) = did_err (fails_on shifted p same_floors fails) (errs_moves (ShiftMove ∷ []) errs)
shift_law t store p shifted lower f kept held input token moves on_floors same_floors on_stack same kid shifts s (did_leave {last = last} leaves run) =
    let by = leaves_by {t = t} {store = store} {p = p} lower f p.stack on_floors refl leaves in
    let q = top 0 by.rest in
    let to = shifts q (top 0 last) by.by.clear by.over_all in
    let symbol : HasSymbol t.rules store held.kid (Token token.id) = subst (λ k. HasSymbol t.rules store k (Token token.id)) (sym kid) token_symbol in
    let shown : Shows store by.supply nowhere 0 held.kid (Leaf token) = subst (λ k. Shows store by.supply nowhere 0 k (Leaf token)) (sym kid) shows_token in
    did_leave
    (leaves_with t store shifted (lower ++ f ∷ []) (kept ++ held ∷ []) (same_floors ∙ on_floors) on_stack by.down (puts_then (put_same (same q by.by.clear) by.up) held symbol shown to.2))
    (runs_then run (after_move (shift_made to.1) no_move))

-- ---- reductions

-- the run and one reduction more
pub reduces_then : {t : Tables} {s last : List Entry} {input : List TextToken} {token : TextToken} {moves : List Move} {r n y : ℕ} {right : List Sym} (taken rest : List Entry) → Runs t 0 s input last (token ∷ []) moves → act_in t (top 0 last) token.id ≡ Reduce r → IsRule t.rules r n right → last ≡ taken ++ rest → length taken ≡ length right → goto_in t (top 0 rest) n ≡ Some y → Runs t 0 s input (reduced r n taken y ∷ rest) (token ∷ []) (moves ++ ReduceMove r ∷ [])
reduces_then taken rest run act rule parts count goes = runs_then run (after_move (reduction_made act (reduces taken rest act rule parts count goes refl)) no_move)

-- what fits is what was pushed, and the state below goes on along the name
fits_pushed : {t : Tables} {last : List Entry} {r n : ℕ} {right : List Sym} (pushed mid : List Entry) (fits : Fits t last r) → IsRule t.rules r n right → last ≡ pushed ++ mid → length pushed ≡ length right → goto_in t (top 0 mid) n ≡ Some fits.state
fits_pushed {t} {last} {r} {n} {right} pushed mid fits rule parts count =
    let same = rule_once fits.rule rule in
    let len : length fits.taken ≡ length pushed = sym (length-symbols fits.taken) ∙ ap length (fits.same ∙ same.1) ∙ sym count in
    let apart = same_parts fits.taken fits.rest pushed mid (sym fits.parts ∙ parts) len in
    ap (λ l. goto_in t (top 0 l) n) (sym apart.1) ∙ ap (λ k. goto_in t (top 0 fits.rest) k) (sym same.0) ∙ fits.goes

pub reduce_law : ReduceLaw
reduce_law t lawful store new has p after lower f keep taken kept held m r n right input token moves on_floors same_floors on_stack now same rule count kid node acts gotos s is (did_err {fault = fault} fails errs) = did_err (fails_on after p same_floors fails) (errs_moves (ReduceMove r ∷ []) errs)
reduce_law t lawful store new has p after lower f keep taken kept held m r n right input token moves on_floors same_floors on_stack now same rule count kid node acts gotos s is (did_leave {last = last} leaves run) =
    let by = leaves_by {t = t} {store = store} {p = p} lower f (keep ++ taken) on_floors on_stack leaves in
    let q = top 0 by.rest in
    let split = puts_split keep taken by.up in
    let low : Puts t.rules new by.supply q keep by.rest split.0 = put_grow has (λ x trees here. here) split.1 in
    let above = put_above (put_grow {store = store} {new = new} {supply = by.supply} {supply1 = by.supply} has (λ x trees here. here) split.2) in
    let all : over p.stack q ≡ Some (top 0 last) = ap (λ l. over l q) on_stack ∙ by.over_all in
    let act = acts q (top 0 last) by.by.clear all in
    let fits = run_fits lawful is run token.id r act in
    let goes : goto_in t (top 0 split.0) n ≡ Some fits.state = fits_pushed above.pushed split.0 fits rule above.parts (above.count ∙ count) in
    let to : target held.states q ≡ Some fits.state = gotos q (top 0 last) (top 0 split.0) fits.state by.by.clear all (put_over low) goes in
    let symbol : HasSymbol t.rules new held.kid (Name n) = subst (λ k. HasSymbol t.rules new k (Name n)) (sym kid) (node_symbol (kids_of taken) node rule) in
    let tree : Tree = Node r (forest_onto above.pushed NoTree) in
    let shown : Shows new by.supply nowhere 0 held.kid tree = subst (λ k. Shows new by.supply nowhere 0 k tree) (sym kid) (shows_node (kids_of taken) node (above.all m 0)) in
    did_leave
    (leaves_with t new after (lower ++ f ∷ []) (kept ++ held ∷ []) (same_floors ∙ on_floors) now by.down (puts_then (put_same (same q (top 0 last) by.by.clear all) low) held symbol shown to))
    (reduces_then above.pushed split.0 run act rule above.parts (above.count ∙ count) goes)
