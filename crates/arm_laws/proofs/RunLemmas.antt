-- Runs by moves: more input, one move more, and what reductions do to stacks above a part that stays.
use Rattle.std.proofs.Common.{◌≡◌, ◌≢◌, ℕ, ◌≤◌, ◌⊎◌, inl, inr, List, [], ◌∷◌, ◌++◌, length, take, Some, option_and_then, refl, sym, ap, ◌∙◌, append_assoc, arith}
use Rattle.std.proofs.Math.Seq.{take-append_seam}
use Rattle.grammar_data.specs.declared.rule.Sym.{Sym}
use Rattle.grammar_data.specs.declared.token.Token.{Token as TextToken}
use Rattle.table_data.specs.declared.act.Act.{Act}
use Rattle.table_data.specs.declared.act.Act.TheVariants.{Shift, Reduce, Accept, Error}
use Rattle.table_data.specs.Tables.{Tables, act_in}
use Rattle.machine_theory.specs.Machine.{Entry, top, symbols, IsStack, pushed}
use Rattle.machine_theory.proofs.StackLemmas.{symbols-append, length-symbols}
use Rattle.lawful_theory.specs.Lawful.{IsLawful}
use Rattle.lawful_theory.specs.Laws.{Fits}
use Rattle.lawful_theory.proofs.FitLemmas.{fit_law, stacks_stay_law}
use Rattle.map_theory.specs.Maps.{walk_by}
use Rattle.map_theory.proofs.MapLemmas.{walk_law}
use Rattle.part_theory.specs.Moves.{Move, MovesBy, shift_made, reduction_made, Runs, no_move, after_move}
use Rattle.part_theory.proofs.MoveLemmas.{moves_reach}
use Rattle.piece_theory.specs.Pieces.{Fault}
use Rattle.arm_laws.specs.Did.{ErrsBy}

-- ---- more input, more moves

pub move_more : {t : Tables} {base : ℕ} {move : Move} {s mid : List Entry} {u v : List TextToken} (more : List TextToken) → MovesBy t base move s u mid v → MovesBy t base move s (u ++ more) mid (v ++ more)
move_more more (shift_made act) = shift_made act
move_more more (reduction_made act reduced) = reduction_made act reduced

pub runs_more : {t : Tables} {base : ℕ} (more : List TextToken) {s last : List Entry} {u v : List TextToken} {moves : List Move} → Runs t base s u last v moves → Runs t base s (u ++ more) last (v ++ more) moves
runs_more more no_move = no_move
runs_more more (after_move move rest) = after_move (move_more more move) (runs_more more rest)

pub errs_input : {t : Tables} {s : List Entry} {input : List TextToken} {fault : Fault} {moves : List Move} (more : List TextToken) → ErrsBy t s input fault moves → ErrsBy t s (input ++ more) fault moves
errs_input {fault = fault} more errs = record {
  made = errs.made;
  more = errs.more;
  of_moves = errs.of_moves;
  stack = errs.stack;
  before = errs.before;
  later = errs.later ++ more;
  parts = ap (λ l. l ++ more) errs.parts ∙ append_assoc errs.before (fault.token ∷ errs.later) more;
  at = errs.at;
  run = runs_more more errs.run;
  state_on_top = errs.state_on_top;
  error = errs.error;
}

pub errs_moves : {t : Tables} {s : List Entry} {input : List TextToken} {fault : Fault} {moves : List Move} (extra : List Move) → ErrsBy t s input fault moves → ErrsBy t s input fault (moves ++ extra)
errs_moves extra errs = record {
  made = errs.made;
  more = errs.more ++ extra;
  of_moves = sym (append_assoc errs.made errs.more extra) ∙ ap (λ l. l ++ extra) errs.of_moves;
  stack = errs.stack;
  before = errs.before;
  later = errs.later;
  parts = errs.parts;
  at = errs.at;
  run = errs.run;
  state_on_top = errs.state_on_top;
  error = errs.error;
}

pub error_or : (act : Act) → (act ≡ Error) ⊎ (act ≢ Error)
error_or (Shift p) = inr (λ e. cc)
error_or (Reduce r) = inr (λ e. cc)
error_or Accept = inr (λ e. cc)
error_or Error = inl refl

-- ---- a reduction fits

-- the stack that a run comes to fits the reduction that its state on top makes
pub run_fits : {t : Tables} {s last : List Entry} {u v : List TextToken} {moves : List Move} → IsLawful t → IsStack t 0 s → Runs t 0 s u last v moves → (a r : ℕ) → act_in t (top 0 last) a ≡ Reduce r → Fits t last r
run_fits {t} {s} {last} {u} {v} lawful is run a r act = fit_law _ t lawful.1 last a r (stacks_stay_law _ t lawful.1 s last u v is (moves_reach run)) act

pub run_stack : {t : Tables} {s last : List Entry} {u v : List TextToken} {moves : List Move} → IsLawful t → IsStack t 0 s → Runs t 0 s u last v moves → IsStack t 0 last
run_stack {t} {s} {last} {u} {v} lawful is run = stacks_stay_law _ t lawful.1 s last u v is (moves_reach run)

-- ---- a front that is longer

-- two lists joined in two ways: the longer front is the shorter one and more
pub record LongerFront {X : Type 0} (xs ys us vs : List X) : Type 0 where
  pub more : List X
  pub front : xs ≡ us ++ more
  pub back : vs ≡ more ++ ys

pub longer_front : {X : Type 0} (xs ys us vs : List X) → xs ++ ys ≡ us ++ vs → length us ≤ length xs → LongerFront xs ys us vs
longer_front xs ys [] vs e less = record { more = xs; front = refl; back = sym e }
longer_front [] ys (u ∷ us) vs e less = absurd (omega (arith, less))
longer_front (x ∷ xs) ys (u ∷ us) vs e less =
    let rest = longer_front xs ys us vs (cc) (omega (arith, less)) in
    let same : x ≡ u = cc in
    record { more = rest.more; front = λ i. same i ∷ rest.front i; back = rest.back }

-- ---- up a stack

-- the symbols of the upper part of a valid stack lead from the state below it to the top
pub walk_up : (t : Tables) (upper below : List Entry) → IsStack t 0 (upper ++ below) → walk_by t (top 0 below) (symbols upper) ≡ Some (top 0 (upper ++ below))
walk_up t [] below is = refl
walk_up t (e ∷ upper) below (pushed is tree step) =
    walk_law t (top 0 below) (symbols upper) (e.symbol ∷ []) ∙ ap (λ o. option_and_then (λ p. walk_by t p (e.symbol ∷ [])) o) (walk_up t upper below is) ∙ ap (λ o. option_and_then (λ p. Some p) o) step

-- of symbols in two parts the first are those of the lower part
pub symbols_below : (upper below : List Entry) (right : List Sym) (hidden : ℕ) → symbols (upper ++ below) ≡ right → length below ≡ hidden → symbols below ≡ take hidden right
symbols_below upper below right hidden are count =
    let parts : symbols below ++ symbols upper ≡ right = sym (symbols-append upper below) ∙ are in
    let len : length (symbols below) ≡ hidden = length-symbols below ∙ count in
    sym (take-append_seam (symbols below) (symbols upper)) ∙ ap (λ k. take k (symbols below ++ symbols upper)) len ∙ ap (λ l. take hidden l) parts
