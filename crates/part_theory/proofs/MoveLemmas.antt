-- The moves of runs: runs with their moves are runs, they are joined, and one goes on from where the other is.
use Rattle.std.proofs.Common.{◌≡◌, ℕ, ◌+◌, ◌⊎◌, inl, inr, List, [], ◌∷◌, ◌++◌, length, Some, refl, sym, ap, ◌∙◌, subst₂, arith}
use Rattle.grammar_data.specs.declared.token.Token.{Token as TextToken}
use Rattle.table_data.specs.declared.act.Act.{Act}
use Rattle.table_data.specs.declared.act.Act.TheVariants.{Shift, Reduce}
use Rattle.table_data.specs.Tables.{Tables, act_in}
use Rattle.machine_theory.specs.Machine.{Entry, top, shifted, Reaches, here, after_reduction, after_shift}
use Rattle.machine_theory.proofs.RunLemmas.{reduces_once, act_of}
use Rattle.part_theory.specs.Moves.{Move, ShiftMove, ReduceMove, move_of, MovesBy, shift_made, reduction_made, Runs, no_move, after_move, shifts_in, MovesLaw, MovesThenLaw, OneMovesLaw, ShiftsLaw}

-- ---- runs with and without their moves

pub moves_reach : {t : Tables} {base : ℕ} {s last : List Entry} {u v : List TextToken} {moves : List Move} → Runs t base s u last v moves → Reaches t base s u last v
moves_reach no_move = here
moves_reach (after_move (shift_made act) more) = after_shift act (moves_reach more)
moves_reach (after_move (reduction_made act m) more) = after_reduction m (moves_reach more)

pub reached_by : {t : Tables} {base : ℕ} {s last : List Entry} {u v : List TextToken} → Reaches t base s u last v → (moves : List Move) × Runs t base s u last v moves
reached_by here = ([], no_move)
reached_by (after_reduction m more) = let act = act_of m in let rest = reached_by more in (ReduceMove act.0 ∷ rest.0, after_move (reduction_made act.1 m) rest.1)
reached_by (after_shift act more) = let rest = reached_by more in (ShiftMove ∷ rest.0, after_move (shift_made act) rest.1)

pub moves_law : MovesLaw
moves_law t base s last u v = (reached_by, λ run. moves_reach run.1)

pub runs_then : {t : Tables} {base : ℕ} {s mid last : List Entry} {u v w : List TextToken} {moves more : List Move} → Runs t base s u mid v moves → Runs t base mid v last w more → Runs t base s u last w (moves ++ more)
runs_then no_move other = other
runs_then (after_move m run) other = after_move m (runs_then run other)

pub moves_then_law : MovesThenLaw
moves_then_law t base s mid last u v w moves more run other = runs_then run other

pub run_shifts : {t : Tables} {base : ℕ} {s last : List Entry} {u v : List TextToken} {moves : List Move} → Runs t base s u last v moves → shifts_in moves + length v ≡ length u
run_shifts no_move = omega arith
run_shifts (after_move (shift_made act) more) = let same = run_shifts more in omega (arith, same)
run_shifts (after_move (reduction_made act m) more) = run_shifts more

pub shifts_law : ShiftsLaw
shifts_law t base s last u v moves run = run_shifts run

-- ---- one move at a time

same_token : {x y : TextToken} {xs ys : List TextToken} → x ∷ xs ≡ y ∷ ys → x ≡ y
same_token e = cc

same_rest : {x y : TextToken} {xs ys : List TextToken} → x ∷ xs ≡ y ∷ ys → xs ≡ ys
same_rest e = cc

-- a move is made on a token, by the action of the state on top
pub move_acts : {t : Tables} {base : ℕ} {move : Move} {s mid : List Entry} {u v : List TextToken} → MovesBy t base move s u mid v → (token : TextToken) × (later : List TextToken) × (u ≡ token ∷ later) × (move_of (act_in t (top base s) token.id) ≡ Some move)
move_acts (shift_made {token = token} {u = u} act) = (token, u, refl, ap move_of act)
move_acts (reduction_made {token = token} {u = u} act m) = (token, u, refl, ap move_of act)

pub acts_here : {t : Tables} {base : ℕ} {move : Move} {s mid : List Entry} {u v : List TextToken} → MovesBy t base move s u mid v → (token : TextToken) (later : List TextToken) → u ≡ token ∷ later → move_of (act_in t (top base s) token.id) ≡ Some move
acts_here {t} {base} {s = s} m token later e =
    let acts = move_acts m in
    ap (λ (x : TextToken). move_of (act_in t (top base s) x.id)) (same_token (sym e ∙ acts.2)) ∙ acts.3

shifts_to : {act : Act} {p q : ℕ} → act ≡ Shift p → act ≡ Shift q → p ≡ q
shifts_to e f = cc

reduces_to : {act : Act} {r q : ℕ} → act ≡ Reduce r → act ≡ Reduce q → r ≡ q
reduces_to e f = cc

one_act : {act : Act} {p r : ℕ} → act ≡ Shift p → act ≡ Reduce r → ⊥
one_act e f = cc

-- there is one move from a place
pub move_once : {t : Tables} {base : ℕ} {move other : Move} {s mid second : List Entry} {u v w : List TextToken} → MovesBy t base move s u mid v → MovesBy t base other s u second w → (move ≡ other) × (mid ≡ second) × (v ≡ w)
move_once (shift_made {s = s} {token = token} act) (shift_made other) = (refl, ap (λ p. shifted token p ∷ s) (shifts_to act other), refl)
move_once (shift_made act) (reduction_made other m) = absurd (one_act act other)
move_once (reduction_made act m) (shift_made other) = absurd (one_act other act)
move_once (reduction_made act m) (reduction_made other n) = (ap ReduceMove (reduces_to act other), reduces_once m n, refl)

-- ---- of two runs one goes on from where the other is

-- the run with the moves `others` goes on from where the run with `moves` is
pub record GoesOn (t : Tables) (base : ℕ) (first : List Entry) (v : List TextToken) (moves : List Move) (second : List Entry) (w : List TextToken) (others : List Move) : Type 0 where
  pub more : List Move
  pub parts : moves ++ more ≡ others
  pub run : Runs t base first v second w more

one_more : {t : Tables} {base : ℕ} {first second : List Entry} {v w : List TextToken} {move other : Move} {moves others : List Move} → move ≡ other → GoesOn t base first v moves second w others → GoesOn t base first v (move ∷ moves) second w (other ∷ others)
one_more e on = record { more = on.more; parts = (λ i. e i ∷ on.parts i); run = on.run }

both_more : {t : Tables} {base : ℕ} {first second : List Entry} {v w : List TextToken} {move other : Move} {moves others : List Move} → move ≡ other → GoesOn t base first v moves second w others ⊎ GoesOn t base second w others first v moves → GoesOn t base first v (move ∷ moves) second w (other ∷ others) ⊎ GoesOn t base second w (other ∷ others) first v (move ∷ moves)
both_more e (inl on) = inl (one_more e on)
both_more e (inr on) = inr (one_more (sym e) on)

pub run_from : {t : Tables} {base : ℕ} {s start last : List Entry} {u v w : List TextToken} {moves : List Move} → s ≡ start → u ≡ v → Runs t base s u last w moves → Runs t base start v last w moves
run_from {t} {base} {last = last} {w = w} {moves = moves} es eu run = subst₂ (λ x y. Runs t base x y last w moves) es eu run

pub compared_moves : {t : Tables} {base : ℕ} {s first second : List Entry} {u v w : List TextToken} {moves others : List Move} → Runs t base s u first v moves → Runs t base s u second w others → GoesOn t base first v moves second w others ⊎ GoesOn t base second w others first v moves
compared_moves {others = others} no_move other = inl (record { more = others; parts = refl; run = other })
compared_moves (after_move {move = move} {moves = moves} m more) no_move = inr (record { more = move ∷ moves; parts = refl; run = after_move m more })
compared_moves (after_move m more) (after_move n others) = let same = move_once m n in both_more same.0 (compared_moves more (run_from (sym same.1) (sym same.2) others))

pub one_moves_law : OneMovesLaw
one_moves_law t base s first second u v w moves others run other = cases (compared_moves run other)
  where
    cases : GoesOn t base first v moves second w others ⊎ GoesOn t base second w others first v moves → ((more : List Move) × (moves ++ more ≡ others) × Runs t base first v second w more) ⊎ ((more : List Move) × (others ++ more ≡ moves) × Runs t base second w first v more)
    cases (inl on) = inl (on.more, on.parts, on.run)
    cases (inr on) = inr (on.more, on.parts, on.run)
