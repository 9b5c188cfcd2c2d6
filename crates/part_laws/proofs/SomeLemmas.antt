-- By lawful tables it is refuted that a token list has no parts. Of the agreed lists those with the most shifts are looked
-- at: where none of them goes on without an error each is the longest; else reductions under the next token end, so that
-- there is a bound.
use Rattle.std.proofs.Common.{◌≡◌, ◌≢◌, ℕ, zero, suc, ◌+◌, ◌-◌, ◌<◌, ◌≤◌, ◌⊎◌, inl, inr, ⊎_elim, List, [], ◌∷◌, ◌++◌, length, take, drop, Some, refl, sym, ap, ◌∙◌, subst, append-nil, arith}
use Rattle.std.proofs.lemmas.Bool.{cases_lt}
use Rattle.std.proofs.lemmas.List.{length-take-le, length-drop, take-append-drop}
use Rattle.grammar_data.specs.declared.token.Token.{Token as TextToken}
use Rattle.grammar_data.specs.Grammar.{Grammar}
use Rattle.scanning_theory.proofs.NotRefuted.{decided, HasGreatest, greatest}
use Rattle.table_data.specs.declared.act.Act.{Act}
use Rattle.table_data.specs.declared.act.Act.TheVariants.{Shift, Reduce, Accept, Error}
use Rattle.table_data.specs.Tables.{Tables, act_in}
use Rattle.machine_theory.specs.Machine.{Entry, top, shifted, Reduces, Settles, shift_comes, accept_comes, after_one}
use Rattle.machine_theory.proofs.RunLemmas.{act_of}
use Rattle.lawful_theory.specs.Lawful.{IsLawfulFor}
use Rattle.lawful_theory.proofs.FitLemmas.{stacks_stay_law}
use Rattle.lawful_theory.proofs.SettleLemmas.{reductions_end_law}
use Rattle.part_theory.specs.Moves.{Move, ShiftMove, ReduceMove, move_of, shift_made, reduction_made, Runs, no_move, after_move, shifts_in, Begins}
use Rattle.part_theory.specs.Parts.{IsContext, Makes, ErrsWithin, IsAgreed, IsLongest, FirstPart, no_context, agreed_part, no_parts, part_then, HasParts}
use Rattle.part_theory.proofs.MoveLemmas.{GoesOn, moves_reach, runs_then, run_shifts, move_acts, acts_here, compared_moves}
use Rattle.part_theory.proofs.PartLemmas.{longer, agreed_law, first_part_bounds_law}
use Rattle.part_laws.specs.Laws.{SomePartsLaw}

shifts_both : (moves more : List Move) → shifts_in (moves ++ more) ≡ shifts_in moves + shifts_in more
shifts_both [] more = sym (omega arith)
shifts_both (ShiftMove ∷ moves) more = let e = shifts_both moves more in omega (arith, e)
shifts_both (ReduceMove r ∷ moves) more = shifts_both moves more

-- what is made of a longer list is made of its first part, with the place that it leads to and the moves after it
record IsSplit (t : Tables) (s last : List Entry) (w v : List TextToken) (moves more : List Move) : Type 0 where
  pub mid : List Entry
  pub rest : List TextToken
  pub first : Runs t 0 s w mid rest moves
  pub second : Runs t 0 mid rest last v more

split_run : {t : Tables} {s last : List Entry} {w v : List TextToken} {all : List Move} (moves more : List Move) → Runs t 0 s w last v all → all ≡ moves ++ more → IsSplit t s last w v moves more
split_run {t} {s} {last} {w} {v} [] more run e = record { mid = s; rest = w; first = no_move; second = subst (λ l. Runs t 0 s w last v l) e run }
split_run (move ∷ moves) more no_move e = absurd (cc)
split_run {t} {s = s} {w = w} (move ∷ moves) more (after_move {mid = mid} {v = mid_rest} {move = made} {moves = later} m run) e =
    let split = split_run moves more run (cc) in
    let same : made ≡ move = cc in
    record { mid = split.mid; rest = split.rest; first = subst (λ x. Runs t 0 s w split.mid split.rest (x ∷ moves)) same (after_move m split.first); second = split.second }

-- ---- ends of runs

-- nothing is left, or the action is no error and reduces nothing
data IsEnd (t : Tables) (s : List Entry) : List TextToken → Type 0 where
  nothing_left : IsEnd t s []
  accepts_or_shifts : {token : TextToken} {later : List TextToken} → act_in t (top 0 s) token.id ≢ Error → ((r : ℕ) → act_in t (top 0 s) token.id ≢ Reduce r) → IsEnd t s (token ∷ later)

reduce_of : {act : Act} {r : ℕ} → move_of act ≡ Some (ReduceMove r) → act ≡ Reduce r
reduce_of {act = Shift p} e = cc
reduce_of {act = Reduce q} e = cc
reduce_of {act = Accept} e = cc
reduce_of {act = Error} e = cc

-- what is done from an end is nothing, or begins with a shift
from_end : {t : Tables} {s last : List Entry} {u v : List TextToken} {moves : List Move} → IsEnd t s u → Runs t 0 s u last v moves → ((moves ≡ []) × (last ≡ s) × (v ≡ u)) ⊎ (0 < shifts_in moves)
from_end end no_move = inl (refl, refl, refl)
from_end nothing_left (after_move m more) = let acts = move_acts m in absurd (let e = acts.2 in cc)
from_end (accepts_or_shifts {token = token} {later = later} right none) (after_move {move = ShiftMove} m more) = inr (omega arith)
from_end (accepts_or_shifts {token = token} {later = later} right none) (after_move {move = ReduceMove r} m more) = absurd (none r (reduce_of (acts_here m token later refl)))

-- an error is none
no_error_end : {t : Tables} {s : List Entry} {u : List TextToken} {token : TextToken} {later : List TextToken} → IsEnd t s u → u ≡ token ∷ later → act_in t (top 0 s) token.id ≢ Error
no_error_end nothing_left e error = absurd (cc)
no_error_end {t} {s} (accepts_or_shifts {token = mine} right none) e error =
    let same : mine ≡ _ = first_same e in right (ap (λ (x : TextToken). act_in t (top 0 s) x.id) same ∙ error)
  where
    first_same : {x y : TextToken} {xs ys : List TextToken} → x ∷ xs ≡ y ∷ ys → x ≡ y
    first_same f = cc

-- nothing is done from an error
from_error : {t : Tables} {s last : List Entry} {u v : List TextToken} {moves : List Move} (token : TextToken) (later : List TextToken) → u ≡ token ∷ later → act_in t (top 0 s) token.id ≡ Error → Runs t 0 s u last v moves → (moves ≡ []) × (s ≡ last) × (u ≡ v)
from_error token later e error no_move = (refl, refl, refl)
from_error token later e error (after_move m more) = let does = sym (ap move_of error) ∙ acts_here m token later e in absurd (cc)

-- reductions under a token lead to an end
record Ends (t : Tables) (s : List Entry) (u : List TextToken) : Type 0 where
  pub moves : List Move
  pub last : List Entry
  pub run : Runs t 0 s u last u moves
  pub none : shifts_in moves ≡ 0
  pub end : IsEnd t last u

shift_end : {t : Tables} {s : List Entry} {token : TextToken} {p : ℕ} (later : List TextToken) → act_in t (top 0 s) token.id ≡ Shift p → IsEnd t s (token ∷ later)
shift_end later does = accepts_or_shifts (λ error. let e = sym does ∙ error in cc) (λ r reduces. let e = sym does ∙ reduces in cc)

accept_end : {t : Tables} {s : List Entry} {token : TextToken} (later : List TextToken) → act_in t (top 0 s) token.id ≡ Accept → IsEnd t s (token ∷ later)
accept_end later does = accepts_or_shifts (λ error. let e = sym does ∙ error in cc) (λ r reduces. let e = sym does ∙ reduces in cc)

ends_after : {t : Tables} {a : ℕ} {s : List Entry} (token : TextToken) (later : List TextToken) → a ≡ token.id → Settles t 0 a s → Ends t s (token ∷ later)
ends_after {t} {s = s} token later e (shift_comes {p = p} does) = record { moves = []; last = s; run = no_move; none = refl; end = shift_end later (ap (act_in t (top 0 s)) (sym e) ∙ does) }
ends_after {t} {s = s} token later e (accept_comes does) = record { moves = []; last = s; run = no_move; none = refl; end = accept_end later (ap (act_in t (top 0 s)) (sym e) ∙ does) }
ends_after {t} {s = s} token later e (after_one {next = next} m settles) =
    let more = ends_after token later e settles in
    let act = act_of m in
    record {
      moves = ReduceMove act.0 ∷ more.moves;
      last = more.last;
      run = after_move (reduction_made (ap (act_in t (top 0 s)) (sym e) ∙ act.1) (subst (λ n. Reduces t 0 n s next) e m)) more.run;
      none = more.none;
      end = more.end;
    }

-- ---- the longest agreed list

-- nothing is left, or the state on top is at no error
data IsReady (t : Tables) (s : List Entry) : List TextToken → Type 0 where
  no_token : IsReady t s []
  no_error : {token : TextToken} {later : List TextToken} → act_in t (top 0 s) token.id ≢ Error → IsReady t s (token ∷ later)

-- an agreed list with so many shifts after which its context is so
record HasReady (t : Tables) (a : ℕ) (w : List TextToken) (most : ℕ) : Type 0 where
  pub moves : List Move
  pub agreed : IsAgreed t a w moves
  pub many : shifts_in moves ≡ most
  pub ready : IsReady t agreed.makes.last agreed.makes.rest

-- some agreed list has this length, or so many shifts
abbrev HasLength : Tables → ℕ → List TextToken → ℕ → Type 0
HasLength t a w n = (found : List Move) × IsAgreed t a w found × (length found ≡ n)

abbrev HasShifts : Tables → ℕ → List TextToken → ℕ → Type 0
HasShifts t a w n = (found : List Move) × IsAgreed t a w found × (shifts_in found ≡ n)

module _ (t : Tables) (a : ℕ) (w : List TextToken) (most : ℕ) (few : (others : List Move) → IsAgreed t a w others → shifts_in others ≤ most) where
  -- an agreed list is no longer than the moves of some context to an end, where these have the most shifts
  module _ (s last : List Entry) (v : List TextToken) (moves : List Move) (run : Runs t 0 s w last v moves) (end : IsEnd t last v) (many : shifts_in moves ≡ most) where
    -- moves to this place or on from it are no more, where they have no more shifts
    bounded : {x : List Entry} {u : List TextToken} (others : List Move) → shifts_in others ≤ most → Runs t 0 s w x u others → (length others ≤ length moves) ⊎ ((x ≡ last) × (u ≡ v))
    bounded {x} {u} others less other = cases (compared_moves run other)
      where
        on_from : (more : List Move) → moves ++ more ≡ others → ((more ≡ []) × (x ≡ last) × (u ≡ v)) ⊎ (0 < shifts_in more) → (length others ≤ length moves) ⊎ ((x ≡ last) × (u ≡ v))
        on_from more e (inl same) = inr (same.1, same.2)
        on_from more e (inr some) = let count = sym (shifts_both moves more) ∙ ap shifts_in e in absurd (omega (arith, count, some, less, many))

        cases : GoesOn t 0 last v moves x u others ⊎ GoesOn t 0 x u others last v moves → (length others ≤ length moves) ⊎ ((x ≡ last) × (u ≡ v))
        cases (inl on) = on_from on.more on.parts (from_end end on.run)
        cases (inr on) = inl (longer others on.more on.parts)

    -- a list that the context makes is no longer
    made_bounded : (others : List Move) → shifts_in others ≤ most → Makes t w s others → length others ≤ length moves
    made_bounded others less makes = cases (compared_moves run makes.run)
      where
        on_from : (more : List Move) → moves ++ more ≡ others → ((more ≡ []) × (makes.last ≡ last) × (makes.rest ≡ v)) ⊎ (0 < shifts_in more) → length others ≤ length moves
        on_from more e (inl same) = let whole = ap length (sym e ∙ ap (λ l. moves ++ l) same.0 ∙ append-nil moves) in omega (arith, whole)
        on_from more e (inr some) = let count = sym (shifts_both moves more) ∙ ap shifts_in e in absurd (omega (arith, count, some, less, many))

        cases : GoesOn t 0 last v moves makes.last makes.rest others ⊎ GoesOn t 0 makes.last makes.rest others last v moves → length others ≤ length moves
        cases (inl on) = on_from on.more on.parts (from_end end on.run)
        cases (inr on) = longer others on.more on.parts

    -- it doesn't err within an agreed list
    no_error_within : (others : List Move) → shifts_in others ≤ most → ErrsWithin t w s others → ⊥
    no_error_within others less errs = cases (compared_moves run errs.run)
      where
        fewer : shifts_in errs.made ≤ most
        fewer = let count = sym (shifts_both errs.made (errs.next ∷ errs.more)) ∙ ap shifts_in errs.parts in omega (arith, count, less)

        at_end : last ≡ errs.last → v ≡ errs.token ∷ errs.later → ⊥
        at_end same rest = no_error_end end rest (ap (λ x. act_in t (top 0 x) errs.token.id) same ∙ errs.error)

        on_from : (more : List Move) → moves ++ more ≡ errs.made → ((more ≡ []) × (errs.last ≡ last) × (errs.token ∷ errs.later ≡ v)) ⊎ (0 < shifts_in more) → ⊥
        on_from more e (inl same) = at_end (sym same.1) (sym same.2)
        on_from more e (inr some) = let count = sym (shifts_both moves more) ∙ ap shifts_in e in omega (arith, count, some, fewer, many)

        cases : GoesOn t 0 last v moves errs.last (errs.token ∷ errs.later) errs.made ⊎ GoesOn t 0 errs.last (errs.token ∷ errs.later) errs.made last v moves → ⊥
        cases (inl on) = on_from on.more on.parts (from_end end on.run)
        cases (inr on) = let same = from_error errs.token errs.later refl errs.error on.run in at_end (sym same.1) (sym same.2)

    agreed_bounded : IsContext t a s → (others : List Move) → IsAgreed t a w others → length others ≤ length moves
    agreed_bounded is others agreed = ⊎_elim (made_bounded others (few others agreed)) (λ errs. absurd (no_error_within others (few others agreed) errs)) (agreed.each s is)

  -- where there is none, each that has the most shifts is the longest
  longest_of_unready : ¬ (HasReady t a w most) → (moves : List Move) → IsAgreed t a w moves → shifts_in moves ≡ most → IsLongest t a w moves
  longest_of_unready none moves agreed many others other = ⊎_elim (λ more. absurd (too_long more (agreed_law t a w moves others agreed other))) (λ less. less) (cases_lt (length moves) (length others))
    where
      moved : (next : Move) (more : List Move) → IsSplit t other.context other.makes.last w other.makes.rest moves (next ∷ more) → HasReady t a w most
      moved next more split = record {
        moves = moves;
        agreed = record { context = other.context; is_context = other.is_context; makes = record { last = split.mid; rest = split.rest; run = split.first }; each = agreed.each };
        many = many;
        ready = ready_by split.second;
      }
        where
          ready_by : {x last : List Entry} {u v : List TextToken} → Runs t 0 x u last v (next ∷ more) → IsReady t x u
          ready_by {x} {u = u} (after_move m rest) =
              let acts = move_acts m in
              subst (IsReady t x) (sym acts.2) (no_error (λ error. let does = sym (ap move_of error) ∙ acts.3 in cc))

      too_long : length moves < length others → Begins moves others ⊎ Begins others moves → ⊥
      too_long more (inl ([], e)) = let whole = ap length (sym (append-nil moves) ∙ e) in omega (arith, whole, more)
      too_long more (inl (next ∷ rest, e)) = none (moved next rest (split_run moves (next ∷ rest) other.makes.run (sym e)))
      too_long more (inr (rest, e)) = let less = longer others rest e in omega (arith, less, more)

  -- with a bound on their lengths it is refuted that none is the longest
  longest_below : (bound : ℕ) → (moves : List Move) → IsAgreed t a w moves → ((others : List Move) → IsAgreed t a w others → length others ≤ bound) → ((found : List Move) → IsAgreed t a w found → ¬ (IsLongest t a w found)) → ⊥
  longest_below bound moves agreed within none = greatest (HasLength t a w) (suc bound) (λ found. ⊎_elim (λ nothing. nothing (length moves) (let less = within moves agreed in omega (arith, less)) (moves, agreed, refl)) of_greatest found)
    where
      of_greatest : HasGreatest (HasLength t a w) (suc bound) → ⊥
      of_greatest (n, (found, is, count), above) = none found is (λ others other. let less = above (length others) (let within_bound = within others other in omega (arith, within_bound)) (others, other, refl) in omega (arith, less, count))

module _ (g : Grammar) (t : Tables) (lawful : IsLawfulFor g t) (a : ℕ) (w : List TextToken) where
  few_shifts : (others : List Move) → IsAgreed t a w others → shifts_in others ≤ length w
  few_shifts others agreed = let total = run_shifts agreed.makes.run in omega (arith, total)

  -- the moves of a context that is at no error lead on to an end
  to_end : (s last : List Entry) (rest : List TextToken) (moves : List Move) → IsContext t a s → Runs t 0 s w last rest moves → ((token : TextToken) (later : List TextToken) → rest ≡ token ∷ later → act_in t (top 0 last) token.id ≢ Error) → Ends t last rest
  to_end s last [] moves is run right = record { moves = []; last = last; run = no_move; none = refl; end = nothing_left }
  to_end s last (token ∷ later) moves is run right =
      ends_after token later refl (reductions_end_law g t lawful last token.id (stacks_stay_law g t lawful s last w (token ∷ later) is.stack (moves_reach run)) (right token later refl))

  ready_right : {last : List Entry} {rest : List TextToken} → IsReady t last rest → (token : TextToken) (later : List TextToken) → rest ≡ token ∷ later → act_in t (top 0 last) token.id ≢ Error
  ready_right no_token token later e = absurd (cc)
  ready_right {last = last} (no_error {token = mine} right) token later e = λ error. right (let same : mine ≡ token = cc in ap (λ (x : TextToken). act_in t (top 0 last) x.id) same ∙ error)

  -- where an agreed list with the most shifts is at no error, there is a bound
  longest_of_ready : (most : ℕ) → ((others : List Move) → IsAgreed t a w others → shifts_in others ≤ most) → HasReady t a w most → ((found : List Move) → IsAgreed t a w found → ¬ (IsLongest t a w found)) → ⊥
  longest_of_ready most few has =
      let makes = has.agreed.makes in
      let end = to_end has.agreed.context makes.last makes.rest has.moves has.agreed.is_context makes.run (ready_right has.ready) in
      let all : List Move = has.moves ++ end.moves in
      longest_below t a w most few (length all) has.moves has.agreed
      (agreed_bounded t a w most few has.agreed.context end.last makes.rest all (runs_then makes.run end.run) end.end
      (let count = shifts_both has.moves end.moves in let none = end.none in let many = has.many in omega (arith, count, none, many))
      has.agreed.is_context)

  some_longest : (moves : List Move) → IsAgreed t a w moves → ((found : List Move) → IsAgreed t a w found → ¬ (IsLongest t a w found)) → ⊥
  some_longest moves agreed none = greatest (HasShifts t a w) (suc (length w)) (λ found. ⊎_elim (λ nothing. nothing (shifts_in moves) (let less = few_shifts moves agreed in omega (arith, less)) (moves, agreed, refl)) of_greatest found)
    where
      of_greatest : HasGreatest (HasShifts t a w) (suc (length w)) → ⊥
      of_greatest (most, (found, is, count), above) = decided (HasReady t a w most) (λ d. ⊎_elim (λ has. longest_of_ready most few has none) (λ unready. none found is (longest_of_unready t a w most few unready found is count)) d)
        where
          few : (others : List Move) → IsAgreed t a w others → shifts_in others ≤ most
          few others other = above (shifts_in others) (let less = few_shifts others other in omega (arith, less)) (others, other, refl)

-- ---- parts

-- a context's first move shifts the first token, and is agreed
first_agreed : {t : Tables} {token : TextToken} {later : List TextToken} {s : List Entry} → IsContext t token.id s → IsAgreed t token.id (token ∷ later) (ShiftMove ∷ [])
first_agreed {t} {token} {later} {s} is = record { context = s; is_context = is; makes = shifting s is; each = λ r other. inl (shifting r other) }
  where
    shifting : (r : List Entry) → IsContext t token.id r → Makes t (token ∷ later) r (ShiftMove ∷ [])
    shifting r on = record { last = shifted token on.state ∷ r; rest = later; run = after_move (shift_made on.shifts) no_move }

module _ (g : Grammar) (t : Tables) (lawful : IsLawfulFor g t) where
  some_first : (token : TextToken) (later : List TextToken) → ((count : ℕ) → ¬ (FirstPart t token.id (token ∷ later) count)) → ⊥
  some_first token later none = decided ((s : List Entry) × IsContext t token.id s) (λ d. ⊎_elim
      (λ (s, is). some_longest g t lawful token.id (token ∷ later) (ShiftMove ∷ []) (first_agreed is) (λ found agreed longest. none (shifts_in found) (agreed_part found agreed longest refl)))
      (λ nowhere. none 1 (no_context (λ s is. nowhere (s, is)) refl))
      d)

  some_parts : (fuel : ℕ) (w : List TextToken) → length w ≤ fuel → ((count : ℕ) → ¬ (HasParts t w count)) → ⊥
  some_parts fuel [] less none = none 0 ([], no_parts, refl)
  some_parts zero (token ∷ later) less none = omega (arith, less)
  some_parts (suc fuel) (token ∷ later) less none = some_first token later (λ count first.
      let bounds = first_part_bounds_law t token later count first in
      let all : List TextToken = token ∷ later in
      let size : length (take count all) ≡ count = length-take-le count all bounds.1 in
      let left : length (drop count all) ≡ length all - count = length-drop count all in
      some_parts fuel (drop count all) (omega (arith, left, less, bounds)) (λ more has.
      none (suc more) (take count all ∷ has.0, part_then (take count all) (drop count all) (sym (take-append-drop count all)) (subst (FirstPart t token.id all) (sym size) first) has.1, ap suc has.2)))

pub some_parts_law : SomePartsLaw
some_parts_law g t lawful w none = some_parts g t lawful (length w) w (omega arith) none
