-- Agreed lists of moves, first parts and parts.
use Rattle.std.proofs.Common.{◌≡◌, ◌≢◌, ℕ, ◌<◌, ◌≤◌, ◌⊎◌, inl, inr, List, [], ◌∷◌, ◌++◌, length, Option, Some, None, refl, sym, ap, ◌∙◌, subst, ap₂, append_assoc, append-nil, arith}
use Rattle.std.proofs.lemmas.List.{length-append}
use Rattle.grammar_data.specs.declared.token.Token.{Token as TextToken}
use Rattle.table_data.specs.declared.act.Act.{Act}
use Rattle.table_data.specs.declared.act.Act.TheVariants.{Shift, Reduce, Error}
use Rattle.table_data.specs.Tables.{Tables, act_in}
use Rattle.grammar_theory.proofs.RuleLemmas.{same_parts}
use Rattle.machine_theory.specs.Machine.{Entry, top, shifted}
use Rattle.part_theory.specs.Moves.{Move, ShiftMove, move_of, shift_made, reduction_made, Runs, no_move, after_move, shifts_in, Begins}
use Rattle.part_theory.specs.Parts.{IsContext, Makes, ErrsWithin, IsAgreed, no_context, agreed_part, AreParts, no_parts, part_then, GoOnWith, AgreedLaw, NoneFollowsLaw, PartedLaw, OneFirstPartLaw, FirstPartBoundsLaw, OnePartsLaw, OneNumberLaw}
use Rattle.part_theory.proofs.MoveLemmas.{GoesOn, move_acts, acts_here, compared_moves, run_shifts}

-- ---- lists of moves

none_some : {move : Move} → ◌≡◌ {A = Option Move} None (Some move) → ⊥
none_some e = cc

-- the run has ended, or its next move is that of the action
pub data Goes (act : Act) : List Move → Type 0 where
  ended : Goes act []
  goes : {move : Move} {moves : List Move} → move_of act ≡ Some move → Goes act (move ∷ moves)

pub next_of : {t : Tables} {s last : List Entry} {u v : List TextToken} {moves : List Move} → Runs t 0 s u last v moves → (token : TextToken) (later : List TextToken) → u ≡ token ∷ later → Goes (act_in t (top 0 s) token.id) moves
next_of no_move token later e = ended
next_of (after_move m more) token later e = goes (acts_here m token later e)

-- a longer list goes on with some moves
pub longer : (moves more : List Move) {others : List Move} → moves ++ more ≡ others → length moves ≤ length others
longer moves more e = let count = sym (length-append moves more) ∙ ap length e in omega (arith, count)

-- no move is made on an error
no_more : {moves : List Move} → Goes Error moves → moves ≡ []
no_more ended = refl
no_more (goes e) = absurd (none_some e)

-- ---- what follows the moves of a context

-- the moves of a list that a context makes are comparable with those of another that it makes
begins_made : {t : Tables} {w : List TextToken} {s : List Entry} {moves others : List Move} → Makes t w s moves → Makes t w s others → Begins moves others ⊎ Begins others moves
begins_made {t} {moves = moves} {others = others} one two = cases (compared_moves one.run two.run)
  where
    cases : GoesOn t 0 one.last one.rest moves two.last two.rest others ⊎ GoesOn t 0 two.last two.rest others one.last one.rest moves → Begins moves others ⊎ Begins others moves
    cases (inl on) = inl (on.more, on.parts)
    cases (inr on) = inr (on.more, on.parts)

-- what a context makes is made before it errs
pub within_error : {t : Tables} {w : List TextToken} {s last : List Entry} {v : List TextToken} {moves others : List Move} (errs : ErrsWithin t w s others) → Runs t 0 s w last v moves → Begins moves errs.made
within_error {t} {last = last} {v = v} {moves = moves} errs run = cases (compared_moves errs.run run)
  where
    cases : GoesOn t 0 errs.last (errs.token ∷ errs.later) errs.made last v moves ⊎ GoesOn t 0 last v moves errs.last (errs.token ∷ errs.later) errs.made → Begins moves errs.made
    cases (inl on) =
        let none = no_more (subst (λ act. Goes act on.more) errs.error (next_of on.run errs.token errs.later refl)) in
        ([], append-nil moves ∙ sym on.parts ∙ ap (λ l. errs.made ++ l) none ∙ append-nil errs.made)
    cases (inr on) = (on.more, on.parts)

begins_then : (moves : List Move) {made others : List Move} (next : Move) (more : List Move) → made ++ next ∷ more ≡ others → Begins moves made → Begins moves others
begins_then moves next more e begins = (begins.0 ++ next ∷ more, sym (append_assoc moves begins.0 (next ∷ more)) ∙ ap (λ l. l ++ next ∷ more) begins.1 ∙ e)

shorter : (moves : List Move) {made others : List Move} (next : Move) (more : List Move) → made ++ next ∷ more ≡ others → Begins moves made → length moves ≤ length others
shorter moves next more e begins = let all = begins_then moves next more e begins in longer moves all.0 all.1

pub agreed_law : AgreedLaw
agreed_law t a w moves others one two = cases (two.each one.context one.is_context)
  where
    cases : Makes t w one.context others ⊎ ErrsWithin t w one.context others → Begins moves others ⊎ Begins others moves
    cases (inl makes) = begins_made one.makes makes
    cases (inr errs) = inl (begins_then moves errs.next errs.more errs.parts (within_error errs one.makes.run))

-- ---- where nothing follows

-- no move is made where none may be
none_made : {t : Tables} {s last : List Entry} {u v : List TextToken} {moves : List Move} → Runs t 0 s u last v moves → ((token : TextToken) (later : List TextToken) (move : Move) → u ≡ token ∷ later → move_of (act_in t (top 0 s) token.id) ≢ Some move) → moves ≡ []
none_made no_move stops = refl
none_made (after_move {move = move} m more) stops = let acts = move_acts m in absurd (stops acts.0 acts.1 move acts.2 acts.3)

pub none_follows_law : NoneFollowsLaw
none_follows_law t a w moves each stops others agreed = cases (each agreed.context agreed.is_context)
  where
    on_made : (makes : Makes t w agreed.context moves) → GoesOn t 0 makes.last makes.rest moves agreed.makes.last agreed.makes.rest others ⊎ GoesOn t 0 agreed.makes.last agreed.makes.rest others makes.last makes.rest moves → length others ≤ length moves
    on_made makes (inl on) =
        let none = none_made on.run (λ token later move e does. stops agreed.context (act_in t (top 0 makes.last) token.id) move agreed.is_context (record { last = makes.last; token = token; later = later; run = subst (λ l. Runs t 0 agreed.context w makes.last l moves) e makes.run; does = refl }) does) in
        let count = ap length (sym on.parts ∙ ap (λ l. moves ++ l) none ∙ append-nil moves) in
        omega (arith, count)
    on_made makes (inr on) = longer others on.more on.parts

    cases : Makes t w agreed.context moves ⊎ ErrsWithin t w agreed.context moves → length others ≤ length moves
    cases (inl makes) = on_made makes (compared_moves makes.run agreed.makes.run)
    cases (inr errs) = shorter others errs.next errs.more errs.parts (within_error errs agreed.makes.run)

-- ---- where two contexts part

same_token : {x y : TextToken} {xs ys : List TextToken} → x ∷ xs ≡ y ∷ ys → x ≡ y
same_token e = cc

-- the machine comes from a place with this action to an error: it makes the action's move first
pub record Begun (act : Act) (moves : List Move) : Type 0 where
  pub move : Move
  pub does : move_of act ≡ Some move
  pub more : List Move
  pub parts : moves ≡ move ∷ more

to_error : {t : Tables} {s last : List Entry} {u v : List TextToken} {moves : List Move} {token other : TextToken} {later back : List TextToken} → Runs t 0 s u last v moves → u ≡ token ∷ later → v ≡ other ∷ back → act_in t (top 0 s) token.id ≢ Error → act_in t (top 0 last) other.id ≡ Error → Begun (act_in t (top 0 s) token.id) moves
to_error {t} {s = s} no_move e f does error = absurd (does (ap (λ (x : TextToken). act_in t (top 0 s) x.id) (same_token (sym e ∙ f)) ∙ error))
to_error {token = token} {later = later} (after_move {move = move} {moves = moves} m more) e f does error = record { move = move; does = acts_here m token later e; more = moves; parts = refl }

-- from an error it comes to that error alone
from_error : {t : Tables} {s last : List Entry} {u v : List TextToken} {moves : List Move} {token other : TextToken} {later back : List TextToken} → Runs t 0 s u last v moves → u ≡ token ∷ later → v ≡ other ∷ back → act_in t (top 0 s) token.id ≡ Error → act_in t (top 0 last) other.id ≡ Error
from_error {t} {s = s} no_move e f error = ap (λ (x : TextToken). act_in t (top 0 s) x.id) (same_token (sym f ∙ e)) ∙ error
from_error {token = token} {later = later} (after_move m more) e f error = absurd (none_some (ap move_of (sym error) ∙ acts_here m token later e))

-- the list is no longer than the moves made, or goes on with the move of the action
pub record GoesPast (act : Act) (moves others : List Move) : Type 0 where
  pub move : Move
  pub does : move_of act ≡ Some move
  pub more : List Move
  pub parts : moves ++ move ∷ more ≡ others

ended_here : (moves : List Move) {more others : List Move} → moves ++ more ≡ others → more ≡ [] → length others ≤ length moves
ended_here moves e none = let count = ap length (sym e ∙ ap (λ l. moves ++ l) none ∙ append-nil moves) in omega (arith, count)

past : {act : Act} {moves more others : List Move} → moves ++ more ≡ others → Goes act more → (length others ≤ length moves) ⊎ GoesPast act moves others
past {moves = moves} e ended = inl (ended_here moves e refl)
past e (goes {move = move} {moves = more} does) = inr (record { move = move; does = does; more = more; parts = e })

past_error : {act : Act} {moves more made others : List Move} (next : Move) (rest : List Move) → moves ++ more ≡ made → made ++ next ∷ rest ≡ others → Begun act more → GoesPast act moves others
past_error {moves = moves} next rest e f begun = record {
  move = begun.move;
  does = begun.does;
  more = begun.more ++ next ∷ rest;
  parts = sym (append_assoc moves (begun.move ∷ begun.more) (next ∷ rest)) ∙ ap (λ l. (moves ++ l) ++ next ∷ rest) (sym begun.parts) ∙ ap (λ l. l ++ next ∷ rest) e ∙ f;
}

pub goes_past : {t : Tables} {w : List TextToken} {s : List Entry} {moves others : List Move} {act : Act} → GoOnWith t w s moves act → act ≢ Error → Makes t w s others ⊎ ErrsWithin t w s others → (length others ≤ length moves) ⊎ GoesPast act moves others
goes_past {t} {w} {s} {moves} {others} {act} on does (inl makes) = cases (compared_moves on.run makes.run)
  where
    cases : GoesOn t 0 on.last (on.token ∷ on.later) moves makes.last makes.rest others ⊎ GoesOn t 0 makes.last makes.rest others on.last (on.token ∷ on.later) moves → (length others ≤ length moves) ⊎ GoesPast act moves others
    cases (inl after) = past after.parts (subst (λ x. Goes x after.more) on.does (next_of after.run on.token on.later refl))
    cases (inr after) = inl (longer others after.more after.parts)
goes_past {t} {w} {s} {moves} {others} {act} on does (inr errs) = cases (compared_moves on.run errs.run)
  where
    here : act_in t (top 0 on.last) on.token.id ≢ Error
    here = λ error. does (sym on.does ∙ error)

    cases : GoesOn t 0 on.last (on.token ∷ on.later) moves errs.last (errs.token ∷ errs.later) errs.made ⊎ GoesOn t 0 errs.last (errs.token ∷ errs.later) errs.made on.last (on.token ∷ on.later) moves → (length others ≤ length moves) ⊎ GoesPast act moves others
    cases (inl after) = inr (past_error errs.next errs.more after.parts errs.parts (subst (λ x. Begun x after.more) on.does (to_error after.run refl refl here errs.error)))
    cases (inr after) = absurd (here (from_error after.run refl refl errs.error))

same_next : (moves more others : List Move) {move other : Move} → moves ++ move ∷ more ≡ moves ++ other ∷ others → move ≡ other
same_next [] more others e = cc
same_next (first ∷ moves) more others e = same_next moves more others (cc)

pub parted_law : PartedLaw
parted_law t a w moves s r act other is_s is_r on_s on_r does_s does_r differ others agreed = cases (goes_past on_s does_s (agreed.each s is_s)) (goes_past on_r does_r (agreed.each r is_r))
  where
    cases : (length others ≤ length moves) ⊎ GoesPast act moves others → (length others ≤ length moves) ⊎ GoesPast other moves others → length others ≤ length moves
    cases (inl less) second = less
    cases (inr past_s) (inl less) = less
    cases (inr past_s) (inr past_r) =
        let same = same_next moves past_s.more past_r.more (past_s.parts ∙ sym past_r.parts) in
        absurd (differ past_s.move past_s.does (past_r.does ∙ ap (λ m. Some m) (sym same)))

-- ---- first parts

begins_whole : {moves others : List Move} → Begins moves others → length others ≤ length moves → moves ≡ others
begins_whole {moves} ([], e) less = sym (append-nil moves) ∙ e
begins_whole {moves} (move ∷ more, e) less = let count = sym (length-append moves (move ∷ more)) ∙ ap length e in absurd (omega (arith, count))

pub one_first_part_law : OneFirstPartLaw
one_first_part_law t a w count other (no_context none e) (no_context also f) = e ∙ sym f
one_first_part_law t a w count other (no_context none e) (agreed_part moves agreed longest f) = absurd (none agreed.context agreed.is_context)
one_first_part_law t a w count other (agreed_part moves agreed longest e) (no_context none f) = absurd (none agreed.context agreed.is_context)
one_first_part_law t a w count other (agreed_part moves agreed longest e) (agreed_part others also most f) = e ∙ ap shifts_in (cases (agreed_law t a w moves others agreed also)) ∙ sym f
  where
    cases : Begins moves others ⊎ Begins others moves → moves ≡ others
    cases (inl begins) = begins_whole begins (longest others also)
    cases (inr begins) = sym (begins_whole begins (most moves agreed))

-- the first move of a context shifts the first token, and is agreed
first_agreed : {t : Tables} {token : TextToken} {later : List TextToken} {s : List Entry} → IsContext t token.id s → IsAgreed t token.id (token ∷ later) (ShiftMove ∷ [])
first_agreed {t} {token} {later} {s} is = record { context = s; is_context = is; makes = shifting s is; each = λ r other. inl (shifting r other) }
  where
    shifting : (r : List Entry) → IsContext t token.id r → Makes t (token ∷ later) r (ShiftMove ∷ [])
    shifting r on = record { last = shifted token on.state ∷ r; rest = later; run = after_move (shift_made on.shifts) no_move }

no_reduction : {act : Act} {p r : ℕ} → act ≡ Shift p → act ≡ Reduce r → ⊥
no_reduction e f = cc

begins_shift : {t : Tables} {s last : List Entry} {u v : List TextToken} {moves : List Move} {token : TextToken} {later : List TextToken} {p : ℕ} → Runs t 0 s u last v moves → u ≡ token ∷ later → act_in t (top 0 s) token.id ≡ Shift p → 1 ≤ length moves → 0 < shifts_in moves
begins_shift no_move e act some = absurd (omega (arith, some))
begins_shift (after_move (shift_made does) more) e act some = omega arith
begins_shift {t} {s = s} (after_move (reduction_made does m) more) e act some = absurd (no_reduction (ap (λ (x : TextToken). act_in t (top 0 s) x.id) (same_token e) ∙ act) does)

pub first_part_bounds_law : FirstPartBoundsLaw
first_part_bounds_law t token later count (no_context none e) = (omega (arith, e), omega (arith, e))
first_part_bounds_law t token later count (agreed_part moves agreed longest e) =
    let some = longest (ShiftMove ∷ []) (first_agreed agreed.is_context) in
    let positive = begins_shift agreed.makes.run refl agreed.is_context.shifts some in
    let total = run_shifts agreed.makes.run in
    (omega (arith, e, positive), omega (arith, e, total))

-- ---- parts

one_parts : {t : Tables} {w : List TextToken} {parts others : List (List TextToken)} → AreParts t w parts → AreParts t w others → parts ≡ others
one_parts no_parts no_parts = refl
one_parts {t} (part_then {token = token} {later = later} part rest e first more) (part_then {parts = behind} other left f second others) =
    let count = one_first_part_law t token.id (token ∷ later) (length part) (length other) first second in
    let same = same_parts part rest other left (sym e ∙ f) count in
    ap₂ (λ x xs. x ∷ xs) same.0 (one_parts more (subst (λ l. AreParts t l behind) (sym same.1) others))

pub one_parts_law : OnePartsLaw
one_parts_law t w parts others one two = one_parts one two

pub one_number_law : OneNumberLaw
one_number_law t w count other one two = sym one.2 ∙ ap length (one_parts_law t w one.0 two.0 one.1 two.1) ∙ two.2
