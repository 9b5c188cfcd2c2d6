-- At a close the moves of a leaf are the longest list that all contexts agree on, and the piece stands for its tokens.
use Rattle.std.proofs.Common.{◌≡◌, ◌≢◌, ℕ, ◌+◌, ◌⊎◌, inl, inr, List, [], ◌∷◌, ◌++◌, length, Option, Some, None, refl, sym, ap, ◌∙◌, subst, append_assoc, append-nil, arith}
use Rattle.std.specs.Prelude.{IsSome}
use Rattle.std.proofs.lemmas.List.{length-append}
use Rattle.std.proofs.lemmas.Option.{same_Some}
use Rattle.grammar_data.specs.declared.token.Token.{Token as TextToken}
use Rattle.tree_theory.specs.Stores.{Store}
use Rattle.table_data.specs.declared.act.Act.{Act}
use Rattle.table_data.specs.declared.act.Act.TheVariants.{Shift, Reduce, Accept, Error}
use Rattle.table_data.specs.Tables.{Tables, act_in}
use Rattle.machine_theory.specs.Machine.{Entry, top}
use Rattle.lawful_theory.specs.Lawful.{IsLawful}
use Rattle.map_theory.specs.Maps.{StateMap, target}
use Rattle.map_theory.specs.Agreements.{Differ, AreSeveral, two_differ, one_accepts}
use Rattle.part_theory.specs.Moves.{Move, ShiftMove, ReduceMove, move_of, Runs, no_move, after_move, shifts_in}
use Rattle.part_theory.specs.Parts.{IsContext, Makes, ErrsWithin, IsAgreed, IsLongest, FirstPart, no_context, agreed_part, AreParts, part_then, GoOnWith}
use Rattle.part_theory.proofs.MoveLemmas.{move_once, run_from, run_shifts}
use Rattle.part_theory.proofs.PartLemmas.{none_follows_law, parted_law, within_error}
use Rattle.piece_theory.specs.Pieces.{Floor, Held, Piece}
use Rattle.piece_theory.specs.WellMade.{AreFloors}
use Rattle.piece_theory.proofs.FloorLemmas.{from_ground}
use Rattle.context_laws.specs.Contexts.{LeadFromStates}
use Rattle.arm_laws.specs.Did.{Did, did_err, did_leave, AreSameAt, none_same, same_first}
use Rattle.arm_laws.proofs.PutLemmas.{put_same}
use Rattle.arm_laws.proofs.RunLemmas.{runs_more}
use Rattle.arm_laws.proofs.ArmLemmas.{leaves_by, leaves_with, did_tells_law}
use Rattle.level_laws.specs.Laws.{AreFresh, fresh_none, fresh_more}
use Rattle.level_laws.proofs.GrowingLemmas.{fresh_at, last_map_law, exact_maps_law}
use Rattle.leaf_laws.specs.Leaves.{IsLeaf, HasStart, start_alive, none_begins}
use Rattle.leaf_laws.specs.Closing.{NonePartLaw, SeveralPartLaw, LastPartLaw, ClosesLaw, StandsLaw}
use Rattle.leaf_laws.specs.OpenPieces.{OpenStandsLaw}
use Rattle.leaf_laws.proofs.EndLemmas.{alive_below, over_top, AtEnd, at_end, leaf_open_law}

-- ---- one place for one list of moves

pub same_place : {t : Tables} {base : ℕ} {s first second : List Entry} {u v w : List TextToken} {moves : List Move} → Runs t base s u first v moves → Runs t base s u second w moves → (first ≡ second) × (v ≡ w)
same_place no_move no_move = (refl, refl)
same_place (after_move m more) (after_move n others) = let same = move_once m n in same_place more (run_from (sym same.1) (sym same.2) others)

-- ---- what a leaf does over more input

-- from a context the machine makes the moves and comes to a state over an alive start, or makes some of them, and errs
pub data Ends (t : Tables) (s : List Entry) (whole left : List TextToken) (moves : List Move) (h : Held) : Type 0 where
  comes : {last : List Entry} (q : ℕ) → Runs t 0 s whole last left moves → target h.states q ≡ Some (top 0 last) → Ends t s whole left moves h
  errs : {last : List Entry} (made more : List Move) {token : TextToken} {later : List TextToken} → Runs t 0 s whole last (token ∷ later) made → act_in t (top 0 last) token.id ≡ Error → made ++ more ≡ moves → Ends t s whole left moves h

input_more : {t : Tables} {s last : List Entry} (w next : List TextToken) {left : List TextToken} {moves : List Move} (rest : List TextToken) → Runs t 0 s (w ++ next) last left moves → Runs t 0 s (w ++ (next ++ rest)) last (left ++ rest) moves
input_more {t} {s} {last} w next {left} {moves} rest run = subst (λ l. Runs t 0 s l last (left ++ rest) moves) (append_assoc w next rest) (runs_more rest run)

ends_by : {t : Tables} {store : Store} {p : Piece} {w next : List TextToken} {lower : List Floor} {f : Floor} {under : List Held} {h : Held} {stale : ℕ} (rest : List TextToken) (leaf : IsLeaf t store p w next lower f under h stale) (s : List Entry) → Did t store p (w ++ next) next leaf.moves s → Ends t s (w ++ (next ++ rest)) (next ++ rest) leaf.moves h
ends_by {t} {w = w} {next = next} rest leaf s (did_err {fault = fault} fails by) = errs by.made by.more (input_more w next rest by.run) (ap (λ q. act_in t q fault.token.id) by.state_on_top ∙ by.error) by.of_moves
ends_by {t} {store} {p} {w = w} {next = next} {lower = lower} {f = f} rest leaf s (did_leave leaves run) =
    let by = leaves_by {t = t} {store = store} {p = p} lower f p.stack leaf.growing.on_floors refl leaves in
    comes (top 0 by.rest) (input_more w next rest run) (sym (over_top leaf.growing (top 0 by.rest)) ∙ by.over_all)

made_or_errs : {t : Tables} {s : List Entry} {whole left : List TextToken} {moves : List Move} {h : Held} → Ends t s whole left moves h → Makes t whole s moves ⊎ ErrsWithin t whole s moves
made_or_errs {left = left} (comes {last = last} q run state) = inl (record { last = last; rest = left; run = run })
made_or_errs {t} {s} {whole} (errs {last = last} made [] {token = token} {later = later} run error parts) =
    inl (record { last = last; rest = token ∷ later; run = subst (λ l. Runs t 0 s whole last (token ∷ later) l) (sym (append-nil made) ∙ parts) run })
made_or_errs (errs {last = last} made (move ∷ more) {token = token} {later = later} run error parts) =
    inr (record { made = made; next = move; more = more; parts = parts; last = last; token = token; later = later; run = run; error = error })

same_token : {x y : TextToken} {xs ys : List TextToken} → x ∷ xs ≡ y ∷ ys → x ≡ y
same_token e = cc

none_some : {move : Move} → ◌≡◌ {A = Option Move} None (Some move) → ⊥
none_some e = cc

longer_by : (made more moves : List Move) → made ++ more ≡ moves → length made + length more ≡ length moves
longer_by made more moves e = sym (length-append made more) ∙ ap length e

-- a context that errs within the moves, or right after them, makes no further one
err_stops : {t : Tables} {s last : List Entry} {whole : List TextToken} {moves : List Move} {act : Act} (made more : List Move) {token : TextToken} {later : List TextToken} → Runs t 0 s whole last (token ∷ later) made → act_in t (top 0 last) token.id ≡ Error → made ++ more ≡ moves → GoOnWith t whole s moves act → act ≡ Error
err_stops {t} {s} {last} {whole} {moves} made [] {token} {later} run error parts on =
    let same = same_place (subst (λ l. Runs t 0 s whole last (token ∷ later) l) (sym (append-nil made) ∙ parts) run) on.run in
    sym on.does ∙ ap (λ l. act_in t (top 0 l) on.token.id) (sym same.0) ∙ ap (λ (x : TextToken). act_in t (top 0 last) x.id) (sym (same_token same.1)) ∙ error
err_stops {t} {s} {last} {whole} {moves} made (move ∷ more) {token} {later} run error parts on =
    let begins = within_error {t = t} {w = whole} {s = s} {others = moves} (record { made = made; next = move; more = more; parts = parts; last = last; token = token; later = later; run = run; error = error }) on.run in
    let less = longer_by moves begins.0 made begins.1 in
    let all = longer_by made (move ∷ more) moves parts in
    absurd (omega (arith, less, all))

-- ---- the first part

module _ {t : Tables} (lawful : IsLawful t) (size : LeadFromStates t) {store : Store} {p : Piece} {w next : List TextToken} {lower : List Floor} {f : Floor} {under : List Held} {h : Held} {stale : ℕ} (rest : List TextToken) (leaf : IsLeaf t store p w next lower f under h stale) where
  each_ends : (s : List Entry) → IsContext t p.first.id s → Ends t s (w ++ (next ++ rest)) (next ++ rest) leaf.moves h
  each_ends s on = ends_by rest leaf s (leaf.did s on)

  each : (s : List Entry) → IsContext t p.first.id s → Makes t (w ++ (next ++ rest)) s leaf.moves ⊎ ErrsWithin t (w ++ (next ++ rest)) s leaf.moves
  each s on = made_or_errs (each_ends s on)

  whole_run : {q : ℕ} (end : AtEnd t p (w ++ next) next leaf.moves h q) → Runs t 0 end.from (w ++ (next ++ rest)) end.last (next ++ rest) leaf.moves
  whole_run end = input_more w next rest end.run

  shifted : {q : ℕ} → AtEnd t p (w ++ next) next leaf.moves h q → length w ≡ shifts_in leaf.moves
  shifted end =
      let count = run_shifts end.run in
      let parts = length-append w next in
      omega (arith, count, parts)

  agreed : {q : ℕ} → AtEnd t p (w ++ next) next leaf.moves h q → IsAgreed t p.first.id (w ++ (next ++ rest)) leaf.moves
  agreed end = record { context = end.from; is_context = end.is_context; makes = record { last = end.last; rest = next ++ rest; run = whole_run end }; each = each }

  pub part_where : HasStart t p w f → (((q : ℕ) → IsSome (target f.starts q) → IsLongest t p.first.id (w ++ (next ++ rest)) leaf.moves)) → FirstPart t p.first.id (w ++ (next ++ rest)) (length w)
  part_where (none_begins none one) longest = no_context none one
  part_where (start_alive q alive) longest = let end = at_end lawful size leaf q alive in agreed_part leaf.moves (agreed end) (longest q alive) (shifted end)

  -- where no state over the leaf goes on with what is left, nothing longer is agreed
  pub none_longer : ((token : TextToken) (later : List TextToken) (q z : ℕ) → next ++ rest ≡ token ∷ later → target h.states q ≡ Some z → act_in t z token.id ≡ Error) → IsLongest t p.first.id (w ++ (next ++ rest)) leaf.moves
  none_longer stops = none_follows_law t p.first.id (w ++ (next ++ rest)) leaf.moves each (λ s act move on goes does. none_some (ap move_of (sym (stopped s act goes (each_ends s on))) ∙ does))
    where
      stopped : (s : List Entry) (act : Act) → GoOnWith t (w ++ (next ++ rest)) s leaf.moves act → Ends t s (w ++ (next ++ rest)) (next ++ rest) leaf.moves h → act ≡ Error
      stopped s act goes (comes {last = last} q run state) =
          let same = same_place run goes.run in
          sym goes.does ∙ ap (λ l. act_in t (top 0 l) goes.token.id) (sym same.0) ∙ stops goes.token goes.later q (top 0 last) same.1 state
      stopped s act goes (errs made more run error parts) = err_stops made more run error parts goes

  -- a context at whose end this state is goes on with its action
  pub goes_on : {q : ℕ} (end : AtEnd t p (w ++ next) next leaf.moves h q) (token : TextToken) (later : List TextToken) (z : ℕ) → next ++ rest ≡ token ∷ later → target h.states q ≡ Some z → GoOnWith t (w ++ (next ++ rest)) end.from leaf.moves (act_in t z token.id)
  goes_on {q} end token later z e is = record {
    last = end.last;
    token = token;
    later = later;
    run = subst (λ l. Runs t 0 end.from (w ++ (next ++ rest)) end.last l leaf.moves) e (whole_run end);
    does = ap (λ x. act_in t x token.id) (same_Some (top 0 end.last) z (sym end.state ∙ is));
  }

pub none_part_law : NonePartLaw
none_part_law t lawful size store p w token rest lower f under h stale leaf has none =
    part_where lawful size rest leaf has (λ q alive. none_longer lawful size rest leaf (λ other later y z e is. ap (λ (x : TextToken). act_in t z x.id) (sym (same_token e)) ∙ none y z is))

pub last_part_law : LastPartLaw
last_part_law t lawful size store p w lower f under h stale leaf has =
    subst (λ l. FirstPart t p.first.id l (length w)) (append-nil w) (part_where lawful size [] leaf has (λ q alive. none_longer lawful size [] leaf (λ other later y z e is. absurd (cc))))

-- two actions that differ are no errors, and don't make one move
pub differ_does : (x y : Act) → Differ x y → (x ≢ Error) × (y ≢ Error) × ((move : Move) → move_of x ≡ Some move → move_of y ≢ Some move)
differ_does (Shift p) (Reduce r) d = ((λ e. cc), (λ e. cc), (λ move one two. apart (one ∙ sym two)))
  where
    apart : ◌≡◌ {A = Option Move} (Some ShiftMove) (Some (ReduceMove r)) → ⊥
    apart e = cc
differ_does (Reduce r) (Shift p) d = ((λ e. cc), (λ e. cc), (λ move one two. apart (one ∙ sym two)))
  where
    apart : ◌≡◌ {A = Option Move} (Some (ReduceMove r)) (Some ShiftMove) → ⊥
    apart e = cc
differ_does (Reduce r) (Reduce s) d = ((λ e. cc), (λ e. cc), (λ move one two. d (same (one ∙ sym two))))
  where
    same : ◌≡◌ {A = Option Move} (Some (ReduceMove r)) (Some (ReduceMove s)) → r ≡ s
    same e = cc
differ_does (Shift p) (Shift q) d = absurd d
differ_does (Shift p) Accept d = absurd d
differ_does (Shift p) Error d = absurd d
differ_does (Reduce r) Accept d = absurd d
differ_does (Reduce r) Error d = absurd d
differ_does Accept y d = absurd d
differ_does Error y d = absurd d

pub several_part_law : SeveralPartLaw
several_part_law t lawful size store p w token rest lower f under h stale leaf has several = part_where lawful size rest leaf has (λ q alive. longest several)
  where
    alive_at : (q z : ℕ) → target h.states q ≡ Some z → IsSome (target f.starts q)
    alive_at = alive_below f.starts h (last_map_law t store p lower f under h stale leaf.growing)

    longest : AreSeveral t token.id h.states → IsLongest t p.first.id (w ++ token ∷ rest) leaf.moves
    longest (two_differ q x y z first second differ) =
        let one = at_end lawful size leaf q (alive_at q x first) in
        let two = at_end lawful size leaf y (alive_at y z second) in
        let does = differ_does (act_in t x token.id) (act_in t z token.id) differ in
        parted_law t p.first.id (w ++ token ∷ rest) leaf.moves one.from two.from (act_in t x token.id) (act_in t z token.id) one.is_context two.is_context (goes_on lawful size rest leaf one token rest x refl first) (goes_on lawful size rest leaf two token rest z refl second) does.0 does.1 does.2
    longest (one_accepts q x is accepts) =
        let end = at_end lawful size leaf q (alive_at q x is) in
        let on = goes_on lawful size rest leaf end token rest x refl is in
        parted_law t p.first.id (w ++ token ∷ rest) leaf.moves end.from end.from (act_in t x token.id) (act_in t x token.id) end.is_context end.is_context on on (λ error. not_both (sym accepts ∙ error)) (λ error. not_both (sym accepts ∙ error)) (λ move one two. none_some (ap move_of (sym accepts) ∙ one))
      where
        not_both : Accept ≡ Error → ⊥
        not_both e = cc

-- ---- closed parts

pub closes_law : ClosesLaw
closes_law t whole w rest later first parts begins part closed others are =
    subst (λ l. AreParts t whole l) (sym (append_assoc parts (w ∷ []) others)) (closed (w ∷ others) (by w begins part))
  where
    by : (u : List TextToken) → u ≡ first ∷ later → FirstPart t first.id (u ++ rest) (length u) → AreParts t (u ++ rest) (u ∷ others)
    by u e part =
        subst (λ l. AreParts t (l ++ rest) (u ∷ others)) (sym e)
        (part_then u rest (ap (λ l. l ++ rest) (sym e)) (subst (λ l. FirstPart t first.id (l ++ rest) (length u)) e part) are)

-- ---- what the piece stands for

fresh_same : {alive : StateMap} {hs fresh : List Held} (q : ℕ) → IsSome (target alive q) → AreFresh alive hs fresh → AreSameAt q hs fresh
fresh_same q alive fresh_none = none_same
fresh_same q alive (fresh_more is more) = same_first is.kid (fresh_at is q alive) (fresh_same q alive more)

pub open_stands_law : OpenStandsLaw
open_stands_law t store p w next lower f under h stale fresh piece are = record {
  stands = λ s on. let by = piece.did s on in did_tells_law t store closed w next by.0 s (same s by.1);
  right = piece.right;
  floors = subst (λ l. AreFloors t p.first l f.starts) (sym piece.growing.on_floors) (from_ground piece.growing.floors);
  maps = exact_maps_law t store f.starts p.stack fresh piece.growing.maps are;
}
  where
    closed : Piece
    closed = record p { stack = fresh }

    same : (s : List Entry) {moves : List Move} → Did t store p (w ++ next) next moves s → Did t store closed (w ++ next) next moves s
    same s (did_err fails by) = did_err fails by
    same s (did_leave {last = last} leaves run) =
        let by = leaves_by {t = t} {store = store} {p = p} lower f p.stack piece.growing.on_floors refl leaves in
        let alive = alive_below f.starts h (last_map_law t store p lower f under h stale piece.growing) (top 0 by.rest) (top 0 last) (sym (over_top piece.growing (top 0 by.rest)) ∙ by.over_all) in
        did_leave (leaves_with t store closed (lower ++ f ∷ []) fresh piece.growing.on_floors refl by.down (put_same (fresh_same (top 0 by.rest) alive are) by.up)) run

pub stands_law : StandsLaw
stands_law t store p w next lower f under h stale fresh leaf are = open_stands_law t store p w next lower f under h stale fresh (leaf_open_law t store p w next lower f under h stale leaf) are
