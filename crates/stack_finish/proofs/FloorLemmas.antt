-- The floors of a piece are put on the gathered entries: each is supplied whole, or has a fault for the state on top.
use Rattle.std.proofs.Common.{◌≡◌, ℕ, zero, suc, ◌+◌, ◌-◌, ◌<◌, ◌≤◌, ◌⊎◌, inl, inr, if◌then◌else◌, List, [], ◌∷◌, ◌++◌, length, take, drop, get_or, replicate, All, Contains, Option, Some, None, IsSome, refl, sym, ap, ◌∙◌, subst, subst₂, append_assoc, arith}
use Rattle.std.proofs.Math.Dec.{eqb-zero-suc}
use Rattle.std.proofs.Math.Seq.{drop-cons}
use Rattle.std.proofs.lemmas.List.{length-replicate, length-append, length-take, length-drop, take-append-drop}
use Rattle.std.proofs.lemmas.List.Elements.{All-head}
use Rattle.grammar_data.specs.declared.token.Token.{Token as TextToken}
use Rattle.node_data.specs.declared.kid.Kid.{Kid}
use Rattle.node_data.specs.declared.kid.Kid.TheVariants.{Hidden}
use Rattle.tree_theory.specs.Stores.{Store, Supply}
use Rattle.tree_theory.specs.Walks.{Step}
use Rattle.table_data.specs.Tables.{Tables}
use Rattle.machine_theory.specs.Machine.{Entry, top, bottom, Reaches, Errs}
use Rattle.machine_theory.proofs.RunLemmas.{error_more_input_law, reaches_then, reaches_more}
use Rattle.lawful_theory.specs.Lawful.{IsLawful}
use Rattle.lawful_theory.proofs.FitLemmas.{run_stack}
use Rattle.map_theory.specs.Maps.{StateMap, target}
use Rattle.use_theory.specs.Fills.{SuppliesPart}
use Rattle.piece_theory.specs.Pieces.{Fault, Opened, Floor, Held, Piece, fault_at, hidden_of, opening_before, openings, kids_of}
use Rattle.piece_theory.specs.Applies.{Falls, Fails, Leaves, Tells, tells_error, tells_stack}
use Rattle.piece_theory.specs.WellMade.{HasHidden}
use Rattle.piece_theory.specs.Lists.{first_or, ArePieces, no_piece, piece_first}
use Rattle.level_laws.specs.Levels.{IsMoved}
use Rattle.join_theory.specs.Faults.{IsLaterBy, state_over, carried, carried_to, HasApart}
use Rattle.join_theory.specs.Floors.{AreKeptFor, none_kept, kept_next, TakesKids, none_hidden, kids_taken, TakesWhole}
use Rattle.join_theory.proofs.AliveLemmas.{not_none, is_some_of, carried_none, carried_some}
use Rattle.join_theory.proofs.FallLemmas.{falls_split, fails_split, FailsLater}
use Rattle.finish_theory.specs.Endings.{IsEndPut}
use Rattle.finish_theory.proofs.EndingLemmas.{ground_left, ground_fault, enough_law, end_put_whole_law}
use Rattle.node_store.specs.Chunks.{store_of}
use Rattle.stack_finish.specs.declared.gathered.Gathered.{Gathered}
use Rattle.stack_finish.specs.Gathering.{ground, entries_on, piece_on, top_of, token_total}
use Rattle.stack_finish.specs.Putting.{HidesMore, FitsFloor, FitsOn, IsSupplied, IsPutting}
use Rattle.stack_finish.proofs.EntryLemmas.{length_entries, entries_kids, entries-append, state_on, alive, same_parts, all_shown}
use Rattle.walk_laws.proofs.WalkLemmas.{none_hidden as not_hidden}
use Rattle.stack_finish.proofs.PieceLemmas.{total_is}

-- ---- the one start

pub one_target : (q x : ℕ) → target ((0, x) ∷ []) (suc q) ≡ None
one_target q x = ap (λ b. if b then Some x else None) (eqb-zero-suc q)

no_some : {x : ℕ} → ◌≡◌ {A = Option ℕ} (Some x) None → ⊥
no_some e = cc

-- entries are kept as they are
pub same_kept : (starts : StateMap) (kids : List Kid) (states : List ℕ) → AreKeptFor starts (entries_on kids states) (entries_on kids states)
same_kept starts [] states = none_kept
same_kept starts (k ∷ kids) [] = none_kept
same_kept starts (k ∷ kids) (q ∷ states) = kept_next refl (λ i j d less past. absurd (omega (arith, less, past))) (λ p here. refl) (same_kept starts kids states)

-- the floor on state 0 where that state has erred
abbrev pub dead : Fault → Floor
dead x = record { opened = None; starts = []; faults = x ∷ [] }

abbrev dead_on : Fault → List Kid → List ℕ → Piece
dead_on x kids states = record (piece_on kids states) { floors = dead x ∷ [] }

-- where the state over the entries has no fault on the floor, the ground stays
stays_alive : (tokens z : ℕ) (hs : List Held) (f : Floor) → state_over ground.starts hs 0 ≡ Some z → fault_at f.faults z ≡ None → IsMoved (carried tokens (state_over ground.starts hs) f) ground ground
stays_alive tokens z hs f state clear = record {
  opened = refl;
  stay = λ q none. refl;
  gone = gone;
  dead = still;
  kept = λ q none. refl;
  rising = λ i j d less past. absurd (omega (arith, less, past));
  once = λ i j d less past. absurd (omega (arith, past));
}
  where
    none_here : carried tokens (state_over ground.starts hs) f 0 ≡ None
    none_here = carried_none tokens (state_over ground.starts hs) f 0 z state clear

    gone : (q : ℕ) → IsSome (carried tokens (state_over ground.starts hs) f q) → target ground.starts q ≡ None
    gone zero some = absurd (not_none some none_here)
    gone (suc q) some = one_target q 0

    still : (q : ℕ) → IsSome (target ground.starts q) → fault_at ground.faults q ≡ carried tokens (state_over ground.starts hs) f q
    still zero here = sym none_here
    still (suc q) here = absurd (not_none here (one_target q 0))

-- where it has one, the start errs
dies_there : (tokens z : ℕ) (hs : List Held) (f : Floor) (x : Fault) → state_over ground.starts hs 0 ≡ Some z → fault_at f.faults z ≡ Some x → IsMoved (carried tokens (state_over ground.starts hs) f) ground (dead (carried_to tokens 0 x))
dies_there tokens z hs f x state fault = record {
  opened = refl;
  stay = stay;
  gone = λ q some. refl;
  dead = gives;
  kept = kept;
  rising = λ i j d less past. absurd (omega (arith, past));
  once = λ i j d less past. absurd (omega (arith, less, past));
}
  where
    some_here : carried tokens (state_over ground.starts hs) f 0 ≡ Some (carried_to tokens 0 x)
    some_here = carried_some tokens (state_over ground.starts hs) f 0 z x state fault

    stay : (q : ℕ) → carried tokens (state_over ground.starts hs) f q ≡ None → target [] q ≡ target ground.starts q
    stay zero none = absurd (not_none (is_some_of some_here) none)
    stay (suc q) none = sym (one_target q 0)

    gives : (q : ℕ) → IsSome (target ground.starts q) → fault_at (carried_to tokens 0 x ∷ []) q ≡ carried tokens (state_over ground.starts hs) f q
    gives zero here = sym some_here
    gives (suc q) here = absurd (not_none here (one_target q 0))

    kept : (q : ℕ) → target ground.starts q ≡ None → fault_at (carried_to tokens 0 x ∷ []) q ≡ None
    kept zero none = absurd (no_some none)
    kept (suc q) none = ap (λ b. if b then Some (carried_to tokens 0 x) else None) (eqb-zero-suc q)

-- ---- a floor's fault is an error of the whole text

dead_none : (e : Floor) {x : Fault} → HasApart e → fault_at e.faults 0 ≡ Some x → IsSome (target e.starts 0) → ⊥
dead_none e apart at here = not_none (is_some_of at) (apart 0 here)

-- what follows the tokens so far in the text
next_in : {t : Tables} {store : Store} {rest : List Piece} {v : List TextToken} {steps : List Step} → ArePieces t store [] rest v steps → (more : List TextToken) × (first_or [] rest ++ more ≡ v)
next_in no_piece = ([], refl)
next_in (piece_first {p = p} {u = u} {v = v} made stands takes stuck after parts walk) = (made.later ++ v, sym (parts ∙ ap (λ l. l ++ v) made.begins))

same_fault : {x y : Fault} → ◌≡◌ {A = Option Fault} (Some x) (Some y) → x ≡ y
same_fault e = cc

module _ {t : Tables} {store now : Store} {left right p : Piece} {e : Floor} {further : List Floor} {rest : List Piece} {w : List TextToken} (put : IsEndPut t store now left right p e further rest w) (x : Fault) (at : fault_at e.faults 0 ≡ Some x) where
  only : {y : Fault} → Fails p.floors [] y → y ≡ x
  only {y} fails = same_fault (sym (ground_fault put.ground.unopened (subst (λ l. Fails l [] y) put.ground.floors fails)) ∙ at)

  -- the right piece's floors don't let the stack through
  not_through : {mid low : List Entry} {given : Supply} → Leaves t.rules store left [] mid → Falls put.taken mid low given → ⊥
  not_through {mid} {low} {given} leaves down =
      let c = put.put_on.comes mid low given leaves down in
      let base = (ground_left put.ground.unopened (subst (λ l. Falls l [] c.base c.given) put.ground.floors c.down)).0 in
      dead_none e put.ground.apart at (subst (λ l. IsSome (target e.starts (top 0 l))) base c.alive)

  left_errs : {y : Fault} → Fails left.floors [] y → Errs t 0 [] (put.tokens ++ right.first ∷ []) y.index y.token y.state → Errs t 0 [] w x.index x.token x.state
  left_errs {y} fails errs =
      let same = only (put.put_on.left_errs y fails) in
      let here : Errs t 0 [] (put.tokens ++ right.first ∷ []) x.index x.token x.state = subst (λ (z : Fault). Errs t 0 [] (put.tokens ++ right.first ∷ []) z.index z.token z.state) same errs in
      let made = put.made_right in
      let all : (put.tokens ++ right.first ∷ []) ++ (made.later ++ put.rest_tokens) ≡ w = append_assoc put.tokens (right.first ∷ []) (made.later ++ put.rest_tokens) ∙ ap (λ l. put.tokens ++ (l ++ put.rest_tokens)) (sym made.begins) ∙ sym (append_assoc put.tokens put.right_tokens put.rest_tokens) ∙ sym put.parts in
      subst (λ l. Errs t 0 [] l x.index x.token x.state) all (error_more_input_law t 0 [] (put.tokens ++ right.first ∷ []) (made.later ++ put.rest_tokens) x.index x.token x.state here)

  -- the machine has come to where the right piece begins, and errs in its tokens
  right_errs : {mid : List Entry} → Leaves t.rules store left [] mid → Reaches t 0 [] (put.tokens ++ right.first ∷ []) mid (right.first ∷ []) → {y : Fault} → Fails put.taken mid y → Errs t 0 mid (put.right_tokens ++ first_or [] rest) y.index y.token y.state → Errs t 0 [] w x.index x.token x.state
  right_errs {mid} leaves run {y} fails errs =
      let next = next_in put.after in
      let made = put.made_right in
      let carried = put.put_on.right_errs mid leaves y fails in
      let same = only carried.1 in
      let rest_of : List TextToken = made.later ++ first_or [] rest in
      let input : (put.tokens ++ right.first ∷ []) ++ rest_of ≡ put.tokens ++ (put.right_tokens ++ first_or [] rest) = append_assoc put.tokens (right.first ∷ []) rest_of ∙ ap (λ l. put.tokens ++ (l ++ first_or [] rest)) (sym made.begins) in
      let come : Reaches t 0 [] (put.tokens ++ (put.right_tokens ++ first_or [] rest)) mid (put.right_tokens ++ first_or [] rest) = subst₂ (λ l k. Reaches t 0 [] l mid k) input (ap (λ l. l ++ first_or [] rest) (sym made.begins)) (reaches_more rest_of run) in
      let there : Errs t 0 [] (put.tokens ++ (put.right_tokens ++ first_or [] rest)) (length put.tokens + y.index) y.token y.state = record {
        stack = errs.stack;
        before = put.tokens ++ errs.before;
        later = errs.later;
        parts = ap (λ l. put.tokens ++ l) errs.parts ∙ sym (append_assoc put.tokens errs.before (y.token ∷ errs.later));
        at = length-append put.tokens errs.before ∙ ap (λ n. length put.tokens + n) errs.at;
        reached = reaches_then come errs.reached;
        state_on_top = errs.state_on_top;
        error = errs.error;
      } in
      let by : IsLaterBy (length put.tokens) y x = subst (λ z. IsLaterBy (length put.tokens) y z) same carried.2 in
      let moved : Errs t 0 [] (put.tokens ++ (put.right_tokens ++ first_or [] rest)) x.index x.token x.state = errs_as (sym by.index) (sym by.token) (sym by.state) there in
      let all : (put.tokens ++ (put.right_tokens ++ first_or [] rest)) ++ next.0 ≡ w = append_assoc put.tokens (put.right_tokens ++ first_or [] rest) next.0 ∙ ap (λ l. put.tokens ++ l) (append_assoc put.right_tokens (first_or [] rest) next.0 ∙ ap (λ l. put.right_tokens ++ l) next.1) ∙ sym (append_assoc put.tokens put.right_tokens put.rest_tokens) ∙ sym put.parts in
      subst (λ l. Errs t 0 [] l x.index x.token x.state) all (error_more_input_law t 0 [] (put.tokens ++ (put.right_tokens ++ first_or [] rest)) next.0 x.index x.token x.state moved)
    where
      errs_as : {input : List TextToken} {i j : ℕ} {a b : TextToken} {q z : ℕ} → i ≡ j → a ≡ b → q ≡ z → Errs t 0 [] input i a q → Errs t 0 [] input j b z
      errs_as {input} {i = i} {a = a} {b = b} {z = z} e f g errs = subst (λ n. Errs t 0 [] input n b z) e (subst (λ c. Errs t 0 [] input i c z) f (subst (λ k. Errs t 0 [] input i a k) g errs))

  pub error_here : IsLawful t → Errs t 0 [] w x.index x.token x.state
  error_here lawful = by put.tells
    where
      in_right : {mid : List Entry} → Leaves t.rules store left [] mid → Reaches t 0 [] (put.tokens ++ right.first ∷ []) mid (right.first ∷ []) → Tells t store right put.right_tokens (first_or [] rest) mid → Errs t 0 [] w x.index x.token x.state
      in_right {mid} leaves run (tells_error {fault = y} fails errs) = which (fails_split put.taken further (subst (λ l. Fails l mid y) put.floors fails))
        where
          which : Fails put.taken mid y ⊎ FailsLater put.taken further mid y → Errs t 0 [] w x.index x.token x.state
          which (inl first) = right_errs leaves run first errs
          which (inr later) = absurd (not_through leaves later.down)
      in_right {mid} leaves run (tells_stack others run1) = absurd (not_through leaves (falls_split put.taken further (subst (λ l. Falls l mid others.rest others.supply) put.floors others.down)).first)

      by : Tells t store left put.tokens (right.first ∷ []) [] → Errs t 0 [] w x.index x.token x.state
      by (tells_error fails errs) = left_errs fails errs
      by (tells_stack {last = mid} leaves run) =
          let shift = put.shifts mid leaves in
          in_right leaves run (put.stands_right mid (record { stack = run_stack lawful.1 run bottom; state = shift.0; shifts = shift.1 }))

-- ---- a floor takes entries

-- the node of a floor still to come has its hidden kids
first_hidden : (now : Store) (f : Floor) (further : List Floor) (o : Opened) → f.opened ≡ Some o → All {X = Opened} (HasHidden now) (openings (f ∷ further)) → HasHidden now o
first_hidden now f further o is all = All-head {X = Opened} (HasHidden now) o (openings further) (subst (λ k. All {X = Opened} (HasHidden now) (opening_before k (openings further))) is all)

same_node : {r q : ℕ} {xs ys : List Kid} → ◌≡◌ {A = Option (ℕ × List Kid)} (Some (r, xs)) (Some (q, ys)) → xs ≡ ys
same_node e = ap (λ (n : ℕ × List Kid). n.1) (same e)
  where
    same : {x y : ℕ × List Kid} → ◌≡◌ {A = Option (ℕ × List Kid)} (Some x) (Some y) → x ≡ y
    same h = cc

takes_kids : (store new : Store) (o : Option Opened) (high : List Kid) (upper : List ℕ) → length upper ≡ length high → length high ≡ hidden_of o → IsSupplied store new o high → ((opened : Opened) → o ≡ Some opened → HasHidden store opened) → TakesKids store new o (entries_on high upper)
takes_kids store new None high upper even many supplied hides = subst (λ l. TakesKids store new None (entries_on l upper)) (sym supplied.1) (none_hidden supplied.0)
takes_kids store new (Some opened) high upper even many supplied hides = kids_taken part no_more
  where
    same : kids_of (entries_on high upper) ≡ high
    same = entries_kids high upper even

    part : SuppliesPart store new opened.node 0 (kids_of (entries_on high upper))
    part = record {
      rule = supplied.rule;
      further = supplied.further;
      before = subst (λ l. store opened.node ≡ Some (supplied.rule, replicate 0 Hidden ++ (replicate (length l) Hidden ++ supplied.further))) (sym same) supplied.before;
      after = subst (λ l. new opened.node ≡ Some (supplied.rule, replicate 0 Hidden ++ (l ++ supplied.further))) (sym same) supplied.after;
      others = supplied.others;
    }

    hidden : HasHidden store opened
    hidden = hides opened refl

    further_shown : supplied.further ≡ hidden.kids
    further_shown =
        let lists = same_node (sym supplied.before ∙ hidden.found) in
        let a = length-replicate (length high) Hidden in
        let b = length-replicate opened.hidden Hidden in
        (same_parts (replicate (length high) Hidden) (replicate opened.hidden Hidden) supplied.further hidden.kids (omega (arith, a, b, many)) lists).1

    no_more : Contains {X = Kid} supplied.further Hidden → ⊥
    no_more has = not_hidden hidden.kids hidden.shown (subst (λ l. Contains {X = Kid} l Hidden) further_shown has)

-- ---- the next floor is put on

module _ {t : Tables} {store : Store} {s : Gathered} {left right : Piece} {f : Floor} {further : List Floor} {rest : List Piece} {w : List TextToken} (at : IsPutting t store s left right (f ∷ further) rest w) where
  kids_are : kids_of (entries_on s.kids.items s.states.items) ≡ s.kids.items
  kids_are = entries_kids s.kids.items s.states.items at.even

  enough : hidden_of f.opened ≤ length s.kids.items
  enough = let less = enough_law t store (store_of s.store) left right (piece_on s.kids.items s.states.items) ground f further rest w at.put alive in let long = length_entries s.kids.items s.states.items at.even in omega (arith, less, long)

  pub fits_floor : (o : Option Opened) → f.opened ≡ o → FitsOn (store_of s.store) s.kids.items s.states.items o
  fits_floor None is = tt
  fits_floor (Some opened) is = record {
    even = at.even;
    shown = all_shown s.kids.items (subst (λ l. Contains {X = Kid} l Hidden → ⊥) kids_are at.put.nodes.visible);
    enough = (let less = enough in let many = ap hidden_of is in omega (arith, less, many));
    hides = first_hidden (store_of s.store) f further opened is at.put.nodes.further_nodes;
  }

  module _ (next : Gathered) (kids : next.kids.items ≡ take (length s.kids.items - hidden_of f.opened) s.kids.items) (states : next.states.items ≡ take (length s.states.items - hidden_of f.opened) s.states.items) (supplied : IsSupplied (store_of s.store) (store_of next.store) f.opened (drop (length s.kids.items - hidden_of f.opened) s.kids.items)) where
    even_low : length next.states.items ≡ length next.kids.items
    even_low =
        let a = ap (λ (l : List ℕ). length l) states ∙ length-take (length s.states.items - hidden_of f.opened) s.states.items in
        let b = ap (λ (l : List Kid). length l) kids ∙ length-take (length s.kids.items - hidden_of f.opened) s.kids.items in
        let e = at.even in
        omega (arith, a, b, e)

    many : length (drop (length s.kids.items - hidden_of f.opened) s.kids.items) ≡ hidden_of f.opened
    many = let b = length-drop (length s.kids.items - hidden_of f.opened) s.kids.items in let e = enough in omega (arith, b, e)

    even_high : length (drop (length s.states.items - hidden_of f.opened) s.states.items) ≡ length (drop (length s.kids.items - hidden_of f.opened) s.kids.items)
    even_high =
        let a = length-drop (length s.states.items - hidden_of f.opened) s.states.items in
        let b = length-drop (length s.kids.items - hidden_of f.opened) s.kids.items in
        let e = at.even in
        omega (arith, a, b, e)

    parts : entries_on s.kids.items s.states.items ≡ entries_on next.kids.items next.states.items ++ entries_on (drop (length s.kids.items - hidden_of f.opened) s.kids.items) (drop (length s.states.items - hidden_of f.opened) s.states.items)
    parts =
        let ks : s.kids.items ≡ next.kids.items ++ drop (length s.kids.items - hidden_of f.opened) s.kids.items = sym (take-append-drop (length s.kids.items - hidden_of f.opened) s.kids.items) ∙ ap (λ l. l ++ drop (length s.kids.items - hidden_of f.opened) s.kids.items) (sym kids) in
        let qs : s.states.items ≡ next.states.items ++ drop (length s.states.items - hidden_of f.opened) s.states.items = sym (take-append-drop (length s.states.items - hidden_of f.opened) s.states.items) ∙ ap (λ l. l ++ drop (length s.states.items - hidden_of f.opened) s.states.items) (sym states) in
        (λ i. entries_on (ks i) (qs i)) ∙ entries-append next.kids.items (drop (length s.kids.items - hidden_of f.opened) s.kids.items) next.states.items (drop (length s.states.items - hidden_of f.opened) s.states.items) even_low

    -- the floor is supplied whole, and the start lives or errs
    takes : (g : Floor) (piece : Piece) → piece.floors ≡ g ∷ [] → piece.stack ≡ entries_on next.kids.items next.states.items → IsMoved (carried (length at.put.tokens) (state_over ground.starts (entries_on next.kids.items next.states.items)) f) ground g → TakesWhole (store_of s.store) (store_of next.store) (length at.put.tokens) (piece_on s.kids.items s.states.items) piece ground g f
    takes g piece floors stack moved = record {
      lower = [];
      keep = entries_on next.kids.items next.states.items;
      dropped = entries_on (drop (length s.kids.items - hidden_of f.opened) s.kids.items) (drop (length s.states.items - hidden_of f.opened) s.states.items);
      floors = refl;
      floors_next = floors;
      stack = parts;
      as_many = length_entries (drop (length s.kids.items - hidden_of f.opened) s.kids.items) (drop (length s.states.items - hidden_of f.opened) s.states.items) even_high ∙ many;
      apart = λ q here. refl;
      faults = moved;
      kept = subst (λ l. AreKeptFor g.starts (entries_on next.kids.items next.states.items) l) (sym stack) (same_kept g.starts next.kids.items next.states.items);
      kids = takes_kids (store_of s.store) (store_of next.store) f.opened (drop (length s.kids.items - hidden_of f.opened) s.kids.items) (drop (length s.states.items - hidden_of f.opened) s.states.items) even_high many supplied (λ o is. first_hidden (store_of s.store) f further o is at.put.nodes.further_nodes);
    }

    state_here : state_over ground.starts (entries_on next.kids.items next.states.items) 0 ≡ Some (top_of next)
    state_here = state_on next.kids.items next.states.items even_low

    pub goes_on : next.count ≡ s.count → fault_at f.faults (top_of next) ≡ None → IsPutting t store next left right further rest w
    goes_on count clear = record {
      even = even_low;
      on_ground = at.on_ground;
      put = end_put_whole_law t store (store_of s.store) (store_of next.store) left right (piece_on s.kids.items s.states.items) (piece_on next.kids.items next.states.items) ground ground f further rest w at.put
          (takes ground (piece_on next.kids.items next.states.items) refl refl (stays_alive (length at.put.tokens) (top_of next) (entries_on next.kids.items next.states.items) f state_here clear));
      counted = ap (λ n. n + (right.count + token_total rest)) count ∙ at.counted;
    }

    pub fails_here : IsLawful t → (x : Fault) → fault_at f.faults (top_of next) ≡ Some x → Errs t 0 [] w (s.count + x.index) x.token x.state
    fails_here lawful x fault =
        let y = carried_to (length at.put.tokens) 0 x in
        let piece = dead_on y next.kids.items next.states.items in
        let put = end_put_whole_law t store (store_of s.store) (store_of next.store) left right (piece_on s.kids.items s.states.items) piece ground (dead y) f further rest w at.put
        (takes (dead y) piece refl refl (dies_there (length at.put.tokens) (top_of next) (entries_on next.kids.items next.states.items) f x state_here fault)) in
        let errs : Errs t 0 [] w (length at.put.tokens + x.index) x.token x.state = error_here put y refl lawful in
        subst (λ n. Errs t 0 [] w (n + x.index) x.token x.state) tokens_counted errs
      where
        tokens_counted : length at.put.tokens ≡ s.count
        tokens_counted =
            let all = ap (λ (l : List TextToken). length l) at.put.parts ∙ length-append (at.put.tokens ++ at.put.right_tokens) at.put.rest_tokens in
            let both = length-append at.put.tokens at.put.right_tokens in
            let rest_count = total_is at.put.after in
            let own = at.put.made_right.counted in
            let counted = at.counted in
            omega (arith, all, both, rest_count, own, counted)

-- ---- what opened the floor is named by its value

module _ {t : Tables} {store : Store} {s : Gathered} {left right : Piece} {f : Floor} {further : List Floor} {rest : List Piece} {w : List TextToken} (at : IsPutting t store s left right (f ∷ further) rest w) (next : Gathered) (o : Option Opened) (is : f.opened ≡ o) (kids : next.kids.items ≡ take (length s.kids.items - hidden_of o) s.kids.items) (states : next.states.items ≡ take (length s.states.items - hidden_of o) s.states.items) (supplied : IsSupplied (store_of s.store) (store_of next.store) o (drop (length s.kids.items - hidden_of o) s.kids.items)) where
  kids_here : next.kids.items ≡ take (length s.kids.items - hidden_of f.opened) s.kids.items
  kids_here = kids ∙ ap (λ k. take (length s.kids.items - hidden_of k) s.kids.items) (sym is)

  states_here : next.states.items ≡ take (length s.states.items - hidden_of f.opened) s.states.items
  states_here = states ∙ ap (λ k. take (length s.states.items - hidden_of k) s.states.items) (sym is)

  supplied_here : IsSupplied (store_of s.store) (store_of next.store) f.opened (drop (length s.kids.items - hidden_of f.opened) s.kids.items)
  supplied_here = subst (λ k. IsSupplied (store_of s.store) (store_of next.store) k (drop (length s.kids.items - hidden_of k) s.kids.items)) (sym is) supplied

  pub taken_goes_on : next.count ≡ s.count → fault_at f.faults (top_of next) ≡ None → IsPutting t store next left right further rest w
  taken_goes_on = goes_on at next kids_here states_here supplied_here

  pub taken_fails : IsLawful t → (x : Fault) → fault_at f.faults (top_of next) ≡ Some x → Errs t 0 [] w (s.count + x.index) x.token x.state
  taken_fails = fails_here at next kids_here states_here supplied_here

-- ---- the floors of a list

pub next_floor : (floors : List Floor) (i : ℕ) (f : Floor) → i < length floors → f ≡ get_or floors i f → drop i floors ≡ f ∷ drop (i + 1) floors
next_floor floors i f inside is = drop-cons floors i f inside ∙ (λ k. sym is k ∷ drop (one_more i k) floors)
  where
    one_more : (n : ℕ) → suc n ≡ n + 1
    one_more n = omega arith

-- a floor's hidden kids, as many as are taken
pub hides_more : {store : Store} {kids : List Kid} {states : List ℕ} {o : Opened} → FitsFloor store kids states o → (n : ℕ) → n ≡ o.hidden → HidesMore store o.node 0 n
hides_more {store} {o = o} fits n e = record { rule = o.rule; further = fits.hides.kids; found = subst (λ k. store o.node ≡ Some (o.rule, replicate 0 Hidden ++ (replicate k Hidden ++ fits.hides.kids))) (sym e) fits.hides.found }
