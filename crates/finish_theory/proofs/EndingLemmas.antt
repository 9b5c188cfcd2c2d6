-- Pieces are put onto state 0.
use Rattle.std.proofs.Common.{◌≡◌, ℕ, zero, suc, ◌<◌, ◌≤◌, ◌⊎◌, inl, inr, List, [], ◌∷◌, ◌++◌, reverse, length, All, Contains, Option, Some, None, IsSome, refl, sym, ap, ◌∙◌, subst, append_assoc, append-nil, arith}
use Rattle.std.proofs.lemmas.List.{length-append, map-append}
use Rattle.grammar_data.specs.declared.token.Token.{Token as TextToken}
use Rattle.grammar_data.specs.Grammar.{Grammar}
use Rattle.node_data.specs.declared.kid.Kid.{Kid}
use Rattle.node_data.specs.declared.kid.Kid.TheVariants.{Hidden}
use Rattle.tree_theory.specs.Stores.{Ref, Store, Supply}
use Rattle.tree_theory.specs.Walks.{Step, WalksAll, walks_none, tokens_in}
use Rattle.table_data.specs.declared.act.Act.TheVariants.{Shift}
use Rattle.table_data.specs.Tables.{Tables, act_in}
use Rattle.machine_theory.specs.Machine.{Entry, top, IsStack, bottom, here}
use Rattle.lawful_theory.specs.Lawful.{IsLawfulFor}
use Rattle.lawful_theory.proofs.FitLemmas.{run_stack}
use Rattle.map_theory.specs.Maps.{StateMap, target}
use Rattle.part_theory.specs.Parts.{IsContext}
use Rattle.use_theory.specs.Counts.{count_in, times}
use Rattle.use_theory.specs.Distinct.{IsDistinct}
use Rattle.use_theory.specs.Spines.{IsSpine, spine_end}
use Rattle.use_theory.proofs.CountLemmas.{times-append}
use Rattle.use_theory.proofs.KeptLemmas.{kept_none, kept_then}
use Rattle.use_theory.proofs.FillLemmas.{tokens-append, walk_then}
use Rattle.piece_theory.specs.Pieces.{Fault, Opened, Floor, Held, Piece, fault_at, hidden_of, opening_before, openings, floor_nodes, kids_of}
use Rattle.piece_theory.specs.Applies.{hidden_symbols, nowhere, supply_of, Falls, through, falls, Fails, fails_here, fails_below, Puts, put_all, Leaves, Tells, tells_error, tells_stack, Fitted, fitted_all, fitted}
use Rattle.piece_theory.specs.WellMade.{HasHidden, IsMade}
use Rattle.piece_theory.specs.Lists.{first_or, ArePieces, piece_first, nodes_of_floors}
use Rattle.piece_theory.proofs.ResultLemmas.{falls_not_fails}
use Rattle.level_laws.specs.Levels.{IsMoved}
use Rattle.join_theory.specs.Faults.{state_over, HasApart}
use Rattle.join_theory.specs.Composing.{IsComposedAt}
use Rattle.join_theory.specs.Floors.{IsPutOn, AreOver, none_over, over_next, TakesWhole}
use Rattle.join_theory.proofs.ComposingLemmas.{tells_composed_law}
use Rattle.join_theory.proofs.PutLemmas.{top_state, pushed_of}
use Rattle.join_theory.proofs.FallLemmas.{nodes_none, fitted_behind}
use Rattle.join_theory.proofs.FloorLaws.{no_fault, start_comes, whole_law, end_law}
use Rattle.join_theory.proofs.AliveLemmas.{none_or_some, not_none, is_some_of, was_alive}
use Rattle.joined_laws.specs.Joining.{all_nodes, HasNodes}
use Rattle.joined_laws.proofs.EdgeLemmas.{walks_moved}
use Rattle.joined_laws.proofs.NodeLemmas.{count_reverse, kids_kept}
use Rattle.joined_laws.proofs.MeetingLemmas.{same_result}
use Rattle.joined_laws.proofs.JoiningLemmas.{node_bound, spine_has, visible_both, steps_visible, nodes_whole_law}
use Rattle.joined_laws.proofs.JointLemmas.{apart_next, not_here, whole_unchanged, behind_one}
use Rattle.seam_theory.proofs.SameLemmas.{pieces_same}
use Rattle.finish_theory.specs.Endings.{IsGround, IsEnding, IsEndPut, EndingStartLaw, EndingMoveLaw, EndPutStartLaw, EnoughLaw, EndPutWholeLaw, EndPutEndLaw}

-- ---- the ground

-- the empty stack falls through the ground, where state 0 has no fault
pub falls_ground : (e : Floor) → e.opened ≡ None → fault_at e.faults 0 ≡ None → Falls (e ∷ []) [] [] []
falls_ground e un clear = falls [] [] refl (ap hidden_of (sym un)) clear through (ap (λ o. supply_of o [] ++ []) (sym un))

-- and nothing but itself is left
pub ground_left : {e : Floor} {rest : List Entry} {given : Supply} → e.opened ≡ None → Falls (e ∷ []) [] rest given → (rest ≡ []) × (given ≡ [])
ground_left un (falls [] [] parts many clear through at) = (refl, at ∙ ap (λ o. supply_of o [] ++ []) un)
ground_left un (falls [] (x ∷ below) parts many clear through at) = absurd (cc)
ground_left un (falls (x ∷ taken) below parts many clear through at) = absurd (cc)

pub ground_fault : {e : Floor} {x : Fault} → e.opened ≡ None → Fails (e ∷ []) [] x → fault_at e.faults 0 ≡ Some x
ground_fault un (fails_here [] [] parts many is) = is
ground_fault un (fails_here [] (y ∷ below) parts many is) = absurd (cc)
ground_fault un (fails_here (y ∷ taken) below parts many is) = absurd (cc)
ground_fault un (fails_below taken below parts many clear more) = absurd (no_fault more)

pub ground_nodes : (p : Piece) (e : Floor) → IsGround p e → floor_nodes p.floors ≡ []
ground_nodes p e ground = ap floor_nodes ground.floors ∙ nodes_none e [] ground.unopened

ground_openings : (p : Piece) (e : Floor) → IsGround p e → openings p.floors ≡ []
ground_openings p e ground = ap openings ground.floors ∙ ap (λ o. opening_before o []) ground.unopened

-- ---- the start

pub ending_start_law : EndingStartLaw
ending_start_law t store p e ps w floors un clear stack are = record {
  ground = record { floors = floors; unopened = un; apart = λ q alive. ap (λ l. fault_at l q) clear };
  tokens = [];
  rest_tokens = w;
  steps = [];
  rest_steps = are.steps;
  tells = tells_stack (record { rest = []; supply = []; down = subst (λ l. Falls l [] [] []) (sym floors) (falls_ground e un (ap (λ l. fault_at l 0) clear)); up = subst (λ l. Puts t.rules store [] 0 l [] []) (sym stack) put_all }) here;
  after = are.pieces;
  parts = refl;
  visible = subst (λ l. Contains {X = Kid} (kids_of l) Hidden → ⊥) (sym stack) (λ has. omega (arith, has.1));
  walk = subst (λ l. WalksAll store nowhere 0 (kids_of l) []) (sym stack) walks_none;
  yields = refl;
  each_once = are.each_once;
}

pub ending_move_law : EndingMoveLaw
ending_move_law t store new p moved e e1 rest w ending steps ground tells same visible walk yields once = record {
  ground = ground;
  tokens = ending.tokens;
  rest_tokens = ending.rest_tokens;
  steps = steps;
  rest_steps = ending.rest_steps;
  tells = tells;
  after = pieces_same same ending.after;
  parts = ending.parts;
  visible = visible;
  walk = walk;
  yields = yields;
  each_once = once;
}

-- ---- a piece is put on

-- what is known where the next piece meets the entries
module _ {g : Grammar} {t : Tables} (lawful : IsLawfulFor g t) (store : Store) (p right : Piece) (e : Floor) (ground : IsGround p e) (alive : IsSome (target e.starts 0)) (u : List TextToken) (tells : Tells t store p u (right.first ∷ []) []) (shifts : (z : ℕ) → state_over e.starts p.stack 0 ≡ Some z → (q : ℕ) × (act_in t z right.first.id ≡ Shift q)) where
  left_at : {mid : List Entry} (leaves : Leaves t.rules store p [] mid) → (leaves.rest ≡ []) × (leaves.supply ≡ [])
  left_at leaves = ground_left ground.unopened (subst (λ l. Falls l [] leaves.rest leaves.supply) ground.floors leaves.down)

  no_nodes : (x : Ref) → count_in x (floor_nodes p.floors) ≤ 1
  no_nodes x = let none = ap (count_in x) (ground_nodes p e ground) in omega (arith, none)

  alive_at : {mid : List Entry} (leaves : Leaves t.rules store p [] mid) → IsSome (target e.starts (top 0 leaves.rest))
  alive_at leaves = subst (λ l. IsSome (target e.starts (top 0 l))) (sym (left_at leaves).0) alive

  stack_at : (mid : List Entry) → Leaves t.rules store p [] mid → IsStack t 0 mid
  stack_at mid leaves = by tells
    where
      by : Tells t store p u (right.first ∷ []) [] → IsStack t 0 mid
      by (tells_error fails errs) = absurd (falls_not_fails leaves.down fails)
      by (tells_stack {last = other} leaves1 run) = subst (λ l. IsStack t 0 l) (sym (same_result t store p [] mid other no_nodes leaves leaves1)) (run_stack lawful run bottom)

  shift_at : (mid : List Entry) → Leaves t.rules store p [] mid → (q : ℕ) × (act_in t (top 0 mid) right.first.id ≡ Shift q)
  shift_at mid leaves = shifts (top 0 mid) (ap (λ (l : List Entry). state_over e.starts p.stack (top 0 l)) (sym (left_at leaves).0) ∙ top_state e.starts (alive_at leaves) leaves.up)

  context_at : (mid : List Entry) → Leaves t.rules store p [] mid → IsContext t right.first.id mid
  context_at mid leaves = let shift = shift_at mid leaves in record { stack = stack_at mid leaves; state = shift.0; shifts = shift.1 }

  put_at : (starts : StateMap) → starts ≡ e.starts → ((x : Ref) → count_in x (floor_nodes right.floors) ≤ 1) → IsPutOn t.rules store store (length u) p p e.starts [] right.floors []
  put_at starts same once = record {
    left_errs = λ x fails. fails;
    right_errs = λ mid leaves x fails. absurd (no_fault fails);
    comes = λ mid low supply leaves down. start_comes t store p e.starts right.floors [] mid low supply
        (λ x. (let none = ap (count_in x) (ground_nodes p e ground) in let most = once x in omega (arith, none, most))) leaves (alive_at leaves) (none_left down).0 (none_left down).1;
    came = came tells;
    fits = subst (λ l. Fitted t.rules l []) (sym ground.floors) (fitted [] [] refl (ap hidden_of (sym ground.unopened)) (ap (hidden_symbols t.rules) (sym ground.unopened)) (λ clear. fitted_all));
  }
    where
      none_left : {mid low : List Entry} {supply : Supply} → Falls [] mid low supply → (low ≡ mid) × (supply ≡ [])
      none_left through = (refl, refl)

      came : Tells t store p u (right.first ∷ []) [] → ((x : Fault) × Fails p.floors [] x) ⊎ ((mid : List Entry) × (low : List Entry) × (supply : Supply) × Leaves t.rules store p [] mid × Falls [] mid low supply)
      came (tells_error {fault = x} fails errs) = inl (x, fails)
      came (tells_stack {last = mid} leaves run) = inr (mid, mid, [], leaves, through)

-- the nodes where the next piece meets the entries
ending_nodes : (t : Tables) (store : Store) (p right : Piece) (e : Floor) (rest : List Piece) (u v : List TextToken) (steps more behind : List Step) → IsGround p e → (Contains {X = Kid} (kids_of p.stack) Hidden → ⊥) → WalksAll store nowhere 0 (kids_of p.stack) steps → tokens_in steps ≡ u → IsMade t store right v more → IsDistinct store (floor_nodes right.floors ++ nodes_of_floors rest) (steps ++ (more ++ behind))
    → HasNodes store p right right.floors (u ++ v) (record { nodes_before = []; nodes_behind = nodes_of_floors rest; steps_before = []; steps_behind = behind })
ending_nodes t store p right e rest u v steps more behind ground visible walk yields made once = record {
  nodes = subst (λ l. All {X = Opened} (HasHidden store) l) (sym (ground_openings p e ground)) (λ k d inside. absurd (omega (arith, inside)));
  visible = visible;
  further_nodes = made.nodes;
  steps = steps;
  more = more;
  walk = walk;
  more_walk = made.walk;
  yields = (λ i. yields i ++ made.yields i);
  edge = more;
  rest = [];
  parts = sym (append-nil more);
  further_spine = made.spine;
  apart = λ x some. (let none = ap (count_in x) (ground_nodes p e ground) in let bad : ⊥ = omega (arith, some, none) in absurd bad);
  spine = subst (λ l. IsSpine (reverse l) (steps ++ more)) (sym (ground_nodes p e ground)) spine_end;
  each_once = subst (λ l. IsDistinct store ((l ++ floor_nodes right.floors) ++ nodes_of_floors rest) (steps ++ (more ++ behind))) (sym (ground_nodes p e ground)) once;
}

end_put_by : (g : Grammar) (t : Tables) → IsLawfulFor g t → (store : Store) (p right : Piece) (e : Floor) (rest : List Piece) (w : List TextToken) (ending : IsEnding t store p e (right ∷ rest) w) → IsSome (target e.starts 0) → ((z : ℕ) → state_over e.starts p.stack 0 ≡ Some z → (q : ℕ) × (act_in t z right.first.id ≡ Shift q)) → {v : List TextToken} {steps : List Step} → v ≡ ending.rest_tokens → steps ≡ ending.rest_steps → ArePieces t store [] (right ∷ rest) v steps
    → IsEndPut t store store p right p e right.floors rest w
end_put_by g t lawful store p right e rest w ending alive shifts same_tokens same_steps (piece_first {u = u} {v = v} {first = first} {rest = behind} made stands takes stuck more parts walk) = record {
  ground = ending.ground;
  tokens = ending.tokens;
  right_tokens = u;
  rest_tokens = v;
  right_steps = first;
  beside = record { nodes_before = []; nodes_behind = nodes_of_floors rest; steps_before = []; steps_behind = behind };
  before = refl;
  steps_before = refl;
  behind = refl;
  taken = [];
  floors = refl;
  tells = ending.tells;
  made_right = made;
  stands_right = stands;
  fits = λ mid leaves. takes mid (context_at lawful store p right e ending.ground alive ending.tokens ending.tells shifts mid leaves);
  after = more;
  parts = ending.parts ∙ ap (λ l. ending.tokens ++ l) (sym same_tokens ∙ parts) ∙ sym (append_assoc ending.tokens u v);
  kept = kept_none store;
  unchanged = λ m none. refl;
  elsewhere = λ m some. elsewhere m some (count_in m (floor_nodes right.floors)) refl;
  shifts = λ mid leaves. shift_at lawful store p right e ending.ground alive ending.tokens ending.tells shifts mid leaves;
  nodes = nodes;
  put_on = put_at lawful store p right e ending.ground alive ending.tokens ending.tells shifts e.starts refl (λ x. (let bound = node_bound nodes x in omega (arith, bound)));
}
  where
    nodes : HasNodes store p right right.floors (ending.tokens ++ u) (record { nodes_before = []; nodes_behind = nodes_of_floors rest; steps_before = []; steps_behind = behind })
    nodes = ending_nodes t store p right e rest ending.tokens u ending.steps first behind ending.ground ending.visible ending.walk ending.yields made (subst (λ l. IsDistinct store (floor_nodes right.floors ++ nodes_of_floors rest) (ending.steps ++ l)) (sym same_steps ∙ walk) ending.each_once)

    elsewhere : (m : Ref) → 0 < times m behind → (k : ℕ) → count_in m (floor_nodes right.floors) ≡ k → count_in m (floor_nodes right.floors) ≡ 0
    elsewhere m some zero e0 = e0
    elsewhere m some (suc k) e0 =
        let reversed = count_reverse m (floor_nodes right.floors) in
        let there = spine_has (reverse (floor_nodes right.floors)) m made.spine (omega (arith, e0, reversed)) in
        let total = ap (λ l. times m (ending.steps ++ l)) (sym walk ∙ same_steps) in
        let all = times-append m ending.steps (first ++ behind) in
        let two = times-append m first behind in
        let most = ending.each_once.once m in
        absurd (omega (arith, some, there, total, all, two, most))

pub end_put_start_law : EndPutStartLaw
end_put_start_law g t lawful store p right e rest w ending alive shifts = end_put_by g t lawful store p right e rest w ending alive shifts refl refl ending.after

-- ---- enough entries

pub enough_law : EnoughLaw
enough_law t store now left right p e f further rest w put alive = by put.put_on.came
  where
    clear : fault_at e.faults 0 ≡ None
    clear = put.ground.apart 0 alive

    enough : (low : List Entry) → length low ≡ length p.stack → Fitted t.rules (f ∷ further) low → hidden_of f.opened ≤ length p.stack
    enough low many (fitted taken below parts hidden same more) = let sum = ap length parts ∙ length-append taken below in omega (arith, many, hidden, sum)

    by : ((x : Fault) × Fails p.floors [] x) ⊎ ((mid : List Entry) × (low : List Entry) × (supply : Supply) × Leaves t.rules store left [] mid × Falls put.taken mid low supply) → hidden_of f.opened ≤ length p.stack
    by (inl (x, fails)) = absurd (not_none (is_some_of (ground_fault put.ground.unopened (subst (λ l. Fails l [] x) put.ground.floors fails))) (put.ground.apart 0 alive))
    by (inr (mid, low, supply, leaves, down)) =
        let c = put.put_on.comes mid low supply leaves down in
        let base = (ground_left put.ground.unopened (subst (λ l. Falls l [] c.base c.given) put.ground.floors c.down)).0 in
        let pushed = pushed_of c.up in
        let size = ap length pushed.parts ∙ length-append pushed.upper c.base in
        let empty = ap length base in
        let many = pushed.many in
        enough low (omega (arith, size, empty, many)) (fitted_behind down (subst (λ l. Fitted t.rules l mid) put.floors (put.fits mid leaves)))

-- ---- a floor

lower_none : (lower : List Floor) (e a : Floor) → lower ++ e ∷ [] ≡ a ∷ [] → lower ≡ []
lower_none [] e a same = refl
lower_none (x ∷ lower) e a same = let all = ap length same in let sum = length-append lower (e ∷ []) in absurd (omega (arith, all, sum))

moved_apart : {dies : ℕ → Option Fault} {e g : Floor} → IsMoved dies e g → HasApart g
moved_apart {dies} {e} {g} moved q alive = elim (none_or_some (dies q)) as (λ _. fault_at g.faults q ≡ None) [
  | inl none ↦ moved.dead q (was_alive moved q alive) ∙ none
  | inr some ↦ absurd (not_none alive (moved.gone q (is_some_of some.1)))
]

next_ground : {now new : Store} {tokens : ℕ} {p next : Piece} {e g f : Floor} → TakesWhole now new tokens p next e g f → IsGround p e → IsGround next g
next_ground {e = e} {g = g} takes ground = record {
  floors = takes.floors_next ∙ ap (λ l. l ++ g ∷ []) (lower_none takes.lower e e (sym takes.floors ∙ ground.floors));
  unopened = takes.faults.opened ∙ ground.unopened;
  apart = moved_apart takes.faults;
}

pub end_put_whole_law : EndPutWholeLaw
end_put_whole_law t store now new left right p next e g f further rest w put takes =
    let stepped = nodes_whole_law now new (length put.tokens) p next right e g f further (put.tokens ++ put.right_tokens) put.beside takes put.nodes in
    record {
      ground = next_ground takes put.ground;
      tokens = put.tokens;
      right_tokens = put.right_tokens;
      rest_tokens = put.rest_tokens;
      right_steps = put.right_steps;
      beside = put.beside;
      before = put.before;
      steps_before = put.steps_before;
      behind = put.behind;
      taken = put.taken ++ f ∷ [];
      floors = put.floors ∙ behind_one put.taken f further;
      tells = put.tells;
      made_right = put.made_right;
      stands_right = put.stands_right;
      fits = put.fits;
      after = put.after;
      parts = put.parts;
      kept = kept_then store now new put.kept stepped.1;
      unchanged = λ m none. whole_unchanged now new f m f.opened takes.dropped takes.kids refl (not_here right.floors put.taken further f put.floors m none) ∙ put.unchanged m none;
      elsewhere = put.elsewhere;
      shifts = put.shifts;
      nodes = stepped.0;
      put_on = whole_law t.rules store now new (length put.tokens) left p next e g f put.taken further [] takes (apart_next put.nodes) (λ mid leaves. subst (λ l. Fitted t.rules l mid) put.floors (put.fits mid leaves)) put.put_on;
    }

-- ---- the entries

kids_over : {states : ℕ → Option ℕ} {starts : StateMap} {hs ks : List Held} → AreOver states starts hs ks → kids_of ks ≡ kids_of hs
kids_over none_over = refl
kids_over (over_next kid up targets rest) = λ i. kid i ∷ kids_over rest i

pub end_put_end_law : EndPutEndLaw
end_put_end_law g t lawful store now left right p next e rest w keep put is floors stack kept over = record {
  ground = record { floors = floors ∙ is.ground.floors; unopened = is.ground.unopened; apart = is.ground.apart };
  tokens = is.tokens ++ is.right_tokens;
  rest_tokens = is.rest_tokens;
  steps = is.nodes.steps ++ is.nodes.more;
  rest_steps = is.beside.steps_behind;
  tells = tells_composed_law g t lawful store now left right next is.tokens is.right_tokens is.made_right.later (first_or [] rest) [] is.made_right.begins bottom composed is.shifts is.tells is.stands_right;
  after = pieces_same (λ m some. is.unchanged m (is.elsewhere m some)) is.after;
  parts = is.parts;
  visible = subst (λ l. Contains {X = Kid} l Hidden → ⊥) (sym kids) (visible_both (kids_of p.stack) (kids_of right.stack) is.nodes.visible (steps_visible is.made_right.maps));
  walk = subst (λ l. WalksAll now nowhere 0 l (is.nodes.steps ++ is.nodes.more)) (sym kids) (walk_then is.nodes.walk (length (kids_of p.stack)) (kids_of right.stack) is.nodes.more (omega arith) (walks_moved is.nodes.more_walk nowhere (length (kids_of p.stack)) (steps_visible is.made_right.maps)));
  yields = tokens-append is.nodes.steps is.nodes.more ∙ is.nodes.yields;
  each_once = once;
}
  where
    kids : kids_of next.stack ≡ kids_of p.stack ++ kids_of right.stack
    kids = ap kids_of stack ∙ map-append (λ h. h.kid) keep put ∙ (λ i. kids_kept kept i ++ kids_over over i)

    composed : IsComposedAt t.rules store now (length is.tokens) left right next []
    composed = (end_law t.rules store now (length is.tokens) left right p next e.starts keep put [] floors stack kept over is.kept (subst (λ l. IsPutOn t.rules store now (length is.tokens) left p e.starts l [] []) (sym (append-nil is.taken) ∙ sym is.floors) is.put_on)).0

    once : IsDistinct now (nodes_of_floors rest) ((is.nodes.steps ++ is.nodes.more) ++ is.beside.steps_behind)
    once = subst (λ l. IsDistinct now l ((is.nodes.steps ++ is.nodes.more) ++ is.beside.steps_behind)) (ap (λ l. l ++ ((floor_nodes p.floors ++ []) ++ is.beside.nodes_behind)) is.before ∙ ap (λ l. (l ++ []) ++ is.beside.nodes_behind) (ground_nodes p e is.ground) ∙ is.behind)
        (subst (λ l. IsDistinct now (all_nodes is.beside p.floors []) l) (ap (λ l. l ++ (is.nodes.steps ++ (is.nodes.more ++ is.beside.steps_behind))) is.steps_before ∙ sym (append_assoc is.nodes.steps is.nodes.more is.beside.steps_behind)) is.nodes.each_once)
