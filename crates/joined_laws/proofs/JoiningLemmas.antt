-- The joined piece between two floors: its nodes and walks, its floors and maps.
use Rattle.std.proofs.Common.{◌≡◌, ◌≢◌, ℕ, zero, suc, ◌+◌, ◌<◌, ◌≤◌, inl, inr, List, [], ◌∷◌, ◌++◌, reverse, map, length, replicate, slice_index_or, All, Contains, Option, Some, None, IsSome, refl, sym, ap, ◌∙◌, subst, append_assoc, append-nil, arith}
use Rattle.std.proofs.lemmas.List.{map-append, length-append}
use Rattle.std.proofs.lemmas.List.Elements.{Contains-append_left, Contains-append_right, Contains-append_cases}
use Rattle.grammar_data.specs.declared.token.Token.{Token as TextToken}
use Rattle.grammar_theory.proofs.RuleLemmas.{same_parts}
use Rattle.node_data.specs.declared.kid.Kid.{Kid}
use Rattle.node_data.specs.declared.kid.Kid.TheVariants.{Hidden}
use Rattle.tree_theory.specs.Stores.{Ref, Store}
use Rattle.tree_theory.specs.Walks.{Step, Enter, WalksAll, walks_none, tokens_in}
use Rattle.tree_theory.proofs.ShownLemmas.{some_pair}
use Rattle.table_data.specs.Tables.{Tables}
use Rattle.map_theory.specs.Maps.{StateMap, target}
use Rattle.use_theory.specs.Counts.{sameness, count_in, times}
use Rattle.use_theory.specs.Distinct.{IsDistinct}
use Rattle.use_theory.specs.Fills.{holes, Filled, SuppliesPart}
use Rattle.use_theory.specs.Kept.{IsKept}
use Rattle.use_theory.specs.Spines.{IsSpine, spine_node}
use Rattle.use_theory.proofs.CountLemmas.{same_self, same_zero, same_of, count-append, times-append}
use Rattle.use_theory.proofs.DistinctLemmas.{filled_law, holes_enter}
use Rattle.use_theory.proofs.FillLemmas.{tokens-append, filled_tokens, same_elsewhere}
use Rattle.use_theory.proofs.KeptLemmas.{walks_all_on, kept_none, kept_filled}
use Rattle.use_theory.proofs.SpineLemmas.{spine_more, no_tokens_in, no_hole_tokens}
use Rattle.piece_theory.specs.Pieces.{Opened, Floor, Held, Piece, opening_before, openings, floor_nodes, kids_of}
use Rattle.piece_theory.specs.Applies.{nowhere}
use Rattle.piece_theory.specs.WellMade.{HasHidden, start_of, AreStacked, on_floor, AreSteps, no_step, step_on}
use Rattle.piece_theory.proofs.FloorLemmas.{floors_law}
use Rattle.level_laws.specs.Growing.{FollowOn, follow_none, follow}
use Rattle.level_laws.proofs.GrowingLemmas.{AreKept, kept_none as none_is_kept, kept_more, follow_kept}
use Rattle.level_laws.proofs.LevelLemmas.{level_moved, floors_moved}
use Rattle.join_theory.specs.Floors.{AreKeptFor, none_kept, kept_next, TakesKids, none_hidden, kids_taken, TakesPart}
use Rattle.join_theory.proofs.PutLemmas.{alive_start, symbol_kept, symbol_shown}
use Rattle.join_theory.proofs.FallLemmas.{nodes_some, nodes_none}
use Rattle.join_theory.proofs.AliveLemmas.{was_alive}
use Rattle.joined_laws.specs.Joining.{Beside, all_nodes, all_steps, HasNodes, NodesStartLaw, FloorsStartLaw, NodesWholeLaw, FloorsWholeLaw, NodesPartLaw, FloorsPartLaw}
use Rattle.joined_laws.proofs.EdgeLemmas.{NoneEntered, spine_swap, spine_enters, walks_split, walks_moved}
use Rattle.joined_laws.proofs.NodeLemmas.{openings_swapped, openings_push, nodes_push, reverse_first, reverse_last, count_reverse, hidden_elsewhere, all_push, all_rest, all_first, count_all, times_all, kids_kept, IsFilledMore, fill_more}

-- ---- the nodes of the joined piece's floors stay at the left edge

edge_moved : (ms : List Ref) (m : Ref) (still filled : ℕ) (inner more now : List Step) (fills : Filled m still filled inner more now) (a t1 : List Step) → tokens_in fills.front ≡ [] → NoneEntered ms fills.front → count_in m ms ≡ 0 → tokens_in t1 ≡ [] → IsSpine ms (a ++ (inner ++ more)) → IsSpine ms (a ++ (t1 ++ (inner ++ fills.back)))
edge_moved ms m still filled inner more now fills a t1 none not other none1 spine =
    let gone = fills.front ++ Enter m ∷ (holes m 0 still ++ holes m still filled) in
    spine_swap spine a inner gone t1 fills.back none1 not_gone (ap (λ l. a ++ (inner ++ l)) (fills.before ∙ shifted fills.front (Enter m) (holes m 0 still) (holes m still filled) fills.back))
  where
    shifted : (a : List Step) (x : Step) (b c d : List Step) → a ++ x ∷ (b ++ (c ++ d)) ≡ (a ++ x ∷ (b ++ c)) ++ d
    shifted a x b c d = simp append_assoc

    not_gone : NoneEntered ms (fills.front ++ Enter m ∷ (holes m 0 still ++ holes m still filled))
    not_gone x some =
        let first = not x some in
        let parts = times-append x fills.front (Enter m ∷ (holes m 0 still ++ holes m still filled)) in
        let more_parts = times-append x (holes m 0 still) (holes m still filled) in
        let one = holes_enter x m 0 still in
        let two = holes_enter x m still filled in
        let differ : sameness x m ≡ 0 = same_zero x m (λ e. not_same (ap (λ y. count_in y ms) e)) in
        omega (arith, first, parts, more_parts, one, two, differ)
      where
        not_same : count_in x ms ≡ count_in m ms → ⊥
        not_same e = omega (arith, some, e, other)

-- ---- what is counted

-- each node is that of one floor at most, and entered once at most
module _ {now : Store} {p right : Piece} {further : List Floor} {tokens : List TextToken} {beside : Beside} (has : HasNodes now p right further tokens beside) where
  pub node_bound : (x : Ref) → count_in x beside.nodes_before + (count_in x (floor_nodes p.floors) + count_in x (floor_nodes further)) + count_in x beside.nodes_behind ≤ 1
  node_bound x =
      let all = count_all x beside p.floors further in
      let most = has.each_once.within x in
      let once = has.each_once.once x in
      omega (arith, all, most, once)

  pub time_bound : (x : Ref) → times x has.steps + times x has.more ≤ 1
  time_bound x = let all = times_all x beside has.steps has.more in let once = has.each_once.once x in omega (arith, all, once)

-- ---- a floor that is supplied whole

visible_front : (kids others all : List Kid) → all ≡ kids ++ others → (Contains {X = Kid} all Hidden → ⊥) → Contains {X = Kid} kids Hidden → ⊥
visible_front kids others all parts visible has = visible (subst (λ l. Contains {X = Kid} l Hidden) (sym parts) (Contains-append_left {X = Kid} kids others Hidden has))

visible_back : (kids others all : List Kid) → all ≡ kids ++ others → (Contains {X = Kid} all Hidden → ⊥) → Contains {X = Kid} others Hidden → ⊥
visible_back kids others all parts visible has = visible (subst (λ l. Contains {X = Kid} l Hidden) (sym parts) (Contains-append_right {X = Kid} kids others Hidden has))

pub visible_both : (kids others : List Kid) → (Contains {X = Kid} kids Hidden → ⊥) → (Contains {X = Kid} others Hidden → ⊥) → Contains {X = Kid} (kids ++ others) Hidden → ⊥
visible_both kids others first second has = elim (Contains-append_cases {X = Kid} kids others Hidden has) as (λ _. ⊥) [ inl here ↦ first here | inr there ↦ second there ]

module _ (now new : Store) (p next right : Piece) (f : Floor) (further : List Floor) (tokens : List TextToken) (beside : Beside) (keep dropped : List Held) (opened : Opened) (opens : f.opened ≡ Some opened) (stack : p.stack ≡ keep ++ dropped) (kids : kids_of next.stack ≡ kids_of keep) (same_openings : openings next.floors ≡ openings p.floors) (part : SuppliesPart now new opened.node 0 (kids_of dropped)) (shown : Contains {X = Kid} part.further Hidden → ⊥) (has : HasNodes now p right (f ∷ further) tokens beside) where
  m_bound : (x : Ref) → count_in x beside.nodes_before + (count_in x (floor_nodes p.floors) + (sameness x opened.node + count_in x (floor_nodes further))) + count_in x beside.nodes_behind ≤ 1
  m_bound x = let bound = node_bound has x in let first = ap (count_in x) (nodes_some f further opened opens) in omega (arith, bound, first)

  m_spine : IsSpine (reverse (floor_nodes further) ++ opened.node ∷ []) has.edge
  m_spine = subst (λ l. IsSpine l has.edge) (ap reverse (nodes_some f further opened opens) ∙ reverse_first opened.node (floor_nodes further)) has.further_spine

  m_entered : 0 < times opened.node has.more
  m_entered = let some = spine_enters (reverse (floor_nodes further)) opened.node m_spine in let sum = ap (times opened.node) has.parts ∙ times-append opened.node has.edge has.rest in omega (arith, some, sum)

  whole_some : HasNodes new next right further tokens beside
  whole_some =
      let m = opened.node in
      let all_kids = ap kids_of stack ∙ map-append (λ h. h.kid) keep dropped in
      let apart = walks_split now nowhere (kids_of keep) (kids_of dropped) (kids_of p.stack) 0 (length (kids_of keep)) has.steps all_kids (omega arith) has.walk in
      let xs = apart.first in
      let zs = apart.second in
      let entered = m_entered in
      let bound = time_bound has m in
      let in_parts = ap (times m) apart.parts ∙ times-append m xs zs in
      let no_xs : times m xs ≡ 0 = omega (arith, entered, bound, in_parts) in
      let no_zs : times m zs ≡ 0 = omega (arith, entered, bound, in_parts) in
      let visible_dropped = visible_back (kids_of keep) (kids_of dropped) (kids_of p.stack) all_kids has.visible in
      let inner = walks_all_on (walks_moved apart.walk_behind m 0 visible_dropped) (same_elsewhere {store = now} {new = new} zs part.others no_zs) in
      let filled = fill_more now new m 0 (kids_of dropped) zs has.more has.edge has.rest (reverse (floor_nodes further)) (kids_of right.stack) part inner has.more_walk (omega (arith, bound)) has.parts m_spine in
      let m_once = m_bound m in
      let self = same_self m in
      let same_nodes : floor_nodes next.floors ≡ floor_nodes p.floors = ap (λ l. map (λ o. o.node) l) same_openings in
      record {
        nodes = subst (λ l. All {X = Opened} (HasHidden new) l) (sym same_openings) (hidden_elsewhere now new m part.others (openings p.floors) (omega (arith, m_once, self)) has.nodes);
        visible = subst (λ l. Contains {X = Kid} l Hidden → ⊥) (sym kids) (visible_front (kids_of keep) (kids_of dropped) (kids_of p.stack) all_kids has.visible);
        further_nodes = hidden_elsewhere now new m part.others (openings further) (omega (arith, m_once, self)) (all_rest (HasHidden now) opened (openings further) (subst (λ l. All {X = Opened} (HasHidden now) l) (ap (λ o. opening_before o (openings further)) opens) has.further_nodes));
        steps = xs;
        more = filled.now;
        walk = subst (λ l. WalksAll new nowhere 0 l xs) (sym kids) (walks_all_on apart.walk (same_elsewhere {store = now} {new = new} xs part.others no_xs));
        more_walk = filled.walk;
        yields = ap (λ l. tokens_in xs ++ l) (filled_tokens filled.fills filled.none) ∙ sym (append_assoc (tokens_in xs) (tokens_in zs) (tokens_in has.more)) ∙ ap (λ l. l ++ tokens_in has.more) (sym (tokens-append xs zs) ∙ ap tokens_in (sym apart.parts)) ∙ has.yields;
        edge = filled.fills.front;
        rest = Enter m ∷ (zs ++ filled.fills.back);
        parts = filled.fills.after;
        further_spine = filled.spine;
        apart = λ x some. (let none = has.apart x (subst (λ l. 0 < count_in x l) same_nodes some) in let sum = ap (times x) filled.edge_is ∙ times-append x filled.fills.front (Enter m ∷ filled.mid) in omega (arith, none, sum));
        spine = whole_spine xs zs apart.parts filled same_nodes;
        each_once = whole_once xs zs apart.parts filled same_nodes;
      }
    where
      whole_spine : (xs zs : List Step) → has.steps ≡ xs ++ zs → (filled : IsFilledMore new opened.node 0 (length (kids_of dropped)) zs has.more has.edge (reverse (floor_nodes further)) (kids_of right.stack)) → floor_nodes next.floors ≡ floor_nodes p.floors → IsSpine (reverse (floor_nodes next.floors)) (xs ++ filled.now)
      whole_spine xs zs parts filled same_nodes =
          let m = opened.node in
          let ms = reverse (floor_nodes p.floors) in
          let m_once = m_bound m in
          let self = same_self m in
          let reversed = count_reverse m (floor_nodes p.floors) in
          let front = filled.fills.front in
          let before : IsSpine ms (xs ++ (zs ++ has.more)) = subst (λ l. IsSpine ms l) (ap (λ l. l ++ has.more) parts ∙ append_assoc xs zs has.more) has.spine in
          let moved = edge_moved ms m 0 (length (kids_of dropped)) zs has.more filled.now filled.fills xs (front ++ Enter m ∷ []) filled.none (not_front filled) (omega (arith, m_once, self, reversed)) (no_tokens_in front (Enter m ∷ []) filled.none refl) before in
          let now_is : xs ++ ((front ++ Enter m ∷ []) ++ (zs ++ filled.fills.back)) ≡ xs ++ filled.now = ap (λ l. xs ++ l) (append_assoc front (Enter m ∷ []) (zs ++ filled.fills.back) ∙ sym filled.fills.after) in
          subst (λ l. IsSpine (reverse l) (xs ++ filled.now)) (sym same_nodes) (subst (λ l. IsSpine ms l) now_is moved)
        where
          not_front : (filled : IsFilledMore new opened.node 0 (length (kids_of dropped)) zs has.more has.edge (reverse (floor_nodes further)) (kids_of right.stack)) → NoneEntered (reverse (floor_nodes p.floors)) filled.fills.front
          not_front filled x some =
              let reversed = count_reverse x (floor_nodes p.floors) in
              let none = has.apart x (omega (arith, some, reversed)) in
              let sum = ap (times x) filled.edge_is ∙ times-append x filled.fills.front (Enter opened.node ∷ filled.mid) in
              omega (arith, none, sum)

      whole_once : (xs zs : List Step) → has.steps ≡ xs ++ zs → (filled : IsFilledMore new opened.node 0 (length (kids_of dropped)) zs has.more has.edge (reverse (floor_nodes further)) (kids_of right.stack)) → floor_nodes next.floors ≡ floor_nodes p.floors → IsDistinct new (all_nodes beside next.floors further) (all_steps beside xs filled.now)
      whole_once xs zs parts filled same_nodes =
          filled_law now new opened.node 0 (kids_of dropped) (all_nodes beside p.floors (f ∷ further)) (all_nodes beside next.floors further) beside.steps_before xs zs has.more filled.now beside.steps_behind part filled.fills m_entered
          (let all = count_all opened.node beside next.floors further in let bound = m_bound opened.node in let self = same_self opened.node in let same = ap (count_in opened.node) same_nodes in omega (arith, all, bound, self, same))
          (λ n not. (let all = count_all n beside next.floors further in let was = count_all n beside p.floors (f ∷ further) in let first = ap (count_in n) (nodes_some f further opened opens) in let differ = same_zero n opened.node not in let same = ap (count_in n) same_nodes in omega (arith, all, was, first, differ, same)))
          (λ hidden. absurd (visible_both (kids_of dropped) part.further (visible_back (kids_of keep) (kids_of dropped) (kids_of p.stack) (ap kids_of stack ∙ map-append (λ h. h.kid) keep dropped) has.visible) shown hidden))
          (subst (λ l. IsDistinct now (all_nodes beside p.floors (f ∷ further)) (beside.steps_before ++ (l ++ (has.more ++ beside.steps_behind)))) parts has.each_once)

-- a floor with no node: nothing changes
whole_none : (now new : Store) (p next right : Piece) (f : Floor) (further : List Floor) (tokens : List TextToken) (beside : Beside) (keep : List Held) → f.opened ≡ None → p.stack ≡ keep ++ [] → kids_of next.stack ≡ kids_of keep → openings next.floors ≡ openings p.floors → new ≡ now → HasNodes now p right (f ∷ further) tokens beside → HasNodes new next right further tokens beside
whole_none now new p next right f further tokens beside keep opens stack kids same_openings same has =
    let same_nodes : floor_nodes next.floors ≡ floor_nodes p.floors = ap (λ l. map (λ o. o.node) l) same_openings in
    let same_kids : kids_of next.stack ≡ kids_of p.stack = kids ∙ ap kids_of (sym (append-nil keep)) ∙ ap kids_of (sym stack) in
    subst (λ l. HasNodes l next right further tokens beside) (sym same) (record {
      nodes = subst (λ l. All {X = Opened} (HasHidden now) l) (sym same_openings) has.nodes;
      visible = subst (λ l. Contains {X = Kid} l Hidden → ⊥) (sym same_kids) has.visible;
      further_nodes = subst (λ l. All {X = Opened} (HasHidden now) l) (ap (λ o. opening_before o (openings further)) opens) has.further_nodes;
      steps = has.steps;
      more = has.more;
      walk = subst (λ l. WalksAll now nowhere 0 l has.steps) (sym same_kids) has.walk;
      more_walk = has.more_walk;
      yields = has.yields;
      edge = has.edge;
      rest = has.rest;
      parts = has.parts;
      further_spine = subst (λ l. IsSpine (reverse l) has.edge) (nodes_none f further opens) has.further_spine;
      apart = λ x some. has.apart x (subst (λ l. 0 < count_in x l) same_nodes some);
      spine = subst (λ l. IsSpine (reverse l) (has.steps ++ has.more)) (sym same_nodes) has.spine;
      each_once = subst (λ l. IsDistinct now (beside.nodes_before ++ ((l ++ floor_nodes further) ++ beside.nodes_behind)) (all_steps beside has.steps has.more)) (sym same_nodes)
          (subst (λ l. IsDistinct now (beside.nodes_before ++ ((floor_nodes p.floors ++ l) ++ beside.nodes_behind)) (all_steps beside has.steps has.more)) (nodes_none f further opens) has.each_once);
    })

whole_by : (now new : Store) (p next right : Piece) (f : Floor) (further : List Floor) (tokens : List TextToken) (beside : Beside) (keep dropped : List Held) (o : Option Opened) → TakesKids now new o dropped → f.opened ≡ o → p.stack ≡ keep ++ dropped → kids_of next.stack ≡ kids_of keep → openings next.floors ≡ openings p.floors → HasNodes now p right (f ∷ further) tokens beside → HasNodes new next right further tokens beside × IsKept now new
whole_by now new p next right f further tokens beside keep dropped o (none_hidden same) opens stack kids same_openings has =
    (whole_none now new p next right f further tokens beside keep opens stack kids same_openings same has, subst (λ l. IsKept now l) (sym same) (kept_none now))
whole_by now new p next right f further tokens beside keep dropped o (kids_taken {opened = opened} part shown) opens stack kids same_openings has =
    (whole_some now new p next right f further tokens beside keep dropped opened opens stack kids same_openings part shown has, kept_filled now new opened.node 0 (kids_of dropped) part)

pub nodes_whole_law : NodesWholeLaw
nodes_whole_law now new tokens p next right e g f further w beside takes has =
    whole_by now new p next right f further w beside takes.keep takes.dropped f.opened takes.kids refl takes.stack (kids_kept takes.kept)
    (ap openings takes.floors_next ∙ openings_swapped takes.lower e g takes.faults.opened ∙ ap openings (sym takes.floors)) has

-- ---- a floor that is supplied in part

index_same : (l : List Kid) (k : ℕ) (d e : Kid) → k < length l → slice_index_or l k d ≡ slice_index_or l k e
index_same [] k d e less = absurd (omega (arith, less))
index_same (x ∷ l) zero d e less = refl
index_same (x ∷ l) (suc k) d e less = index_same l k d e (omega (arith, less))

pub all_visible : (l : List Kid) → (Contains {X = Kid} l Hidden → ⊥) → All {X = Kid} (λ kid. kid ≢ Hidden) l
all_visible l visible k d inside e = visible (k, inside, index_same l k Hidden d inside ∙ e)

module _ (t : Tables) (now new : Store) (count : ℕ) (p next right : Piece) (e g f : Floor) (further : List Floor) (tokens : List TextToken) (beside : Beside) (takes : TakesPart t now new count p next e g f) (has : HasNodes now p right (f ∷ further) tokens beside) where
  rest_opened : Opened
  rest_opened = record { rule = takes.opened.rule; hidden = takes.still; node = takes.opened.node }

  rest_opens : g.opened ≡ Some (record { rule = takes.opened.rule; hidden = takes.still; node = takes.opened.node })
  rest_opens = takes.faults.opened ∙ takes.opens_fresh

  p_bound : (x : Ref) → count_in x beside.nodes_before + (count_in x (floor_nodes p.floors) + (sameness x takes.opened.node + count_in x (floor_nodes further))) + count_in x beside.nodes_behind ≤ 1
  p_bound x = let bound = node_bound has x in let first = ap (count_in x) (nodes_some f further takes.opened takes.opens) in omega (arith, bound, first)

  p_spine : IsSpine (reverse (floor_nodes further) ++ takes.opened.node ∷ []) has.edge
  p_spine = subst (λ l. IsSpine l has.edge) (ap reverse (nodes_some f further takes.opened takes.opens) ∙ reverse_first takes.opened.node (floor_nodes further)) has.further_spine

  p_entered : 0 < times takes.opened.node has.more
  p_entered = let some = spine_enters (reverse (floor_nodes further)) takes.opened.node p_spine in let sum = ap (times takes.opened.node) has.parts ∙ times-append takes.opened.node has.edge has.rest in omega (arith, some, sum)

  next_nodes : floor_nodes next.floors ≡ floor_nodes p.floors ++ takes.opened.node ∷ []
  next_nodes = ap floor_nodes takes.floors_next ∙ nodes_push p.floors g (record { rule = takes.opened.rule; hidden = takes.still; node = takes.opened.node }) rest_opens

  further_opened : All {X = Opened} (HasHidden now) (takes.opened ∷ openings further)
  further_opened = subst (λ l. All {X = Opened} (HasHidden now) l) (ap (λ o. opening_before o (openings further)) takes.opens) has.further_nodes

  rest_hidden : HasHidden new (record { rule = takes.opened.rule; hidden = takes.still; node = takes.opened.node })
  rest_hidden =
      let was = all_first (HasHidden now) takes.opened (openings further) further_opened in
      let rule = (some_pair (sym takes.part.before ∙ was.found)).0 in
      record {
        kids = kids_of p.stack ++ takes.part.further;
        found = takes.part.after ∙ ap (λ (r : ℕ). Some (r, replicate takes.still Hidden ++ (kids_of p.stack ++ takes.part.further))) rule;
        shown = all_visible (kids_of p.stack ++ takes.part.further) (visible_both (kids_of p.stack) takes.part.further has.visible takes.shown);
      }

  no_steps : times takes.opened.node has.steps ≡ 0
  no_steps = let entered = p_entered in let bound = time_bound has takes.opened.node in omega (arith, entered, bound)

  p_filled : IsFilledMore new takes.opened.node takes.still (length (kids_of p.stack)) has.steps has.more has.edge (reverse (floor_nodes further)) (kids_of right.stack)
  p_filled = fill_more now new takes.opened.node takes.still (kids_of p.stack) has.steps has.more has.edge has.rest (reverse (floor_nodes further)) (kids_of right.stack) takes.part
      (walks_all_on (walks_moved has.walk takes.opened.node takes.still has.visible) (same_elsewhere {store = now} {new = new} has.steps takes.part.others no_steps))
      has.more_walk (let bound = time_bound has takes.opened.node in omega (arith, bound)) has.parts p_spine

  p_not_front : (filled : IsFilledMore new takes.opened.node takes.still (length (kids_of p.stack)) has.steps has.more has.edge (reverse (floor_nodes further)) (kids_of right.stack)) → (x : Ref) → 0 < count_in x (floor_nodes p.floors) → times x filled.fills.front ≡ 0
  p_not_front filled x some =
      let none = has.apart x some in
      let sum = ap (times x) filled.edge_is ∙ times-append x filled.fills.front (Enter takes.opened.node ∷ filled.mid) in
      omega (arith, none, sum)

  -- the node itself is entered behind the edge alone
  p_not_here : (filled : IsFilledMore new takes.opened.node takes.still (length (kids_of p.stack)) has.steps has.more has.edge (reverse (floor_nodes further)) (kids_of right.stack)) → times takes.opened.node filled.fills.front ≡ 0
  p_not_here filled =
      let sum = ap (times takes.opened.node) filled.edge_is ∙ times-append takes.opened.node filled.fills.front (Enter takes.opened.node ∷ filled.mid) in
      let whole = ap (times takes.opened.node) has.parts ∙ times-append takes.opened.node has.edge has.rest in
      let bound = time_bound has takes.opened.node in
      let self = same_self takes.opened.node in
      omega (arith, sum, whole, bound, self)

  p_next_spine : (filled : IsFilledMore new takes.opened.node takes.still (length (kids_of p.stack)) has.steps has.more has.edge (reverse (floor_nodes further)) (kids_of right.stack)) → IsSpine (reverse (floor_nodes next.floors)) filled.now
  p_next_spine filled =
      let m = takes.opened.node in
      let ms = reverse (floor_nodes p.floors) in
      let bound = p_bound m in
      let self = same_self m in
      let reversed = count_reverse m (floor_nodes p.floors) in
      let moved = edge_moved ms m takes.still (length (kids_of p.stack)) has.steps has.more filled.now filled.fills [] (holes m 0 takes.still) filled.none
      (λ x some. p_not_front filled x (let back = count_reverse x (floor_nodes p.floors) in omega (arith, some, back))) (omega (arith, bound, self, reversed)) (no_hole_tokens m 0 takes.still) has.spine in
      let whole : IsSpine (m ∷ ms) filled.now = spine_node filled.fills.front (holes m 0 takes.still ++ (has.steps ++ filled.fills.back)) filled.fills.after filled.none moved in
      subst (λ l. IsSpine l filled.now) (sym (ap reverse next_nodes ∙ reverse_last m (floor_nodes p.floors))) whole

  next_count : (x : Ref) → count_in x (all_nodes beside next.floors further) ≡ count_in x (all_nodes beside p.floors (f ∷ further))
  next_count x =
      let all = count_all x beside next.floors further in
      let was = count_all x beside p.floors (f ∷ further) in
      let first = ap (count_in x) (nodes_some f further takes.opened takes.opens) in
      let last = ap (count_in x) next_nodes ∙ count-append x (floor_nodes p.floors) (takes.opened.node ∷ []) in
      omega (arith, all, was, first, last)

  p_once : (filled : IsFilledMore new takes.opened.node takes.still (length (kids_of p.stack)) has.steps has.more has.edge (reverse (floor_nodes further)) (kids_of right.stack)) → IsDistinct new (all_nodes beside next.floors further) (all_steps beside [] filled.now)
  p_once filled =
      filled_law now new takes.opened.node takes.still (kids_of p.stack) (all_nodes beside p.floors (f ∷ further)) (all_nodes beside next.floors further) beside.steps_before [] has.steps has.more filled.now beside.steps_behind takes.part filled.fills p_entered
      (let same = next_count takes.opened.node in let most = has.each_once.within takes.opened.node in let once = has.each_once.once takes.opened.node in omega (arith, same, most, once))
      (λ n not. next_count n)
      (λ hidden. (let all = count_all takes.opened.node beside next.floors further in let last = ap (count_in takes.opened.node) next_nodes ∙ count-append takes.opened.node (floor_nodes p.floors) (takes.opened.node ∷ []) in let self = same_self takes.opened.node in omega (arith, all, last, self)))
      has.each_once

  p_nodes : All {X = Opened} (HasHidden new) (openings next.floors)
  p_nodes =
      let bound = p_bound takes.opened.node in
      let self = same_self takes.opened.node in
      let old = hidden_elsewhere now new takes.opened.node takes.part.others (openings p.floors) (omega (arith, bound, self)) has.nodes in
      subst (λ l. All {X = Opened} (HasHidden new) l) (sym (ap openings takes.floors_next ∙ openings_push p.floors g (record { rule = takes.opened.rule; hidden = takes.still; node = takes.opened.node }) rest_opens))
      (all_push (HasHidden new) (openings p.floors) (record { rule = takes.opened.rule; hidden = takes.still; node = takes.opened.node }) old rest_hidden)

  p_apart : (filled : IsFilledMore new takes.opened.node takes.still (length (kids_of p.stack)) has.steps has.more has.edge (reverse (floor_nodes further)) (kids_of right.stack)) → (x : Ref) → 0 < count_in x (floor_nodes next.floors) → times x filled.fills.front ≡ 0
  p_apart filled x some = by (count_in x (floor_nodes p.floors)) refl
    where
      sum : count_in x (floor_nodes next.floors) ≡ count_in x (floor_nodes p.floors) + sameness x takes.opened.node
      sum = let all = ap (count_in x) next_nodes ∙ count-append x (floor_nodes p.floors) (takes.opened.node ∷ []) in omega (arith, all)

      by : (k : ℕ) → count_in x (floor_nodes p.floors) ≡ k → times x filled.fills.front ≡ 0
      by zero is = let all = sum in let same : x ≡ takes.opened.node = same_of x takes.opened.node (omega (arith, some, all, is)) in ap (λ y. times y filled.fills.front) same ∙ p_not_here filled
      by (suc k) is = p_not_front filled x (omega (arith, is))

  part_nodes : HasNodes new next right further tokens beside
  part_nodes =
      let filled = p_filled in
      let bound = p_bound takes.opened.node in
      let self = same_self takes.opened.node in
      record {
        nodes = p_nodes;
        visible = subst (λ l. Contains {X = Kid} (kids_of l) Hidden → ⊥) (sym takes.stack_next) (λ here. omega (arith, here.1));
        further_nodes = hidden_elsewhere now new takes.opened.node takes.part.others (openings further) (omega (arith, bound, self)) (all_rest (HasHidden now) takes.opened (openings further) further_opened);
        steps = [];
        more = filled.now;
        walk = subst (λ l. WalksAll new nowhere 0 (kids_of l) []) (sym takes.stack_next) walks_none;
        more_walk = filled.walk;
        yields = filled_tokens filled.fills filled.none ∙ has.yields;
        edge = filled.fills.front;
        rest = Enter takes.opened.node ∷ (holes takes.opened.node 0 takes.still ++ (has.steps ++ filled.fills.back));
        parts = filled.fills.after;
        further_spine = filled.spine;
        apart = p_apart filled;
        spine = p_next_spine filled;
        each_once = p_once filled;
      }

pub nodes_part_law : NodesPartLaw
nodes_part_law t now new tokens p next right e g f further w beside takes has =
    (part_nodes t now new tokens p next right e g f further w beside takes has, kept_filled now new takes.opened.node takes.still (kids_of p.stack) takes.part)

-- ---- the left piece itself

pub steps_visible : {t : Tables} {store : Store} {from : ℕ → Option ℕ} {hs : List Held} → AreSteps t store from hs → Contains {X = Kid} (kids_of hs) Hidden → ⊥
steps_visible no_step (k, inside, at) = omega (arith, inside)
steps_visible (step_on x symbol rising to rest) (zero, inside, at) = symbol_shown symbol at
steps_visible (step_on x symbol rising to rest) (suc k, inside, at) = steps_visible rest (k, omega (arith, inside), at)

spine_step : (ms : List Ref) (x m : Ref) (before after steps : List Step) → steps ≡ before ++ Enter m ∷ after → 0 < count_in x (m ∷ ms) → (0 < count_in x ms → 0 < times x after) → 0 < times x steps
spine_step ms x m before after steps to some later = by (count_in x ms) refl
  where
    sum : times x steps ≡ times x before + (sameness x m + times x after)
    sum = ap (times x) to ∙ times-append x before (Enter m ∷ after)

    by : (k : ℕ) → count_in x ms ≡ k → 0 < times x steps
    by zero e = let all = sum in omega (arith, some, e, all)
    by (suc k) e = let all = sum in let more = later (omega (arith, e)) in omega (arith, all, more)

-- nodes at the edge are entered
pub spine_has : (ms : List Ref) (x : Ref) {steps : List Step} → IsSpine ms steps → 0 < count_in x ms → 0 < times x steps
spine_has [] x spine some = absurd (omega (arith, some))
spine_has (m ∷ ms) x {steps} (spine_node before after to empty deeper) some = spine_step ms x m before after steps to some (λ later. spine_has ms x deeper later)

pub nodes_start_law : NodesStartLaw
nodes_start_law t store left right u v steps more beside made other once = record {
  nodes = made.nodes;
  visible = steps_visible made.maps;
  further_nodes = other.nodes;
  steps = steps;
  more = more;
  walk = made.walk;
  more_walk = other.walk;
  yields = (λ i. made.yields i ++ other.yields i);
  edge = more;
  rest = [];
  parts = sym (append-nil more);
  further_spine = other.spine;
  apart = λ x some. (let back = count_reverse x (floor_nodes left.floors) in let there = spine_has (reverse (floor_nodes left.floors)) x made.spine (omega (arith, some, back)) in let all = times_all x beside steps more in let most = once.once x in omega (arith, there, all, most));
  spine = spine_more [] more refl made.spine;
  each_once = once;
}

-- ---- floors and maps

follow_steps : {t : Tables} {store : Store} (alive : StateMap) {from : ℕ → Option ℕ} {hs : List Held} → AreSteps t store from hs → FollowOn t store alive from hs
follow_steps alive no_step = follow_none
follow_steps alive (step_on x symbol rising to rest) = follow x symbol rising (λ q is. to q) (follow_steps alive rest)

pub floors_start_law : FloorsStartLaw
floors_start_law t store left u steps made =
    let by = floors_law t left.first left.floors made.last made.floors in (
      by.0,
      by.1,
      record {
        on_floors = by.2;
        floors = by.4;
        maps = subst (λ l. FollowOn t store by.1.starts (start_of l) left.stack) (sym by.3) (follow_steps by.1.starts made.maps);
      },
    )

same_last : (xs ys : List Floor) (x y : Floor) → xs ++ x ∷ [] ≡ ys ++ y ∷ [] → xs ≡ ys
same_last xs ys x y e =
    let one = length-append xs (x ∷ []) in
    let two = length-append ys (y ∷ []) in
    let all = ap length e in
    (same_parts xs (x ∷ []) ys (y ∷ []) e (omega (arith, one, two, all))).0

follow_front : {t : Tables} {store : Store} {alive : StateMap} (hs taken all : List Held) {from : ℕ → Option ℕ} → all ≡ hs ++ taken → FollowOn t store alive from all → FollowOn t store alive from hs
follow_front [] taken all e follows = follow_none
follow_front (h ∷ hs) taken [] e follow_none = absurd (cc)
follow_front {t} {store} {alive} (h ∷ hs) taken (k ∷ all) {from} e (follow x symbol rising at rest) =
    let same : k ≡ h = cc in
    subst (λ y. FollowOn t store alive from (y ∷ hs)) same (follow x symbol rising at (follow_front hs taken all (cc) rest))

pub follow_store : {t : Tables} {now new : Store} {alive : StateMap} → IsKept now new → {from : ℕ → Option ℕ} {hs : List Held} → FollowOn t now alive from hs → FollowOn t new alive from hs
follow_store kept follow_none = follow_none
follow_store kept (follow x symbol rising at rest) = follow x (symbol_kept kept symbol) rising at (follow_store kept rest)

are_kept : {starts : StateMap} {hs ks : List Held} → AreKeptFor starts hs ks → AreKept starts hs ks
are_kept none_kept = none_is_kept
are_kept (kept_next kid up states rest) = kept_more kid up states (are_kept rest)

pub floors_whole_law : FloorsWholeLaw
floors_whole_law t now new tokens p next lower e g f takes first kept has = record {
  on_floors = takes.floors_next ∙ ap (λ l. l ++ g ∷ []) lower_same;
  floors = subst (λ l. AreStacked t l lower g) (sym first) (floors_moved g has.floors takes.faults);
  maps = follow_store kept (follow_kept (was_alive takes.faults) agree (follow_front takes.keep takes.dropped p.stack takes.stack has.maps) (are_kept takes.kept));
}
  where
    lower_same : takes.lower ≡ lower
    lower_same = same_last takes.lower lower e e (sym takes.floors ∙ has.on_floors)

    agree : (q : ℕ) → IsSome (target g.starts q) → start_of g.starts q ≡ start_of e.starts q
    agree q alive = alive_start g.starts q alive ∙ sym (alive_start e.starts q (was_alive takes.faults q alive))

pub floors_part_law : FloorsPartLaw
floors_part_law t now new tokens p next lower e g f takes first less has = record {
  on_floors = takes.floors_next;
  floors = subst (λ l. AreStacked t l p.floors g) (sym first) (on_floor (record { rule = takes.opened.rule; hidden = takes.still; node = takes.opened.node }) has.floors has.on_floors (takes.faults.opened ∙ takes.opens_fresh) takes.some_still
      (let fewer = takes.fewer in omega (arith, less, fewer)) (level_moved takes.level takes.faults));
  maps = subst (λ l. FollowOn t new g.starts (start_of g.starts) l) (sym takes.stack_next) follow_none;
}
