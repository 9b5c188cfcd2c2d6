-- The whole of a join of two pieces.
use Rattle.std.proofs.Common.{◌≡◌, ℕ, zero, suc, ◌<◌, ◌≤◌, if◌then◌else◌, Bool, List, [], ◌∷◌, ◌++◌, length, All, Option, Some, None, IsSome, refl, sym, ap, ◌∙◌, subst, append_assoc, append-nil, arith, ◌+◌}
use Rattle.std.specs.Prelude.{option_and_then}
use Rattle.grammar_data.specs.declared.token.Token.{Token as TextToken}
use Rattle.grammar_data.specs.Grammar.{Grammar}
use Rattle.tree_theory.specs.Stores.{Ref, Store}
use Rattle.tree_theory.specs.Walks.{Step}
use Rattle.table_data.specs.declared.act.Act.TheVariants.{Shift}
use Rattle.table_data.specs.Tables.{Tables, act_in}
use Rattle.machine_theory.specs.Machine.{Entry, top}
use Rattle.lawful_theory.specs.Lawful.{IsLawfulFor}
use Rattle.map_theory.specs.Maps.{StateMap, target}
use Rattle.part_theory.specs.Parts.{IsContext}
use Rattle.use_theory.specs.Counts.{count_in}
use Rattle.use_theory.specs.Distinct.{IsDistinct}
use Rattle.use_theory.proofs.KeptLemmas.{kept_none, kept_then}
use Rattle.piece_theory.specs.Pieces.{Opened, Floor, Held, Piece, opening_before, openings, floor_nodes}
use Rattle.piece_theory.specs.Applies.{Leaves, Fitted, right_of}
use Rattle.piece_theory.specs.WellMade.{AreLevels, no_level, level_above, AreFloors, AreStacked, start_of}
use Rattle.piece_theory.proofs.FloorLemmas.{from_ground}
use Rattle.level_laws.specs.Laws.{AreFresh, fresh_none, fresh_more}
use Rattle.join_theory.specs.Faults.{state_over}
use Rattle.join_theory.specs.Composing.{IsComposedAt}
use Rattle.join_theory.specs.Floors.{IsPutOn, FitsOn, ApartNodes, AreKeptFor, none_kept, kept_next, AreOver, none_over, over_next, TakesKids, none_hidden, kids_taken}
use Rattle.join_theory.proofs.ComposingLemmas.{stands_composed_law}
use Rattle.join_theory.proofs.FallLemmas.{count_floors}
use Rattle.join_theory.proofs.HoldLemmas.{counted_here}
use Rattle.join_theory.proofs.FloorLaws.{start_law, whole_law, part_law, end_law}
use Rattle.joined_laws.specs.Joining.{Beside, all_nodes, HasNodes, ArePut, none_put, put_next}
use Rattle.joined_laws.specs.Joint.{Meet, HideFewer, JoinStartLaw, JoinWholeLaw, JoinPartLaw, JoinEndLaw}
use Rattle.joined_laws.proofs.MeetingLemmas.{meet_law, lands_law}
use Rattle.joined_laws.proofs.JoiningLemmas.{node_bound, nodes_start_law, floors_start_law, nodes_whole_law, floors_whole_law, nodes_part_law, floors_part_law}
use Rattle.joined_laws.proofs.MadeLemmas.{fresh_over, made_law}

-- ---- floors of the right piece

fewer_first : (t : Tables) (o : Opened) (os : List Opened) → o.hidden < length (right_of t.rules o.rule) → All {X = Opened} (λ opened. opened.hidden < length (right_of t.rules opened.rule)) os → All {X = Opened} (λ opened. opened.hidden < length (right_of t.rules opened.rule)) (o ∷ os)
fewer_first t o os less rest zero d inside = less
fewer_first t o os less rest (suc k) d inside = rest k d (omega (arith, inside))

levels_fewer : {t : Tables} {below last : StateMap} {fs : List Floor} → AreLevels t below fs last → HideFewer t fs
levels_fewer no_level k d inside = absurd (omega (arith, inside))
levels_fewer {t} (level_above {f = f} {fs = fs} opened is some less level levels) k d inside =
    let first = fewer_first t opened (openings fs) less (levels_fewer levels) in
    let all : HideFewer t (f ∷ fs) = subst (λ o. All {X = Opened} (λ opened. opened.hidden < length (right_of t.rules opened.rule)) (opening_before o (openings fs))) (sym is) first in
    all k d inside

floors_fewer : (t : Tables) (first : TextToken) (floors : List Floor) (last : StateMap) → AreFloors t first floors last → HideFewer t floors
floors_fewer t first floors last are k d inside =
    let upper : HideFewer t are.upper = levels_fewer are.levels in
    let whole : HideFewer t (are.ground ∷ are.upper) = subst (λ o. All {X = Opened} (λ opened. opened.hidden < length (right_of t.rules opened.rule)) (opening_before o (openings are.upper))) (sym are.unopened) upper in
    let all : HideFewer t floors = subst (λ l. HideFewer t l) (sym are.parts) whole in
    all k d inside

without_first : (t : Tables) (o : Option Opened) (os : List Opened) → All {X = Opened} (λ opened. opened.hidden < length (right_of t.rules opened.rule)) (opening_before o os) → All {X = Opened} (λ opened. opened.hidden < length (right_of t.rules opened.rule)) os
without_first t None os all k d inside = all k d inside
without_first t (Some opened) os all k d inside = all (suc k) d (omega (arith, inside))

fewer_rest : (t : Tables) (f : Floor) (further : List Floor) → HideFewer t (f ∷ further) → HideFewer t further
fewer_rest t f further fewer = without_first t f.opened (openings further) fewer

fewer_at : (t : Tables) (f : Floor) (further : List Floor) (opened : Opened) → f.opened ≡ Some opened → HideFewer t (f ∷ further) → opened.hidden < length (right_of t.rules opened.rule)
fewer_at t f further opened is fewer =
    let all : All {X = Opened} (λ o. o.hidden < length (right_of t.rules o.rule)) (opened ∷ openings further) = subst (λ o. All {X = Opened} (λ o1. o1.hidden < length (right_of t.rules o1.rule)) (opening_before o (openings further))) is fewer in
    all zero opened (omega arith)

-- ---- what the steps ask of the two pieces

module _ {g : Grammar} {t : Tables} (lawful : IsLawfulFor g t) {store : Store} {left right : Piece} {u v next : List TextToken} {steps more : List Step} (met : Meet t store left right u v next steps more) where
  -- a context that the left piece leaves is one of the right piece
  meet_at : ((x : Ref) → count_in x (floor_nodes left.floors) ≤ 1) → (s mid : List Entry) → IsContext t left.first.id s → Leaves t.rules store left s mid → IsContext t right.first.id mid
  meet_at once s mid context leaves = meet_law g t lawful store left met.made.last right.first u (right.first ∷ []) s mid met.made.floors met.takes once met.shifts context (met.stands s context) leaves

  fits_at : ((x : Ref) → count_in x (floor_nodes left.floors) ≤ 1) → (floors : List Floor) → right.floors ≡ floors → (s : List Entry) → IsContext t left.first.id s → FitsOn t.rules store left floors s
  fits_at once floors parts s context mid leaves = subst (λ l. Fitted t.rules l mid) parts (met.takes_right mid (meet_at once s mid context leaves))

-- ---- entries

kept_of_fresh : {starts : StateMap} {hs fresh : List Held} → AreFresh starts hs fresh → AreKeptFor starts hs fresh
kept_of_fresh fresh_none = none_kept
kept_of_fresh (fresh_more {h = h} is rest) = kept_next is.kid is.states.rising (λ q some. is.states.targets q ∙ ap (λ (b : Bool). if b then target h.states q else None) some) (kept_of_fresh rest)

over_of_put : {states states1 : ℕ → Option ℕ} (starts : StateMap) → ((q : ℕ) → IsSome (target starts q) → states q ≡ states1 q) → {hs ks : List Held} → ArePut states hs ks → AreOver states1 starts hs ks
over_of_put starts same none_put = none_over
over_of_put starts same (put_next {h = h} kid map rest) = over_next kid map.rising (λ q some. map.targets q ∙ ap (option_and_then (target h.states)) (same q some)) (over_of_put starts same rest)

-- ---- the steps

pub apart_next : {now : Store} {p right : Piece} {f : Floor} {further : List Floor} {w : List TextToken} {beside : Beside} → HasNodes now p right (f ∷ further) w beside → ApartNodes (f ∷ []) further
apart_next {f = f} {further = further} has x = let bound = node_bound has x in let parts = count_floors x f further in omega (arith, bound, parts)

pub behind_one : (taken : List Floor) (f : Floor) (further : List Floor) → taken ++ f ∷ further ≡ (taken ++ f ∷ []) ++ further
behind_one taken f further = simp append_assoc

count_parts : (x : Ref) (fs gs : List Floor) → count_in x (floor_nodes (fs ++ gs)) ≡ count_in x (floor_nodes fs) + count_in x (floor_nodes gs)
count_parts x [] gs = omega arith
count_parts x (f ∷ fs) gs =
    let rest = count_parts x fs gs in
    let one = count_floors x f (fs ++ gs) in
    let two = count_floors x f fs in
    omega (arith, rest, one, two)

-- a node of no floor of the right piece is not that of this one
pub not_here : (floors taken further : List Floor) (f : Floor) → floors ≡ taken ++ f ∷ further → (m : Ref) → count_in m (floor_nodes floors) ≡ 0 → count_in m (floor_nodes (f ∷ [])) ≡ 0
not_here floors taken further f parts m none =
    let all = ap (λ l. count_in m (floor_nodes l)) parts ∙ count_parts m taken (f ∷ further) in
    let one = count_floors m f further in
    omega (arith, none, all, one)

not_node : (f : Floor) (m : Ref) (opened : Opened) → f.opened ≡ Some opened → count_in m (floor_nodes (f ∷ [])) ≡ 0 → m ≡ opened.node → ⊥
not_node f m opened opens none e =
    let some = counted_here f [] opened opens in
    let same = ap (λ x. count_in x (floor_nodes (f ∷ []))) e in
    omega (arith, none, some, same)

pub whole_unchanged : (now new : Store) (f : Floor) (m : Ref) (o : Option Opened) (dropped : List Held) → TakesKids now new o dropped → f.opened ≡ o → count_in m (floor_nodes (f ∷ [])) ≡ 0 → new m ≡ now m
whole_unchanged now new f m o dropped (none_hidden same) opens none = ap (λ (s : Store). s m) same
whole_unchanged now new f m o dropped (kids_taken {opened = opened} part shown) opens none = part.others m (λ e. not_node f m opened opens none e)

pub join_start_law : JoinStartLaw
join_start_law g t lawful store left right u v next steps more beside met distinct =
    let by = floors_start_law t store left u steps met.made in (
      by.0,
      by.1,
      record {
        taken = [];
        parts = refl;
        first = refl;
        kept = kept_none store;
        unchanged = λ m none. refl;
        floors = by.2;
        nodes = nodes;
        fewer = floors_fewer t right.first right.floors met.made_right.last met.made_right.floors;
        once = λ x. (let bound = node_bound nodes x in omega (arith, bound));
        put_on = λ s context. start_law t store left by.1.starts right.floors u (right.first ∷ []) s
            (subst (λ l. AreFloors t left.first l by.1.starts) (sym by.2.on_floors) (from_ground by.2.floors)) context (met.takes s context) (met.stands s context)
            (λ x. (let bound = node_bound nodes x in omega (arith, bound)));
      },
    )
  where
    nodes : HasNodes store left right right.floors (u ++ v) beside
    nodes = nodes_start_law t store left right u v steps more beside met.made met.made_right distinct

pub join_whole_law : JoinWholeLaw
join_whole_law g t lawful store now new left right p joined u v next steps more beside lower e g1 f further met takes first was =
    let stepped = nodes_whole_law now new (length u) p joined right e g1 f further (u ++ v) beside takes was.nodes in
    record {
      taken = was.taken ++ f ∷ [];
      parts = was.parts ∙ behind_one was.taken f further;
      first = first ∙ was.first;
      kept = kept_then store now new was.kept stepped.1;
      unchanged = λ m none. whole_unchanged now new f m f.opened takes.dropped takes.kids refl (not_here right.floors was.taken further f was.parts m none) ∙ was.unchanged m none;
      floors = floors_whole_law t now new (length u) p joined lower e g1 f takes first stepped.1 was.floors;
      nodes = stepped.0;
      fewer = fewer_rest t f further was.fewer;
      once = was.once;
      put_on = λ s context. whole_law t.rules store now new (length u) left p joined e g1 f was.taken further s takes (apart_next was.nodes) (fits_at lawful met was.once (was.taken ++ f ∷ further) was.parts s context) (was.put_on s context);
    }

pub join_part_law : JoinPartLaw
join_part_law g t lawful store now new left right p joined u v next steps more beside lower e g1 f further met takes first was =
    let stepped = nodes_part_law t now new (length u) p joined right e g1 f further (u ++ v) beside takes was.nodes in
    record {
      taken = was.taken ++ f ∷ [];
      parts = was.parts ∙ behind_one was.taken f further;
      first = first ∙ was.first;
      kept = kept_then store now new was.kept stepped.1;
      unchanged = λ m none. takes.part.others m (λ e. not_node f m takes.opened takes.opens (not_here right.floors was.taken further f was.parts m none) e) ∙ was.unchanged m none;
      floors = floors_part_law t now new (length u) p joined lower e g1 f takes first (fewer_at t f further takes.opened takes.opens was.fewer) was.floors;
      nodes = stepped.0;
      fewer = fewer_rest t f further was.fewer;
      once = was.once;
      put_on = λ s context. part_law t store now new (length u) left p joined e g1 f was.taken further s takes (apart_next was.nodes) (fits_at lawful met was.once (was.taken ++ f ∷ further) was.parts s context) context.stack (was.put_on s context);
    }

pub join_end_law : JoinEndLaw
join_end_law g t lawful lead store now left right p joined u v next steps more beside lower e keep put met was fresh put_on first count floors stack = record {
  steps = was.nodes.steps ++ was.nodes.more;
  made = made_law t store now left right p joined u v steps more lower e keep put beside met.made_right met.made was.floors was.nodes was.kept fresh put_on lands was.first first count floors stack;
  stands = stands_composed_law g t lawful store now left right joined u v met.made_right.later next met.made_right.begins (first ∙ was.first) (λ s context. (ended s context).0) (λ s context mid leaves. shift s mid context leaves) met.stands met.stands_right;
  takes = λ s context. (ended s (subst (λ (x : TextToken). IsContext t x.id s) (first ∙ was.first) context)).1;
  each_once = subst (λ l. IsDistinct now (beside.nodes_before ++ (floor_nodes l ++ beside.nodes_behind)) (beside.steps_before ++ ((was.nodes.steps ++ was.nodes.more) ++ beside.steps_behind))) (sym floors)
      (subst (λ l. IsDistinct now (beside.nodes_before ++ (l ++ beside.nodes_behind)) (beside.steps_before ++ ((was.nodes.steps ++ was.nodes.more) ++ beside.steps_behind))) (append-nil (floor_nodes p.floors))
      (subst (λ l. IsDistinct now (all_nodes beside p.floors []) (beside.steps_before ++ l)) (sym (append_assoc was.nodes.steps was.nodes.more beside.steps_behind)) was.nodes.each_once));
  kept = was.kept;
  unchanged = was.unchanged;
}
  where
    shift : (s mid : List Entry) → IsContext t left.first.id s → Leaves t.rules store left s mid → (q : ℕ) × (act_in t (top 0 mid) right.first.id ≡ Shift q)
    shift s mid context leaves = let there = meet_at lawful met was.once s mid context leaves in (there.state, there.shifts)

    lands : (q z : ℕ) → IsSome (target e.starts q) → state_over e.starts p.stack q ≡ Some z → IsSome (target met.made_right.last z)
    lands = lands_law g t lawful lead store now (length u) left right p lower e met.made_right.last (subst (λ (x : TextToken). AreStacked t x lower e) was.first was.floors.floors) was.floors.on_floors met.made_right.floors met.takes_right
        (λ s context. subst (λ l. IsPutOn t.rules store now (length u) left p e.starts l [] s) (sym (append-nil was.taken) ∙ sym was.parts) (was.put_on s context))
        (λ s mid context leaves. meet_at lawful met was.once s mid context leaves)

    ended : (s : List Entry) → IsContext t left.first.id s → IsComposedAt t.rules store now (length u) left right joined s × Fitted t.rules joined.floors s
    ended s context = end_law t.rules store now (length u) left right p joined e.starts keep put s floors stack (kept_of_fresh fresh) (over_of_put e.starts (λ q some. fresh_over fresh q some (start_of e.starts q)) put_on) was.kept
        (subst (λ l. IsPutOn t.rules store now (length u) left p e.starts l [] s) (sym (append-nil was.taken) ∙ sym was.parts) (was.put_on s context))
