-- Where all states over the open piece shift the next piece's first token, the two pieces meet, and the floors of the next one
-- are to land on the open piece as the code keeps it.
use Rattle.std.proofs.Common.{◌≡◌, ℕ, suc, ◌-◌, ◌<◌, ◌⊎◌, inl, inr, List, [], ◌∷◌, ◌++◌, length, reverse, get_or, true, All, Contains, Option, IsSome, refl, sym, ap, ◌∙◌, subst, arith}
use Rattle.std.proofs.lemmas.List.{same_from_push}
use Rattle.grammar_data.specs.declared.token.Token.{Token as TextToken}
use Rattle.node_data.specs.declared.kid.Kid.{Kid}
use Rattle.node_data.specs.declared.kid.Kid.TheVariants.{Hidden}
use Rattle.tree_theory.specs.Stores.{Ref, Store}
use Rattle.tree_theory.specs.Walks.{WalksAll}
use Rattle.table_data.specs.declared.act.Act.TheVariants.{Shift, Error}
use Rattle.table_data.specs.Tables.{Tables, act_in}
use Rattle.machine_theory.specs.Machine.{Entry, top}
use Rattle.lawful_theory.specs.Lawful.{IsLawful, grammar_with}
use Rattle.map_theory.specs.Maps.{StateMap, target}
use Rattle.map_theory.specs.Agreements.{NoneLeft, AreSeveral}
use Rattle.use_theory.specs.Counts.{count_in, times}
use Rattle.use_theory.specs.Distinct.{IsDistinct}
use Rattle.use_theory.specs.Spines.{IsSpine}
use Rattle.piece_theory.specs.Pieces.{Opened, Floor, Held, Piece, openings, floor_nodes, kids_of}
use Rattle.piece_theory.specs.Applies.{Falls, Fails, Fitted, nowhere}
use Rattle.piece_theory.specs.WellMade.{start_of, HasHidden}
use Rattle.piece_theory.specs.Lists.{first_or, IsStuck}
use Rattle.arm_laws.specs.Did.{AreSameAt, none_same, same_first}
use Rattle.arm_laws.proofs.PutLemmas.{put_same}
use Rattle.level_laws.specs.Laws.{AreFresh, fresh_none, fresh_more}
use Rattle.level_laws.proofs.GrowingLemmas.{fresh_at, last_map_law}
use Rattle.segment_laws.proofs.KidLemmas.{fresh_kids, fresh_last, fresh_same, none_same as none_left_same, several_same}
use Rattle.join_theory.specs.Faults.{over}
use Rattle.join_theory.specs.Floors.{IsPutOn}
use Rattle.joined_laws.specs.Joining.{Beside, all_nodes, all_steps, HasFloors, HasNodes}
use Rattle.joined_laws.specs.Joint.{IsJoining}
use Rattle.joined_laws.proofs.JointLemmas.{join_start_law}
use Rattle.seam_theory.specs.Moves.{other_nodes}
use Rattle.seam_theory.specs.Seams.{IsMeeting}
use Rattle.seam_theory.proofs.SeamLemmas.{seam_meet_law, seam_put_law}
use Rattle.arrow_table.specs.Looks.{map_at}
use Rattle.segment_parser.specs.declared.leaf.Leaf.{Leaf}
use Rattle.segment_parser.specs.Working.{held_of, last_id}
use Rattle.segment_parser.specs.Standing.{last_in, piece_in}
use Rattle.segment_parser.specs.Opening.{IsOpenIn}
use Rattle.stack_join.specs.Joining.{IsAtSeam, IsDecided, IsLanding, IsPiled, Met}
use Rattle.stack_join.proofs.SeamLemmas.{seam_open}

-- ---- the last entry

abbrev others_of : List Held → List Held
others_of [] = []
others_of (h ∷ hs) = hs

first_of : (h k : Held) (hs ks : List Held) → h ∷ hs ≡ k ∷ ks → h ≡ k
first_of h k hs ks e = cc

-- its map is the one with the last number
last_states : (maps : List StateMap) (kids : List Kid) (ids : List ℕ) (under : List Held) (h : Held) → length kids ≡ length ids → held_of maps kids ids ≡ under ++ h ∷ [] → h.states ≡ map_at maps (last_id ids)
last_states maps [] ids [] h even e = absurd (nothing e)
  where
    nothing : [] ≡ h ∷ [] → ⊥
    nothing e = cc
last_states maps [] ids (g ∷ under) h even e = absurd (nothing e)
  where
    nothing : [] ≡ g ∷ (under ++ h ∷ []) → ⊥
    nothing e = cc
last_states maps (k ∷ kids) [] under h even e = absurd (omega (arith, even))
last_states maps (k ∷ []) (x ∷ []) [] h even e = ap (λ (g : Held). g.states) (sym (first_of (record { kid = k; states = map_at maps x }) h [] [] e))
last_states maps (k ∷ []) (x ∷ []) (g ∷ []) h even e = absurd (nothing (ap others_of e))
  where
    nothing : [] ≡ h ∷ [] → ⊥
    nothing e = cc
last_states maps (k ∷ []) (x ∷ []) (g ∷ g1 ∷ under) h even e = absurd (nothing (ap others_of e))
  where
    nothing : [] ≡ g1 ∷ (under ++ h ∷ []) → ⊥
    nothing e = cc
last_states maps (k ∷ []) (x ∷ x1 ∷ ids) under h even e = absurd (omega (arith, even))
last_states maps (k ∷ k1 ∷ kids) (x ∷ []) under h even e = absurd (omega (arith, even))
last_states maps (k ∷ k1 ∷ kids) (x ∷ x1 ∷ ids) [] h even e = absurd (nothing (ap others_of e))
  where
    nothing : record { kid = k1; states = map_at maps x1 } ∷ held_of maps kids ids ≡ [] → ⊥
    nothing e = cc
last_states maps (k ∷ k1 ∷ kids) (x ∷ x1 ∷ ids) (g ∷ under) h even e =
    let place : suc (suc (length ids)) - 1 ≡ suc (suc (length ids) - 1) = omega arith in
    last_states maps (k1 ∷ kids) (x1 ∷ ids) under h (omega (arith, even)) (ap others_of e) ∙ sym (ap (λ k. map_at maps (get_or (x ∷ x1 ∷ ids) k 0)) place)

over_end : (from : Option ℕ) (under : List Held) (h : Held) (q : ℕ) → over from (under ++ h ∷ []) q ≡ target h.states q
over_end from [] h q = refl
over_end from (g ∷ under) h q = over_end (target g.states q) under h q

-- the last entry of the piece with its maps restricted has the targets of the last map
record HasTop (maps : List StateMap) (s : Leaf) (last : Piece) : Type 0 where
  pub lower : List Held
  pub end : Held
  pub parts : last.stack ≡ lower ++ end ∷ []
  pub same : (q : ℕ) → target end.states q ≡ target (map_at maps (last_id s.ids.items)) q

seam_top : (t : Tables) (store : Store) (maps : List StateMap) (s : Leaf) (front rest : List Piece) (w : List TextToken) (at : IsAtSeam t store maps s front rest w) → HasTop maps s at.last
seam_top t store maps s front rest w at =
    let is = seam_open t store maps s front rest w at in
    let growing = is.open_piece.growing in
    let end = fresh_last is.under is.last (subst (λ l. AreFresh (map_at maps s.starts) l at.last.stack) growing.on_stack at.kept_as.fresh) in
    let tight = last_map_law t store (piece_in maps s) s.block.floors (last_in maps s) is.under is.last s.stale growing in
    let states = last_states maps s.block.kids s.ids.items is.under is.last at.kept_as.has.even growing.on_stack in
    record { lower = end.lower; end = end.last; parts = end.parts; same = λ q. fresh_same (map_at maps s.starts) is.last end.last tight end.is q ∙ ap (λ m. target m q) states }

-- ---- stuck, or met

either : {A B X Y : Type 0} → A ⊎ B → (A → X) → (B → Y) → X ⊎ Y
either (inl a) f g = inl (f a)
either (inr b) f g = inr (g b)

pub seam_stuck : (t : Tables) (store : Store) (maps : List StateMap) (s : Leaf) (front rest : List Piece) (w : List TextToken) (token : TextToken) (at : IsAtSeam t store maps s front rest w) → NoneLeft t token.id (map_at maps (last_id s.ids.items)) ⊎ AreSeveral t token.id (map_at maps (last_id s.ids.items)) → IsStuck t at.last token
seam_stuck t store maps s front rest w token at stuck =
    let end = seam_top t store maps s front rest w at in
    let map = map_at maps (last_id s.ids.items) in
    record { lower = end.lower; last = end.end; entries = end.parts; agrees_not = either stuck (none_left_same t token.id map end.end.states end.same) (several_same t token.id map end.end.states end.same) }

pub seam_meets : (t : Tables) (store : Store) (maps : List StateMap) (s : Leaf) (front : List Piece) (right : Piece) (rest : List Piece) (w : List TextToken) (at : IsAtSeam t store maps s front (right ∷ rest) w) → IsDecided t maps s right.first true → IsMeeting t store front at.last right rest w
seam_meets t store maps s front right rest w at decided = seam_meet_law t store front at.last right rest w at.seam (λ q z live above. shifts z (decided.1.each q z (sym (end.same q) ∙ sym (over_end (start_of at.seam.made.last q) end.lower end.end q) ∙ ap (λ l. over (start_of at.seam.made.last q) l q) (sym end.parts) ∙ above)) (λ err. decided.0 q z (sym (end.same q) ∙ sym (over_end (start_of at.seam.made.last q) end.lower end.end q) ∙ ap (λ l. over (start_of at.seam.made.last q) l q) (sym end.parts) ∙ above) err))
  where
    end : HasTop maps s at.last
    end = seam_top t store maps s front (right ∷ rest) w at

    shifts : (z : ℕ) → (act_in t z right.first.id ≡ Error) ⊎ ((p : ℕ) × (act_in t z right.first.id ≡ Shift p)) → (act_in t z right.first.id ≡ Error → ⊥) → (p : ℕ) × (act_in t z right.first.id ≡ Shift p)
    shifts z (inl err) not = absurd (not err)
    shifts z (inr by) not = by

-- ---- the joined piece before any floor, as the code keeps it

same_back : {alive : StateMap} {hs fresh : List Held} (q : ℕ) → IsSome (target alive q) → AreFresh alive hs fresh → AreSameAt q fresh hs
same_back q some fresh_none = none_same
same_back q some (fresh_more is more) = same_first (sym is.kid) (sym (fresh_at is q some)) (same_back q some more)

loose_nodes : {now : Store} {q p right : Piece} {further : List Floor} {tokens : List TextToken} {beside : Beside} → p.floors ≡ q.floors → kids_of p.stack ≡ kids_of q.stack → HasNodes now q right further tokens beside → HasNodes now p right further tokens beside
loose_nodes {now} {q} {p} {right} {further} {tokens} {beside} floors kids n = record {
  nodes = subst (λ l. All {X = Opened} (HasHidden now) (openings l)) (sym floors) n.nodes;
  visible = subst (λ l. Contains {X = Kid} l Hidden → ⊥) (sym kids) n.visible;
  further_nodes = n.further_nodes;
  steps = n.steps;
  more = n.more;
  walk = subst (λ l. WalksAll now nowhere 0 l n.steps) (sym kids) n.walk;
  more_walk = n.more_walk;
  yields = n.yields;
  edge = n.edge;
  rest = n.rest;
  parts = n.parts;
  further_spine = n.further_spine;
  apart = subst (λ l. (x : Ref) → 0 < count_in x (floor_nodes l) → times x n.edge ≡ 0) (sym floors) n.apart;
  spine = subst (λ l. IsSpine (reverse (floor_nodes l)) (n.steps ++ n.more)) (sym floors) n.spine;
  each_once = subst (λ l. IsDistinct now (all_nodes beside l further) (all_steps beside n.steps n.more)) (sym floors) n.each_once;
}

loose_put : (t : Tables) {store now : Store} {tokens : ℕ} {left q p : Piece} {starts : StateMap} {taken further : List Floor} {s : List Entry} → p.floors ≡ q.floors → AreFresh starts p.stack q.stack → IsPutOn t.rules store now tokens left q starts taken further s → IsPutOn t.rules store now tokens left p starts taken further s
loose_put t {store} {now} {tokens} {left} {q} {p} {starts} {taken} {further} {s} floors fresh on = record {
  left_errs = λ x fails. subst (λ l. Fails l s x) (sym floors) (on.left_errs x fails);
  right_errs = λ mid leaves x fails. (let by = on.right_errs mid leaves x fails in (by.0, subst (λ l. Fails l s by.0) (sym floors) by.1, by.2));
  comes = λ mid low supply leaves falls. (let by = on.comes mid low supply leaves falls in record {
    base = by.base;
    given = by.given;
    down = subst (λ l. Falls l s by.base by.given) (sym floors) by.down;
    alive = by.alive;
    up = put_same (same_back (top 0 by.base) by.alive fresh) by.up;
    apart = by.apart;
    holds = by.holds;
  });
  came = either on.came (λ failed. (failed.0, subst (λ l. Fails l s failed.0) (sym floors) failed.1)) (λ by. by);
  fits = subst (λ l. Fitted t.rules l s) (sym floors) on.fits;
}

loosen : {t : Tables} {store now : Store} {left right q p : Piece} {u v : List TextToken} {beside : Beside} {lower : List Floor} {e : Floor} {further : List Floor} → p.first ≡ q.first → p.floors ≡ q.floors → AreFresh e.starts p.stack q.stack → HasFloors t now p lower e → IsJoining t store now left right q u v beside lower e further → IsJoining t store now left right p u v beside lower e further
loosen {t} first floors fresh has j = record {
  taken = j.taken;
  parts = j.parts;
  first = first ∙ j.first;
  kept = j.kept;
  unchanged = j.unchanged;
  floors = has;
  nodes = loose_nodes floors (sym (fresh_kids fresh)) j.nodes;
  fewer = j.fewer;
  once = j.once;
  put_on = λ s context. loose_put t floors fresh (j.put_on s context);
}

abbrev pub met_of : {t : Tables} {store : Store} {front : List Piece} {last right : Piece} {rest : List Piece} {w : List TextToken} → IsMeeting t store front last right rest w → Met
met_of {t} {store} {front} {last} {right} {rest} {w} m = record { store = store; left = last; right = right; u = m.tokens; v = m.right_tokens; next = first_or [] rest; steps = m.steps; more = m.right_steps; beside = m.beside }

pub seam_lands : (t : Tables) → IsLawful t → (store : Store) (maps : List StateMap) (s : Leaf) (front : List Piece) (right : Piece) (rest : List Piece) (w : List TextToken) (at : IsAtSeam t store maps s front (right ∷ rest) w) (meeting : IsMeeting t store front at.last right rest w) → IsLanding t (met_of meeting) store maps s right.floors
seam_lands t lawful store maps s front right rest w at meeting = record {
  has = at.kept_as.has;
  meet = meeting.meet;
  joining = joining;
  count = at.kept_as.count ∙ sym meeting.meet.made.counted;
  tight = at.kept_as.tight;
}
  where
    start : (lower : List Floor) × (e : Floor) × IsJoining t store store at.last right at.last meeting.tokens meeting.right_tokens meeting.beside lower e right.floors
    start = join_start_law (grammar_with t lawful.0) t lawful.1 store at.last right meeting.tokens meeting.right_tokens (first_or [] rest) meeting.steps meeting.right_steps meeting.beside meeting.meet meeting.each_once

    is : IsOpenIn t store maps s (other_nodes front (right ∷ rest)) (at.seam.front_steps ++ at.seam.rest_steps) at.seam.tokens (right.first ∷ [])
    is = seam_open t store maps s front (right ∷ rest) w at

    same : (start.0 ≡ s.block.floors) × (start.1 ≡ last_in maps s)
    same = same_from_push start.0 s.block.floors start.1 (last_in maps s) (sym start.2.floors.on_floors ∙ sym at.kept_as.floors)

    exact : IsJoining t store store at.last right at.last meeting.tokens meeting.right_tokens meeting.beside s.block.floors (last_in maps s) right.floors
    exact = subst (λ l. IsJoining t store store at.last right at.last meeting.tokens meeting.right_tokens meeting.beside l (last_in maps s) right.floors) same.0 (subst (λ e. IsJoining t store store at.last right at.last meeting.tokens meeting.right_tokens meeting.beside start.0 e right.floors) same.1 start.2)

    joining : IsJoining t store store at.last right (piece_in maps s) meeting.tokens meeting.right_tokens meeting.beside s.block.floors (last_in maps s) right.floors
    joining = loosen at.kept_as.first at.kept_as.floors at.kept_as.fresh (record { on_floors = refl; floors = is.open_piece.growing.floors; maps = is.open_piece.growing.maps }) exact

-- ---- the next piece is on the open piece

pub piled_seam : (t : Tables) (store now : Store) (maps : List StateMap) (s : Leaf) (front : List Piece) (last right : Piece) (rest : List Piece) (w : List TextToken) (meeting : IsMeeting t store front last right rest w) → IsPiled t (met_of meeting) now maps s → IsAtSeam t now maps s front rest w
piled_seam t store now maps s front last right rest w meeting piled = record {
  last = piled.joined;
  kept_as = piled.kept_as;
  seam = seam_put_law t store now front last right piled.joined rest w meeting piled.first piled.is_joined;
}
