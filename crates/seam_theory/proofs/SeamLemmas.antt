-- Lists of pieces at the seam.
use Rattle.std.proofs.Common.{◌≡◌, ◌≢◌, ℕ, zero, suc, ◌+◌, ◌<◌, List, [], ◌∷◌, ◌++◌, reverse, None, refl, sym, ap, ◌∙◌, subst, append_assoc, append-nil, arith}
use Rattle.grammar_data.specs.declared.token.Token.{Token as TextToken}
use Rattle.tree_theory.specs.Stores.{Ref, Store}
use Rattle.tree_theory.specs.Walks.{Step}
use Rattle.table_data.specs.Tables.{Tables}
use Rattle.machine_theory.specs.Machine.{Entry, Reaches, Errs}
use Rattle.machine_theory.proofs.RunLemmas.{reaches_more, error_more_input_law}
use Rattle.use_theory.specs.Counts.{count_in, times}
use Rattle.use_theory.specs.Distinct.{IsDistinct}
use Rattle.use_theory.specs.Kept.{IsSame}
use Rattle.use_theory.proofs.DistinctLemmas.{united_law}
use Rattle.use_theory.proofs.KeptLemmas.{same_first, same_rest}
use Rattle.piece_theory.specs.Pieces.{Piece, floor_nodes}
use Rattle.piece_theory.specs.Applies.{Tells, tells_error, tells_stack, StandsFor, TakesRight}
use Rattle.piece_theory.specs.WellMade.{IsMade}
use Rattle.piece_theory.specs.Lists.{first_or, ArePieces, no_piece, piece_first, nodes_of_floors}
use Rattle.list_laws.proofs.ListLemmas.{pieces_then, pieces_split_law, floors_then_law}
use Rattle.joined_laws.specs.Meeting.{AllShiftOver}
use Rattle.joined_laws.proofs.NodeLemmas.{count_reverse, times_all}
use Rattle.joined_laws.proofs.JoiningLemmas.{spine_has}
use Rattle.seam_theory.specs.Seams.{IsSeam, IsMeeting, SeamStartLaw, SeamMoveLaw, SeamMeetLaw, SeamPutLaw, SeamEndLaw}
use Rattle.seam_theory.proofs.SameLemmas.{made_same, stands_same, pieces_same}

-- ---- what follows comes into view

pub tells_next : {t : Tables} {store : Store} {p : Piece} {w : List TextToken} {s : List Entry} (next : List TextToken) → Tells t store p w [] s → Tells t store p w next s
tells_next {t} {w = w} {s = s} next (tells_error {fault = x} fails errs) = tells_error fails (subst (λ l. Errs t 0 s l x.index x.token x.state) (ap (λ l. l ++ next) (append-nil w)) (error_more_input_law t 0 s (w ++ []) next x.index x.token x.state errs))
tells_next {t} {w = w} {s = s} next (tells_stack {last = last} leaves run) = tells_stack leaves (subst (λ l. Reaches t 0 s l last next) (ap (λ l. l ++ next) (append-nil w)) (reaches_more next run))

pub stands_next : {t : Tables} {store : Store} {p : Piece} {w : List TextToken} (next : List TextToken) → StandsFor t store p w [] → StandsFor t store p w next
stands_next next stands s context = tells_next next (stands s context)

-- ---- the start

distinct_same : {store : Store} {floors : List Ref} {steps : List Step} (new : Store) → IsDistinct store floors steps → ((m : Ref) → store m ≢ None → new m ≡ store m) → IsSame store new steps
distinct_same new once kept m some = kept m (once.there m some)

-- the last piece of a list
pub record IsLast (t : Tables) (store : Store) (last : Piece) (w : List TextToken) (steps : List Step) : Type 0 where
  pub made : IsMade t store last w steps
  pub stands : StandsFor t store last w []
  pub takes : TakesRight t last

last_piece : {t : Tables} {store : Store} {last : Piece} {w : List TextToken} {steps : List Step} → ArePieces t store [] (last ∷ []) w steps → IsLast t store last w steps
last_piece {t} {store} {last} {w} {steps} (piece_first {u = u} {first = first} made stands takes stuck no_piece parts walk) =
    let tokens = parts ∙ append-nil u in
    let same = walk ∙ append-nil first in
    record {
      made = subst (λ l. IsMade t store last l steps) (sym tokens) (subst (λ l. IsMade t store last u l) (sym same) made);
      stands = subst (λ l. StandsFor t store last l []) (sym tokens) stands;
      takes = takes;
    }

pub seam_start_law : SeamStartLaw
seam_start_law t store other new front last rest u v unites left right =
    let split = pieces_split_law t store [] front (last ∷ []) u left.steps left.pieces in
    let whole = distinct_same {store = store} {floors = nodes_of_floors (front ++ last ∷ [])} {steps = left.steps} new left.each_once unites.of_first in
    let parts = same_parts split.first split.second left.steps new store split.walk whole in
    let one = last_piece split.after in
    record {
      front_tokens = split.u;
      tokens = split.v;
      rest_tokens = v;
      front_steps = split.first;
      steps = split.second;
      rest_steps = right.steps;
      before = pieces_same parts.0 split.before;
      made = made_same parts.1 one.made;
      stands = stands_next (first_or [] rest) (stands_same {next = []} parts.1 one.made one.stands);
      takes = one.takes;
      after = pieces_same (distinct_same {store = other} {floors = nodes_of_floors rest} {steps = right.steps} new right.each_once unites.of_second) right.pieces;
      parts = ap (λ l. l ++ v) split.tokens ∙ append_assoc split.u split.v v;
      each_once = subst (λ l. IsDistinct new l (split.first ++ (split.second ++ right.steps))) nodes
          (subst (λ l. IsDistinct new (nodes_of_floors (front ++ last ∷ []) ++ nodes_of_floors rest) l) (ap (λ l. l ++ right.steps) split.walk ∙ append_assoc split.first split.second right.steps)
          (united_law store other new (nodes_of_floors (front ++ last ∷ [])) (nodes_of_floors rest) left.steps right.steps unites left.each_once right.each_once));
    }
  where
    nodes : nodes_of_floors (front ++ last ∷ []) ++ nodes_of_floors rest ≡ nodes_of_floors front ++ (floor_nodes last.floors ++ nodes_of_floors rest)
    nodes = ap (λ l. l ++ nodes_of_floors rest) (floors_then_law front (last ∷ []) ∙ ap (λ l. nodes_of_floors front ++ l) (append-nil (floor_nodes last.floors))) ∙ append_assoc (nodes_of_floors front) (floor_nodes last.floors) (nodes_of_floors rest)

    same_parts : (first second steps : List Step) (new1 store1 : Store) → steps ≡ first ++ second → IsSame store1 new1 steps → IsSame store1 new1 first × IsSame store1 new1 second
    same_parts first second steps new1 store1 at same = (same_first {store = store1} {new = new1} first second same at, same_rest {store = store1} {new = new1} first second same at)

-- ---- the piece at the seam moves

pub seam_move_law : SeamMoveLaw
seam_move_law t store new front last moved rest w seam steps first made stands takes front_same rest_same once = record {
  front_tokens = seam.front_tokens;
  tokens = seam.tokens;
  rest_tokens = seam.rest_tokens;
  front_steps = seam.front_steps;
  steps = steps;
  rest_steps = seam.rest_steps;
  before = subst (λ (x : TextToken). ArePieces t new (x ∷ []) front seam.front_tokens seam.front_steps) (sym first) (pieces_same front_same seam.before);
  made = made;
  stands = stands;
  takes = takes;
  after = pieces_same rest_same seam.after;
  parts = seam.parts;
  each_once = once;
}

-- ---- two pieces meet

meets : (t : Tables) (store : Store) (front : List Piece) (last right : Piece) (rest : List Piece) (w : List TextToken) (seam : IsSeam t store front last (right ∷ rest) w) → AllShiftOver t last seam.made.last right.first → {v : List TextToken} {steps : List Step} → v ≡ seam.rest_tokens → steps ≡ seam.rest_steps → ArePieces t store [] (right ∷ rest) v steps → IsMeeting t store front last right rest w
meets t store front last right rest w seam shifts same_tokens same_steps (piece_first {u = u} {v = v} {first = first} {rest = rest_steps} made stands takes stuck more parts walk) = record {
  front_tokens = seam.front_tokens;
  tokens = seam.tokens;
  right_tokens = u;
  rest_tokens = v;
  steps = seam.steps;
  right_steps = first;
  beside = record { nodes_before = nodes_of_floors front; nodes_behind = nodes_of_floors rest; steps_before = seam.front_steps; steps_behind = rest_steps };
  nodes_before = refl;
  nodes_behind = refl;
  before = seam.before;
  meet = record { made = seam.made; made_right = made; stands = seam.stands; stands_right = stands; takes = seam.takes; takes_right = takes; shifts = shifts };
  after = more;
  parts = seam.parts ∙ ap (λ l. seam.front_tokens ++ (seam.tokens ++ l)) (sym same_tokens ∙ parts) ∙ ap (λ l. seam.front_tokens ++ l) (sym (append_assoc seam.tokens u v));
  each_once = subst (λ l. IsDistinct store l (seam.front_steps ++ (seam.steps ++ (first ++ rest_steps)))) (ap (λ l. nodes_of_floors front ++ l) (sym (append_assoc (floor_nodes last.floors) (floor_nodes right.floors) (nodes_of_floors rest))))
      (subst (λ l. IsDistinct store (nodes_of_floors front ++ (floor_nodes last.floors ++ (floor_nodes right.floors ++ nodes_of_floors rest))) (seam.front_steps ++ (seam.steps ++ l))) (sym same_steps ∙ walk) seam.each_once);
}

pub seam_meet_law : SeamMeetLaw
seam_meet_law t store front last right rest w seam shifts = meets t store front last right rest w seam shifts refl refl seam.after

-- ---- the right piece is put on the left one

-- nodes that other pieces' walks enter are none of the right piece's floors'
not_changed : (t : Tables) (store : Store) (front : List Piece) (last right : Piece) (rest : List Piece) (w : List TextToken) (meeting : IsMeeting t store front last right rest w) (m : Ref) → 0 < times m meeting.beside.steps_before + times m meeting.beside.steps_behind → count_in m (floor_nodes right.floors) ≡ 0
not_changed t store front last right rest w meeting m some = by (count_in m (floor_nodes right.floors)) refl
  where
    by : (k : ℕ) → count_in m (floor_nodes right.floors) ≡ k → count_in m (floor_nodes right.floors) ≡ 0
    by zero e = e
    by (suc k) e =
        let reversed = count_reverse m (floor_nodes right.floors) in
        let there = spine_has (reverse (floor_nodes right.floors)) m meeting.meet.made_right.spine (omega (arith, e, reversed)) in
        let all = times_all m meeting.beside meeting.steps meeting.right_steps in
        let once = meeting.each_once.once m in
        absurd (omega (arith, some, there, all, once))

pub seam_put_law : SeamPutLaw
seam_put_law t store now front last right joined rest w meeting first done = record {
  front_tokens = meeting.front_tokens;
  tokens = meeting.tokens ++ meeting.right_tokens;
  rest_tokens = meeting.rest_tokens;
  front_steps = meeting.beside.steps_before;
  steps = done.steps;
  rest_steps = meeting.beside.steps_behind;
  before = subst (λ (x : TextToken). ArePieces t now (x ∷ []) front meeting.front_tokens meeting.beside.steps_before) (sym first)
      (pieces_same (λ m some. done.unchanged m (not_changed t store front last right rest w meeting m (omega (arith, some)))) meeting.before);
  made = done.made;
  stands = done.stands;
  takes = done.takes;
  after = pieces_same (λ m some. done.unchanged m (not_changed t store front last right rest w meeting m (omega (arith, some)))) meeting.after;
  parts = meeting.parts;
  each_once = subst (λ l. IsDistinct now (l ++ (floor_nodes joined.floors ++ nodes_of_floors rest)) (meeting.beside.steps_before ++ (done.steps ++ meeting.beside.steps_behind))) meeting.nodes_before
      (subst (λ l. IsDistinct now (meeting.beside.nodes_before ++ (floor_nodes joined.floors ++ l)) (meeting.beside.steps_before ++ (done.steps ++ meeting.beside.steps_behind))) meeting.nodes_behind done.each_once);
}

-- ---- the end

pub seam_end_law : SeamEndLaw
seam_end_law t store front last rest w stuck seam = record {
  steps = seam.front_steps ++ (seam.steps ++ seam.rest_steps);
  pieces = subst (λ l. ArePieces t store [] (front ++ last ∷ rest) l (seam.front_steps ++ (seam.steps ++ seam.rest_steps))) (sym seam.parts)
      (pieces_then (last ∷ rest) seam.before (piece_first seam.made seam.stands seam.takes stuck seam.after refl refl));
  each_once = subst (λ l. IsDistinct store l (seam.front_steps ++ (seam.steps ++ seam.rest_steps))) (sym (floors_then_law front (last ∷ rest))) seam.each_once;
}
