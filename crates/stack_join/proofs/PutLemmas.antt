-- The next piece is put on the open piece.
use Rattle.std.proofs.Common.{◌≡◌, ℕ, ◌+◌, ◌^◌, ◌<◌, ◌≤◌, List, ◌∷◌, ◌++◌, length, true, Option, Some, None, refl, sym, ap, ◌∙◌, subst, arith}
use Rattle.std.proofs.lemmas.List.{length-append}
use Rattle.lr_base.specs.declared.limits.TheConstants.{TEXT_BYTES}
use Rattle.grammar_data.specs.declared.token.Token.{Token as TextToken}
use Rattle.node_data.specs.declared.kid.Kid.{Kid}
use Rattle.tree_theory.specs.Stores.{Ref, Store}
use Rattle.table_data.specs.Tables.{Tables}
use Rattle.lawful_theory.specs.Lawful.{IsLawful}
use Rattle.map_theory.specs.Maps.{StateMap}
use Rattle.use_theory.specs.Kept.{IsKept}
use Rattle.use_theory.proofs.KeptLemmas.{kept_same}
use Rattle.piece_theory.specs.Pieces.{Piece}
use Rattle.piece_theory.specs.Laws.{HasMore}
use Rattle.seam_theory.specs.Seams.{IsMeeting}
use Rattle.segment_parser.specs.declared.leaf.Leaf.{Leaf}
use Rattle.stack_join.specs.Joining.{IsAtSeam, IsDecided, IsLanding}
use Rattle.stack_join.proofs.MeetLemmas.{met_of, seam_meets, seam_lands}

-- a store that has more nodes keeps those that there were
pub more_kept : (store new : Store) → HasMore store new → IsKept store new
more_kept store new more = kept_same store new (λ m there. by m there (store m) refl)
  where
    by : (m : Ref) → (store m ≡ None → ⊥) → (o : Option (ℕ × List Kid)) → store m ≡ o → new m ≡ store m
    by m there None is = absurd (there is)
    by m there (Some (r, kids)) is = more m r kids is ∙ sym is

-- the open piece and the next one meet
pub record IsMetAt (t : Tables) (store : Store) (maps : List StateMap) (s : Leaf) (front : List Piece) (right : Piece) (rest : List Piece) (w : List TextToken) : Type 0 where
  pub last : Piece
  pub meeting : IsMeeting t store front last right rest w
  pub landing : IsLanding t (met_of meeting) store maps s right.floors

pub met_at : (t : Tables) → IsLawful t → (store : Store) (maps : List StateMap) (s : Leaf) (front : List Piece) (right : Piece) (rest : List Piece) (w : List TextToken) (token : TextToken) → right.first ≡ token → IsAtSeam t store maps s front (right ∷ rest) w → IsDecided t maps s token true → IsMetAt t store maps s front right rest w
met_at t lawful store maps s front right rest w token first at decided =
    let meeting = seam_meets t store maps s front right rest w at (subst (λ (x : TextToken). IsDecided t maps s x true) (sym first) decided) in
    record { last = at.last; meeting = meeting; landing = seam_lands t lawful store maps s front right rest w at meeting }

-- the tokens of both are no more than those of the text
pub few_together : {t : Tables} {store : Store} {front : List Piece} {last right : Piece} {rest : List Piece} {w : List TextToken} (meeting : IsMeeting t store front last right rest w) → length w ≤ TEXT_BYTES → (count tokens : ℕ) → count ≡ length meeting.tokens → tokens ≡ right.count → count + tokens < 2 ^ 32
few_together {w = w} meeting few count tokens counted same =
    let one = ap length meeting.parts in
    let two = length-append meeting.front_tokens ((meeting.tokens ++ meeting.right_tokens) ++ meeting.rest_tokens) in
    let three = length-append (meeting.tokens ++ meeting.right_tokens) meeting.rest_tokens in
    let four = length-append meeting.tokens meeting.right_tokens in
    let right_counted = meeting.meet.made_right.counted in
    omega (arith, one, two, three, four, right_counted, counted, few, same)
