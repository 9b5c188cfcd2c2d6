-- A piece of the code is closed, and another is opened; and at the end of the segment.
use Rattle.std.proofs.Common.{◌≡◌, ℕ, ◌<◌, ◌⊎◌, List, [], ◌∷◌, ◌++◌, length, None, refl, sym, ap, ◌∙◌, subst}
use Rattle.std.proofs.lemmas.List.Elements.{All-cons, All-nil}
use Rattle.grammar_data.specs.declared.token.Token.{Token as TextToken}
use Rattle.node_data.specs.declared.kid.Kid.TheVariants.{Token as TokenKid}
use Rattle.tree_theory.specs.Stores.{Store}
use Rattle.table_data.specs.Tables.{Tables}
use Rattle.lawful_theory.specs.Lawful.{IsLawful}
use Rattle.map_theory.specs.Maps.{StateMap}
use Rattle.map_theory.specs.Agreements.{NoneLeft, AreSeveral}
use Rattle.map_theory.specs.Relations.{AreShiftStarts, IsIdentityOf}
use Rattle.part_theory.specs.Parts.{FirstPart}
use Rattle.piece_theory.specs.Pieces.{Held, Piece}
use Rattle.piece_theory.specs.Lists.{ArePiecesOf}
use Rattle.context_laws.specs.Contexts.{LeadFromStates}
use Rattle.level_laws.proofs.LevelLemmas.{shifting_law}
use Rattle.leaf_laws.specs.Leaves.{IsLeaf, HasStart}
use Rattle.leaf_laws.specs.Steps.{Opens}
use Rattle.leaf_laws.proofs.StepLemmas.{opens_law}
use Rattle.leaf_laws.proofs.PartLemmas.{last_part_law}
use Rattle.look_laws.proofs.DeathLemmas.{stuck_part_law}
use Rattle.segment_laws.specs.Parsing.{IsParsing}
use Rattle.segment_laws.specs.Laws.{HasNoNodes, AreByParts, IsClosedAs}
use Rattle.segment_laws.proofs.StepLemmas.{begins_law}
use Rattle.segment_laws.proofs.KidLemmas.{fresh_kids}
use Rattle.segment_laws.proofs.EndLemmas.{closed_law, closes_parsing_law, ends_parsing_law}
use Rattle.bare_theory.specs.Bare.{Bare, bare, bares}
use Rattle.arrow_table.specs.Looks.{HasMap, map_at}
use Rattle.segment_parser.specs.declared.leaf.Leaf.{Leaf}
use Rattle.segment_parser.specs.Working.{held_of, last_id, AreThere}
use Rattle.segment_parser.specs.Standing.{last_in, piece_in, HasMaps, IsAt}
use Rattle.segment_parser.proofs.HeldLemmas.{held_kids}
use Rattle.segment_parser.proofs.AtLemmas.{leaf_as, last_map}
use Rattle.segment_parser.proofs.LookLemmas.{StartOrPart}

-- ---- a closed piece in the block

-- what the block has of a piece that is closed
abbrev pub closing : List StateMap → Leaf → Bare
closing maps s = record { first = s.first; count = s.count; floors = s.block.floors ++ last_in maps s ∷ []; kids = s.block.kids }

bares_push : (ps : List Piece) (p : Piece) → bares (ps ++ p ∷ []) ≡ bares ps ++ bare p ∷ []
bares_push [] p = refl
bares_push (x ∷ ps) p = ap (λ l. bare x ∷ l) (bares_push ps p)

closed_bare : (maps : List StateMap) (s : Leaf) (closed : Piece) → length s.block.kids ≡ length s.ids.items → IsClosedAs (piece_in maps s) closed (last_in maps s) → bare closed ≡ closing maps s
closed_bare maps s closed even is =
    let kids = fresh_kids is.maps ∙ held_kids maps s.block.kids s.ids.items even in
    λ i. record { first = is.first i; count = is.count i; floors = is.floors i; kids = kids i }

same_closed : (maps : List StateMap) (s after : Leaf) (ps : List Piece) (closed : Piece) → s.block.closed ≡ bares ps → after.block.closed ≡ s.block.closed ++ closing maps s ∷ [] → bare closed ≡ closing maps s → after.block.closed ≡ bares (ps ++ closed ∷ [])
same_closed maps s after ps closed same pushed is = pushed ∙ ap (λ l. l ++ closing maps s ∷ []) same ∙ ap (λ b. bares ps ++ b ∷ []) (sym is) ∙ sym (bares_push ps closed)

-- ---- closed under the next token, which opens another piece

-- a piece is opened with the token
pub record HasOpened (t : Tables) (new : List StateMap) (token : TextToken) (after : Leaf) : Type 0 where
  pub floors : after.block.floors ≡ []
  pub kids : after.block.kids ≡ TokenKid token ∷ []
  pub to : ℕ
  pub ids : after.ids.items ≡ to ∷ []
  pub shifts : HasMap new to (AreShiftStarts t token.id)
  pub starts : HasMap new after.starts (IsIdentityOf (map_at new to))
  pub own : HasMap new after.own (IsIdentityOf (map_at new after.starts))
  pub faults : after.faults ≡ []
  pub opened : after.opened ≡ None
  pub first : after.first ≡ token
  pub count : after.count ≡ 1
  pub stale : after.stale ≡ 0

-- the piece that is opened
opens_at : (t : Tables) (new : List StateMap) (token : TextToken) (after : Leaf) (re : HasOpened t new token after) → Opens t (piece_in new after) (last_in new after) (record { kid = TokenKid token; states = map_at new re.to })
opens_at t new token after re =
    let shifts : AreShiftStarts t after.first.id (map_at new re.to) = subst (λ (x : TextToken). AreShiftStarts t x.id (map_at new re.to)) (sym re.first) re.shifts.is in
    record {
      floors = ap (λ l. l ++ last_in new after ∷ []) re.floors;
      stack = λ i. held_of new (re.kids i) (re.ids i);
      unopened = re.opened;
      no_faults = re.faults;
      starts = shifting_law t after.first (map_at new re.to) (map_at new after.starts) shifts re.starts.is;
      kid = ap (λ x. TokenKid x) (sym re.first);
      after = shifts;
    }

has_opened : (t : Tables) (new : List StateMap) (token : TextToken) (after : Leaf) → HasOpened t new token after → HasMaps new after
has_opened t new token after re = record {
  even = ap length re.kids ∙ sym (ap length re.ids);
  there = subst (λ l. AreThere new l) (sym re.ids) (All-cons {X = ℕ} (λ n. n < length new) re.to [] re.shifts.within (All-nil {X = ℕ} (λ n. n < length new)));
  starts = re.starts.within;
  own = re.own;
}

-- the first piece of a segment
pub begin_at : (t : Tables) (store : Store) (new : List StateMap) (after : Leaf) (token : TextToken) (rest : List TextToken) → HasNoNodes store → after.block.closed ≡ [] → HasOpened t new token after → IsAt t store new after (token ∷ rest) (token ∷ []) rest [] × HasStart t (piece_in new after) (token ∷ []) (last_in new after)
begin_at t store new after token rest none empty re =
    let q = piece_in new after in
    let held : Held = record { kid = TokenKid token; states = map_at new re.to } in
    let opens = opens_at t new token after re in
    let leaf = opens_law t store q (last_in new after) held opens in (
      record {
        has = has_opened t new token after re;
        closed = [];
        same = empty;
        parsing = subst (λ (x : TextToken). IsParsing t store (x ∷ rest) [] q (x ∷ []) rest) re.first (begins_law t store q (last_in new after) held rest none opens re.count);
        under = [];
        last = held;
        leaf = leaf_as refl (sym re.floors) refl (sym re.stale) (subst (λ (x : TextToken). IsLeaf t store q (x ∷ []) [] [] (last_in new after) [] held 0) re.first leaf.0);
      },
      subst (λ (x : TextToken). HasStart t q (x ∷ []) (last_in new after)) re.first leaf.1,
    )

pub close_at : (t : Tables) → IsLawful t → LeadFromStates t → (store : Store) (maps new : List StateMap) (s after : Leaf) (tokens w rest : List TextToken) (token : TextToken) → IsAt t store maps s tokens w (token ∷ rest) (token ∷ []) → after.block.closed ≡ s.block.closed ++ closing maps s ∷ [] → HasOpened t new token after → NoneLeft t token.id (map_at maps (last_id s.ids.items)) ⊎ AreSeveral t token.id (map_at maps (last_id s.ids.items)) → StartOrPart t (piece_in maps s) w (last_in maps s) token rest
    → IsAt t store new after tokens (token ∷ []) rest [] × HasStart t (piece_in new after) (token ∷ []) (last_in new after)
close_at t lawful lead store maps new s after tokens w rest token at pushed re stuck start =
    let p = piece_in maps s in
    let q = piece_in new after in
    let held : Held = record { kid = TokenKid token; states = map_at new re.to } in
    let opens = opens_at t new token after re in
    let map = last_map at in
    let agrees_not : NoneLeft t token.id at.last.states ⊎ AreSeveral t token.id at.last.states = subst (λ m. NoneLeft t token.id m ⊎ AreSeveral t token.id m) map stuck in
    let part = stuck_part_law t lawful lead store p w token rest s.block.floors (last_in maps s) at.under at.last s.stale at.leaf start agrees_not in
    let closed = closed_law t store p w (token ∷ []) s.block.floors (last_in maps s) at.under at.last s.stale at.leaf in
    let back = sym re.first in
    let parsing = closes_parsing_law t store tokens at.closed p closed.0 q w rest s.block.floors (last_in maps s) (last_in new after) at.under at.last held s.stale
    (subst (λ (x : TextToken). IsParsing t store tokens at.closed p w (x ∷ rest)) back at.parsing)
    (subst (λ (x : TextToken). IsLeaf t store p w (x ∷ []) s.block.floors (last_in maps s) at.under at.last s.stale) back at.leaf)
    (subst (λ (x : TextToken). NoneLeft t x.id at.last.states ⊎ AreSeveral t x.id at.last.states) back agrees_not)
    (subst (λ (x : TextToken). FirstPart t p.first.id (w ++ x ∷ rest) (length w)) back part)
    closed.1 opens re.count in
    let leaf = opens_law t store q (last_in new after) held opens in (
      record {
        has = has_opened t new token after re;
        closed = at.closed ++ closed.0 ∷ [];
        same = same_closed maps s after at.closed closed.0 at.same pushed (closed_bare maps s closed.0 at.has.even closed.1);
        parsing = subst (λ (x : TextToken). IsParsing t store tokens (at.closed ++ closed.0 ∷ []) q (x ∷ []) rest) re.first parsing;
        under = [];
        last = held;
        leaf = leaf_as refl (sym re.floors) refl (sym re.stale) (subst (λ (x : TextToken). IsLeaf t store q (x ∷ []) [] [] (last_in new after) [] held 0) re.first leaf.0);
      },
      subst (λ (x : TextToken). HasStart t q (x ∷ []) (last_in new after)) re.first leaf.1,
    )

-- ---- closed where no token is left

-- the pieces without their maps are those of the segment, each with the tokens of its part
pub record IsParsedTo (t : Tables) (store : Store) (closed : List Bare) (tokens : List TextToken) : Type 0 where
  pub pieces : List Piece
  pub same : closed ≡ bares pieces
  pub are : ArePiecesOf t store pieces tokens
  pub parts : AreByParts t store pieces tokens

pub end_at : (t : Tables) → IsLawful t → LeadFromStates t → (store : Store) (maps : List StateMap) (s after : Leaf) (tokens w : List TextToken) → IsAt t store maps s tokens w [] [] → HasStart t (piece_in maps s) w (last_in maps s) → after.block.closed ≡ s.block.closed ++ closing maps s ∷ [] → IsParsedTo t store after.block.closed tokens
end_at t lawful lead store maps s after tokens w at start pushed =
    let p = piece_in maps s in
    let part = last_part_law t lawful lead store p w s.block.floors (last_in maps s) at.under at.last s.stale at.leaf start in
    let closed = closed_law t store p w [] s.block.floors (last_in maps s) at.under at.last s.stale at.leaf in
    let ends = ends_parsing_law t store tokens at.closed p closed.0 w s.block.floors (last_in maps s) at.under at.last s.stale at.parsing at.leaf part closed.1 in
    record {
      pieces = at.closed ++ closed.0 ∷ [];
      same = same_closed maps s after at.closed closed.0 at.same pushed (closed_bare maps s closed.0 at.has.even closed.1);
      are = ends.0;
      parts = ends.1;
    }
