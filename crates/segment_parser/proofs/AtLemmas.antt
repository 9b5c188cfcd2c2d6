-- The parse of a segment, at each step of the code's open piece.
use Rattle.std.proofs.Common.{◌≡◌, ℕ, ◌+◌, ◌<◌, List, [], ◌∷◌, ◌++◌, length, refl, sym, ap, ◌∙◌, subst, arith}
use Rattle.std.proofs.lemmas.List.{length-append}
use Rattle.std.proofs.lemmas.List.Elements.{All-push, All-weaker}
use Rattle.grammar_data.specs.declared.rule.Sym.TheVariants.{Token}
use Rattle.grammar_data.specs.declared.token.Token.{Token as TextToken}
use Rattle.node_data.specs.declared.kid.Kid.{Kid}
use Rattle.node_data.specs.declared.kid.Kid.TheVariants.{Token as TokenKid}
use Rattle.tree_theory.specs.Stores.{Store}
use Rattle.table_data.specs.Tables.{Tables}
use Rattle.map_theory.specs.Maps.{StateMap}
use Rattle.map_theory.specs.Agreements.{AllShift}
use Rattle.map_theory.specs.Relations.{IsThenSymbol, IsIdentityOf}
use Rattle.piece_theory.specs.Pieces.{Floor, Held, Piece}
use Rattle.leaf_laws.specs.Leaves.{IsLeaf, HasStart, NoneErrs}
use Rattle.leaf_laws.specs.Steps.{ShiftsIt}
use Rattle.leaf_laws.proofs.StepLemmas.{next_token_law, shifts_law}
use Rattle.segment_laws.specs.Parsing.{IsParsing}
use Rattle.segment_laws.proofs.StepLemmas.{shifts_parsing_law}
use Rattle.arrow_table.specs.Looks.{Grows, HasMap, map_at}
use Rattle.segment_parser.specs.declared.leaf.Leaf.{Leaf}
use Rattle.segment_parser.specs.Working.{held_of, last_id, last_of, AreThere}
use Rattle.segment_parser.specs.Standing.{last_in, piece_in, HasMaps, IsAt, SameButEntries}
use Rattle.segment_parser.proofs.HeldLemmas.{held_grows, held_push, stays_at, has_grows, LastHeld, held_last, last_pushed}

-- ---- what is the same by another name

pub leaf_as : {t : Tables} {store : Store} {p q : Piece} {w next : List TextToken} {lower other : List Floor} {f g : Floor} {under : List Held} {h : Held} {stale stale1 : ℕ} → p ≡ q → lower ≡ other → f ≡ g → stale ≡ stale1 → IsLeaf t store p w next lower f under h stale → IsLeaf t store q w next other g under h stale1
leaf_as {t} {store} {p} {q} {w} {next} {lower} {other} {f} {g} {under} {h} {stale} {stale1} same_piece same_lower same_floor same_stale leaf =
    let one : IsLeaf t store q w next lower f under h stale = subst (λ x. IsLeaf t store x w next lower f under h stale) same_piece leaf in
    let two : IsLeaf t store q w next other f under h stale = subst (λ x. IsLeaf t store q w next x f under h stale) same_lower one in
    let three : IsLeaf t store q w next other g under h stale = subst (λ x. IsLeaf t store q w next other x under h stale) same_floor two in
    subst (λ (x : ℕ). IsLeaf t store q w next other g under h x) same_stale three

pub start_as : {t : Tables} {p q : Piece} {w : List TextToken} {f g : Floor} → p ≡ q → f ≡ g → HasStart t p w f → HasStart t q w g
start_as {t} {p} {q} {w} {f} {g} same_piece same_floor start = subst (λ x. HasStart t q w x) same_floor (subst (λ x. HasStart t x w f) same_piece start)

-- ---- more maps

pub there_grows : (maps new : List StateMap) → Grows maps new → (ids : List ℕ) → AreThere maps ids → AreThere new ids
there_grows maps new grows ids there =
    let count = ap length grows.1 ∙ length-append maps grows.0 in
    All-weaker {X = ℕ} (λ id. id < length maps) (λ id. id < length new) (λ id inside. omega (arith, count, inside)) ids there

pub last_grows : (maps new : List StateMap) (s : Leaf) → Grows maps new → s.starts < length maps → last_in new s ≡ last_in maps s
last_grows maps new s grows inside = ap (λ m. record { opened = s.opened; starts = m; faults = s.faults }) (stays_at maps new grows s.starts inside)

pub piece_grows : (maps new : List StateMap) (s : Leaf) → Grows maps new → HasMaps maps s → piece_in new s ≡ piece_in maps s
piece_grows maps new s grows has =
    let last = last_grows maps new s grows has.starts in
    let held = held_grows maps new grows s.block.kids s.ids.items has.there in
    λ i. record { first = s.first; count = s.count; floors = s.block.floors ++ last i ∷ []; stack = held i }

pub has_more : (maps new : List StateMap) (s : Leaf) → Grows maps new → HasMaps maps s → HasMaps new s
has_more maps new s grows has =
    let count = ap length grows.1 ∙ length-append maps grows.0 in
    let inside = has.starts in
    let own : HasMap new s.own (IsIdentityOf (map_at maps s.starts)) = has_grows maps new (IsIdentityOf (map_at maps s.starts)) grows s.own has.own in
    record {
      even = has.even;
      there = there_grows maps new grows s.ids.items has.there;
      starts = omega (arith, count, inside);
      own = subst (λ m. HasMap new s.own (IsIdentityOf m)) (sym (stays_at maps new grows s.starts has.starts)) own;
    }

pub at_grows : {t : Tables} {store : Store} (maps new : List StateMap) {s : Leaf} {tokens w rest next : List TextToken} → Grows maps new → IsAt t store maps s tokens w rest next → IsAt t store new s tokens w rest next
at_grows {t} {store} maps new {s} {tokens} {w} {rest} {next} grows at =
    let piece = piece_grows maps new s grows at.has in
    record {
      has = has_more maps new s grows at.has;
      closed = at.closed;
      same = at.same;
      parsing = subst (λ p. IsParsing t store tokens at.closed p w rest) (sym piece) at.parsing;
      under = at.under;
      last = at.last;
      leaf = leaf_as (sym piece) refl (sym (last_grows maps new s grows at.has.starts)) refl at.leaf;
    }

-- ---- the next token

pub next_at : {t : Tables} {store : Store} {maps : List StateMap} {s : Leaf} {tokens w rest : List TextToken} (token : TextToken) → IsAt t store maps s tokens w rest [] → IsAt t store maps s tokens w rest (token ∷ [])
next_at {t} {store} {maps} {s} {w = w} token at = record {
  has = at.has;
  closed = at.closed;
  same = at.same;
  parsing = at.parsing;
  under = at.under;
  last = at.last;
  leaf = next_token_law t store (piece_in maps s) w token s.block.floors (last_in maps s) at.under at.last s.stale at.leaf;
}

-- ---- the last entry

pub last_at : {t : Tables} {store : Store} {maps : List StateMap} {s : Leaf} {tokens w rest next : List TextToken} (at : IsAt t store maps s tokens w rest next) → LastHeld maps s.block.kids s.ids.items at.under at.last
last_at {maps = maps} {s = s} at = held_last maps s.block.kids s.ids.items at.under at.last at.has.even at.leaf.growing.on_stack

-- its map is the one with the last number
pub last_map : {t : Tables} {store : Store} {maps : List StateMap} {s : Leaf} {tokens w rest next : List TextToken} (at : IsAt t store maps s tokens w rest next) → map_at maps (last_id s.ids.items) ≡ at.last.states
last_map {maps = maps} at =
    let last = last_at at in
    ap (λ k. map_at maps k) (ap last_id last.ids_are ∙ last_pushed last.low last.id) ∙ sym (ap (λ (h : Held). h.states) last.last_is)

-- ---- a shift

pub last_same : (maps : List StateMap) (s after : Leaf) → SameButEntries s after → last_in maps after ≡ last_in maps s
last_same maps s after same = λ i. last_of maps (same.opened i) (same.starts i) (same.faults i)

pub floors_same : (maps : List StateMap) (s after : Leaf) → SameButEntries s after → (piece_in maps after).floors ≡ (piece_in maps s).floors
floors_same maps s after same = λ i. same.floors i ++ last_same maps s after same i ∷ []

-- one entry more, whose map is there
pub has_pushed : (maps : List StateMap) (s after : Leaf) (kid : Kid) (to : ℕ) → SameButEntries s after → after.block.kids ≡ s.block.kids ++ kid ∷ [] → after.ids.items ≡ s.ids.items ++ to ∷ [] → to < length maps → HasMaps maps s → HasMaps maps after
has_pushed maps s after kid to same kids ids inside has =
    let kid_count = ap length kids ∙ length-append s.block.kids (kid ∷ []) in
    let id_count = ap length ids ∙ length-append s.ids.items (to ∷ []) in
    let even = has.even in
    record {
      even = omega (arith, kid_count, id_count, even);
      there = subst (λ l. AreThere maps l) (sym ids) (All-push {X = ℕ} (λ id. id < length maps) s.ids.items to has.there inside);
      starts = subst (λ (k : ℕ). k < length maps) (sym same.starts) has.starts;
      own = subst (λ (k : ℕ). HasMap maps k (IsIdentityOf (map_at maps after.starts))) (sym same.own) (subst (λ (k : ℕ). HasMap maps s.own (IsIdentityOf (map_at maps k))) (sym same.starts) has.own);
    }

pub shift_at : (t : Tables) (store : Store) (maps : List StateMap) (s after : Leaf) (tokens w rest : List TextToken) (token : TextToken) (to : ℕ) → IsAt t store maps s tokens w (token ∷ rest) (token ∷ []) → NoneErrs t token.id (map_at maps (last_id s.ids.items)) → AllShift t token.id (map_at maps (last_id s.ids.items)) → HasMap maps to (IsThenSymbol t (Token token.id) (map_at maps (last_id s.ids.items)))
    → SameButEntries s after → after.stale ≡ s.stale → after.count ≡ s.count + 1 → after.block.kids ≡ s.block.kids ++ TokenKid token ∷ [] → after.ids.items ≡ s.ids.items ++ to ∷ []
    → IsAt t store maps after tokens (w ++ token ∷ []) rest [] × HasStart t (piece_in maps after) (w ++ token ∷ []) (last_in maps after)
shift_at t store maps s after tokens w rest token to at none all has same stale count kids ids =
    let map = last_map at in
    let new : Held = record { kid = TokenKid token; states = map_at maps to } in
    let stack : (piece_in maps after).stack ≡ (piece_in maps s).stack ++ new ∷ [] = (λ i. held_of maps (kids i) (ids i)) ∙ held_push maps s.block.kids s.ids.items (TokenKid token) to at.has.even in
    let shifts : ShiftsIt t token (piece_in maps s) (piece_in maps after) at.last new = record { first = same.first; floors = floors_same maps s after same; stack = stack; kid = refl; map = subst (λ m. IsThenSymbol t (Token token.id) m (map_at maps to)) map has.is } in
    let leaf = shifts_law t store (piece_in maps s) (piece_in maps after) w token s.block.floors (last_in maps s) at.under at.last new s.stale at.leaf (subst (λ m. NoneErrs t token.id m) map none) (subst (λ m. AllShift t token.id m) map all) shifts in
    let last = sym (last_same maps s after same) in (
      record {
        has = has_pushed maps s after (TokenKid token) to same kids ids has.within at.has;
        closed = at.closed;
        same = same.closed ∙ at.same;
        parsing = shifts_parsing_law t store tokens at.closed (piece_in maps s) (piece_in maps after) w rest token at.last new at.parsing shifts count;
        under = at.under ++ at.last ∷ [];
        last = new;
        leaf = leaf_as refl (sym same.floors) last (sym stale) leaf.0;
      },
      start_as refl last leaf.1,
    )
