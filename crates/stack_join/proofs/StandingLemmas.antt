-- The open piece as the code keeps it, in a table with more maps.
use Rattle.std.proofs.Common.{◌≡◌, ℕ, ◌<◌, List, [], ◌∷◌, ◌++◌, length, refl, sym, ap, ◌∙◌, subst, append_assoc, arith}
use Rattle.std.proofs.lemmas.List.{get_or_append_left, length-append}
use Rattle.std.proofs.lemmas.List.Elements.{All-head, All-tail, All-weaker}
use Rattle.node_data.specs.declared.kid.Kid.{Kid}
use Rattle.map_theory.specs.Maps.{StateMap}
use Rattle.map_theory.specs.Relations.{IsIdentityOf}
use Rattle.arrow_table.specs.Looks.{Grows, HasMap, map_at}
use Rattle.segment_parser.specs.declared.leaf.Leaf.{Leaf}
use Rattle.segment_parser.specs.Working.{held_of, AreThere}
use Rattle.segment_parser.specs.Standing.{last_in, piece_in, HasMaps}

-- a map that is there stays
pub map_stays : (maps new : List StateMap) → Grows maps new → (id : ℕ) → id < length maps → map_at new id ≡ map_at maps id
map_stays maps new grows id inside = ap (λ l. map_at l id) grows.1 ∙ get_or_append_left maps grows.0 [] id inside

pub there_later : (maps new : List StateMap) → Grows maps new → (id : ℕ) → id < length maps → id < length new
there_later maps new grows id inside =
    let count = ap length grows.1 ∙ length-append maps grows.0 in
    omega (arith, count, inside)

pub map_later : (maps new : List StateMap) (P : StateMap → Type 0) → Grows maps new → (id : ℕ) → HasMap maps id P → HasMap new id P
map_later maps new P grows id has = record { within = there_later maps new grows id has.within; is = subst P (sym (map_stays maps new grows id has.within)) has.is }

pub more_then : (maps mid new : List StateMap) → Grows maps mid → Grows mid new → Grows maps new
more_then maps mid new one two = (one.0 ++ two.0, two.1 ∙ ap (λ l. l ++ two.0) one.1 ∙ append_assoc maps one.0 two.0)

held_later : (maps new : List StateMap) → Grows maps new → (kids : List Kid) (ids : List ℕ) → AreThere maps ids → held_of new kids ids ≡ held_of maps kids ids
held_later maps new grows [] ids there = refl
held_later maps new grows (kid ∷ kids) [] there = refl
held_later maps new grows (kid ∷ kids) (id ∷ ids) there =
    let first = map_stays maps new grows id (All-head {X = ℕ} (λ n. n < length maps) id ids there) in
    let rest = held_later maps new grows kids ids (All-tail {X = ℕ} (λ n. n < length maps) id ids there) in
    λ i. record { kid = kid; states = first i } ∷ rest i

pub last_later : (maps new : List StateMap) (s : Leaf) → Grows maps new → HasMaps maps s → last_in new s ≡ last_in maps s
last_later maps new s grows has = ap (λ m. record { opened = s.opened; starts = m; faults = s.faults }) (map_stays maps new grows s.starts has.starts)

pub piece_later : (maps new : List StateMap) (s : Leaf) → Grows maps new → HasMaps maps s → piece_in new s ≡ piece_in maps s
piece_later maps new s grows has =
    let last = last_later maps new s grows has in
    let held = held_later maps new grows s.block.kids s.ids.items has.there in
    λ i. record { first = s.first; count = s.count; floors = s.block.floors ++ last i ∷ []; stack = held i }

pub has_later : (maps new : List StateMap) (s : Leaf) → Grows maps new → HasMaps maps s → HasMaps new s
has_later maps new s grows has =
    let own = map_later maps new (IsIdentityOf (map_at maps s.starts)) grows s.own has.own in
    record {
      even = has.even;
      there = All-weaker {X = ℕ} (λ id. id < length maps) (λ id. id < length new) (λ id inside. there_later maps new grows id inside) s.ids.items has.there;
      starts = there_later maps new grows s.starts has.starts;
      own = subst (λ m. HasMap new s.own (IsIdentityOf m)) (sym (map_stays maps new grows s.starts has.starts)) own;
    }

-- there are as many entries as numbers of maps
held_count : (maps : List StateMap) (kids : List Kid) (ids : List ℕ) → length kids ≡ length ids → length (held_of maps kids ids) ≡ length ids
held_count maps [] ids even = even
held_count maps (k ∷ kids) [] even = absurd (omega (arith, even))
held_count maps (k ∷ kids) (x ∷ ids) even = let rest = held_count maps kids ids (omega (arith, even)) in omega (arith, rest)

pub entry_count : (maps : List StateMap) (s : Leaf) → HasMaps maps s → length (piece_in maps s).stack ≡ length s.ids.items
entry_count maps s has = held_count maps s.block.kids s.ids.items has.even
