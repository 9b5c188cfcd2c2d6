-- The numbers of the maps over an open piece's entries stand: over the last one, over the first ones, and over some more.
use Rattle.std.proofs.Common.{◌≡◌, ◌-◌, ◌<◌, ◌≤◌, ℕ, if◌then◌else◌, ◌==◌, List, [], ◌∷◌, ◌++◌, All, length, set, take, sym, subst, ◌∙◌, eqb, arith}
use Rattle.std.proofs.lemmas.Bool.{cond-false, ne_eqb}
use Rattle.std.proofs.lemmas.List.Elements.{All-append, All-nil, All-set, All-take}
use Rattle.grammar_data.specs.declared.token.Token.{Token as TextToken}
use Rattle.tree_theory.specs.Stores.{Store}
use Rattle.table_data.specs.Tables.{Tables}
use Rattle.map_theory.specs.Maps.{StateMap}
use Rattle.piece_theory.specs.Pieces.{Piece}
use Rattle.segment_laws.proofs.KidLemmas.{fresh_kids}
use Rattle.segment_parser.specs.declared.leaf.Leaf.{Leaf}
use Rattle.segment_parser.specs.Working.{last_id}
use Rattle.segment_parser.specs.Entering.{IsKnown}
use Rattle.segment_parser.specs.Numbers.{AllStand, AreFrom, Stands}
use Rattle.stack_join.specs.Joining.{IsAtSeam, over_id}
use Rattle.stack_join.proofs.EnteredLemmas.{entries_kids}
use Rattle.stack_join.proofs.ReopenLemmas.{kids_known}

pub from_none : (base : ℕ) → AreFrom base []
from_none base = All-nil (λ (id : ℕ). base ≤ id)

pub from_first : (base n : ℕ) (ids : List ℕ) → AreFrom base ids → AreFrom base (take n ids)
from_first base n ids all = All-take (λ (id : ℕ). base ≤ id) n ids all

pub from_set : (base : ℕ) (ids : List ℕ) (place id : ℕ) → base ≤ id → AreFrom base ids → AreFrom base (set ids place id)
from_set base ids place id stands all = All-set (λ (n : ℕ). base ≤ n) ids place id stands all

pub from_both : (base : ℕ) (ids more : List ℕ) → AreFrom base ids → AreFrom base more → AreFrom base (ids ++ more)
from_both base ids more all others = All-append (λ (id : ℕ). base ≤ id) ids more all others

pub from_last : (base : ℕ) (ids : List ℕ) → AreFrom base ids → 0 < length ids → base ≤ last_id ids
from_last base ids all some = all (length ids - 1) 0 (omega arith)

-- the map over the last entry, or where there is none, the one that leads each start to itself
pub over_stands : (base : ℕ) (s : Leaf) → AllStand base s → base ≤ over_id s
over_stands base s stand = by s.ids.items stand.entries
  where
    by : (ids : List ℕ) → AreFrom base ids → base ≤ (if length ids == 0 then s.own else last_id ids)
    by [] all = stand.own
    by (x ∷ ids) all = subst (λ n. base ≤ n) (sym (cond-false (eqb (length (x ∷ ids)) 0) s.own (last_id (x ∷ ids)) (ne_eqb (length (x ∷ ids)) 0 (λ e. absurd (omega (arith, e)))))) (from_last base (x ∷ ids) all (omega arith))

-- what a step of the open piece looks at stands, in a table with the same base
pub stand_then : (base later : ℕ) (s : Leaf) → later ≡ base → AllStand base s → Stands later s
stand_then base later s same stand = record {
  starts = subst (λ b. b ≤ s.starts) (sym same) stand.starts;
  own = subst (λ b. b ≤ s.own) (sym same) stand.own;
  top = λ some. subst (λ b. b ≤ last_id s.ids.items) (sym same) (from_last base s.ids.items stand.entries some);
}

-- and so do all, where a step has kept the numbers of the entries
pub all_then : (base later : ℕ) (s after : Leaf) → later ≡ base → AllStand base s → Stands later after → (AreFrom later s.ids.items → AreFrom later after.ids.items) → AllStand later after
all_then base later s after same stand stands levels = record {
  starts = stands.starts;
  own = stands.own;
  entries = levels (subst (λ b. AreFrom b s.ids.items) (sym same) stand.entries);
}

-- the kids of the open piece have symbols
pub known_open : {t : Tables} {store : Store} {maps : List StateMap} {s : Leaf} {front rest : List Piece} {w : List TextToken} → IsAtSeam t store maps s front rest w → All (IsKnown t.rules store) s.block.kids
known_open {t} {store} {maps} {s} at =
    subst (λ l. All (IsKnown t.rules store) l) (fresh_kids at.kept_as.fresh ∙ entries_kids maps s.block.kids s.ids.items (sym at.kept_as.has.even)) (kids_known at.seam.made.maps)
