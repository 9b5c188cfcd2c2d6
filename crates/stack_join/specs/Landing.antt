-- A floor of the next piece lands on the open piece: what it takes of the entries, and what becomes of the starts over whose
-- states it errs; read off what the code keeps.
use Rattle.std.specs.Prelude.{◌≡◌, ℕ, ◌+◌, ◌-◌, ◌<◌, ◌≤◌, List, [], ◌∷◌, ◌++◌, length, take, drop, All, Option, Some, None, ◌≢◌}
use Rattle.grammar_data.specs.declared.rule.Sym.{Sym}
use Rattle.grammar_theory.specs.Rules.{IsRule}
use Rattle.node_data.specs.declared.kid.Kid.{Kid}
use Rattle.node_data.specs.declared.kid.Kid.TheVariants.{Hidden}
use Rattle.tree_theory.specs.Stores.{Store}
use Rattle.table_data.specs.Tables.{Tables}
use Rattle.map_theory.specs.Maps.{StateMap}
use Rattle.map_theory.specs.Relations.{IsBack, IsIdentityOf}
use Rattle.use_theory.specs.Fills.{SuppliesPart}
use Rattle.piece_theory.specs.Pieces.{Opened, Floor}
use Rattle.piece_theory.specs.WellMade.{HasHidden}
use Rattle.level_laws.specs.Levels.{IsMoved}
use Rattle.join_theory.specs.Faults.{carried}
use Rattle.join_theory.specs.Floors.{AreKeptFor}
use Rattle.landing_laws.specs.Carrying.{IsOverAlive, HasEachOnce}
use Rattle.landing_laws.specs.Behind.{AreRising}
use Rattle.arrow_table.specs.Looks.{HasMap, map_at}
use Rattle.segment_parser.specs.declared.leaf.Leaf.{Leaf}
use Rattle.segment_parser.specs.Working.{held_of}
use Rattle.segment_parser.specs.Standing.{last_in, piece_in, HasMaps, SameButEntries}
use Rattle.stack_join.specs.Joining.{over_id, IsTightIn}

-- the last floor and the entries are those of before, but for the starts that err
pub record IsCarriedOver (f : Floor) (maps new : List StateMap) (s after : Leaf) (states : ℕ → Option ℕ) : Type 0 where
  pub moved : IsMoved (carried s.count states f) (last_in maps s) (last_in new after)
  pub kept : AreKeptFor (map_at new after.starts) (piece_in maps s).stack (piece_in new after).stack
  pub tight : IsTightIn new after

-- the faults of a floor are carried back to the starts over whose states they come
pub record IsCarriedBack (f : Floor) (maps new : List StateMap) (s after : Leaf) : Type 0 where
  pub has : HasMaps new after
  pub block : after.block ≡ s.block
  pub first : after.first ≡ s.first
  pub count : after.count ≡ s.count
  pub over : (states : ℕ → Option ℕ) → IsOverAlive (map_at maps s.starts) (map_at maps (over_id s)) states → HasEachOnce (last_in maps s) → AreRising (piece_in maps s).stack → IsTightIn maps s → IsCarriedOver f maps new s after states

-- so many entries are left, and the last of them has alive starts alone
pub record IsCut (maps new : List StateMap) (s after : Leaf) (rest : ℕ) : Type 0 where
  pub has : HasMaps new after
  pub same : SameButEntries s after
  pub count : after.count ≡ s.count
  pub kids : after.block.kids ≡ take rest s.block.kids
  pub kept : AreRising (piece_in maps s).stack → IsTightIn maps s → AreKeptFor (map_at maps s.starts) (held_of maps (take rest s.block.kids) (take rest s.ids.items)) (piece_in new after).stack × IsTightIn new after

-- the last floor stands below another one with so many hidden symbols of the rule, whose node is the same, and no entry is left
pub record IsRaised (t : Tables) (maps new : List StateMap) (s after : Leaf) (opened : Opened) (still : ℕ) : Type 0 where
  pub has : HasMaps new after
  pub kids : after.block.kids ≡ []
  pub ids : after.ids.items ≡ []
  pub floors : after.block.floors ≡ s.block.floors ++ last_in maps s ∷ []
  pub closed : after.block.closed ≡ s.block.closed
  pub opened_by : after.opened ≡ Some (record { rule = opened.rule; hidden = still; node = opened.node })
  pub faults : after.faults ≡ []
  pub starts : (n : ℕ) (right : List Sym) → IsRule t.rules opened.rule n right → HasMap new after.starts (IsBack t (take still right) (map_at maps s.starts))
  pub own : HasMap new after.own (IsIdentityOf (map_at new after.starts))
  pub stale : after.stale ≡ 0
  pub first : after.first ≡ s.first
  pub count : after.count ≡ s.count

-- the entries can supply what a floor hides
pub record CanSupply (t : Tables) (store : Store) (s : Leaf) (opened : Opened) : Type 0 where
  pub hides : HasHidden store opened
  pub shown : All {X = Kid} (λ kid. kid ≢ Hidden) s.block.kids
  pub rule : opened.rule < length t.rules
  pub fewer : (n : ℕ) (right : List Sym) → IsRule t.rules opened.rule n right → opened.hidden ≤ length right

abbrev pub CanSupplyAll : Tables → Store → Leaf → Option Opened → Type 0
CanSupplyAll t store s None = Unit {0}
CanSupplyAll t store s (Some opened) = CanSupply t store s opened

-- what a floor hides is supplied: nothing, or whole, or in part
pub data IsSupplied (t : Tables) (store now : Store) (maps new : List StateMap) (s after : Leaf) : Option Opened → Type 0 where
  none_supplied : now ≡ store → new ≡ maps → after ≡ s → IsSupplied t store now maps new s after None
  whole_supplied : {opened : Opened} → opened.hidden ≤ length s.ids.items → IsCut maps new s after (length s.ids.items - opened.hidden) → SuppliesPart store now opened.node 0 (drop (length s.ids.items - opened.hidden) s.block.kids) → IsSupplied t store now maps new s after (Some opened)
  part_supplied : {opened : Opened} (still : ℕ) → still + length s.ids.items ≡ opened.hidden → 0 < still → IsRaised t maps new s after opened still → SuppliesPart store now opened.node still s.block.kids → IsSupplied t store now maps new s after (Some opened)
