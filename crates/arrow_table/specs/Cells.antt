-- Rows of cells in which a table of maps keeps what it knows: of each map and each token what a look says, and of each map and
-- each name which map is one step on. In a cell nothing is known, or what is known is right.
use Rattle.std.specs.Prelude.{◌≡◌, ℕ, ◌+◌, ◌*◌, ◌^◌, ◌<◌, ◌≤◌, ◌⊎◌, List, length, slice_index_or, All, Option, Some, None}
use Rattle.grammar_data.specs.declared.rule.Sym.TheVariants.{Name}
use Rattle.table_data.specs.Tables.{Tables}
use Rattle.map_theory.specs.Maps.{StateMap}
use Rattle.map_theory.specs.Relations.{IsThenSymbol}
use Rattle.state_sets.specs.Within.{AreWithin}
use Rattle.arrow_table.specs.declared.look.Look.{Look}
use Rattle.arrow_table.specs.declared.look.Look.TheVariants as look
use Rattle.arrow_table.specs.declared.known.Known.{Known}
use Rattle.arrow_table.specs.declared.known.Known.TheVariants as known
use Rattle.arrow_table.specs.Looks.{map_at, HasMap, IsLook, IsLookFrom}
use Rattle.arrow_table.specs.Questions.{AreAnswers, Kept}
use Rattle.arrow_table.specs.Forgetting.{all_maps, forgotten_maps}

-- what a look says, as it is kept
abbrev pub known_by : Look → Known
known_by (look.Died alive) = known.Died alive
known_by (look.Shift to) = known.Step to
known_by (look.Reduce rule) = known.Reduce rule
known_by look.Stuck = known.Stuck

abbrev pub look_in : Known → Option Look
look_in known.Nothing = None
look_in (known.Died alive) = Some (look.Died alive)
look_in (known.Step to) = Some (look.Shift to)
look_in (known.Reduce rule) = Some (look.Reduce rule)
look_in known.Stuck = Some look.Stuck

-- rows of one width, one after the other; of a cell that isn't there nothing is known
abbrev pub Rows : Type 0
Rows = ℕ × List Known

abbrev pub cell_at : Rows → ℕ → ℕ → Known
cell_at rows row column = slice_index_or rows.1 (row * rows.0 + column) known.Nothing

-- nothing but one cell may have changed, and that to this
abbrev pub ChangesCell : Rows → Rows → ℕ → ℕ → Known → Type 0
ChangesCell old new row column to = (r c : ℕ) → c < old.0 → (cell_at new r c ≡ cell_at old r c) ⊎ ((r ≡ row) × (c ≡ column) × (cell_at new r c ≡ to))

-- what is known of a look at the token is what a look says, and the number that it names isn't below the base
abbrev pub IsLookKnown : Tables → List StateMap → ℕ → ℕ → ℕ → Known → Type 0
IsLookKnown t maps base id a k = (said : Look) → look_in k ≡ Some said → (id < length maps) × IsLook t a (map_at maps id) maps said × IsLookFrom base said

-- a step that is known along the name is one, to a map whose number isn't below the base
abbrev pub IsStepKnown : Tables → List StateMap → ℕ → ℕ → ℕ → Known → Type 0
IsStepKnown t maps base id n k = (to : ℕ) → k ≡ known.Step to → (id < length maps) × HasMap maps to (IsThenSymbol t (Name n) (map_at maps id)) × (base ≤ to)

-- the maps are within the tables, and what is known in the cells and of the questions is right; the first row is that of the
-- base
pub record AreRight (t : Tables) (maps : List StateMap) (base : ℕ) (looks steps : Rows) (kept : Kept) : Type 0 where
  pub within : All (AreWithin t.states) maps
  pub looks_right : (row a : ℕ) → a < looks.0 → IsLookKnown t maps base (base + row) a (cell_at looks row a)
  pub steps_right : (row n : ℕ) → n < steps.0 → IsStepKnown t maps base (base + row) n (cell_at steps row n)
  pub answers_right : AreAnswers t maps base kept

-- a table: so many maps are forgotten as the base says, no number is too great, and what is known is right
pub record IsTable (t : Tables) (forgotten : List (List StateMap)) (maps : List StateMap) (base : ℕ) (looks steps : Rows) (kept : Kept) : Type 0 where
  pub counted : base ≡ length (forgotten_maps forgotten)
  pub few : length (all_maps forgotten maps) ≤ 2 ^ 32
  pub right : AreRight t (all_maps forgotten maps) base looks steps kept
