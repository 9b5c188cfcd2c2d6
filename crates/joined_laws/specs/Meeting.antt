-- What the left piece leaves of its contexts, where all its alive starts shift the right piece's first token, are contexts of
-- the right piece; and the states over the joined piece's entries are alive starts of the right piece's last floor.
use Rattle.std.specs.Prelude.{◌≡◌, ℕ, ◌≤◌, List, [], ◌∷◌, ◌++◌, Some, IsSome}
use Rattle.grammar_data.specs.declared.token.Token.{Token as TextToken}
use Rattle.grammar_data.specs.Grammar.{Grammar}
use Rattle.tree_theory.specs.Stores.{Ref, Store}
use Rattle.table_data.specs.declared.act.Act.TheVariants.{Shift}
use Rattle.table_data.specs.Tables.{Tables, act_in}
use Rattle.machine_theory.specs.Machine.{Entry}
use Rattle.lawful_theory.specs.Lawful.{IsLawfulFor}
use Rattle.map_theory.specs.Maps.{StateMap, target}
use Rattle.part_theory.specs.Parts.{IsContext}
use Rattle.use_theory.specs.Counts.{count_in}
use Rattle.piece_theory.specs.Pieces.{Floor, Piece, floor_nodes}
use Rattle.piece_theory.specs.Applies.{Leaves, Tells, TakesRight}
use Rattle.piece_theory.specs.WellMade.{AreFloors, AreStacked}
use Rattle.context_laws.specs.Contexts.{LeadFromStates}
use Rattle.join_theory.specs.Faults.{state_over}
use Rattle.join_theory.specs.Floors.{IsPutOn}

-- each alive start of the left piece has a state over its entries that shifts the token
abbrev pub AllShiftOver : Tables → Piece → StateMap → TextToken → Type 0
AllShiftOver t left starts token = (q z : ℕ) → IsSome (target starts q) → state_over starts left.stack q ≡ Some z → (p : ℕ) × (act_in t z token.id ≡ Shift p)

-- what the left piece leaves is a context of the right one
abbrev pub MeetLaw : Type 0
MeetLaw = (g : Grammar) (t : Tables) → IsLawfulFor g t → (store : Store) (left : Piece) (starts : StateMap) (token : TextToken) (u next : List TextToken) (s mid : List Entry)
    → AreFloors t left.first left.floors starts → TakesRight t left → ((x : Ref) → count_in x (floor_nodes left.floors) ≤ 1) → AllShiftOver t left starts token
    → IsContext t left.first.id s → Tells t store left u next s → Leaves t.rules store left s mid → IsContext t token.id mid

-- where all floors of the right piece are put on, the states over the entries are alive starts of its last floor
abbrev pub LandsLaw : Type 0
LandsLaw = (g : Grammar) (t : Tables) → IsLawfulFor g t → LeadFromStates t → (store now : Store) (tokens : ℕ) (left right p : Piece) (lower : List Floor) (e : Floor) (last : StateMap)
    → AreStacked t left.first lower e → p.floors ≡ lower ++ e ∷ [] → AreFloors t right.first right.floors last → TakesRight t right
    → ((s : List Entry) → IsContext t left.first.id s → IsPutOn t.rules store now tokens left p e.starts right.floors [] s)
    → ((s mid : List Entry) → IsContext t left.first.id s → Leaves t.rules store left s mid → IsContext t right.first.id mid)
    → (q z : ℕ) → IsSome (target e.starts q) → state_over e.starts p.stack q ≡ Some z → IsSome (target last z)
