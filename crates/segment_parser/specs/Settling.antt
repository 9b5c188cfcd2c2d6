-- The parse of a segment between two tokens, and while the next one is looked at; by the place that it has come to in the
-- segment's tokens.
use Rattle.std.specs.Prelude.{◌≡◌, ℕ, ◌+◌, ◌⊎◌, List, [], ◌∷◌, ◌++◌, length, drop, Bool, true, false, Option, Some, None}
use Rattle.grammar_data.specs.declared.token.Token.{Token as TextToken}
use Rattle.tree_theory.specs.Stores.{Store}
use Rattle.table_data.specs.Tables.{Tables}
use Rattle.map_theory.specs.Maps.{StateMap}
use Rattle.map_theory.specs.Agreements.{NoneLeft, AreSeveral}
use Rattle.part_theory.specs.Parts.{FirstPart}
use Rattle.leaf_laws.specs.Leaves.{HasStart}
use Rattle.arrow_table.specs.Looks.{map_at}
use Rattle.segment_parser.specs.declared.leaf.Leaf.{Leaf}
use Rattle.segment_parser.specs.Working.{last_id}
use Rattle.segment_parser.specs.Standing.{last_in, piece_in, IsAt}

-- the tokens up to this place are parsed
pub record IsBetween (t : Tables) (store : Store) (maps : List StateMap) (s : Leaf) (tokens : List TextToken) (index : ℕ) : Type 0 where
  pub w : List TextToken
  pub at : IsAt t store maps s tokens w (drop index tokens) []
  pub start : HasStart t (piece_in maps s) w (last_in maps s)

-- the token at this place is looked at: some start is alive, or the open piece is known to have the first part
pub record IsLooking (t : Tables) (store : Store) (maps : List StateMap) (s : Leaf) (tokens : List TextToken) (index : ℕ) (token : TextToken) : Type 0 where
  pub w : List TextToken
  pub here : drop index tokens ≡ token ∷ drop (index + 1) tokens
  pub at : IsAt t store maps s tokens w (token ∷ drop (index + 1) tokens) (token ∷ [])
  pub start : HasStart t (piece_in maps s) w (last_in maps s) ⊎ FirstPart t (piece_in maps s).first.id (w ++ token ∷ drop (index + 1) tokens) (length w)

-- the states over the open piece don't agree on the token
abbrev pub IsStuckOn : Tables → List StateMap → Leaf → TextToken → Type 0
IsStuckOn t maps s token = NoneLeft t token.id (map_at maps (last_id s.ids.items)) ⊎ AreSeveral t token.id (map_at maps (last_id s.ids.items))

-- after a step under the token: it goes on, or the token is shifted, or the piece is stuck
abbrev pub IsStepped : Tables → Store → List StateMap → Leaf → List TextToken → ℕ → TextToken → Option Bool → Type 0
IsStepped t store maps s tokens index token None = IsLooking t store maps s tokens index token
IsStepped t store maps s tokens index token (Some true) = IsBetween t store maps s tokens (index + 1)
IsStepped t store maps s tokens index token (Some false) = IsLooking t store maps s tokens index token × IsStuckOn t maps s token
