-- The joined piece is well made. Between two floors of the right piece, the floors of the joined piece so far are exact, the
-- maps of its entries are exact at the alive starts, and the nodes of its floors and of those still to come have their
-- hidden kids. The walk over its entries and the one over the right piece's entries have together all tokens. The nodes
-- of the floors still to come stand at the left edge of the second walk, before the others' nodes that it has; those of the
-- joined piece's floors at the left edge of both walks. Each node of the store is used once, by these walks and by those
-- of the pieces in front and behind.
use Rattle.std.specs.Prelude.{◌≡◌, ℕ, ◌+◌, ◌<◌, List, [], ◌∷◌, ◌++◌, reverse, length, All, Contains, Option, Some, IsSome, option_and_then}
use Rattle.grammar_data.specs.declared.token.Token.{Token as TextToken}
use Rattle.node_data.specs.declared.kid.Kid.{Kid}
use Rattle.node_data.specs.declared.kid.Kid.TheVariants.{Hidden}
use Rattle.tree_theory.specs.Stores.{Ref, Store}
use Rattle.tree_theory.specs.Walks.{Step, WalksAll, tokens_in}
use Rattle.table_data.specs.Tables.{Tables}
use Rattle.map_theory.specs.Maps.{target, IsMapOf}
use Rattle.use_theory.specs.Counts.{count_in, times}
use Rattle.use_theory.specs.Distinct.{IsDistinct}
use Rattle.use_theory.specs.Kept.{IsKept}
use Rattle.use_theory.specs.Spines.{IsSpine}
use Rattle.piece_theory.specs.Pieces.{Opened, Floor, Held, Piece, openings, floor_nodes, kids_of}
use Rattle.piece_theory.specs.Applies.{nowhere, right_of}
use Rattle.piece_theory.specs.WellMade.{HasHidden, start_of, AreStacked, IsMade}
use Rattle.level_laws.specs.Growing.{FollowOn}
use Rattle.level_laws.specs.Laws.{AreFresh}
use Rattle.join_theory.specs.Faults.{state_over}
use Rattle.join_theory.specs.Floors.{TakesWhole, TakesPart}

-- what stands in front of and behind the two pieces: the nodes of floors, and the walks
pub record Beside : Type 0 where
  pub nodes_before : List Ref
  pub nodes_behind : List Ref
  pub steps_before : List Step
  pub steps_behind : List Step

-- all nodes of floors, and the whole walk
abbrev pub all_nodes : Beside → List Floor → List Floor → List Ref
all_nodes beside floors further = beside.nodes_before ++ ((floor_nodes floors ++ floor_nodes further) ++ beside.nodes_behind)

abbrev pub all_steps : Beside → List Step → List Step → List Step
all_steps beside steps more = beside.steps_before ++ (steps ++ (more ++ beside.steps_behind))

-- the nodes of the joined piece so far, `p`, and of the right piece
pub record HasNodes (now : Store) (p right : Piece) (further : List Floor) (tokens : List TextToken) (beside : Beside) : Type 0 where
  pub nodes : All {X = Opened} (HasHidden now) (openings p.floors)
  pub visible : Contains {X = Kid} (kids_of p.stack) Hidden → ⊥
  pub further_nodes : All {X = Opened} (HasHidden now) (openings further)
  pub steps : List Step
  pub more : List Step
  pub walk : WalksAll now nowhere 0 (kids_of p.stack) steps
  pub more_walk : WalksAll now nowhere 0 (kids_of right.stack) more
  pub yields : tokens_in steps ++ tokens_in more ≡ tokens
  pub edge : List Step
  pub rest : List Step
  pub parts : more ≡ edge ++ rest
  pub further_spine : IsSpine (reverse (floor_nodes further)) edge
  pub apart : (x : Ref) → 0 < count_in x (floor_nodes p.floors) → times x edge ≡ 0
  pub spine : IsSpine (reverse (floor_nodes p.floors)) (steps ++ more)
  pub each_once : IsDistinct now (all_nodes beside p.floors further) (all_steps beside steps more)

-- the floors and the maps of the joined piece so far
pub record HasFloors (t : Tables) (now : Store) (p : Piece) (lower : List Floor) (e : Floor) : Type 0 where
  pub on_floors : p.floors ≡ lower ++ e ∷ []
  pub floors : AreStacked t p.first lower e
  pub maps : FollowOn t now e.starts (start_of e.starts) p.stack

-- entries that are put on others: the kids, and the exact states over the states over the others
pub data ArePut (states : ℕ → Option ℕ) : List Held → List Held → Type 0 where
  none_put : ArePut states [] []
  put_next : {h k : Held} {hs ks : List Held} → k.kid ≡ h.kid → IsMapOf (λ q. option_and_then (target h.states) (states q)) k.states → ArePut states hs ks → ArePut states (h ∷ hs) (k ∷ ks)

-- the left piece itself
abbrev pub NodesStartLaw : Type 0
NodesStartLaw = (t : Tables) (store : Store) (left right : Piece) (u v : List TextToken) (steps more : List Step) (beside : Beside) → IsMade t store left u steps → IsMade t store right v more → IsDistinct store (all_nodes beside left.floors right.floors) (all_steps beside steps more) → HasNodes store left right right.floors (u ++ v) beside

abbrev pub FloorsStartLaw : Type 0
FloorsStartLaw = (t : Tables) (store : Store) (left : Piece) (u : List TextToken) (steps : List Step) → IsMade t store left u steps → (lower : List Floor) × (e : Floor) × HasFloors t store left lower e

-- a floor that is supplied whole
abbrev pub NodesWholeLaw : Type 0
NodesWholeLaw = (now new : Store) (tokens : ℕ) (p next right : Piece) (e g f : Floor) (further : List Floor) (w : List TextToken) (beside : Beside) → (takes : TakesWhole now new tokens p next e g f) → HasNodes now p right (f ∷ further) w beside → HasNodes new next right further w beside × IsKept now new

abbrev pub FloorsWholeLaw : Type 0
FloorsWholeLaw = (t : Tables) (now new : Store) (tokens : ℕ) (p next : Piece) (lower : List Floor) (e g f : Floor) → (takes : TakesWhole now new tokens p next e g f) → next.first ≡ p.first → IsKept now new → HasFloors t now p lower e → HasFloors t new next lower g

-- a floor that is supplied in part
abbrev pub NodesPartLaw : Type 0
NodesPartLaw = (t : Tables) (now new : Store) (tokens : ℕ) (p next right : Piece) (e g f : Floor) (further : List Floor) (w : List TextToken) (beside : Beside) → TakesPart t now new tokens p next e g f → HasNodes now p right (f ∷ further) w beside → HasNodes new next right further w beside × IsKept now new

abbrev pub FloorsPartLaw : Type 0
FloorsPartLaw = (t : Tables) (now new : Store) (tokens : ℕ) (p next : Piece) (lower : List Floor) (e g f : Floor) → (takes : TakesPart t now new tokens p next e g f) → next.first ≡ p.first → takes.opened.hidden < length (right_of t.rules takes.opened.rule) → HasFloors t now p lower e → HasFloors t new next p.floors g

-- behind the last floor the entries of the right piece are put on those that are left: the joined piece is well made
abbrev pub MadeLaw : Type 0
MadeLaw = (t : Tables) (store now : Store) (left right p next : Piece) (u v : List TextToken) (steps more : List Step) (lower : List Floor) (e : Floor) (keep put : List Held) (beside : Beside) (made : IsMade t store right v more)
    → IsMade t store left u steps → HasFloors t now p lower e → (has : HasNodes now p right [] (u ++ v) beside) → IsKept store now
    → AreFresh e.starts p.stack keep → ArePut (state_over e.starts keep) right.stack put → ((q z : ℕ) → IsSome (target e.starts q) → state_over e.starts p.stack q ≡ Some z → IsSome (target made.last z))
    → p.first ≡ left.first → next.first ≡ p.first → next.count ≡ left.count + right.count → next.floors ≡ p.floors → next.stack ≡ keep ++ put
    → IsMade t now next (u ++ v) (has.steps ++ has.more)
