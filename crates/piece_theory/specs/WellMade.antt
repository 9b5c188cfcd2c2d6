-- Well made pieces. The starts of the first floor, alive or with a fault, are exactly the states that shift the first
-- token; those of a later floor exactly the states from which its hidden symbols lead to an alive start of the floor below.
-- A later floor hides at least one symbol and not all of its rule, and of its node's kids exactly the first ones, as many
-- as it hides, are hidden. Each entry's map takes the last floor's alive starts one step on along the entry's symbol, from
-- the entry below. The walk over the entries has the piece's tokens, and it enters the nodes of the floors from the last
-- floor to the first with no token before any of them, since what they hide stands in front of the tokens.
-- Where the last floor has no alive start, no context reaches the entries, and their maps are empty.
-- Source: as of pieces; the clauses are this project's own.
use Rattle.std.specs.Prelude.{◌≡◌, ◌≢◌, ℕ, ◌<◌, ◌⊎◌, List, [], ◌∷◌, ◌++◌, reverse, length, replicate, All, AllPairs, Option, Some, None, IsSome, option_and_then}
use Rattle.grammar_data.specs.declared.rule.Sym.{Sym}
use Rattle.grammar_data.specs.declared.rule.Sym.TheVariants.{Token}
use Rattle.grammar_data.specs.declared.token.Token.{Token as TextToken}
use Rattle.node_data.specs.declared.kid.Kid.{Kid}
use Rattle.node_data.specs.declared.kid.Kid.TheVariants.{Hidden}
use Rattle.tree_theory.specs.Stores.{Store}
use Rattle.tree_theory.specs.Walks.{Step, WalksAll, tokens_in}
use Rattle.table_data.specs.Tables.{Tables, step_by}
use Rattle.map_theory.specs.Maps.{StateMap, target, IsRising, walk_by}
use Rattle.use_theory.specs.Spines.{IsSpine}
use Rattle.piece_theory.specs.Pieces.{Fault, Opened, Floor, Held, Piece, fault_at, openings, floor_nodes, kids_of}
use Rattle.piece_theory.specs.Applies.{HasSymbol, right_of, hidden_symbols, nowhere}

-- a state that shifts the token leads to itself
abbrev pub shifting : Tables → TextToken → ℕ → Option ℕ
shifting t token q = option_and_then (λ p. Some q) (step_by t q (Token token.id))

-- a start of a map, as itself
abbrev pub start_of : StateMap → ℕ → Option ℕ
start_of m q = option_and_then (λ p. Some q) (target m q)

-- a state from which the hidden symbols lead to an alive start of the floor below leads to that start
abbrev pub leading : Tables → Opened → StateMap → ℕ → Option ℕ
leading t opened below q = option_and_then (λ b. start_of below b) (walk_by t q (hidden_symbols t.rules (Some opened)))

-- the starts of a floor, alive or with a fault, are exactly those that lead on, each once, and an alive one is mapped to
-- what it leads to
pub record IsLevel (lead : ℕ → Option ℕ) (f : Floor) : Type 0 where
  pub starts : (q b : ℕ) → target f.starts q ≡ Some b → lead q ≡ Some b
  pub faults : (q : ℕ) → IsSome (fault_at f.faults q) → IsSome (lead q)
  pub covered : (q : ℕ) → IsSome (lead q) → IsSome (target f.starts q) ⊎ IsSome (fault_at f.faults q)
  pub apart : (q : ℕ) → IsSome (target f.starts q) → fault_at f.faults q ≡ None
  pub rising : IsRising f.starts
  pub once : AllPairs {X = Fault} (λ x y. x.start ≢ y.start) f.faults

-- the floors above a floor with these alive starts, and the alive starts of the last one
pub data AreLevels (t : Tables) : StateMap → List Floor → StateMap → Type 0 where
  no_level : {below : StateMap} → AreLevels t below [] below
  level_above : {below last : StateMap} {f : Floor} {fs : List Floor} (opened : Opened) → f.opened ≡ Some opened → 0 < opened.hidden → opened.hidden < length (right_of t.rules opened.rule) → IsLevel (leading t opened below) f → AreLevels t f.starts fs last → AreLevels t below (f ∷ fs) last

-- the floors of a piece with this first token, and the alive starts of the last floor
pub record AreFloors (t : Tables) (first : TextToken) (floors : List Floor) (last : StateMap) : Type 0 where
  pub ground : Floor
  pub upper : List Floor
  pub parts : floors ≡ ground ∷ upper
  pub unopened : ground.opened ≡ None
  pub shifts : IsLevel (shifting t first) ground
  pub levels : AreLevels t ground.starts upper last

-- the same from the last floor down: the lower floors and the last one
pub data AreStacked (t : Tables) (first : TextToken) : List Floor → Floor → Type 0 where
  on_ground : {f : Floor} → f.opened ≡ None → IsLevel (shifting t first) f → AreStacked t first [] f
  on_floor : {lower floors : List Floor} {below f : Floor} (opened : Opened) → AreStacked t first lower below → floors ≡ lower ++ below ∷ [] → f.opened ≡ Some opened → 0 < opened.hidden → opened.hidden < length (right_of t.rules opened.rule) → IsLevel (leading t opened below.starts) f → AreStacked t first floors f

-- the node of a floor has its rule, and of its kids the first ones, as many as the floor hides, are hidden, and no others
pub record HasHidden (store : Store) (opened : Opened) : Type 0 where
  pub kids : List Kid
  pub found : store opened.node ≡ Some (opened.rule, replicate opened.hidden Hidden ++ kids)
  pub shown : All {X = Kid} (λ kid. kid ≢ Hidden) kids

-- the maps of the entries, the lowest first, take the states over which they are pushed one step on, along their symbols
pub data AreSteps (t : Tables) (store : Store) : (ℕ → Option ℕ) → List Held → Type 0 where
  no_step : {from : ℕ → Option ℕ} → AreSteps t store from []
  step_on : {from : ℕ → Option ℕ} {h : Held} {hs : List Held} (x : Sym) → HasSymbol t.rules store h.kid x → IsRising h.states → ((q : ℕ) → target h.states q ≡ option_and_then (λ p. step_by t p x) (from q)) → AreSteps t store (target h.states) hs → AreSteps t store from (h ∷ hs)

-- the piece is well made, its tokens are `tokens`, and `steps` is the walk over its entries
pub record IsMade (t : Tables) (store : Store) (p : Piece) (tokens : List TextToken) (steps : List Step) : Type 0 where
  pub last : StateMap
  pub floors : AreFloors t p.first p.floors last
  pub nodes : All {X = Opened} (HasHidden store) (openings p.floors)
  pub some_entry : 0 < length p.stack
  pub maps : AreSteps t store (start_of last) p.stack
  pub walk : WalksAll store nowhere 0 (kids_of p.stack) steps
  pub yields : tokens_in steps ≡ tokens
  pub later : List TextToken
  pub begins : tokens ≡ p.first ∷ later
  pub counted : length tokens ≡ p.count
  pub spine : IsSpine (reverse (floor_nodes p.floors)) steps
