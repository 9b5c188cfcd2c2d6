-- The parts of a token list that is parsed from unknown contexts. A context of tokens is a valid stack whose state on top
-- shifts the first of them. A list of moves is agreed where some context's moves over the tokens begin with it, and each
-- context makes all of it or errs before its end. The first part of the tokens is what the longest agreed list shifts, or
-- one token where no stack is a context; the others are the parts of what follows. No map of states occurs here.
-- Source: parsing without the left context after Fischer, On Parsing Context Free Languages in Parallel Environments,
-- 1975, and Mickunas and Schell, Parallel Compilation in a Multiprocessor Environment, 1978; the parts are this project's
-- own.
use Rattle.std.specs.Prelude.{◌≡◌, ◌≢◌, ℕ, ◌<◌, ◌≤◌, ◌⊎◌, List, [], ◌∷◌, ◌++◌, length, Some}
use Rattle.grammar_data.specs.declared.token.Token.{Token as TextToken}
use Rattle.table_data.specs.declared.act.Act.{Act}
use Rattle.table_data.specs.declared.act.Act.TheVariants.{Shift, Error}
use Rattle.table_data.specs.Tables.{Tables, act_in}
use Rattle.machine_theory.specs.Machine.{Entry, top, IsStack}
use Rattle.part_theory.specs.Moves.{Move, move_of, Runs, shifts_in, Begins}

-- a context of tokens whose first one has the number `a`: a valid stack whose state on top shifts it
pub record IsContext (t : Tables) (a : ℕ) (s : List Entry) : Type 0 where
  pub stack : IsStack t 0 s
  pub state : ℕ
  pub shifts : act_in t (top 0 s) a ≡ Shift state

-- the moves that the machine makes from the stack over the tokens begin with these
pub record Makes (t : Tables) (w : List TextToken) (s : List Entry) (moves : List Move) : Type 0 where
  pub last : List Entry
  pub rest : List TextToken
  pub run : Runs t 0 s w last rest moves

-- the machine makes fewer of these moves from the stack over the tokens, and errs
pub record ErrsWithin (t : Tables) (w : List TextToken) (s : List Entry) (moves : List Move) : Type 0 where
  pub made : List Move
  pub next : Move
  pub more : List Move
  pub parts : made ++ next ∷ more ≡ moves
  pub last : List Entry
  pub token : TextToken
  pub later : List TextToken
  pub run : Runs t 0 s w last (token ∷ later) made
  pub error : act_in t (top 0 last) token.id ≡ Error

-- a list of moves over the tokens `w`, whose first one has the number `a`, that the contexts agree on
pub record IsAgreed (t : Tables) (a : ℕ) (w : List TextToken) (moves : List Move) : Type 0 where
  pub context : List Entry
  pub is_context : IsContext t a context
  pub makes : Makes t w context moves
  pub each : (s : List Entry) → IsContext t a s → Makes t w s moves ⊎ ErrsWithin t w s moves

-- no agreed list is longer
abbrev pub IsLongest : Tables → ℕ → List TextToken → List Move → Type 0
IsLongest t a w moves = (others : List Move) → IsAgreed t a w others → length others ≤ length moves

-- how many tokens the first part of the tokens has
pub data FirstPart (t : Tables) (a : ℕ) (w : List TextToken) (count : ℕ) : Type 0 where
  no_context : ((s : List Entry) → ¬ (IsContext t a s)) → count ≡ 1 → FirstPart t a w count
  agreed_part : (moves : List Move) → IsAgreed t a w moves → IsLongest t a w moves → count ≡ shifts_in moves → FirstPart t a w count

-- the parts of a token list
pub data AreParts (t : Tables) : List TextToken → List (List TextToken) → Type 0 where
  no_parts : AreParts t [] []
  part_then : {token : TextToken} {later : List TextToken} {parts : List (List TextToken)} (part rest : List TextToken) → token ∷ later ≡ part ++ rest → FirstPart t token.id (token ∷ later) (length part) → AreParts t rest parts → AreParts t (token ∷ later) (part ∷ parts)

-- a token list has so many parts
abbrev pub HasParts : Tables → List TextToken → ℕ → Type 0
HasParts t w count = (parts : List (List TextToken)) × AreParts t w parts × (length parts ≡ count)

-- the moves lead from the stack before a token on which the state on top then has this action
pub record GoOnWith (t : Tables) (w : List TextToken) (s : List Entry) (moves : List Move) (act : Act) : Type 0 where
  pub last : List Entry
  pub token : TextToken
  pub later : List TextToken
  pub run : Runs t 0 s w last (token ∷ later) moves
  pub does : act_in t (top 0 last) token.id ≡ act

-- two agreed lists are comparable
abbrev pub AgreedLaw : Type 0
AgreedLaw = (t : Tables) (a : ℕ) (w : List TextToken) (moves others : List Move) → IsAgreed t a w moves → IsAgreed t a w others → Begins moves others ⊎ Begins others moves

-- where each context that makes these moves then makes no move, or has no token left, and each other one errs within them,
-- no agreed list is longer
abbrev pub NoneFollowsLaw : Type 0
NoneFollowsLaw = (t : Tables) (a : ℕ) (w : List TextToken) (moves : List Move) → ((s : List Entry) → IsContext t a s → Makes t w s moves ⊎ ErrsWithin t w s moves) → ((s : List Entry) (act : Act) (move : Move) → IsContext t a s → GoOnWith t w s moves act → move_of act ≢ Some move) → IsLongest t a w moves

-- where two contexts make these moves and then don't err and don't make the same move, no agreed list is longer; the two
-- may be one that accepts
abbrev pub PartedLaw : Type 0
PartedLaw = (t : Tables) (a : ℕ) (w : List TextToken) (moves : List Move) (s r : List Entry) (act other : Act) → IsContext t a s → IsContext t a r → GoOnWith t w s moves act → GoOnWith t w r moves other → act ≢ Error → other ≢ Error → ((move : Move) → move_of act ≡ Some move → move_of other ≢ Some move) → IsLongest t a w moves

-- a first part has one length
abbrev pub OneFirstPartLaw : Type 0
OneFirstPartLaw = (t : Tables) (a : ℕ) (w : List TextToken) (count other : ℕ) → FirstPart t a w count → FirstPart t a w other → count ≡ other

-- it has some tokens, and no more than there are
abbrev pub FirstPartBoundsLaw : Type 0
FirstPartBoundsLaw = (t : Tables) (token : TextToken) (later : List TextToken) (count : ℕ) → FirstPart t token.id (token ∷ later) count → (0 < count) × (count ≤ length (token ∷ later))

-- a token list has one list of parts, and one number of them
abbrev pub OnePartsLaw : Type 0
OnePartsLaw = (t : Tables) (w : List TextToken) (parts others : List (List TextToken)) → AreParts t w parts → AreParts t w others → parts ≡ others

abbrev pub OneNumberLaw : Type 0
OneNumberLaw = (t : Tables) (w : List TextToken) (count other : ℕ) → HasParts t w count → HasParts t w other → count ≡ other
