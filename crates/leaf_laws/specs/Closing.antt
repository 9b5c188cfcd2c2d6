-- A leaf is closed where the states over it don't agree under the next token, or where no token is left. Its tokens are then
-- the first part of those that were left, and with its maps restricted to the alive starts it stands for them.
use Rattle.std.specs.Prelude.{◌≡◌, ℕ, List, [], ◌∷◌, ◌++◌, length}
use Rattle.grammar_data.specs.declared.token.Token.{Token as TextToken}
use Rattle.tree_theory.specs.Stores.{Store}
use Rattle.table_data.specs.Tables.{Tables}
use Rattle.lawful_theory.specs.Lawful.{IsLawful}
use Rattle.map_theory.specs.Agreements.{NoneLeft, AreSeveral}
use Rattle.part_theory.specs.Parts.{FirstPart, AreParts}
use Rattle.piece_theory.specs.Pieces.{Floor, Held, Piece}
use Rattle.piece_theory.specs.Applies.{StandsFor, TakesRight}
use Rattle.piece_theory.specs.WellMade.{start_of, AreFloors, AreSteps}
use Rattle.context_laws.specs.Contexts.{LeadFromStates}
use Rattle.level_laws.specs.Laws.{AreFresh}
use Rattle.leaf_laws.specs.Leaves.{IsLeaf, HasStart}

-- where all states err on the next token, before its look, the leaf has the first part
abbrev pub NonePartLaw : Type 0
NonePartLaw = (t : Tables) → IsLawful t → LeadFromStates t → (store : Store) (p : Piece) (w : List TextToken) (token : TextToken) (rest : List TextToken) (lower : List Floor) (f : Floor) (under : List Held) (h : Held) (stale : ℕ) → IsLeaf t store p w (token ∷ []) lower f under h stale → HasStart t p w f → NoneLeft t token.id h.states → FirstPart t p.first.id (w ++ token ∷ rest) (length w)

-- where several things are done on it
abbrev pub SeveralPartLaw : Type 0
SeveralPartLaw = (t : Tables) → IsLawful t → LeadFromStates t → (store : Store) (p : Piece) (w : List TextToken) (token : TextToken) (rest : List TextToken) (lower : List Floor) (f : Floor) (under : List Held) (h : Held) (stale : ℕ) → IsLeaf t store p w (token ∷ []) lower f under h stale → HasStart t p w f → AreSeveral t token.id h.states → FirstPart t p.first.id (w ++ token ∷ rest) (length w)

-- where no token is left
abbrev pub LastPartLaw : Type 0
LastPartLaw = (t : Tables) → IsLawful t → LeadFromStates t → (store : Store) (p : Piece) (w : List TextToken) (lower : List Floor) (f : Floor) (under : List Held) (h : Held) (stale : ℕ) → IsLeaf t store p w [] lower f under h stale → HasStart t p w f → FirstPart t p.first.id w (length w)

-- these parts, and then those of the rest, are the parts of the whole
abbrev pub AreClosed : Tables → List TextToken → List (List TextToken) → List TextToken → Type 0
AreClosed t whole parts rest = (others : List (List TextToken)) → AreParts t rest others → AreParts t whole (parts ++ others)

-- one part more is closed
abbrev pub ClosesLaw : Type 0
ClosesLaw = (t : Tables) (whole w rest later : List TextToken) (first : TextToken) (parts : List (List TextToken)) → w ≡ first ∷ later → FirstPart t first.id (w ++ rest) (length w) → AreClosed t whole parts (w ++ rest) → AreClosed t whole (parts ++ w ∷ []) rest

-- with its maps restricted to the alive starts the piece stands for its tokens, and its floors and maps are well made
pub record StandsAlone (t : Tables) (store : Store) (p : Piece) (w next : List TextToken) (f : Floor) : Type 0 where
  pub stands : StandsFor t store p w next
  pub right : TakesRight t p
  pub floors : AreFloors t p.first p.floors f.starts
  pub maps : AreSteps t store (start_of f.starts) p.stack

abbrev pub StandsLaw : Type 0
StandsLaw = (t : Tables) (store : Store) (p : Piece) (w next : List TextToken) (lower : List Floor) (f : Floor) (under : List Held) (h : Held) (stale : ℕ) (fresh : List Held) → IsLeaf t store p w next lower f under h stale → AreFresh f.starts p.stack fresh → StandsAlone t store (record p { stack = fresh }) w next f
