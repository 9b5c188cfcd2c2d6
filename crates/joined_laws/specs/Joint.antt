-- The whole of a join of two pieces, step by step: what two pieces that meet have, what holds between two floors of the right
-- one, and what the joined piece has in the end.
use Rattle.std.specs.Prelude.{◌≡◌, ◌+◌, ◌<◌, ◌≤◌, List, [], ◌∷◌, ◌++◌, length, All}
use Rattle.grammar_data.specs.declared.token.Token.{Token as TextToken}
use Rattle.grammar_data.specs.Grammar.{Grammar}
use Rattle.tree_theory.specs.Stores.{Ref, Store}
use Rattle.tree_theory.specs.Walks.{Step}
use Rattle.table_data.specs.Tables.{Tables}
use Rattle.machine_theory.specs.Machine.{Entry}
use Rattle.lawful_theory.specs.Lawful.{IsLawfulFor}
use Rattle.part_theory.specs.Parts.{IsContext}
use Rattle.use_theory.specs.Counts.{count_in}
use Rattle.use_theory.specs.Distinct.{IsDistinct}
use Rattle.use_theory.specs.Kept.{IsKept}
use Rattle.piece_theory.specs.Pieces.{Opened, Floor, Held, Piece, openings, floor_nodes}
use Rattle.piece_theory.specs.Applies.{StandsFor, TakesRight, right_of}
use Rattle.piece_theory.specs.WellMade.{IsMade}
use Rattle.level_laws.specs.Laws.{AreFresh}
use Rattle.context_laws.specs.Contexts.{LeadFromStates}
use Rattle.join_theory.specs.Faults.{state_over}
use Rattle.join_theory.specs.Floors.{IsPutOn, TakesWhole, TakesPart}
use Rattle.joined_laws.specs.Joining.{Beside, all_nodes, all_steps, HasNodes, HasFloors, ArePut}
use Rattle.joined_laws.specs.Meeting.{AllShiftOver}

-- two pieces in one store: the left one stands for its tokens followed by the right one's first, on which all its alive starts
-- shift, and the right one for its own followed by what comes next
pub record Meet (t : Tables) (store : Store) (left right : Piece) (u v next : List TextToken) (steps more : List Step) : Type 0 where
  pub made : IsMade t store left u steps
  pub made_right : IsMade t store right v more
  pub stands : StandsFor t store left u (right.first ∷ [])
  pub stands_right : StandsFor t store right v next
  pub takes : TakesRight t left
  pub takes_right : TakesRight t right
  pub shifts : AllShiftOver t left made.last right.first

-- floors hide fewer symbols than their rules have
abbrev pub HideFewer : Tables → List Floor → Type 0
HideFewer t floors = All {X = Opened} (λ opened. opened.hidden < length (right_of t.rules opened.rule)) (openings floors)

-- between two floors of the right piece: `p` is the joined piece so far, `e` the last of its floors
pub record IsJoining (t : Tables) (store now : Store) (left right p : Piece) (u v : List TextToken) (beside : Beside) (lower : List Floor) (e : Floor) (further : List Floor) : Type 0 where
  pub taken : List Floor
  pub parts : right.floors ≡ taken ++ further
  pub first : p.first ≡ left.first
  pub kept : IsKept store now
  pub unchanged : (m : Ref) → count_in m (floor_nodes right.floors) ≡ 0 → now m ≡ store m
  pub floors : HasFloors t now p lower e
  pub nodes : HasNodes now p right further (u ++ v) beside
  pub fewer : HideFewer t further
  pub once : (x : Ref) → count_in x (floor_nodes left.floors) ≤ 1
  pub put_on : (s : List Entry) → IsContext t left.first.id s → IsPutOn t.rules store now (length u) left p e.starts taken further s

-- the joined piece, its walk and its nodes
pub record IsJoined (t : Tables) (store now : Store) (right p : Piece) (tokens next : List TextToken) (beside : Beside) : Type 0 where
  pub steps : List Step
  pub made : IsMade t now p tokens steps
  pub stands : StandsFor t now p tokens next
  pub takes : TakesRight t p
  pub each_once : IsDistinct now (beside.nodes_before ++ (floor_nodes p.floors ++ beside.nodes_behind)) (beside.steps_before ++ (steps ++ beside.steps_behind))
  pub kept : IsKept store now
  pub unchanged : (m : Ref) → count_in m (floor_nodes right.floors) ≡ 0 → now m ≡ store m

-- before any floor
abbrev pub JoinStartLaw : Type 0
JoinStartLaw = (g : Grammar) (t : Tables) → IsLawfulFor g t → (store : Store) (left right : Piece) (u v next : List TextToken) (steps more : List Step) (beside : Beside) → Meet t store left right u v next steps more → IsDistinct store (all_nodes beside left.floors right.floors) (all_steps beside steps more)
    → (lower : List Floor) × (e : Floor) × IsJoining t store store left right left u v beside lower e right.floors

-- a floor that the entries supply whole
abbrev pub JoinWholeLaw : Type 0
JoinWholeLaw = (g : Grammar) (t : Tables) → IsLawfulFor g t → (store now new : Store) (left right p joined : Piece) (u v next : List TextToken) (steps more : List Step) (beside : Beside) (lower : List Floor) (e g1 f : Floor) (further : List Floor) → Meet t store left right u v next steps more
    → TakesWhole now new (length u) p joined e g1 f → joined.first ≡ p.first → IsJoining t store now left right p u v beside lower e (f ∷ further) → IsJoining t store new left right joined u v beside lower g1 further

-- a floor that they supply in part
abbrev pub JoinPartLaw : Type 0
JoinPartLaw = (g : Grammar) (t : Tables) → IsLawfulFor g t → (store now new : Store) (left right p joined : Piece) (u v next : List TextToken) (steps more : List Step) (beside : Beside) (lower : List Floor) (e g1 f : Floor) (further : List Floor) → Meet t store left right u v next steps more
    → TakesPart t now new (length u) p joined e g1 f → joined.first ≡ p.first → IsJoining t store now left right p u v beside lower e (f ∷ further) → IsJoining t store new left right joined u v beside p.floors g1 further

-- behind the last floor the entries of the right piece are put on those that are left, with the alive starts alone
abbrev pub JoinEndLaw : Type 0
JoinEndLaw = (g : Grammar) (t : Tables) → IsLawfulFor g t → LeadFromStates t → (store now : Store) (left right p joined : Piece) (u v next : List TextToken) (steps more : List Step) (beside : Beside) (lower : List Floor) (e : Floor) (keep put : List Held) → Meet t store left right u v next steps more
    → IsJoining t store now left right p u v beside lower e [] → AreFresh e.starts p.stack keep → ArePut (state_over e.starts keep) right.stack put
    → joined.first ≡ p.first → joined.count ≡ left.count + right.count → joined.floors ≡ p.floors → joined.stack ≡ keep ++ put → IsJoined t store now right joined (u ++ v) next beside
