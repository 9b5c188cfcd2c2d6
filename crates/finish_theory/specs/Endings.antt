-- The end of a parse from unknown contexts: the one context is the empty stack over state 0. A piece that has a floor with
-- this start alone and no entry says nothing but 'state 0'; the pieces of the text are put onto it, one after the other, as
-- the right piece of a join is put on the left one. On the empty stack no floor asks for more entries than there are, so each
-- is supplied whole.
-- Source: as of pieces; that the end is a join onto the start is this project's own.
use Rattle.std.specs.Prelude.{◌≡◌, ℕ, ◌≤◌, ◌<◌, List, [], ◌∷◌, ◌++◌, length, Contains, Some, None, IsSome}
use Rattle.grammar_data.specs.declared.token.Token.{Token as TextToken}
use Rattle.grammar_data.specs.Grammar.{Grammar}
use Rattle.node_data.specs.declared.kid.Kid.{Kid}
use Rattle.node_data.specs.declared.kid.Kid.TheVariants.{Hidden}
use Rattle.tree_theory.specs.Stores.{Ref, Store}
use Rattle.tree_theory.specs.Walks.{Step, WalksAll, tokens_in}
use Rattle.table_data.specs.declared.act.Act.TheVariants.{Shift}
use Rattle.table_data.specs.Tables.{Tables, act_in}
use Rattle.lawful_theory.specs.Lawful.{IsLawfulFor}
use Rattle.map_theory.specs.Maps.{target}
use Rattle.use_theory.specs.Counts.{count_in, times}
use Rattle.use_theory.specs.Distinct.{IsDistinct}
use Rattle.use_theory.specs.Kept.{IsKept, IsSame}
use Rattle.piece_theory.specs.Pieces.{Floor, Held, Piece, hidden_of, floor_nodes, kids_of}
use Rattle.piece_theory.specs.Applies.{nowhere, Tells, StandsFor}
use Rattle.piece_theory.specs.WellMade.{IsMade}
use Rattle.piece_theory.specs.Lists.{first_or, ArePieces, ArePiecesOf, nodes_of_floors}
use Rattle.join_theory.specs.Faults.{state_over, HasApart}
use Rattle.join_theory.specs.Composing.{ShiftsOn}
use Rattle.join_theory.specs.Floors.{IsPutOn, FitsOn, AreKeptFor, AreOver, TakesWhole}
use Rattle.joined_laws.specs.Joining.{Beside, HasNodes}

-- the one floor of a piece that stands for state 0
pub record IsGround (p : Piece) (e : Floor) : Type 0 where
  pub floors : p.floors ≡ e ∷ []
  pub unopened : e.opened ≡ None
  pub apart : HasApart e

-- the piece `p` has the tokens so far, from state 0, and the pieces `rest` are still to come
pub record IsEnding (t : Tables) (store : Store) (p : Piece) (e : Floor) (rest : List Piece) (w : List TextToken) : Type 0 where
  pub ground : IsGround p e
  pub tokens : List TextToken
  pub rest_tokens : List TextToken
  pub steps : List Step
  pub rest_steps : List Step
  pub tells : Tells t store p tokens (first_or [] rest) []
  pub after : ArePieces t store [] rest rest_tokens rest_steps
  pub parts : w ≡ tokens ++ rest_tokens
  pub visible : Contains {X = Kid} (kids_of p.stack) Hidden → ⊥
  pub walk : WalksAll store nowhere 0 (kids_of p.stack) steps
  pub yields : tokens_in steps ≡ tokens
  pub each_once : IsDistinct store (nodes_of_floors rest) (steps ++ rest_steps)

-- a piece is being put on: some of its floors are still to come
pub record IsEndPut (t : Tables) (store now : Store) (left right p : Piece) (e : Floor) (further : List Floor) (rest : List Piece) (w : List TextToken) : Type 0 where
  pub ground : IsGround p e
  pub tokens : List TextToken
  pub right_tokens : List TextToken
  pub rest_tokens : List TextToken
  pub right_steps : List Step
  pub beside : Beside
  pub before : beside.nodes_before ≡ []
  pub steps_before : beside.steps_before ≡ []
  pub behind : beside.nodes_behind ≡ nodes_of_floors rest
  pub taken : List Floor
  pub floors : right.floors ≡ taken ++ further
  pub tells : Tells t store left tokens (right.first ∷ []) []
  pub made_right : IsMade t store right right_tokens right_steps
  pub stands_right : StandsFor t store right right_tokens (first_or [] rest)
  pub fits : FitsOn t.rules store left right.floors []
  pub after : ArePieces t store [] rest rest_tokens beside.steps_behind
  pub parts : w ≡ (tokens ++ right_tokens) ++ rest_tokens
  pub kept : IsKept store now
  pub unchanged : (m : Ref) → count_in m (floor_nodes right.floors) ≡ 0 → now m ≡ store m
  pub elsewhere : (m : Ref) → 0 < times m beside.steps_behind → count_in m (floor_nodes right.floors) ≡ 0
  pub shifts : ShiftsOn t store left [] right.first
  pub nodes : HasNodes now p right further (tokens ++ right_tokens) beside
  pub put_on : IsPutOn t.rules store now (length tokens) left p e.starts taken further []

-- state 0 with no token yet, and all pieces to come
abbrev pub EndingStartLaw : Type 0
EndingStartLaw = (t : Tables) (store : Store) (p : Piece) (e : Floor) (ps : List Piece) (w : List TextToken) → p.floors ≡ e ∷ [] → e.opened ≡ None → e.faults ≡ [] → p.stack ≡ [] → ArePiecesOf t store ps w → IsEnding t store p e ps w

-- the piece becomes another, for the same tokens, and the pieces to come don't notice
abbrev pub EndingMoveLaw : Type 0
EndingMoveLaw = (t : Tables) (store new : Store) (p moved : Piece) (e e1 : Floor) (rest : List Piece) (w : List TextToken) (ending : IsEnding t store p e rest w) (steps : List Step) → IsGround moved e1 → Tells t new moved ending.tokens (first_or [] rest) [] → IsSame store new ending.rest_steps
    → (Contains {X = Kid} (kids_of moved.stack) Hidden → ⊥) → WalksAll new nowhere 0 (kids_of moved.stack) steps → tokens_in steps ≡ ending.tokens → IsDistinct new (nodes_of_floors rest) (steps ++ ending.rest_steps) → IsEnding t new moved e1 rest w

-- where the state over the entries shifts the next piece's first token, that piece is put on
abbrev pub EndPutStartLaw : Type 0
EndPutStartLaw = (g : Grammar) (t : Tables) → IsLawfulFor g t → (store : Store) (p right : Piece) (e : Floor) (rest : List Piece) (w : List TextToken) → IsEnding t store p e (right ∷ rest) w → IsSome (target e.starts 0) → ((z : ℕ) → state_over e.starts p.stack 0 ≡ Some z → (q : ℕ) × (act_in t z right.first.id ≡ Shift q))
    → IsEndPut t store store p right p e right.floors rest w

-- there are as many entries as the next floor takes
abbrev pub EnoughLaw : Type 0
EnoughLaw = (t : Tables) (store now : Store) (left right p : Piece) (e f : Floor) (further : List Floor) (rest : List Piece) (w : List TextToken) → IsEndPut t store now left right p e (f ∷ further) rest w → IsSome (target e.starts 0) → hidden_of f.opened ≤ length p.stack

-- so it is supplied whole
abbrev pub EndPutWholeLaw : Type 0
EndPutWholeLaw = (t : Tables) (store now new : Store) (left right p next : Piece) (e g f : Floor) (further : List Floor) (rest : List Piece) (w : List TextToken) (put : IsEndPut t store now left right p e (f ∷ further) rest w) → TakesWhole now new (length put.tokens) p next e g f → IsEndPut t store new left right next g further rest w

-- behind the last floor the entries are put on
abbrev pub EndPutEndLaw : Type 0
EndPutEndLaw = (g : Grammar) (t : Tables) → IsLawfulFor g t → (store now : Store) (left right p next : Piece) (e : Floor) (rest : List Piece) (w : List TextToken) (keep put : List Held) → IsEndPut t store now left right p e [] rest w → next.floors ≡ p.floors → next.stack ≡ keep ++ put → AreKeptFor e.starts p.stack keep → AreOver (state_over e.starts p.stack) e.starts right.stack put
    → IsEnding t now next e rest w
