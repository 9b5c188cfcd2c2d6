-- The laws of the parse of a segment: what each step of its open piece does, what a close does, and what stands at the end.
use Rattle.std.specs.Prelude.{◌≡◌, ℕ, ◌+◌, ◌⊎◌, List, [], ◌∷◌, ◌++◌, length, None}
use Rattle.grammar_data.specs.declared.rule.Sym.{Sym}
use Rattle.grammar_data.specs.declared.token.Token.{Token as TextToken}
use Rattle.tree_theory.specs.Stores.{Ref, Store}
use Rattle.table_data.specs.Tables.{Tables}
use Rattle.map_theory.specs.Agreements.{NoneLeft, AreSeveral}
use Rattle.part_theory.specs.Parts.{FirstPart, AreParts, HasParts}
use Rattle.piece_theory.specs.Pieces.{Floor, Held, Piece}
use Rattle.piece_theory.specs.Lists.{ArePiecesOf}
use Rattle.level_laws.specs.Laws.{AreFresh}
use Rattle.leaf_laws.specs.Leaves.{IsLeaf}
use Rattle.leaf_laws.specs.Steps.{Opens, LooksAt, ShiftsIt, PutsNode, TakesSome, TakesAll, OpensFloor}
use Rattle.segment_laws.specs.Parsing.{HaveParts, IsParsing}

-- a store has no nodes
abbrev pub HasNoNodes : Store → Type 0
HasNoNodes store = (m : Ref) → store m ≡ None

-- the pieces are those of the parts of the tokens: as many, and each with the tokens of its part
abbrev pub AreByParts : Tables → Store → List Piece → List TextToken → Type 0
AreByParts t store ps tokens = (parts : List (List TextToken)) × AreParts t tokens parts × HaveParts store ps parts

-- no tokens: no piece, no part and no node
abbrev pub NoTokensLaw : Type 0
NoTokensLaw = (t : Tables) (store : Store) → HasNoNodes store → ArePiecesOf t store [] [] × AreByParts t store [] []

-- so there are as many pieces as parts
abbrev pub NumberLaw : Type 0
NumberLaw = (t : Tables) (store : Store) (ps : List Piece) (tokens : List TextToken) → AreByParts t store ps tokens → HasParts t tokens (length ps)

-- the first piece is opened
abbrev pub BeginsLaw : Type 0
BeginsLaw = (t : Tables) (store : Store) (p : Piece) (f : Floor) (h : Held) (rest : List TextToken) → HasNoNodes store → Opens t p f h → p.count ≡ 1 → IsParsing t store (p.first ∷ rest) [] p (p.first ∷ []) rest

-- a look
abbrev pub LooksParsingLaw : Type 0
LooksParsingLaw = (t : Tables) (store : Store) (tokens : List TextToken) (ps : List Piece) (p looked : Piece) (w rest : List TextToken) (token : TextToken) (index : ℕ) (lower : List Floor) (f g : Floor) (under : List Held) (h fresh : Held) → IsParsing t store tokens ps p w rest → p.floors ≡ lower ++ f ∷ [] → p.stack ≡ under ++ h ∷ [] → LooksAt t token index p looked lower f g under h fresh → looked.count ≡ p.count → IsParsing t store tokens ps looked w rest

-- a shift
abbrev pub ShiftsParsingLaw : Type 0
ShiftsParsingLaw = (t : Tables) (store : Store) (tokens : List TextToken) (ps : List Piece) (p after : Piece) (w rest : List TextToken) (token : TextToken) (h new : Held) → IsParsing t store tokens ps p w (token ∷ rest) → ShiftsIt t token p after h new → after.count ≡ p.count + 1 → IsParsing t store tokens ps after (w ++ token ∷ []) rest

-- reductions
abbrev pub TakesSomeParsingLaw : Type 0
TakesSomeParsingLaw = (t : Tables) (store new : Store) (tokens : List TextToken) (ps : List Piece) (p after : Piece) (w rest : List TextToken) (r n : ℕ) (right : List Sym) (m : Ref) (low taken : List Held) (top fresh held : Held) → IsParsing t store tokens ps p w rest → PutsNode t store new r n right m held → TakesSome t new p after r n right m low taken top fresh held → fresh.kid ≡ top.kid → after.count ≡ p.count → IsParsing t new tokens ps after w rest

abbrev pub TakesAllParsingLaw : Type 0
TakesAllParsingLaw = (t : Tables) (store new : Store) (tokens : List TextToken) (ps : List Piece) (p after : Piece) (w rest : List TextToken) (f : Floor) (r n : ℕ) (right : List Sym) (m : Ref) (held : Held) → IsParsing t store tokens ps p w rest → PutsNode t store new r n right m held → TakesAll t new p after f r n right m held → after.count ≡ p.count → IsParsing t new tokens ps after w rest

abbrev pub OpensFloorParsingLaw : Type 0
OpensFloorParsingLaw = (t : Tables) (store new : Store) (tokens : List TextToken) (ps : List Piece) (p after : Piece) (w rest : List TextToken) (f g : Floor) (r n hidden : ℕ) (right : List Sym) (m : Ref) (held : Held) → IsParsing t store tokens ps p w rest → PutsNode t store new r n right m held → OpensFloor t new p after f g r n hidden right m held → after.count ≡ p.count → IsParsing t new tokens ps after w rest

-- what a closed piece is: the leaf with its maps restricted to the starts that are alive
pub record IsClosedAs (p closed : Piece) (f : Floor) : Type 0 where
  pub first : closed.first ≡ p.first
  pub count : closed.count ≡ p.count
  pub floors : closed.floors ≡ p.floors
  pub maps : AreFresh f.starts p.stack closed.stack

-- each leaf can be closed
abbrev pub ClosedLaw : Type 0
ClosedLaw = (t : Tables) (store : Store) (p : Piece) (w next : List TextToken) (lower : List Floor) (f : Floor) (under : List Held) (h : Held) (stale : ℕ) → IsLeaf t store p w next lower f under h stale → (closed : Piece) × IsClosedAs p closed f

-- it is closed where it is stuck under the next token, which opens another piece; its tokens are the first part of those
-- that were left
abbrev pub ClosesParsingLaw : Type 0
ClosesParsingLaw = (t : Tables) (store : Store) (tokens : List TextToken) (ps : List Piece) (p closed opened : Piece) (w rest : List TextToken) (lower : List Floor) (f g : Floor) (under : List Held) (h held : Held) (stale : ℕ) → IsParsing t store tokens ps p w (opened.first ∷ rest) → IsLeaf t store p w (opened.first ∷ []) lower f under h stale → NoneLeft t opened.first.id h.states ⊎ AreSeveral t opened.first.id h.states → FirstPart t p.first.id (w ++ opened.first ∷ rest) (length w) → IsClosedAs p closed f → Opens t opened g held → opened.count ≡ 1
    → IsParsing t store tokens (ps ++ closed ∷ []) opened (opened.first ∷ []) rest

-- or where no token is left: then the pieces are those of the segment, and each has the tokens of its part of it
abbrev pub EndsParsingLaw : Type 0
EndsParsingLaw = (t : Tables) (store : Store) (tokens : List TextToken) (ps : List Piece) (p closed : Piece) (w : List TextToken) (lower : List Floor) (f : Floor) (under : List Held) (h : Held) (stale : ℕ) → IsParsing t store tokens ps p w [] → IsLeaf t store p w [] lower f under h stale → FirstPart t p.first.id w (length w) → IsClosedAs p closed f
    → ArePiecesOf t store (ps ++ closed ∷ []) tokens × AreByParts t store (ps ++ closed ∷ []) tokens
