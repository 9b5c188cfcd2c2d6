-- The steps by which a piece is made, one law for each, on one context: what the machine did by the moves so far stays true
-- of the piece after the step, with the step's move. A piece is opened with a token; the next token is looked at, and the
-- starts that err under it get their faults; it is shifted; a reduction takes entries of the piece; or it takes all of them
-- and more, and opens a floor.
use Rattle.std.specs.Prelude.{◌≡◌, ℕ, ◌+◌, List, [], ◌∷◌, ◌++◌, length, take, replicate, Some, None}
use Rattle.grammar_data.specs.declared.rule.Sym.{Sym}
use Rattle.grammar_data.specs.declared.token.Token.{Token as TextToken}
use Rattle.grammar_theory.specs.Rules.{IsRule}
use Rattle.node_data.specs.declared.kid.Kid.TheVariants.{Token as TokenKid, Node as NodeKid, Hidden}
use Rattle.tree_theory.specs.Stores.{Ref, Store}
use Rattle.table_data.specs.declared.act.Act.TheVariants.{Shift, Reduce}
use Rattle.table_data.specs.Tables.{Tables, act_in, goto_in}
use Rattle.machine_theory.specs.Machine.{Entry, IsStack}
use Rattle.lawful_theory.specs.Lawful.{IsLawful}
use Rattle.map_theory.specs.Maps.{target, walk_by}
use Rattle.part_theory.specs.Moves.{Move, ShiftMove, ReduceMove}
use Rattle.part_theory.specs.Parts.{IsContext}
use Rattle.piece_theory.specs.Pieces.{Floor, Held, Piece, fault_at, kids_of}
use Rattle.piece_theory.specs.Applies.{Fitted}
use Rattle.piece_theory.specs.Laws.{HasMore}
use Rattle.arm_laws.specs.Did.{Did, over, AreSameAt, AreSameOn, Looks}

-- a piece is opened with a token: one floor, without faults, and the token as its entry, over which each state that shifts it
-- has the state that it shifts to
abbrev pub OpenedLaw : Type 0
OpenedLaw = (t : Tables) (store : Store) (p : Piece) (f : Floor) (held : Held)
    → p.floors ≡ f ∷ [] → f.opened ≡ None → f.faults ≡ []
    → p.stack ≡ held ∷ [] → held.kid ≡ TokenKid p.first → ((q z : ℕ) → act_in t q p.first.id ≡ Shift z → target held.states q ≡ Some z)
    → (s : List Entry) → IsContext t p.first.id s → Did t store p (p.first ∷ []) [] (ShiftMove ∷ []) s × Fitted t.rules p.floors s

-- one more token of the input is there to be looked at
abbrev pub NextLaw : Type 0
NextLaw = (t : Tables) (store : Store) (p : Piece) (input : List TextToken) (moves : List Move) (token : TextToken) (s : List Entry) → Did t store p input [] moves s → Did t store p (input ++ token ∷ []) (token ∷ []) moves s

-- a look gives starts of the last floor their faults, and nothing else changes for those that live
abbrev pub LookLaw : Type 0
LookLaw = (t : Tables) (store : Store) (p looked : Piece) (lower : List Floor) (f g : Floor) (w : List TextToken) (token : TextToken) (moves : List Move)
    → p.floors ≡ lower ++ f ∷ [] → looked.floors ≡ lower ++ g ∷ [] → Looks t token (length w) (over p.stack) f g → AreSameOn g p.stack looked.stack
    → (s : List Entry) → Did t store p (w ++ token ∷ []) (token ∷ []) moves s → Fitted t.rules p.floors s → Did t store looked (w ++ token ∷ []) (token ∷ []) moves s × Fitted t.rules looked.floors s

-- the token is shifted, where each start without a fault shifts it
abbrev pub ShiftLaw : Type 0
ShiftLaw = (t : Tables) (store : Store) (p shifted : Piece) (lower : List Floor) (f : Floor) (kept : List Held) (held : Held) (input : List TextToken) (token : TextToken) (moves : List Move)
    → p.floors ≡ lower ++ f ∷ [] → shifted.floors ≡ p.floors → shifted.stack ≡ kept ++ held ∷ [] → AreSameOn f p.stack kept → held.kid ≡ TokenKid token
    → ((q z : ℕ) → fault_at f.faults q ≡ None → over p.stack q ≡ Some z → (y : ℕ) × (act_in t z token.id ≡ Shift y) × (target held.states q ≡ Some y))
    → (s : List Entry) → Did t store p input (token ∷ []) moves s → Did t store shifted input [] (moves ++ ShiftMove ∷ []) s

-- a reduction takes entries of the piece, maybe all or none, where each start without a fault reduces by the rule; the node
-- is new, and its states are gone to from the state below the entries taken. What the entries that are kept have for starts
-- over which the piece has no state doesn't matter
abbrev pub ReduceLaw : Type 0
ReduceLaw = (t : Tables) → IsLawful t → (store new : Store) → HasMore store new
    → (p reduced : Piece) (lower : List Floor) (f : Floor) (keep taken kept : List Held) (held : Held) (m : Ref) (r n : ℕ) (right : List Sym) (input : List TextToken) (token : TextToken) (moves : List Move)
    → p.floors ≡ lower ++ f ∷ [] → reduced.floors ≡ p.floors → p.stack ≡ keep ++ taken → reduced.stack ≡ kept ++ held ∷ [] → ((q z : ℕ) → fault_at f.faults q ≡ None → over p.stack q ≡ Some z → AreSameAt q keep kept)
    → IsRule t.rules r n right → length taken ≡ length right → held.kid ≡ NodeKid m → new m ≡ Some (r, kids_of taken)
    → ((q z : ℕ) → fault_at f.faults q ≡ None → over p.stack q ≡ Some z → act_in t z token.id ≡ Reduce r)
    → ((q x z y : ℕ) → fault_at f.faults q ≡ None → over p.stack q ≡ Some x → over keep q ≡ Some z → goto_in t z n ≡ Some y → target held.states q ≡ Some y)
    → (s : List Entry) → IsStack t 0 s → Did t store p input (token ∷ []) moves s → Did t new reduced input (token ∷ []) (moves ++ ReduceMove r ∷ []) s

-- a reduction takes all entries of the piece and more: a floor is opened that hides the first symbols of the rule, as many as
-- there are missing; the states over the node are gone to from the states that lead to a start below along these symbols
abbrev pub FloorOpenedLaw : Type 0
FloorOpenedLaw = (t : Tables) → IsLawful t → (store new : Store) → HasMore store new
    → (p opened : Piece) (lower : List Floor) (f g : Floor) (held : Held) (m : Ref) (r n hidden : ℕ) (right : List Sym) (input : List TextToken) (token : TextToken) (moves : List Move)
    → p.floors ≡ lower ++ f ∷ [] → opened.floors ≡ p.floors ++ g ∷ [] → g.opened ≡ Some (record { rule = r; hidden = hidden; node = m }) → g.faults ≡ [] → opened.stack ≡ held ∷ []
    → IsRule t.rules r n right → hidden + length p.stack ≡ length right → held.kid ≡ NodeKid m → new m ≡ Some (r, replicate hidden Hidden ++ kids_of p.stack)
    → ((q z : ℕ) → fault_at f.faults q ≡ None → over p.stack q ≡ Some z → act_in t z token.id ≡ Reduce r)
    → ((q b z y : ℕ) → walk_by t q (take hidden right) ≡ Some b → fault_at f.faults b ≡ None → over p.stack b ≡ Some z → goto_in t q n ≡ Some y → target held.states q ≡ Some y)
    → (s : List Entry) → IsStack t 0 s → Did t store p input (token ∷ []) moves s → Fitted t.rules p.floors s → Did t new opened input (token ∷ []) (moves ++ ReduceMove r ∷ []) s × Fitted t.rules opened.floors s
