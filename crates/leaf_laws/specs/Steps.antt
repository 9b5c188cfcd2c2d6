-- The steps by which a leaf is made: it is opened with a token; the next token is looked at, which gives starts their faults;
-- it is shifted; a reduction takes entries, some or all, or all and more, which opens a floor.
-- Source: as of pieces.
use Rattle.std.specs.Prelude.{◌≡◌, ℕ, ◌+◌, ◌<◌, List, [], ◌∷◌, ◌++◌, length, replicate, Some, None, option_and_then}
use Rattle.grammar_data.specs.declared.rule.Sym.{Sym}
use Rattle.grammar_data.specs.declared.rule.Sym.TheVariants.{Token, Name}
use Rattle.grammar_data.specs.declared.token.Token.{Token as TextToken}
use Rattle.grammar_theory.specs.Rules.{IsRule}
use Rattle.node_data.specs.declared.kid.Kid.TheVariants.{Token as TokenKid, Node as NodeKid, Hidden}
use Rattle.tree_theory.specs.Stores.{Ref, Store}
use Rattle.table_data.specs.Tables.{Tables, step_by}
use Rattle.map_theory.specs.Maps.{IsMapOf}
use Rattle.map_theory.specs.Relations.{AreShiftStarts, IsThenSymbol}
use Rattle.piece_theory.specs.Pieces.{Floor, Held, Piece, kids_of}
use Rattle.piece_theory.specs.WellMade.{shifting, start_of, leading}
use Rattle.level_laws.specs.Levels.{IsMoved, dying}
use Rattle.level_laws.specs.Growing.{IsFresh}

-- a piece of its first token alone
pub record Opens (t : Tables) (p : Piece) (f : Floor) (h : Held) : Type 0 where
  pub floors : p.floors ≡ f ∷ []
  pub stack : p.stack ≡ h ∷ []
  pub unopened : f.opened ≡ None
  pub no_faults : f.faults ≡ []
  pub starts : IsMapOf (shifting t p.first) f.starts
  pub kid : h.kid ≡ TokenKid p.first
  pub after : AreShiftStarts t p.first.id h.states

-- the token at this index is looked at: starts whose state errs get their faults, and the last entry loses them
pub record LooksAt (t : Tables) (token : TextToken) (index : ℕ) (p looked : Piece) (lower : List Floor) (f g : Floor) (under : List Held) (h fresh : Held) : Type 0 where
  pub first : looked.first ≡ p.first
  pub floors : looked.floors ≡ lower ++ g ∷ []
  pub stack : looked.stack ≡ under ++ fresh ∷ []
  pub moved : IsMoved (dying t token index h.states) f g
  pub is_fresh : IsFresh g.starts h fresh

-- the token is shifted: it is the new last entry
pub record ShiftsIt (t : Tables) (token : TextToken) (p after : Piece) (h new : Held) : Type 0 where
  pub first : after.first ≡ p.first
  pub floors : after.floors ≡ p.floors
  pub stack : after.stack ≡ p.stack ++ new ∷ []
  pub kid : new.kid ≡ TokenKid token
  pub map : IsThenSymbol t (Token token.id) h.states new.states

-- a new node of the rule stands in a store that has all the nodes that there were, and is the kid of the new last entry
pub record PutsNode (t : Tables) (store new : Store) (r n : ℕ) (right : List Sym) (m : Ref) (held : Held) : Type 0 where
  pub rule : IsRule t.rules r n right
  pub absent : store m ≡ None
  pub others : (other : Ref) → ¬ (other ≡ m) → new other ≡ store other
  pub kid : held.kid ≡ NodeKid m

-- a reduction takes entries; the entry that is left on top, `top`, may lose starts that have erred
pub record TakesSome (t : Tables) (new : Store) (p after : Piece) (r n : ℕ) (right : List Sym) (m : Ref) (low taken : List Held) (top fresh held : Held) : Type 0 where
  pub first : after.first ≡ p.first
  pub floors : after.floors ≡ p.floors
  pub parts : p.stack ≡ (low ++ top ∷ []) ++ taken
  pub stack : after.stack ≡ (low ++ fresh ∷ []) ++ held ∷ []
  pub count : length taken ≡ length right
  pub node : new m ≡ Some (r, kids_of taken)
  pub map : IsThenSymbol t (Name n) fresh.states held.states

-- a reduction takes all entries
pub record TakesAll (t : Tables) (new : Store) (p after : Piece) (f : Floor) (r n : ℕ) (right : List Sym) (m : Ref) (held : Held) : Type 0 where
  pub first : after.first ≡ p.first
  pub floors : after.floors ≡ p.floors
  pub stack : after.stack ≡ held ∷ []
  pub count : length p.stack ≡ length right
  pub node : new m ≡ Some (r, kids_of p.stack)
  pub map : IsMapOf (λ q. option_and_then (λ z. step_by t z (Name n)) (start_of f.starts q)) held.states

-- a reduction takes all entries and more, and opens a floor
pub record OpensFloor (t : Tables) (new : Store) (p after : Piece) (f g : Floor) (r n hidden : ℕ) (right : List Sym) (m : Ref) (held : Held) : Type 0 where
  pub first : after.first ≡ p.first
  pub floors : after.floors ≡ p.floors ++ g ∷ []
  pub opened : g.opened ≡ Some (record { rule = r; hidden = hidden; node = m })
  pub no_faults : g.faults ≡ []
  pub starts : IsMapOf (leading t (record { rule = r; hidden = hidden; node = m }) f.starts) g.starts
  pub stack : after.stack ≡ held ∷ []
  pub some : 0 < hidden
  pub count : hidden + length p.stack ≡ length right
  pub node : new m ≡ Some (r, replicate hidden Hidden ++ kids_of p.stack)
  pub map : IsMapOf (λ q. option_and_then (λ z. step_by t z (Name n)) (start_of g.starts q)) held.states
