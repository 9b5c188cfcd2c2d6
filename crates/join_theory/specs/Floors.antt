-- The floors of the right piece, one after the other. What a floor hides stands on the left piece's entries and below them.
-- Where there are as many entries, they leave the stack and become the hidden kids of the floor's node, and the floor is
-- gone. Where there are fewer, all of them become its last hidden kids, and the rest of the floor, with the first symbols,
-- stands on the left piece's floors. In both cases the floor's faults are carried back.
use Rattle.std.specs.Prelude.{◌≡◌, ◌≢◌, ℕ, ◌+◌, ◌<◌, ◌≤◌, ◌⊎◌, List, [], ◌∷◌, ◌++◌, length, Contains, Option, Some, None, IsSome, option_and_then}
use Rattle.grammar_data.specs.declared.token.Token.{Token as TextToken}
use Rattle.grammar_data.specs.Grammar.{Rule}
use Rattle.grammar_theory.specs.Trees.{Tree}
use Rattle.node_data.specs.declared.kid.Kid.{Kid}
use Rattle.node_data.specs.declared.kid.Kid.TheVariants.{Hidden}
use Rattle.tree_theory.specs.Stores.{Ref, Store, Supply, Shows}
use Rattle.table_data.specs.Tables.{Tables}
use Rattle.machine_theory.specs.Machine.{Entry, top, IsStack}
use Rattle.map_theory.specs.Maps.{StateMap, target, IsRising}
use Rattle.part_theory.specs.Parts.{IsContext}
use Rattle.use_theory.specs.Counts.{count_in}
use Rattle.use_theory.specs.Fills.{SuppliesPart}
use Rattle.use_theory.specs.Kept.{IsKept}
use Rattle.piece_theory.specs.Pieces.{Fault, Opened, Floor, Held, Piece, hidden_of, floor_nodes, kids_of}
use Rattle.piece_theory.specs.Applies.{Falls, Fails, Puts, Leaves, Tells, Fitted}
use Rattle.piece_theory.specs.WellMade.{leading, start_of, IsLevel, AreFloors}
use Rattle.level_laws.specs.Levels.{IsMoved}
use Rattle.join_theory.specs.Faults.{IsLaterBy, state_over, carried, HasApart}
use Rattle.join_theory.specs.Composing.{IsComposedAt}

-- whatever is supplied to the floors still to come: what a kid of the right piece showed in the first store it shows now
abbrev pub Holds : List Floor → Store → Supply → Store → Supply → Type 0
Holds further store supply now given = (more : Supply) → ((x : Ref) (trees : List Tree) → Contains {X = Ref × List Tree} more (x, trees) → 0 < count_in x (floor_nodes further))
    → (n : Ref) (i : ℕ) (kid : Kid) (tree : Tree) → kid ≢ Hidden → Shows store (supply ++ more) n i kid tree → Shows now (given ++ more) n i kid tree

-- the right piece's floors so far came down to the stack `low` with this supply; the joined piece's floors come down to an
-- alive start, and its entries put on it give exactly `low`
pub record Comes (rules : List Rule) (store now : Store) (p : Piece) (starts : StateMap) (further : List Floor) (s low : List Entry) (supply : Supply) : Type 0 where
  pub base : List Entry
  pub given : Supply
  pub down : Falls p.floors s base given
  pub alive : IsSome (target starts (top 0 base))
  pub up : Puts rules now given (top 0 base) p.stack base low
  pub apart : (x : Ref) (trees : List Tree) → Contains {X = Ref × List Tree} given (x, trees) → 0 < count_in x (floor_nodes further) → ⊥
  pub holds : Holds further store supply now given

-- some floors of the right piece have been put on the left one, which gives the piece `p`, the last of whose floors has
-- these starts; others are still to come. This holds in a context of the left piece
pub record IsPutOn (rules : List Rule) (store now : Store) (tokens : ℕ) (left p : Piece) (starts : StateMap) (taken further : List Floor) (s : List Entry) : Type 0 where
  pub left_errs : (x : Fault) → Fails left.floors s x → Fails p.floors s x
  pub right_errs : (mid : List Entry) → Leaves rules store left s mid → (x : Fault) → Fails taken mid x → (y : Fault) × Fails p.floors s y × IsLaterBy tokens x y
  pub comes : (mid low : List Entry) (supply : Supply) → Leaves rules store left s mid → Falls taken mid low supply → Comes rules store now p starts further s low supply
  pub came : ((x : Fault) × Fails p.floors s x) ⊎ ((mid : List Entry) × (low : List Entry) × (supply : Supply) × Leaves rules store left s mid × Falls taken mid low supply)
  pub fits : Fitted rules p.floors s

-- what the right piece's floors take fits them
abbrev pub FitsOn : List Rule → Store → Piece → List Floor → List Entry → Type 0
FitsOn rules store left floors s = (mid : List Entry) → Leaves rules store left s mid → Fitted rules floors mid

-- each node is that of one floor of both at most
abbrev pub ApartNodes : List Floor → List Floor → Type 0
ApartNodes floors others = (x : Ref) → count_in x (floor_nodes floors) + count_in x (floor_nodes others) ≤ 1

-- entries with the same kids, and with the same states for the alive starts
pub data AreKeptFor (starts : StateMap) : List Held → List Held → Type 0 where
  none_kept : AreKeptFor starts [] []
  kept_next : {h k : Held} {hs ks : List Held} → k.kid ≡ h.kid → IsRising k.states → ((q : ℕ) → IsSome (target starts q) → target k.states q ≡ target h.states q) → AreKeptFor starts hs ks → AreKeptFor starts (h ∷ hs) (k ∷ ks)

-- what becomes of the store where a floor takes entries: its node gets their kids, if it has one
pub data TakesKids (store new : Store) : Option Opened → List Held → Type 0 where
  none_hidden : new ≡ store → TakesKids store new None []
  kids_taken : {opened : Opened} {hs : List Held} (part : SuppliesPart store new opened.node 0 (kids_of hs)) → (Contains {X = Kid} part.further Hidden → ⊥) → TakesKids store new (Some opened) hs

-- a floor that the entries supply whole: the last of them go into its node, if it has one, and the last floor's starts over
-- which it errs die
pub record TakesWhole (store new : Store) (tokens : ℕ) (p next : Piece) (e g f : Floor) : Type 0 where
  pub lower : List Floor
  pub keep : List Held
  pub dropped : List Held
  pub floors : p.floors ≡ lower ++ e ∷ []
  pub floors_next : next.floors ≡ lower ++ g ∷ []
  pub stack : p.stack ≡ keep ++ dropped
  pub as_many : length dropped ≡ hidden_of f.opened
  pub apart : HasApart e
  pub faults : IsMoved (carried tokens (state_over e.starts keep) f) e g
  pub kept : AreKeptFor g.starts keep next.stack
  pub kids : TakesKids store new f.opened dropped

-- a floor that the entries supply in part: all of them go into its node, and the rest of the floor, with so many symbols
-- hidden, is put on the floors, with the starts that lead to an alive one, without those that err
pub record TakesPart (t : Tables) (store new : Store) (tokens : ℕ) (p next : Piece) (e g f : Floor) : Type 0 where
  pub lower : List Floor
  pub opened : Opened
  pub still : ℕ
  pub floors : p.floors ≡ lower ++ e ∷ []
  pub floors_next : next.floors ≡ p.floors ++ g ∷ []
  pub stack_next : next.stack ≡ []
  pub opens : f.opened ≡ Some opened
  pub fewer : still + length p.stack ≡ opened.hidden
  pub some_still : 0 < still
  pub fresh : Floor
  pub opens_fresh : fresh.opened ≡ Some (record { rule = opened.rule; hidden = still; node = opened.node })
  pub level : IsLevel (leading t (record { rule = opened.rule; hidden = still; node = opened.node }) e.starts) fresh
  pub no_fault : fresh.faults ≡ []
  pub faults : IsMoved (carried tokens (start_of fresh.starts) f) fresh g
  pub part : SuppliesPart store new opened.node still (kids_of p.stack)
  pub shown : Contains {X = Kid} part.further Hidden → ⊥

-- entries that are put behind others: the kids of the right piece, with its states over the states over the others
pub data AreOver (states : ℕ → Option ℕ) (starts : StateMap) : List Held → List Held → Type 0 where
  none_over : AreOver states starts [] []
  over_next : {h k : Held} {hs ks : List Held} → k.kid ≡ h.kid → IsRising k.states → ((q : ℕ) → IsSome (target starts q) → target k.states q ≡ option_and_then (target h.states) (states q)) → AreOver states starts hs ks → AreOver states starts (h ∷ hs) (k ∷ ks)

-- before any floor: the left piece itself
abbrev pub StartLaw : Type 0
StartLaw = (t : Tables) (store : Store) (left : Piece) (starts : StateMap) (further : List Floor) (u next : List TextToken) (s : List Entry) → AreFloors t left.first left.floors starts → IsContext t left.first.id s → Fitted t.rules left.floors s → Tells t store left u next s → ApartNodes left.floors further
    → IsPutOn t.rules store store (length u) left left starts [] further s

-- a floor that is supplied whole
abbrev pub WholeLaw : Type 0
WholeLaw = (rules : List Rule) (store now new : Store) (tokens : ℕ) (left p next : Piece) (e g f : Floor) (taken further : List Floor) (s : List Entry) → TakesWhole now new tokens p next e g f → ApartNodes (f ∷ []) further → FitsOn rules store left (taken ++ f ∷ further) s
    → IsPutOn rules store now tokens left p e.starts taken (f ∷ further) s → IsPutOn rules store new tokens left next g.starts (taken ++ f ∷ []) further s

-- a floor that is supplied in part
abbrev pub PartLaw : Type 0
PartLaw = (t : Tables) (store now new : Store) (tokens : ℕ) (left p next : Piece) (e g f : Floor) (taken further : List Floor) (s : List Entry) → TakesPart t now new tokens p next e g f → ApartNodes (f ∷ []) further → FitsOn t.rules store left (taken ++ f ∷ further) s → IsStack t 0 s
    → IsPutOn t.rules store now tokens left p e.starts taken (f ∷ further) s → IsPutOn t.rules store new tokens left next g.starts (taken ++ f ∷ []) further s

-- behind the last floor the right piece's entries are put on
abbrev pub EndLaw : Type 0
EndLaw = (rules : List Rule) (store now : Store) (tokens : ℕ) (left right p next : Piece) (starts : StateMap) (keep put : List Held) (s : List Entry) → next.floors ≡ p.floors → next.stack ≡ keep ++ put → AreKeptFor starts p.stack keep → AreOver (state_over starts p.stack) starts right.stack put → IsKept store now
    → IsPutOn rules store now tokens left p starts right.floors [] s → IsComposedAt rules store now tokens left right next s × Fitted rules next.floors s
