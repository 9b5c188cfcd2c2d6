-- An open piece stays one where it is looked at and reduced, as a leaf does; a leaf is one, and a piece that is well made and
-- stands for its tokens, followed by one more or by nothing, is one too. So pieces that meet are looked at and reduced as a
-- leaf is.
use Rattle.std.specs.Prelude.{◌≡◌, ◌≢◌, ℕ, ◌≤◌, List, [], ◌∷◌, ◌++◌, length, Some, IsSome}
use Rattle.grammar_data.specs.declared.rule.Sym.{Sym}
use Rattle.grammar_data.specs.declared.token.Token.{Token as TextToken}
use Rattle.tree_theory.specs.Stores.{Ref, Store}
use Rattle.tree_theory.specs.Walks.{Step}
use Rattle.table_data.specs.declared.act.Act.TheVariants.{Error}
use Rattle.table_data.specs.Tables.{Tables, act_in}
use Rattle.lawful_theory.specs.Lawful.{IsLawful}
use Rattle.map_theory.specs.Maps.{target}
use Rattle.map_theory.specs.Agreements.{AllReduce}
use Rattle.piece_theory.specs.Pieces.{Floor, Held, Piece}
use Rattle.piece_theory.specs.Applies.{StandsFor, TakesRight}
use Rattle.piece_theory.specs.WellMade.{IsMade}
use Rattle.context_laws.specs.Contexts.{LeadFromStates}
use Rattle.level_laws.specs.Growing.{IsFresh}
use Rattle.level_laws.specs.Laws.{AreFresh}
use Rattle.leaf_laws.specs.Leaves.{IsLeaf, IsOpenPiece, NoneErrs}
use Rattle.leaf_laws.specs.Closing.{StandsAlone}
use Rattle.leaf_laws.specs.Steps.{LooksAt, PutsNode, TakesSome, TakesAll, OpensFloor}

-- each alive start has a target in the map of the last entry
abbrev pub OpenWideLaw : Type 0
OpenWideLaw = (t : Tables) → IsLawful t → LeadFromStates t → (store : Store) (p : Piece) (w next : List TextToken) (lower : List Floor) (f : Floor) (under : List Held) (h : Held) (stale : ℕ) → IsOpenPiece t store p w next lower f under h stale → (q : ℕ) → IsSome (target f.starts q) → IsSome (target h.states q)

-- a leaf is an open piece
abbrev pub LeafOpenLaw : Type 0
LeafOpenLaw = (t : Tables) (store : Store) (p : Piece) (w next : List TextToken) (lower : List Floor) (f : Floor) (under : List Held) (h : Held) (stale : ℕ) → IsLeaf t store p w next lower f under h stale → IsOpenPiece t store p w next lower f under h stale

-- a well made piece that stands for its tokens is one
abbrev pub MadeOpenLaw : Type 0
MadeOpenLaw = (t : Tables) (store : Store) (p : Piece) (w next : List TextToken) (steps : List Step) (lower : List Floor) (f : Floor) (under : List Held) (h : Held) → IsMade t store p w steps → StandsFor t store p w next → TakesRight t p → p.floors ≡ lower ++ f ∷ [] → p.stack ≡ under ++ h ∷ [] → IsOpenPiece t store p w next lower f under h 0

-- it is looked at
abbrev pub OpenLooksLaw : Type 0
OpenLooksLaw = (t : Tables) (store : Store) (p looked : Piece) (w : List TextToken) (token : TextToken) (lower : List Floor) (f g : Floor) (under : List Held) (h fresh : Held) (stale : ℕ) → IsOpenPiece t store p w (token ∷ []) lower f under h stale → LooksAt t token (length w) p looked lower f g under h fresh
    → IsOpenPiece t store looked w (token ∷ []) lower g under fresh (length under) × NoneErrs t token.id fresh.states × ((q z : ℕ) → target h.states q ≡ Some z → act_in t z token.id ≢ Error → (IsSome (target g.starts q)) × (target fresh.states q ≡ Some z))

-- reductions of it
abbrev pub OpenTakesSomeLaw : Type 0
OpenTakesSomeLaw = (t : Tables) → IsLawful t → (store new : Store) (p after : Piece) (w : List TextToken) (token : TextToken) (lower : List Floor) (f : Floor) (under : List Held) (h : Held) (stale r n : ℕ) (right : List Sym) (m : Ref) (low taken : List Held) (top fresh held : Held) → IsOpenPiece t store p w (token ∷ []) lower f under h stale → NoneErrs t token.id h.states → AllReduce t token.id r h.states → PutsNode t store new r n right m held → TakesSome t new p after r n right m low taken top fresh held → IsFresh f.starts top fresh
    → IsOpenPiece t new after w (token ∷ []) lower f (low ++ fresh ∷ []) held (length low)

abbrev pub OpenTakesFreshLaw : Type 0
OpenTakesFreshLaw = (t : Tables) → IsLawful t → (store new : Store) (p after : Piece) (w : List TextToken) (token : TextToken) (lower : List Floor) (f : Floor) (under : List Held) (h : Held) (stale r n : ℕ) (right : List Sym) (m : Ref) (low taken : List Held) (top held : Held) → IsOpenPiece t store p w (token ∷ []) lower f under h stale → NoneErrs t token.id h.states → AllReduce t token.id r h.states → PutsNode t store new r n right m held → TakesSome t new p after r n right m low taken top top held → stale ≤ length low
    → IsOpenPiece t new after w (token ∷ []) lower f (low ++ top ∷ []) held stale

abbrev pub OpenTakesAllLaw : Type 0
OpenTakesAllLaw = (t : Tables) → IsLawful t → (store new : Store) (p after : Piece) (w : List TextToken) (token : TextToken) (lower : List Floor) (f : Floor) (under : List Held) (h : Held) (stale r n : ℕ) (right : List Sym) (m : Ref) (held : Held) → IsOpenPiece t store p w (token ∷ []) lower f under h stale → NoneErrs t token.id h.states → AllReduce t token.id r h.states → PutsNode t store new r n right m held → TakesAll t new p after f r n right m held
    → IsOpenPiece t new after w (token ∷ []) lower f [] held 0

abbrev pub OpenFloorLaw : Type 0
OpenFloorLaw = (t : Tables) → IsLawful t → (store new : Store) (p after : Piece) (w : List TextToken) (token : TextToken) (lower : List Floor) (f g : Floor) (under : List Held) (h : Held) (stale r n hidden : ℕ) (right : List Sym) (m : Ref) (held : Held) → IsOpenPiece t store p w (token ∷ []) lower f under h stale → NoneErrs t token.id h.states → AllReduce t token.id r h.states → PutsNode t store new r n right m held → OpensFloor t new p after f g r n hidden right m held
    → IsOpenPiece t new after w (token ∷ []) p.floors g [] held 0

-- with its maps restricted to the alive starts it stands for its tokens
abbrev pub OpenStandsLaw : Type 0
OpenStandsLaw = (t : Tables) (store : Store) (p : Piece) (w next : List TextToken) (lower : List Floor) (f : Floor) (under : List Held) (h : Held) (stale : ℕ) (fresh : List Held) → IsOpenPiece t store p w next lower f under h stale → AreFresh f.starts p.stack fresh → StandsAlone t store (record p { stack = fresh }) w next f
