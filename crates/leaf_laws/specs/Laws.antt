-- A leaf stays one with each step.
use Rattle.std.specs.Prelude.{◌≡◌, ◌≢◌, ℕ, ◌≤◌, List, [], ◌∷◌, ◌++◌, length, Some, IsSome}
use Rattle.grammar_data.specs.declared.rule.Sym.{Sym}
use Rattle.grammar_data.specs.declared.token.Token.{Token as TextToken}
use Rattle.tree_theory.specs.Stores.{Ref, Store}
use Rattle.table_data.specs.declared.act.Act.TheVariants.{Error}
use Rattle.table_data.specs.Tables.{Tables, act_in}
use Rattle.lawful_theory.specs.Lawful.{IsLawful}
use Rattle.map_theory.specs.Maps.{target}
use Rattle.map_theory.specs.Agreements.{AllShift, AllReduce}
use Rattle.piece_theory.specs.Pieces.{Floor, Held, Piece}
use Rattle.context_laws.specs.Contexts.{LeadFromStates}
use Rattle.level_laws.specs.Growing.{IsFresh}
use Rattle.leaf_laws.specs.Leaves.{IsLeaf, HasStart, NoneErrs}
use Rattle.leaf_laws.specs.Steps.{Opens, LooksAt, ShiftsIt, PutsNode, TakesSome, TakesAll, OpensFloor}

-- each alive start has a target in the map of the last entry
abbrev pub WideLaw : Type 0
WideLaw = (t : Tables) → IsLawful t → LeadFromStates t → (store : Store) (p : Piece) (w next : List TextToken) (lower : List Floor) (f : Floor) (under : List Held) (h : Held) (stale : ℕ) → IsLeaf t store p w next lower f under h stale → (q : ℕ) → IsSome (target f.starts q) → IsSome (target h.states q)

-- opened with a token
abbrev pub OpensLaw : Type 0
OpensLaw = (t : Tables) (store : Store) (p : Piece) (f : Floor) (h : Held) → Opens t p f h → IsLeaf t store p (p.first ∷ []) [] [] f [] h 0 × HasStart t p (p.first ∷ []) f

-- the next token is there to be looked at
abbrev pub NextTokenLaw : Type 0
NextTokenLaw = (t : Tables) (store : Store) (p : Piece) (w : List TextToken) (token : TextToken) (lower : List Floor) (f : Floor) (under : List Held) (h : Held) (stale : ℕ) → IsLeaf t store p w [] lower f under h stale → IsLeaf t store p w (token ∷ []) lower f under h stale

-- after a look no target errs, and where some target didn't, its start is alive
abbrev pub LooksLaw : Type 0
LooksLaw = (t : Tables) (store : Store) (p looked : Piece) (w : List TextToken) (token : TextToken) (lower : List Floor) (f g : Floor) (under : List Held) (h fresh : Held) (stale : ℕ) → IsLeaf t store p w (token ∷ []) lower f under h stale → LooksAt t token (length w) p looked lower f g under h fresh
    → IsLeaf t store looked w (token ∷ []) lower g under fresh (length under) × NoneErrs t token.id fresh.states × ((q z : ℕ) → target h.states q ≡ Some z → act_in t z token.id ≢ Error → (IsSome (target g.starts q)) × (target fresh.states q ≡ Some z))

-- where all shift the token it is shifted
abbrev pub ShiftsLaw : Type 0
ShiftsLaw = (t : Tables) (store : Store) (p after : Piece) (w : List TextToken) (token : TextToken) (lower : List Floor) (f : Floor) (under : List Held) (h new : Held) (stale : ℕ) → IsLeaf t store p w (token ∷ []) lower f under h stale → NoneErrs t token.id h.states → AllShift t token.id h.states → ShiftsIt t token p after h new
    → IsLeaf t store after (w ++ token ∷ []) [] lower f (under ++ h ∷ []) new stale × HasStart t after (w ++ token ∷ []) f

-- where all reduce by a rule that is no longer than the entries but one, it takes them, and the one left on top loses the
-- starts that have erred
abbrev pub TakesSomeLaw : Type 0
TakesSomeLaw = (t : Tables) → IsLawful t → (store new : Store) (p after : Piece) (w : List TextToken) (token : TextToken) (lower : List Floor) (f : Floor) (under : List Held) (h : Held) (stale r n : ℕ) (right : List Sym) (m : Ref) (low taken : List Held) (top fresh held : Held) → IsLeaf t store p w (token ∷ []) lower f under h stale → NoneErrs t token.id h.states → AllReduce t token.id r h.states → PutsNode t store new r n right m held → TakesSome t new p after r n right m low taken top fresh held → IsFresh f.starts top fresh
    → IsLeaf t new after w (token ∷ []) lower f (low ++ fresh ∷ []) held (length low) × HasStart t after w f

-- where that one has alive starts alone, it stays as it is
abbrev pub TakesFreshLaw : Type 0
TakesFreshLaw = (t : Tables) → IsLawful t → (store new : Store) (p after : Piece) (w : List TextToken) (token : TextToken) (lower : List Floor) (f : Floor) (under : List Held) (h : Held) (stale r n : ℕ) (right : List Sym) (m : Ref) (low taken : List Held) (top held : Held) → IsLeaf t store p w (token ∷ []) lower f under h stale → NoneErrs t token.id h.states → AllReduce t token.id r h.states → PutsNode t store new r n right m held → TakesSome t new p after r n right m low taken top top held → stale ≤ length low
    → IsLeaf t new after w (token ∷ []) lower f (low ++ top ∷ []) held stale × HasStart t after w f

-- where all reduce by a rule as long as the entries, it takes all
abbrev pub TakesAllLaw : Type 0
TakesAllLaw = (t : Tables) → IsLawful t → (store new : Store) (p after : Piece) (w : List TextToken) (token : TextToken) (lower : List Floor) (f : Floor) (under : List Held) (h : Held) (stale r n : ℕ) (right : List Sym) (m : Ref) (held : Held) → IsLeaf t store p w (token ∷ []) lower f under h stale → NoneErrs t token.id h.states → AllReduce t token.id r h.states → PutsNode t store new r n right m held → TakesAll t new p after f r n right m held
    → IsLeaf t new after w (token ∷ []) lower f [] held 0 × HasStart t after w f

-- where all reduce by a longer rule, a floor is opened
abbrev pub OpensFloorLaw : Type 0
OpensFloorLaw = (t : Tables) → IsLawful t → LeadFromStates t → (store new : Store) (p after : Piece) (w : List TextToken) (token : TextToken) (lower : List Floor) (f g : Floor) (under : List Held) (h : Held) (stale r n hidden : ℕ) (right : List Sym) (m : Ref) (held : Held) → IsLeaf t store p w (token ∷ []) lower f under h stale → NoneErrs t token.id h.states → AllReduce t token.id r h.states → PutsNode t store new r n right m held → OpensFloor t new p after f g r n hidden right m held
    → IsLeaf t new after w (token ∷ []) p.floors g [] held 0 × HasStart t after w g
