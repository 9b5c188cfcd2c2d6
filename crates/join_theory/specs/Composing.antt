-- Two pieces compose. The left one comes first, and each of its alive starts has a state over its entries that shifts the
-- right one's first token. A piece is composed of both where for each context it has the left piece's faults, those of the
-- right piece for the stacks that the left one leaves, so many tokens later as the left piece has, and leaves what the right
-- one leaves of what the left one leaves. Then it stands for the tokens of both.
-- Source: as of pieces; the laws are this project's own.
use Rattle.std.specs.Prelude.{◌≡◌, ℕ, List, [], ◌∷◌, ◌++◌, length}
use Rattle.grammar_data.specs.declared.token.Token.{Token as TextToken}
use Rattle.grammar_data.specs.Grammar.{Rule, Grammar}
use Rattle.tree_theory.specs.Stores.{Store}
use Rattle.table_data.specs.declared.act.Act.TheVariants.{Shift}
use Rattle.table_data.specs.Tables.{Tables, act_in}
use Rattle.machine_theory.specs.Machine.{Entry, top, IsStack}
use Rattle.lawful_theory.specs.Lawful.{IsLawfulFor}
use Rattle.part_theory.specs.Parts.{IsContext}
use Rattle.piece_theory.specs.Pieces.{Fault, Piece}
use Rattle.piece_theory.specs.Applies.{Fails, Leaves, Tells, StandsFor}
use Rattle.join_theory.specs.Faults.{IsLaterBy}

-- for this context the piece is composed of both, which stand in the first store
pub record IsComposedAt (rules : List Rule) (store new : Store) (tokens : ℕ) (left right p : Piece) (s : List Entry) : Type 0 where
  pub left_errs : (x : Fault) → Fails left.floors s x → Fails p.floors s x
  pub right_errs : (mid : List Entry) → Leaves rules store left s mid → (x : Fault) → Fails right.floors mid x → (y : Fault) × Fails p.floors s y × IsLaterBy tokens x y
  pub leaves : (mid last : List Entry) → Leaves rules store left s mid → Leaves rules store right mid last → Leaves rules new p s last

-- what the left piece leaves shifts the token
abbrev pub ShiftsOn : Tables → Store → Piece → List Entry → TextToken → Type 0
ShiftsOn t store left s token = (mid : List Entry) → Leaves t.rules store left s mid → (q : ℕ) × (act_in t (top 0 mid) token.id ≡ Shift q)

-- on a stack where the left piece tells what its tokens do, followed by the right piece's first, the composed piece tells
-- what the tokens of both do
abbrev pub TellsComposedLaw : Type 0
TellsComposedLaw = (g : Grammar) (t : Tables) → IsLawfulFor g t → (store new : Store) (left right p : Piece) (u v later next : List TextToken) (s : List Entry)
    → v ≡ right.first ∷ later → IsStack t 0 s → IsComposedAt t.rules store new (length u) left right p s → ShiftsOn t store left s right.first
    → Tells t store left u (right.first ∷ []) s → StandsFor t store right v next → Tells t new p (u ++ v) next s

-- so a piece that is composed of both in each context stands for the tokens of both
abbrev pub StandsComposedLaw : Type 0
StandsComposedLaw = (g : Grammar) (t : Tables) → IsLawfulFor g t → (store new : Store) (left right p : Piece) (u v later next : List TextToken)
    → v ≡ right.first ∷ later → p.first ≡ left.first → ((s : List Entry) → IsContext t left.first.id s → IsComposedAt t.rules store new (length u) left right p s) → ((s : List Entry) → IsContext t left.first.id s → ShiftsOn t store left s right.first)
    → StandsFor t store left u (right.first ∷ []) → StandsFor t store right v next → StandsFor t new p (u ++ v) next
