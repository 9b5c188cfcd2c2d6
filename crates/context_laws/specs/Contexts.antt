-- The ends of contexts. The floors of a piece let some contexts through, and leave of each a stack on whose top is an alive
-- start of the last floor. Each alive start is the top of such a rest: on a valid stack with this top, entries with the
-- hidden symbols are pushed, floor after floor, which comes to a context at the first one.
-- Source: as of pieces; the laws are this project's own.
use Rattle.std.specs.Prelude.{◌≡◌, ℕ, ◌+◌, ◌*◌, ◌<◌, List, [], ◌∷◌, ◌++◌, length, Some, IsSome}
use Rattle.grammar_data.specs.declared.rule.Sym.{Sym}
use Rattle.grammar_data.specs.declared.token.Token.{Token as TextToken}
use Rattle.grammar_data.specs.Grammar.{Grammar}
use Rattle.tree_theory.specs.Stores.{Supply}
use Rattle.table_data.specs.Tables.{Tables, step_by}
use Rattle.machine_theory.specs.Machine.{Entry, top, symbols, IsStack}
use Rattle.lawful_theory.specs.Lawful.{IsLawfulFor}
use Rattle.map_theory.specs.Maps.{target, walk_by}
use Rattle.part_theory.specs.Parts.{IsContext}
use Rattle.piece_theory.specs.Pieces.{Floor}
use Rattle.piece_theory.specs.Applies.{Falls}
use Rattle.piece_theory.specs.WellMade.{AreStacked}

-- a number from which the tables lead on is that of a state
abbrev pub LeadFromStates : Tables → Type 0
LeadFromStates t = (q p : ℕ) (x : Sym) → step_by t q x ≡ Some p → q < t.states

-- so it is where there are as many actions and gotos as states have
abbrev pub SizeLaw : Type 0
SizeLaw = (t : Tables) → length t.acts ≡ t.states * (t.tokens + 1) → length t.gotos ≡ t.states * t.names → LeadFromStates t

-- entries with these symbols, pushed on the stack, make a valid stack with this state on top
pub record IsAlong (t : Tables) (s : List Entry) (xs : List Sym) (state : ℕ) : Type 0 where
  pub upper : List Entry
  pub stack : IsStack t 0 (upper ++ s)
  pub on_top : top 0 (upper ++ s) ≡ state
  pub same : symbols upper ≡ xs

-- where the tables lead along symbols from the top of a valid stack, entries with these symbols can be pushed
abbrev pub AlongLaw : Type 0
AlongLaw = (g : Grammar) (t : Tables) → IsLawfulFor g t → (s : List Entry) (xs : List Sym) (state : ℕ) → IsStack t 0 s → walk_by t (top 0 s) xs ≡ Some state → IsAlong t s xs state

-- the floors let a context of the token through, and leave this of it
pub record ComesDown (t : Tables) (first : TextToken) (floors : List Floor) (rest : List Entry) : Type 0 where
  pub from : List Entry
  pub is_context : IsContext t first.id from
  pub supply : Supply
  pub falls : Falls floors from rest supply

-- a valid stack with an alive start of the last floor on top is what floors leave of some context
abbrev pub DownLaw : Type 0
DownLaw = (g : Grammar) (t : Tables) → IsLawfulFor g t → (first : TextToken) (lower : List Floor) (f : Floor) (rest : List Entry) → AreStacked t first lower f → IsStack t 0 rest → IsSome (target f.starts (top 0 rest)) → ComesDown t first (lower ++ f ∷ []) rest

-- a stack that the floors leave of some context, with this state on top
pub record IsEnd (t : Tables) (first : TextToken) (floors : List Floor) (q : ℕ) : Type 0 where
  pub rest : List Entry
  pub stack : IsStack t 0 rest
  pub on_top : top 0 rest ≡ q
  pub comes : ComesDown t first floors rest

-- each alive start of the last floor is the end of some context
abbrev pub EndLaw : Type 0
EndLaw = (g : Grammar) (t : Tables) → IsLawfulFor g t → LeadFromStates t → (first : TextToken) (lower : List Floor) (f : Floor) (q : ℕ) → AreStacked t first lower f → IsSome (target f.starts q) → IsEnd t first (lower ++ f ∷ []) q
