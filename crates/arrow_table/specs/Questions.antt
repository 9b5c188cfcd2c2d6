-- What a table of maps is asked, which map answers it, and the answers that are kept.
use Rattle.std.specs.Prelude.{◌≡◌, ℕ, ◌<◌, ◌≤◌, ◌⊎◌, List, length, slice_index, slice_index_or, take, Option, Some, None}
use Rattle.grammar_data.specs.declared.rule.Sym.{Sym}
use Rattle.grammar_data.specs.declared.rule.Sym.TheVariants.{Token}
use Rattle.grammar_theory.specs.Rules.{IsRule}
use Rattle.table_data.specs.Tables.{Tables}
use Rattle.map_theory.specs.Maps.{StateMap}
use Rattle.map_theory.specs.Relations.{AreShiftStarts, IsBack, IsIdentityOf, IsRestricted, IsThenSymbol}
use Rattle.arrow_table.specs.declared.memo.Question.{Question}
use Rattle.arrow_table.specs.declared.memo.Question.TheVariants as question
use Rattle.arrow_table.specs.Looks.{map_at, HasMap}

-- the maps and the rule that the question names are there, and the rule's right side has so many symbols
abbrev pub IsAsked : Tables → List StateMap → Question → Type 0
IsAsked t maps (question.Open a) = Unit {0}
IsAsked t maps (question.Identity id) = id < length maps
IsAsked t maps (question.Restrict id keep) = (id < length maps) × (keep < length maps)
IsAsked t maps (question.Back id rule hidden) = (id < length maps) × (rule < length t.rules) × ((n : ℕ) (right : List Sym) → IsRule t.rules rule n right → hidden ≤ length right)
IsAsked t maps (question.Shift id a) = id < length maps

-- the numbers of the maps that the question names aren't below this one
abbrev pub IsAskedFrom : ℕ → Question → Type 0
IsAskedFrom base (question.Open a) = Unit {0}
IsAskedFrom base (question.Identity id) = base ≤ id
IsAskedFrom base (question.Restrict id keep) = (base ≤ id) × (base ≤ keep)
IsAskedFrom base (question.Back id rule hidden) = base ≤ id
IsAskedFrom base (question.Shift id a) = base ≤ id

-- a map answers the question
abbrev pub Answers : Tables → List StateMap → Question → StateMap → Type 0
Answers t maps (question.Open a) m = AreShiftStarts t a m
Answers t maps (question.Identity id) m = IsIdentityOf (map_at maps id) m
Answers t maps (question.Restrict id keep) m = IsRestricted (map_at maps id) (map_at maps keep) m
Answers t maps (question.Back id rule hidden) m = (n : ℕ) (right : List Sym) → IsRule t.rules rule n right → IsBack t (take hidden right) (map_at maps id) m
Answers t maps (question.Shift id a) m = IsThenSymbol t (Token a) (map_at maps id) m

-- a map with this number is there, and answers the question on maps that were there
abbrev pub IsAnswer : Tables → List StateMap → List StateMap → Question → ℕ → Type 0
IsAnswer t asked maps q to = HasMap maps to (Answers t asked q)

-- places, each with the question in it, if any, and the number of the map that answers it
abbrev pub Kept : Type 0
Kept = List (Option Question) × List ℕ

-- this answer is kept at some place
pub record HasAnswer (kept : Kept) (q : Question) (to : ℕ) : Type 0 where
  pub place : ℕ
  pub asked : slice_index_or kept.0 place None ≡ Some q
  pub answered : slice_index kept.1 place ≡ to

-- what is kept was kept before, or is this answer
abbrev pub Remembers : Kept → Kept → Question → ℕ → Type 0
Remembers old new q answer = (p : Question) (a : ℕ) → HasAnswer new p a → HasAnswer old p a ⊎ ((p ≡ q) × (a ≡ answer))

-- what is kept was asked, and is right, and its map's number isn't below the base
abbrev pub AreAnswers : Tables → List StateMap → ℕ → Kept → Type 0
AreAnswers t maps base kept = (q : Question) (a : ℕ) → HasAnswer kept q a → IsAsked t maps q × IsAnswer t maps maps q a × (base ≤ a)
