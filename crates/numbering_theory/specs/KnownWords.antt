-- Words of an outline that have numbers.
use Rattle.std.specs.Prelude.{◌≡◌, true, false, ℕ, List, ◌∷◌, length, drop, All}
use Rattle.outline_data.specs.declared.rules.Symbol.{Symbol}
use Rattle.outline_data.specs.declared.rules.Symbol.TheVariants.{Name, Quoted}
use Rattle.outline_data.specs.AlternativeParts.{AlternativeParts}
use Rattle.outline_data.specs.GroupParts.{GroupParts}
use Rattle.outline_theory.specs.Words.{StartUse}
use Rattle.outline_theory.specs.Numbering.{WordLists, is_one_of}

-- the literals without a name: those behind the ones of the declared tokens
abbrev pub unnamed_in : WordLists → List (List ℕ)
unnamed_in lists = drop (length lists.tokens) lists.literals

-- the name is that of a token, or one of the grammar
abbrev pub IsKnownName : WordLists → List ℕ → Type 0
IsKnownName lists word = is_one_of lists.tokens word ≡ false → is_one_of lists.names word ≡ true

abbrev pub IsKnown : WordLists → Symbol → Type 0
IsKnown lists (Name word) = IsKnownName lists word.bytes
IsKnown lists (Quoted word) = is_one_of lists.literals word.bytes ≡ true

abbrev pub AreKnown : WordLists → AlternativeParts → Type 0
AreKnown lists a = All (IsKnown lists) a.right

-- all words of the rules have numbers
pub record IsKnownGroup (lists : WordLists) (g : GroupParts) : Type 0 where
  pub left : is_one_of lists.names g.left.bytes ≡ true
  pub rights : All (AreKnown lists) g.alternatives

-- the name of the first of some starts
pub record IsFirstStart (uses : List StartUse) (name : List ℕ) : Type 0 where
  pub start : StartUse
  pub more : List StartUse
  pub are : uses ≡ start ∷ more
  pub named : name ≡ start.name.bytes
