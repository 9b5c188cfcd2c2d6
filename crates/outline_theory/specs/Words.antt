-- The words and places of an outline, by what they are there.
use Rattle.std.specs.Prelude.{ℕ, List, [], ◌∷◌, ◌++◌, map, unwrap_or}
use Rattle.std.specs.List.{flat_map}
use Rattle.outline_data.specs.declared.outline.Word.{Word}
use Rattle.outline_data.specs.declared.outline.PlaceUse.{PlaceUse}
use Rattle.outline_data.specs.declared.outline.Declaration.{Declaration}
use Rattle.outline_data.specs.declared.outline.Declaration.TheVariants.{Literal, Matched, Skip, Start}
use Rattle.outline_data.specs.declared.rules.Symbol.{Symbol}
use Rattle.outline_data.specs.declared.rules.Symbol.TheVariants.{Name, Quoted}
use Rattle.outline_data.specs.declared.rules.TemplatePart.{TemplatePart}
use Rattle.outline_data.specs.declared.rules.TemplatePart.TheVariants.{Text, Fold, Number}
use Rattle.outline_data.specs.AlternativeParts.{AlternativeParts}
use Rattle.outline_data.specs.GroupParts.{GroupParts}
use Rattle.outline_data.specs.Parts.{OutlineParts}

abbrev pub texts : List Word → List (List ℕ)
texts words = map (λ (w : Word). w.bytes) words

-- the names of the declared tokens, in order
abbrev pub token_in : Declaration → List Word
token_in (Literal name literal) = name ∷ []
token_in (Matched name pattern) = name ∷ []
token_in (Skip pattern) = []
token_in (Start line name) = []

abbrev pub token_words : OutlineParts → List Word
token_words o = flat_map token_in o.declarations

-- the literals that a declaration names
abbrev pub literal_in : Declaration → List Word
literal_in (Literal name literal) = literal ∷ []
literal_in (Matched name pattern) = []
literal_in (Skip pattern) = []
literal_in (Start line name) = []

abbrev pub literal_words : OutlineParts → List Word
literal_words o = flat_map literal_in o.declarations

-- the spellings of patterns, of tokens and of skips
abbrev pub pattern_in : Declaration → List Word
pattern_in (Literal name literal) = []
pattern_in (Matched name pattern) = pattern ∷ []
pattern_in (Skip pattern) = pattern ∷ []
pattern_in (Start line name) = []

abbrev pub pattern_words : OutlineParts → List Word
pattern_words o = flat_map pattern_in o.declarations

-- a directive `%start`: its line, and the name behind it
pub record StartUse : Type 0 where
  pub line : ℕ
  pub name : Word

abbrev pub start_in : Declaration → List StartUse
start_in (Literal name literal) = []
start_in (Matched name pattern) = []
start_in (Skip pattern) = []
start_in (Start line name) = record { line = line; name = name } ∷ []

abbrev pub starts : OutlineParts → List StartUse
starts o = flat_map start_in o.declarations

-- the left sides, in order
abbrev pub left_words : OutlineParts → List Word
left_words o = map (λ (g : GroupParts). g.left) o.groups

-- the alternatives of all left sides: one for each rule, by the rules' numbers
abbrev pub alternatives_of : OutlineParts → List AlternativeParts
alternatives_of o = flat_map (λ (g : GroupParts). g.alternatives) o.groups

-- the names in right sides
abbrev pub name_in : Symbol → List Word
name_in (Name word) = word ∷ []
name_in (Quoted word) = []

abbrev pub side_names : OutlineParts → List Word
side_names o = flat_map (λ (a : AlternativeParts). flat_map name_in a.right) (alternatives_of o)

-- the literals in right sides
abbrev pub quoted_in : Symbol → List Word
quoted_in (Name word) = []
quoted_in (Quoted word) = word ∷ []

abbrev pub side_literals : OutlineParts → List Word
side_literals o = flat_map (λ (a : AlternativeParts). flat_map quoted_in a.right) (alternatives_of o)

-- all literals
abbrev pub all_literals : OutlineParts → List Word
all_literals o = literal_words o ++ side_literals o

-- the parts of a template, where there is one
abbrev pub parts_of : AlternativeParts → List TemplatePart
parts_of a = unwrap_or a.template []

-- the places that a template uses
abbrev pub use_in : TemplatePart → List PlaceUse
use_in (Text bytes) = []
use_in (Fold used) = used ∷ []
use_in (Number used) = used ∷ []

abbrev pub template_uses : AlternativeParts → List PlaceUse
template_uses a = flat_map use_in (parts_of a)

-- those of which the number is asked
abbrev pub number_in : TemplatePart → List PlaceUse
number_in (Text bytes) = []
number_in (Fold used) = []
number_in (Number used) = used ∷ []

-- the places that have to be a token's: those of which the number is asked, and those that are declared
abbrev pub token_uses : AlternativeParts → List PlaceUse
token_uses a = flat_map number_in (parts_of a) ++ a.marks

-- all places
abbrev pub all_uses : AlternativeParts → List PlaceUse
all_uses a = template_uses a ++ a.marks

abbrev pub places : List PlaceUse → List ℕ
places uses = map (λ (u : PlaceUse). u.place) uses
